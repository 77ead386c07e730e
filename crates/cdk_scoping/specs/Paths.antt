-- The number of a path in the order of an index.
use Rattle.std.specs.Prelude.{ℕ, List, map, position, Option, String, string_bytes}
use Rattle.std.specs.Str.{bytes_eq}
use Rattle.std.specs.declared.alloc.Global.{Global}

-- the place of the path among the keys
abbrev pub path_number : {V : Type 0} → List (String Global × V) → List ℕ → Option ℕ
path_number es t = position (λ k. bytes_eq t (string_bytes k)) (map (λ e. e.0) es)
