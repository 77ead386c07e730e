-- Which names are to be one construct's alone, and where.
use Rattle.std.specs.Prelude.{ℕ, ◌==◌, ◌&&◌, List, Bool, false, Option, Some, None}
use Rattle.std.specs.Str.{bytes_eq}

-- A claim is a name and the number of the scope in which it is to be one construct's alone.
abbrev pub Claim : Type 0
Claim = ℕ × List ℕ

-- it is the claim of the name in the scope
abbrev pub is_claim : Option Claim → ℕ → List ℕ → Bool
is_claim None scope name = false
is_claim (Some c) scope name = c.0 == scope && bytes_eq c.1 name

abbrev pub is_same : Option Claim → Option Claim → Bool
is_same a None = false
is_same a (Some c) = is_claim a c.0 c.1
