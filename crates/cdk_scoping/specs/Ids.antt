-- Ids of constructs, and the paths that they make (AWS CDK's construct paths; own bounds).
use Rattle.std.specs.Prelude.{ℕ, ◌&&◌, ◌==◌, List, [], ◌∷◌, ◌++◌, length, nat_le, not, Bool}
use Rattle.std.specs.List.{list_all}

-- printable ASCII, `/` left out
abbrev pub is_id_byte : ℕ → Bool
is_id_byte x = nat_le 32 x && nat_le x 126 && not (x == 47)

-- 1 to 400 characters, each printable ASCII and none `/`
abbrev pub is_id : List ℕ → Bool
is_id s = nat_le 1 (length s) && nat_le (length s) 400 && list_all is_id_byte s

-- the path of the id in a scope of the path: only ids that aren't empty are joined
abbrev pub path_in : List ℕ → List ℕ → List ℕ
path_in [] i = i
path_in (x ∷ p) [] = x ∷ p
path_in (x ∷ p) (y ∷ i) = (x ∷ p) ++ 47 ∷ y ∷ i
