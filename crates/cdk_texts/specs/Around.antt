-- A text around the first place where another begins in it.
use Rattle.std.specs.Prelude.{ℕ, List, [], ◌∷◌, length, drop, nat_eq, if◌then◌else◌, Option, Some, None, option_map}
use Rattle.std.specs.List.{starts_with}

-- what stands before the first mark, and what stands after it
abbrev pub around : List ℕ → List ℕ → Option (List ℕ × List ℕ)
around mark [] = None
around mark (x ∷ xs) =
    if starts_with nat_eq (x ∷ xs) mark then Some ([], drop (length mark) (x ∷ xs))
    else option_map (λ p. (x ∷ p.0, p.1)) (around mark xs)
