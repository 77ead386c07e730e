-- JSON Pointer (RFC 6901): the text of a list of keys and indexes.
use Rattle.std.specs.Prelude.{ℕ, ◌==◌, List, [], ◌∷◌, ◌++◌, flat_map, if◌then◌else◌}

-- `~` is written `~0`, and `/` is written `~1`
abbrev pub escape_byte : ℕ → List ℕ
escape_byte x = if x == 126 then 126 ∷ 48 ∷ [] else (if x == 47 then 126 ∷ 49 ∷ [] else x ∷ [])

abbrev pub escape : List ℕ → List ℕ
escape s = flat_map escape_byte s

-- the pointer that goes to the key, or to the decimals of the index, and then on
abbrev pub step_to : List ℕ → List ℕ → List ℕ
step_to step rest = 47 ∷ (escape step ++ rest)

abbrev pub pointer_of : List (List ℕ) → List ℕ
pointer_of [] = []
pointer_of (step ∷ steps) = step_to step (pointer_of steps)
