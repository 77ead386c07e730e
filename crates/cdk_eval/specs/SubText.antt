-- The parts of the text of a `Fn::Sub`: what stands as it is, and what stands between `${` and `}` (CloudFormation: Fn::Sub).
use Rattle.std.specs.Prelude.{ℕ, ◌==◌, List, [], ◌∷◌, ◌++◌, Option, Some, None, if◌then◌else◌, nat_eq, codes}
use Rattle.std.specs.List.{starts_with}

pub data SubPart : Type 0 where
  literal : List ℕ → SubPart
  hole : List ℕ → SubPart

-- where the text goes on: outside of a hole, between its `$` and its `{`, or inside it
pub data SubPlace : Type 0 where
  outside : SubPlace
  opening : SubPlace
  inside : SubPlace

abbrev pub sub_before : SubPart → Option (List SubPart) → Option (List SubPart)
sub_before p None = None
sub_before p (Some ps) = Some (p ∷ ps)

-- the parts from a place on, the part so far being `part`; none where a `${` has no `}`
abbrev pub parts_from : SubPlace → List ℕ → List ℕ → Option (List SubPart)
parts_from outside part [] = Some (literal part ∷ [])
parts_from opening part [] = None
parts_from inside part [] = None
parts_from outside part (c ∷ s) =
    if starts_with nat_eq (c ∷ s) (codes "${") then sub_before (literal part) (parts_from opening [] s) else parts_from outside (part ++ c ∷ []) s
parts_from opening part (c ∷ s) = parts_from inside [] s
parts_from inside part (c ∷ s) = if c == 125 then sub_before (hole part) (parts_from outside [] s) else parts_from inside (part ++ c ∷ []) s

abbrev pub sub_parts : List ℕ → Option (List SubPart)
sub_parts s = parts_from outside [] s

-- what stands before the first full stop, and behind it
abbrev pub at_stop_from : List ℕ → List ℕ → Option (List ℕ × List ℕ)
at_stop_from part [] = None
at_stop_from part (c ∷ s) = if c == 46 then Some (part, s) else at_stop_from (part ++ c ∷ []) s

-- what a hole asks for
pub data Asked : Type 0 where
  -- `${!X}`: the text `${X}`
  spelled : List ℕ → Asked
  -- `${X.A}`, cut at its first full stop
  attribute_of : List ℕ → List ℕ → Asked
  -- `${X}`
  named : List ℕ → Asked

abbrev pub asked_at : List ℕ → Option (List ℕ × List ℕ) → Asked
asked_at s None = named s
asked_at s (Some p) = attribute_of p.0 p.1

abbrev pub asked : List ℕ → Asked
asked [] = named []
asked (c ∷ s) = if c == 33 then spelled (codes "${" ++ (s ++ codes "}")) else asked_at (c ∷ s) (at_stop_from [] (c ∷ s))
