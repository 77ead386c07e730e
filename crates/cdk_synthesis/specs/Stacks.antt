-- The first stack of a tree (own).
use Rattle.std.specs.Prelude.{ℕ, List, [], ◌∷◌}
use Rattle.cdk_elements.specs.Kinds.{stacks_of}
use Rattle.cdk_tree.specs.Placed.{Placed}

abbrev pub first_in : List ℕ → ℕ
first_in [] = 0
first_in (n ∷ ns) = n

-- in walk order; the root where there is none
abbrev pub first_stack : List Placed → ℕ
first_stack cs = first_in (stacks_of cs)
