-- Small graphs: which of their numbers reach themselves.
use Rattle.std.proofs.Common.{◌≡◌, [], ◌∷◌, map, true, false, refl}
use Rattle.cdk_graphs.specs.Graph.{Graph}
use Rattle.cdk_graphs.specs.Loops.{reaches_itself}

-- 1 and 2 lead to one another, 0 leads to 1 alone
abbrev one_before_a_loop : Graph
one_before_a_loop = (1 ∷ []) ∷ (2 ∷ []) ∷ (1 ∷ []) ∷ []

in_the_loop : map (reaches_itself one_before_a_loop) (1 ∷ 2 ∷ []) ≡ true ∷ true ∷ []
in_the_loop = refl

before_the_loop : reaches_itself one_before_a_loop 0 ≡ false
before_the_loop = refl
