use Rattle.std.proofs.Common.{◌≡◌, ◌∷◌, length, reverse}
use Rattle.cdk_graphs.specs.Walks.{joined_at}
use Rattle.cdk_graphs.proofs.walk.join.Given as goal

abbrev pub invariant-groups : goal.invariant-groups
invariant-groups l = joined_at l.position (l.group ∷ reverse l.groups) ≡ joined_at l.position (l.fn.last ∷ reverse l.fn.groups)

abbrev pub decreases-groups : goal.decreases-groups
decreases-groups l = length l.groups
