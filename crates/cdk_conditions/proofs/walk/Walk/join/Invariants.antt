use Rattle.std.proofs.Common.{length}
use Rattle.cdk_conditions.proofs.Walking.{IsJoined}
use Rattle.cdk_conditions.proofs.walk.Walk.join.Given as goal

abbrev pub invariant-groups : goal.invariant-groups
invariant-groups l = IsJoined l.fn.last l.fn.self l.position l.group l.self

abbrev pub decreases-groups : goal.decreases-groups
decreases-groups l = length l.self.groups
