use Rattle.std.proofs.Common.{length, []}
use Rattle.cdk_needs.specs.Needs.{steps_left, IsMarking}
use Rattle.cdk_needs.proofs.marking.Marking.spread.Given as goal

abbrev pub invariant-loop-found : goal.invariant-loop-found
invariant-loop-found l = IsMarking l.needs (length l.needs) [] l.self

abbrev pub decreases-loop-found : goal.decreases-loop-found
decreases-loop-found l = steps_left l.needs l.self
