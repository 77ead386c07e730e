use Rattle.std.proofs.Common.{[]}
use Rattle.cdk_needs.specs.Needs.{IsMarking}
use Rattle.cdk_needs.proofs.marking.Marking.settle_needs.Given as goal

abbrev pub invariant-loop-user : goal.invariant-loop-user
invariant-loop-user l = IsMarking l.needs l.user [] l.self
