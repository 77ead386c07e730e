use Rattle.std.proofs.Common.{◌≤◌, length, drop}
use Rattle.cdk_needs.specs.Needs.{steps_left, IsMarking}
use Rattle.cdk_needs.proofs.marking.Marking.settle_all.Given as goal

abbrev pub invariant-loop-user : goal.invariant-loop-user
invariant-loop-user l = record {
  marking : IsMarking l.needs (length l.needs) (drop l.user-index l.users) l.self;
  steps : steps_left l.needs l.self ≤ steps_left l.needs l.initial.self;
}
