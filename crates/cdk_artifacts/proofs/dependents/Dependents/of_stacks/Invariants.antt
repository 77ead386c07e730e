use Rattle.std.proofs.Common.{map, take}
use Rattle.cdk_artifacts.specs.Found.{stack_view}
use Rattle.cdk_artifacts.specs.Queued.{AreDependents}
use Rattle.cdk_artifacts.proofs.dependents.Dependents.of_stacks.Given as goal

abbrev pub invariant-loop-number : goal.invariant-loop-number
invariant-loop-number l = AreDependents (map stack_view (take l.number l.stacks)) l.dependents
