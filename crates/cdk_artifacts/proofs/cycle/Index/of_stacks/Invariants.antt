use Rattle.std.proofs.Common.{drop, map}
use Rattle.cdk_artifacts.specs.Found.{stack_view}
use Rattle.cdk_artifacts.specs.Ways.{IsIndex}
use Rattle.cdk_artifacts.proofs.cycle.Index.of_stacks.Given as goal

abbrev pub invariant-loop-number : goal.invariant-loop-number
invariant-loop-number l = IsIndex (map stack_view (drop l.number l.stacks)) (record { stacks = l.by_id })
