use Rattle.std.proofs.Common.{take}
use Rattle.cdk_graphs.specs.Marks.{Changes}
use Rattle.cdk_graphs.proofs.marks.mark_each.Given as goal

abbrev pub invariant-loop-number : goal.invariant-loop-number
invariant-loop-number l = Changes (take l.number-index l.numbers) l.mark l.initial.marks l.marks
