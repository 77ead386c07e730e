use Rattle.std.proofs.Common.{◌≡◌, length}
use Rattle.cdk_keeping.specs.Steps.{unkept}
use Rattle.cdk_leaves.specs.Kept.{results_in}
use Rattle.cdk_keeping.proofs.keeping.next_unkept.Given as goal

abbrev pub invariant-loop-lazy : goal.invariant-loop-lazy
invariant-loop-lazy l = unkept (results_in l.kept) l.fn.waiting.items ≡ unkept (results_in l.kept) l.waiting.items

abbrev pub decreases-loop-lazy : goal.decreases-loop-lazy
decreases-loop-lazy l = length l.waiting.items
