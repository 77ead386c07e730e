use Rattle.cdk_keeping.proofs.LoopMeasure.{to_do}
use Rattle.cdk_keeping.proofs.Waiting.{Waits}
use Rattle.cdk_leaves.specs.Kept.{results_in}
use Rattle.cdk_leaves.specs.Views.{scope_view}
use Rattle.cdk_keeping.proofs.keeping.keep_all.Given as goal

abbrev pub invariant-loop-lazy : goal.invariant-loop-lazy
invariant-loop-lazy l = record { waits : Waits (scope_view l.scope) l.fn.waiting.items (results_in l.fn.kept) (results_in l.kept) l.waiting.items }

abbrev pub decreases-loop-lazy : goal.decreases-loop-lazy
decreases-loop-lazy l = to_do (scope_view l.scope) (results_in l.kept) l.waiting.items
