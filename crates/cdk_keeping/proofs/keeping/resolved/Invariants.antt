use Rattle.cdk_keeping.proofs.KeepingLoop.{unkept}
use Rattle.cdk_keeping.specs.Keeping.{IsSettled}
use Rattle.cdk_leaves.specs.Kept.{results_in}
use Rattle.cdk_leaves.specs.Lazies.{Stays}
use Rattle.cdk_leaves.specs.Views.{scope_view}
use Rattle.cdk_keeping.proofs.keeping.resolved.Given as goal

abbrev pub invariant-loop-waiting : goal.invariant-loop-waiting
invariant-loop-waiting l = record {
  stays : Stays (results_in l.fn.kept) (results_in l.kept);
  settled : IsSettled (scope_view l.scope) (results_in l.kept);
}

abbrev pub decreases-loop-waiting : goal.decreases-loop-waiting
decreases-loop-waiting l = unkept (scope_view l.scope) (results_in l.kept)
