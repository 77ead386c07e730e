use Rattle.std.proofs.Common.{◌≡◌, ◌++◌, drop, map}
use Rattle.cdk_eval.specs.Assembly.{assembly_outcome, stack_outcomes}
use Rattle.cdk_eval.specs.Views.{values_view, assembly_view, stack_view, stack_out_view}
use Rattle.cdk_scopes.specs.Scopes.{exports_view}
use Rattle.cdk_evaluator.proofs.report.eval.Given as goal

abbrev pub invariant-loop-stack : goal.invariant-loop-stack
invariant-loop-stack l =
    assembly_outcome (values_view l.values) (assembly_view l.assembly) ≡ map stack_out_view l.stacks ++ stack_outcomes (values_view l.values) (exports_view l.exports) (map stack_view (drop l.stack-index l.stack-items))
