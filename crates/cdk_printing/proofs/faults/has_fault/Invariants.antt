use Rattle.std.proofs.Common.{◌≡◌, drop, map}
use Rattle.cdk_eval.specs.Views.{report_view, stack_out_view}
use Rattle.cdk_printing.specs.Lines.{has_fault}
use Rattle.cdk_printing.proofs.faults.has_fault.Given as goal

abbrev pub invariant-loop-stack : goal.invariant-loop-stack
invariant-loop-stack l = has_fault (report_view l.report) ≡ has_fault (map stack_out_view (drop l.stack-index l.stack-items))
