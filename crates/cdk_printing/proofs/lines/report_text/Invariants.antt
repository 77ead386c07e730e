use Rattle.std.proofs.Common.{◌≡◌, ◌++◌, drop, map, string_bytes}
use Rattle.cdk_eval.specs.Views.{report_view, stack_out_view}
use Rattle.cdk_printing.specs.Lines.{report_text}
use Rattle.cdk_printing.specs.Printable.{IsPrintable}
use Rattle.cdk_printing.proofs.lines.report_text.Given as goal

abbrev pub invariant-loop-stack : goal.invariant-loop-stack
invariant-loop-stack l =
    (report_text (report_view l.report) ≡ string_bytes l.lines ++ report_text (map stack_out_view (drop l.stack-index l.stack-items)))
    × IsPrintable (map stack_out_view (drop l.stack-index l.stack-items))
