use Rattle.std.proofs.Common.{◌≡◌, ◌++◌, drop, map, string_bytes}
use Rattle.cdk_eval.specs.Views.{output_entry}
use Rattle.cdk_printing.specs.Lines.{output_lines}
use Rattle.cdk_printing.proofs.lines.push_outputs.Given as goal

abbrev pub invariant-loop-output : goal.invariant-loop-output
invariant-loop-output l =
    string_bytes l.initial.lines ++ output_lines (map output_entry l.outputs) ≡ string_bytes l.lines ++ output_lines (map output_entry (drop l.output-index l.outputs))
