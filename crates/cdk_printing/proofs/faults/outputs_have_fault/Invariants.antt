use Rattle.std.proofs.Common.{◌≡◌, drop, map}
use Rattle.cdk_eval.specs.Views.{output_entry}
use Rattle.cdk_printing.specs.Lines.{outputs_have_fault}
use Rattle.cdk_printing.proofs.faults.outputs_have_fault.Given as goal

abbrev pub invariant-loop-output : goal.invariant-loop-output
invariant-loop-output l = outputs_have_fault (map output_entry l.outputs) ≡ outputs_have_fault (map output_entry (drop l.output-index l.outputs))
