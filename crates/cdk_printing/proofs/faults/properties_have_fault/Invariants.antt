use Rattle.std.proofs.Common.{◌≡◌, drop, map}
use Rattle.cdk_eval.specs.Views.{property_view}
use Rattle.cdk_printing.specs.Lines.{properties_have_fault}
use Rattle.cdk_printing.proofs.faults.properties_have_fault.Given as goal

abbrev pub invariant-loop-property : goal.invariant-loop-property
invariant-loop-property l = properties_have_fault (map property_view l.properties) ≡ properties_have_fault (map property_view (drop l.property-index l.properties))
