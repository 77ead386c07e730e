use Rattle.std.proofs.Common.{◌≡◌, drop, map}
use Rattle.cdk_eval.specs.Views.{resource_view}
use Rattle.cdk_printing.specs.Lines.{resources_have_fault}
use Rattle.cdk_printing.proofs.faults.resources_have_fault.Given as goal

abbrev pub invariant-loop-resource : goal.invariant-loop-resource
invariant-loop-resource l = resources_have_fault (map resource_view l.resources) ≡ resources_have_fault (map resource_view (drop l.resource-index l.resources))
