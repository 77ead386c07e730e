use Rattle.std.proofs.Common.{◌≡◌, ◌++◌, drop, map, string_bytes}
use Rattle.cdk_eval.specs.Views.{resource_view}
use Rattle.cdk_printing.specs.Lines.{resource_texts}
use Rattle.cdk_printing.specs.Printable.{ResourcesArePrintable}
use Rattle.cdk_printing.proofs.lines.push_resources.Given as goal

abbrev pub invariant-loop-resource : goal.invariant-loop-resource
invariant-loop-resource l =
    (string_bytes l.initial.lines ++ resource_texts (map resource_view l.resources) ≡ string_bytes l.lines ++ resource_texts (map resource_view (drop l.resource-index l.resources)))
    × ResourcesArePrintable (map resource_view (drop l.resource-index l.resources))
