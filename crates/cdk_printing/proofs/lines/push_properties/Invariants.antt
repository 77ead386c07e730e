use Rattle.std.proofs.Common.{◌≡◌, ◌++◌, drop, map, string_bytes}
use Rattle.cdk_eval.specs.Views.{property_view}
use Rattle.cdk_printing.specs.Lines.{property_lines}
use Rattle.cdk_printing.specs.Printable.{PropertiesArePrintable}
use Rattle.cdk_printing.proofs.lines.push_properties.Given as goal

abbrev pub invariant-loop-property : goal.invariant-loop-property
invariant-loop-property l =
    (string_bytes l.initial.lines ++ property_lines (map property_view l.properties) ≡ string_bytes l.lines ++ property_lines (map property_view (drop l.property-index l.properties)))
    × PropertiesArePrintable (map property_view (drop l.property-index l.properties))
