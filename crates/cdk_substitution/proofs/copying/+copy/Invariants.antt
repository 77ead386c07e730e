use Rattle.std.proofs.Common.{◌≡◌, map, take}
use Rattle.cdk_language.specs.Expression.{view, field_view}
use Rattle.cdk_substitution.proofs.copying.+copy.Given as goal

abbrev pub invariant-copy_fields-loop-field : goal.invariant-copy_fields-loop-field
invariant-copy_fields-loop-field l = map field_view l.copied ≡ map field_view (take l.field-index l.field-items)

abbrev pub invariant-copy_items-loop-item : goal.invariant-copy_items-loop-item
invariant-copy_items-loop-item l = map view l.copied ≡ map view (take l.item-index l.item-items)
