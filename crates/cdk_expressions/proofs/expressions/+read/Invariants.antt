use Rattle.std.proofs.Common.{◌≡◌, option_map, drop}
use Rattle.serde_json.specs.View.{items_view, members_view}
use Rattle.cdk_language.specs.Application.{expressions_of, fields_of}
use Rattle.cdk_substitution.specs.Steps.{before}
use Rattle.cdk_expressions.proofs.Reading.{fields_before}
use Rattle.cdk_expressions.proofs.expressions.+read.Given as goal

abbrev pub invariant-expressions_of-loop-item : goal.invariant-expressions_of-loop-item
invariant-expressions_of-loop-item l =
    expressions_of (items_view l.item-items) ≡ option_map (before l.found) (expressions_of (items_view (drop l.item-index l.item-items)))

abbrev pub invariant-fields_of-loop-key : goal.invariant-fields_of-loop-key
invariant-fields_of-loop-key l =
    fields_of (members_view l.members.entries) ≡ option_map (fields_before l.found) (fields_of (members_view l.key-iterator))
