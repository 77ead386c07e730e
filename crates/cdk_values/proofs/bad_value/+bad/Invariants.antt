use Rattle.std.proofs.Common.{◌≡◌, drop}
use Rattle.serde_json.specs.View.{items_view, members_view}
use Rattle.cdk_values.specs.BadValue.{items_have_bad_value, members_have_bad_value}
use Rattle.cdk_values.proofs.bad_value.+bad.Given as goal

abbrev pub invariant-item_has_bad_value-loop-item : goal.invariant-item_has_bad_value-loop-item
invariant-item_has_bad_value-loop-item l = items_have_bad_value (items_view l.item-items) ≡ items_have_bad_value (items_view (drop l.item-index l.item-items))

abbrev pub invariant-member_has_bad_value-loop-key : goal.invariant-member_has_bad_value-loop-key
invariant-member_has_bad_value-loop-key l =
    (goal.iterator-member_has_bad_value-loop-key).can_next l.key-iterator ×
    (goal.iterator-member_has_bad_value-loop-key).is_finite l.key-iterator ×
    (members_have_bad_value (members_view l.members.entries) ≡ members_have_bad_value (members_view l.key-iterator))
