use Rattle.std.proofs.Common.{◌≡◌, drop}
use Rattle.serde_json.specs.View.{items_view, members_view}
use Rattle.cdk_tokens.specs.Values.{items_have_list_mix, members_have_list_mix}
use Rattle.cdk_values.proofs.list_mix.+mix.Given as goal

abbrev pub invariant-item_has_list_mix-loop-item : goal.invariant-item_has_list_mix-loop-item
invariant-item_has_list_mix-loop-item l = items_have_list_mix (items_view l.item-items) ≡ items_have_list_mix (items_view (drop l.item-index l.item-items))

abbrev pub invariant-member_has_list_mix-loop-key : goal.invariant-member_has_list_mix-loop-key
invariant-member_has_list_mix-loop-key l =
    (goal.iterator-member_has_list_mix-loop-key).can_next l._key-iterator ×
    (goal.iterator-member_has_list_mix-loop-key).is_finite l._key-iterator ×
    (members_have_list_mix (members_view l.members.entries) ≡ members_have_list_mix (members_view l._key-iterator))
