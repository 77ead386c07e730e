use Rattle.std.proofs.Common.{◌≡◌, drop}
use Rattle.serde_json.specs.View.{items_view, members_view}
use Rattle.cdk_tokens.specs.TableView.{tokens_in}
use Rattle.cdk_tokens.specs.Values.{items_have_unknown_token, members_have_unknown_token}
use Rattle.cdk_values.proofs.unknown_token.+unknown.Given as goal

abbrev pub invariant-item_has_unknown_token-loop-item : goal.invariant-item_has_unknown_token-loop-item
invariant-item_has_unknown_token-loop-item l =
    let ts = tokens_in l.table in items_have_unknown_token ts (items_view l.item-items) ≡ items_have_unknown_token ts (items_view (drop l.item-index l.item-items))

abbrev pub invariant-member_has_unknown_token-loop-key : goal.invariant-member_has_unknown_token-loop-key
invariant-member_has_unknown_token-loop-key l =
    (goal.iterator-member_has_unknown_token-loop-key).can_next l._key-iterator ×
    (goal.iterator-member_has_unknown_token-loop-key).is_finite l._key-iterator ×
    (members_have_unknown_token (tokens_in l.table) (members_view l.members.entries) ≡ members_have_unknown_token (tokens_in l.table) (members_view l._key-iterator))
