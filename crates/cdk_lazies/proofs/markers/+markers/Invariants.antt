use Rattle.std.proofs.Common.{◌≡◌, ◌++◌, drop}
use Rattle.serde_json.specs.View.{items_view, members_view}
use Rattle.cdk_expansion.specs.Mentions.{keys_in_items, keys_in_members}
use Rattle.cdk_tokens.specs.TableView.{tokens_in}
use Rattle.cdk_lazies.specs.MentionGraph.{tokens_by}
use Rattle.cdk_lazies.proofs.markers.+markers.Given as goal

abbrev pub invariant-push_items-loop-item : goal.invariant-push_items-loop-item
invariant-push_items-loop-item l =
    let ts = tokens_in l.table in
    l.fn.numbers.items ++ tokens_by ts (keys_in_items (items_view l.item-items)) ≡ l.numbers.items ++ tokens_by ts (keys_in_items (items_view (drop l.item-index l.item-items)))

abbrev pub invariant-push_members-loop-key : goal.invariant-push_members-loop-key
invariant-push_members-loop-key l =
    let ts = tokens_in l.table in
    (goal.iterator-push_members-loop-key).can_next l._key-iterator ×
    (goal.iterator-push_members-loop-key).is_finite l._key-iterator ×
    (l.fn.numbers.items ++ tokens_by ts (keys_in_members (members_view l.members.entries)) ≡ l.numbers.items ++ tokens_by ts (keys_in_members (members_view l._key-iterator)))
