use Rattle.std.proofs.Common.{◌≡◌, drop}
use Rattle.serde_json.specs.View.{items_view, members_view}
use Rattle.cdk_eval.specs.Form.{in_items, in_members, first_of}
use Rattle.cdk_form.proofs.first.+walk.Given as goal

abbrev pub invariant-first_in_items-loop-item : goal.invariant-first_in_items-loop-item
invariant-first_in_items-loop-item l =
    (l.at ≡ l.item-index) × (first_of (in_items l.role 0 (items_view l.item-items)) ≡ first_of (in_items l.role l.at (items_view (drop l.item-index l.item-items))))

abbrev pub invariant-first_in_members-loop-key : goal.invariant-first_in_members-loop-key
invariant-first_in_members-loop-key l =
    (goal.iterator-first_in_members-loop-key).can_next l.key-iterator ×
    (goal.iterator-first_in_members-loop-key).is_finite l.key-iterator ×
    (first_of (in_members l.role (members_view l.members.entries)) ≡ first_of (in_members l.role (members_view l.key-iterator)))
