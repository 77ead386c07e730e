use Rattle.std.proofs.Common.{◌≡◌, drop}
use Rattle.serde_json.specs.View.{items_view, members_view}
use Rattle.cdk_base.specs.Marker.{items_hold_marker, members_hold_marker}
use Rattle.cdk_entries.proofs.markers.+markers.Given as goal

abbrev pub invariant-item_holds_marker-loop-item : goal.invariant-item_holds_marker-loop-item
invariant-item_holds_marker-loop-item l = items_hold_marker (items_view l.item-items) ≡ items_hold_marker (items_view (drop l.item-index l.item-items))

abbrev pub invariant-member_holds_marker-loop-key : goal.invariant-member_holds_marker-loop-key
invariant-member_holds_marker-loop-key l =
    (goal.iterator-member_holds_marker-loop-key).can_next l.key-iterator ×
    (goal.iterator-member_holds_marker-loop-key).is_finite l.key-iterator ×
    (members_hold_marker (members_view l.members.entries) ≡ members_hold_marker (members_view l.key-iterator))
