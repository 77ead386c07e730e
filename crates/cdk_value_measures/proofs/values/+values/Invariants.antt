use Rattle.std.proofs.Common.{◌≡◌, ◌≤◌, ◌+◌, ◌*◌, drop}
use Rattle.serde_json.specs.View.{items_view, members_view, view}
use Rattle.cdk_markers.specs.Cut.{cut_of}
use Rattle.cdk_markers.specs.Left.{left}
use Rattle.cdk_value_measures.proofs.Running.{items_after, members_after, text_after}
use Rattle.cdk_value_measures.proofs.Weights.{form_weight, items_weight, members_weight, weight, weight_below}
use Rattle.cdk_value_measures.specs.Expanding.{assembled_measure, items_parts, members_parts}
use Rattle.cdk_value_measures.specs.Keeping.{known_to}
use Rattle.cdk_tokens.specs.TableView.{tokens_in}
use Rattle.cdk_tokens.specs.Views.{form_view}
use Rattle.cdk_value_measures.proofs.values.+values.Given as goal

abbrev pub invariant-text_measure-loop-piece : goal.invariant-text_measure-loop-piece
invariant-text_measure-loop-piece l =
    let known = known_to l.tree l.table l.kept l.below in record {
      can_next : (goal.iterator-text_measure-loop-piece).can_next l.piece-iterator;
      is_finite : (goal.iterator-text_measure-loop-piece).is_finite l.piece-iterator;
      same : assembled_measure known (cut_of l.text) ≡ text_after known l.first l.is_alone l.parts (left l.piece-iterator);
    }

abbrev pub invariant-items_parts-loop-item : goal.invariant-items_parts-loop-item
invariant-items_parts-loop-item l =
    let known = known_to l.tree l.table l.kept l.below in record {
      same : items_parts known (items_view l.item-items) ≡ items_after known l.parts (items_view (drop l.item-index l.item-items));
      lighter : items_weight (items_view (drop l.item-index l.item-items)) ≤ items_weight (items_view l.item-items);
    }

abbrev pub invariant-members_parts-loop-key : goal.invariant-members_parts-loop-key
invariant-members_parts-loop-key l =
    let known = known_to l.tree l.table l.kept l.below in record {
      can_next : (goal.iterator-members_parts-loop-key).can_next l.key-iterator;
      is_finite : (goal.iterator-members_parts-loop-key).is_finite l.key-iterator;
      same : members_parts known (members_view l.members.entries) ≡ members_after known l.parts (members_view l.key-iterator);
      lighter : members_weight (members_view l.key-iterator) ≤ members_weight (members_view l.members.entries);
    }

abbrev pub decreases-measure_below : goal.decreases-measure_below
decreases-measure_below l = 8 * (weight (view l.value.now) + weight_below (tokens_in l.table.now) l.below)

abbrev pub decreases-items_parts : goal.decreases-items_parts
decreases-items_parts l = 8 * (items_weight (items_view l.items.now.items) + weight_below (tokens_in l.table.now) l.below) + 1

abbrev pub decreases-members_parts : goal.decreases-members_parts
decreases-members_parts l = 8 * (members_weight (members_view l.members.now.entries) + weight_below (tokens_in l.table.now) l.below) + 1

abbrev pub decreases-text_measure : goal.decreases-text_measure
decreases-text_measure l = 8 * weight_below (tokens_in l.table.now) l.below + 3

abbrev pub decreases-piece_measure : goal.decreases-piece_measure
decreases-piece_measure l = 8 * weight_below (tokens_in l.table.now) l.below + 2

abbrev pub decreases-key_measure : goal.decreases-key_measure
decreases-key_measure l = 8 * weight_below (tokens_in l.table.now) l.below + 1

abbrev pub decreases-form_measure : goal.decreases-form_measure
decreases-form_measure l = 8 * (form_weight (form_view l.form.now) + weight_below (tokens_in l.table.now) l.below)
