use Rattle.std.proofs.Common.{◌≡◌, ◌≤◌, ◌+◌, ◌*◌, ◌++◌, drop}
use Rattle.serde_json.specs.Data.{no_members}
use Rattle.serde_json.specs.View.{items_view, members_view, view}
use Rattle.cdk_leaves.specs.Kept.{results_in}
use Rattle.cdk_leaves.specs.Views.{scope_view}
use Rattle.cdk_markers.specs.Cut.{cut_of}
use Rattle.cdk_markers.specs.Left.{left}
use Rattle.cdk_rendering.proofs.Laying.{items_before, members_onto}
use Rattle.cdk_rendering.proofs.Weights.{form_weight, items_weight, members_weight, weight, weight_below}
use Rattle.cdk_rendering.specs.Missing.{items_missing, members_missing, pieces_missing}
use Rattle.cdk_rendering.specs.TokenJson.{items_json, pieces_json}
use Rattle.cdk_rendering.specs.Views.{json_below, missing_below}
use Rattle.cdk_tokens.specs.TableView.{tokens_in}
use Rattle.cdk_tokens.specs.Views.{form_view}
use Rattle.cdk_rendering.proofs.rendering.+rendering.Given as goal

abbrev pub invariant-text_json-loop-piece : goal.invariant-text_json-loop-piece
invariant-text_json-loop-piece l =
    let known = json_below (scope_view l.scope) (results_in l.kept) l.below in
    let lost = missing_below (scope_view l.scope) (results_in l.kept) l.below in record {
      can_next : (goal.iterator-text_json-loop-piece).can_next l.piece-iterator;
      is_finite : (goal.iterator-text_json-loop-piece).is_finite l.piece-iterator;
      json : pieces_json known (cut_of l.text) ≡ items_before l.parts.items (pieces_json known (left l.piece-iterator));
      missing : l.fn.missing.items ++ pieces_missing lost (cut_of l.text) ≡ l.missing.items ++ pieces_missing lost (left l.piece-iterator);
    }

abbrev pub invariant-items_json-loop-item : goal.invariant-items_json-loop-item
invariant-items_json-loop-item l =
    let known = json_below (scope_view l.scope) (results_in l.kept) l.below in
    let lost = missing_below (scope_view l.scope) (results_in l.kept) l.below in
    let all = items_view l.item-items in
    let rest = items_view (drop l.item-index l.item-items) in record {
      json : items_json known all ≡ items_before l.values.items (items_json known rest);
      missing : l.fn.missing.items ++ items_missing lost all ≡ l.missing.items ++ items_missing lost rest;
      lighter : items_weight rest ≤ items_weight all;
    }

abbrev pub invariant-members_json-loop-key : goal.invariant-members_json-loop-key
invariant-members_json-loop-key l =
    let known = json_below (scope_view l.scope) (results_in l.kept) l.below in
    let lost = missing_below (scope_view l.scope) (results_in l.kept) l.below in
    let all = members_view l.members.entries in
    let rest = members_view l.key-iterator in record {
      can_next : (goal.iterator-members_json-loop-key).can_next l.key-iterator;
      is_finite : (goal.iterator-members_json-loop-key).is_finite l.key-iterator;
      json : members_onto known no_members all ≡ members_onto known (members_view l.values.entries) rest;
      missing : l.fn.missing.items ++ members_missing lost all ≡ l.missing.items ++ members_missing lost rest;
      lighter : members_weight rest ≤ members_weight all;
    }

abbrev pub decreases-json_below : goal.decreases-json_below
decreases-json_below l = 8 * (weight (view l.value.now) + weight_below (tokens_in l.scope.now.table.now) l.below)

abbrev pub decreases-two_json : goal.decreases-two_json
decreases-two_json l = 8 * ((weight (view l.first.now) + weight (view l.second.now)) + weight_below (tokens_in l.scope.now.table.now) l.below) + 1

abbrev pub decreases-items_json : goal.decreases-items_json
decreases-items_json l = 8 * (items_weight (items_view l.items.now.items) + weight_below (tokens_in l.scope.now.table.now) l.below) + 1

abbrev pub decreases-members_json : goal.decreases-members_json
decreases-members_json l = 8 * (members_weight (members_view l.members.now.entries) + weight_below (tokens_in l.scope.now.table.now) l.below) + 1

abbrev pub decreases-text_json : goal.decreases-text_json
decreases-text_json l = 8 * weight_below (tokens_in l.scope.now.table.now) l.below + 3

abbrev pub decreases-piece_json : goal.decreases-piece_json
decreases-piece_json l = 8 * weight_below (tokens_in l.scope.now.table.now) l.below + 2

abbrev pub decreases-list_json : goal.decreases-list_json
decreases-list_json l = 8 * weight_below (tokens_in l.scope.now.table.now) l.below + 2

abbrev pub decreases-key_json : goal.decreases-key_json
decreases-key_json l = 8 * weight_below (tokens_in l.scope.now.table.now) l.below + 1

abbrev pub decreases-form_json : goal.decreases-form_json
decreases-form_json l = 8 * (form_weight (form_view l.form.now) + weight_below (tokens_in l.scope.now.table.now) l.below)
