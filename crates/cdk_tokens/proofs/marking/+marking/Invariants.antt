use Rattle.std.proofs.Common.{◌≡◌, ◌++◌, drop, length, map, string_bytes}
use Rattle.serde_json.specs.Data.{no_members}
use Rattle.serde_json.specs.View.{view as json_view, members_view}
use Rattle.cdk_language.specs.Expression.{view, expressions_view, fields_view}
use Rattle.cdk_tree.specs.TreeView.{constructs}
use Rattle.cdk_tokens.specs.Marking.{all_tokens, fields_tokens, marked_members, marked_text}
use Rattle.cdk_tokens.specs.TableView.{tokens_in}
use Rattle.cdk_tokens.specs.Whole.{marked_list}
use Rattle.cdk_tokens.proofs.marking.+marking.Given as goal

abbrev pub invariant-mark_fields-loop-field : goal.invariant-mark_fields-loop-field
invariant-mark_fields-loop-field l =
    let cs = constructs l.tree in
    let old = tokens_in l.fn.table in
    let now = tokens_in l.table in
    let rest = fields_view (drop l.field-index l.field-items) in
    (marked_members cs l.at (length old) (fields_view l.field-items) no_members ≡ marked_members cs l.at (length now) rest (members_view l.members.entries))
    × (old ++ fields_tokens cs l.at (length old) (fields_view l.field-items) ≡ now ++ fields_tokens cs l.at (length now) rest)

abbrev pub invariant-mark_items-loop-item : goal.invariant-mark_items-loop-item
invariant-mark_items-loop-item l =
    let cs = constructs l.tree in
    let old = tokens_in l.fn.table in
    let now = tokens_in l.table in
    let rest = drop l.item-index l.item-items in
    (marked_list cs l.at (length old) (map view l.item-items) ≡ map json_view l.values.items ++ marked_list cs l.at (length now) (map view rest))
    × (old ++ all_tokens cs l.at (length old) (expressions_view l.item-items) ≡ now ++ all_tokens cs l.at (length now) (expressions_view rest))

abbrev pub invariant-mark_pieces-loop-piece : goal.invariant-mark_pieces-loop-piece
invariant-mark_pieces-loop-piece l =
    let cs = constructs l.tree in
    let old = tokens_in l.fn.table in
    let now = tokens_in l.table in
    let rest = expressions_view (drop l.piece-index l.piece-items) in
    (marked_text cs l.at (length old) (expressions_view l.piece-items) ≡ string_bytes l.text ++ marked_text cs l.at (length now) rest)
    × (old ++ all_tokens cs l.at (length old) (expressions_view l.piece-items) ≡ now ++ all_tokens cs l.at (length now) rest)
