use Rattle.std.proofs.Common.{◌≡◌, drop}
use Rattle.std.specs.List.{list_any}
use Rattle.cdk_language.specs.Expression.{expressions_view, fields_view}
use Rattle.cdk_tree.specs.Expected.{expected_all, expected_fields, expected_pieces}
use Rattle.cdk_targets.specs.Looks.{is_refused}
use Rattle.cdk_targets.proofs.targets.+refuses.Given as goal

abbrev pub invariant-refuses_item-loop-item : goal.invariant-refuses_item-loop-item
invariant-refuses_item-loop-item l =
    list_any (is_refused l.tree l.look l.at) (expected_all (expressions_view l.item-items)) ≡ list_any (is_refused l.tree l.look l.at) (expected_all (expressions_view (drop l.item-index l.item-items)))

abbrev pub invariant-refuses_field-loop-field : goal.invariant-refuses_field-loop-field
invariant-refuses_field-loop-field l =
    list_any (is_refused l.tree l.look l.at) (expected_fields (fields_view l.field-items)) ≡ list_any (is_refused l.tree l.look l.at) (expected_fields (fields_view (drop l.field-index l.field-items)))

abbrev pub invariant-refuses_piece-loop-piece : goal.invariant-refuses_piece-loop-piece
invariant-refuses_piece-loop-piece l =
    list_any (is_refused l.tree l.look l.at) (expected_pieces (expressions_view l.piece-items)) ≡ list_any (is_refused l.tree l.look l.at) (expected_pieces (expressions_view (drop l.piece-index l.piece-items)))
