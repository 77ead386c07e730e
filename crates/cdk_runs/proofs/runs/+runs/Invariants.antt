use Rattle.std.proofs.Common.{◌≡◌, ◌≤◌, ◌+◌, ◌*◌, ◌++◌, false, length, drop}
use denote.Text.{Utf8}
use denote.Shadow.{shadow}
use Rattle.serde_json.specs.View.{items_view, members_view}
use Rattle.cdk_language.specs.Runs.{Literals, is_marked_run, items_literals, sub_literals, variables_literals}
use Rattle.cdk_language.specs.Schema.{is_wrong_sub_text as spec_is_wrong_sub_text}
use Rattle.cdk_language.specs.Sub.{pieces_of}
use Rattle.cdk_language.specs.declared.schema.Within.TheVariants as within
use Rattle.cdk_runs.specs.Reads.{opening}
use Rattle.cdk_runs.proofs.runs.+runs.Given as goal

abbrev pub invariant-read_items-loop-item : goal.invariant-read_items-loop-item
invariant-read_items-loop-item l = record {
  fewer : l.left ≤ l.fn.left;
  bound : l.matched ≤ 8;
  same : (more : Literals) → is_marked_run (opening l.fn.matched) (items_literals (items_view l.item-items) ++ more) ≡ is_marked_run (opening l.matched) (items_literals (items_view (drop l.item-index l.item-items)) ++ more);
}

abbrev pub invariant-read_pieces-loop-before : goal.invariant-read_pieces-loop-before
invariant-read_pieces-loop-before l = record {
  fewer : l.left ≤ l.fn.left;
  bound : l.matched ≤ 8;
  cut : spec_is_wrong_sub_text within.Construct l.rest ≡ false;
  same : (more : Literals) → is_marked_run (opening l.fn.matched) (sub_literals (variables_literals (members_view l.variables.entries)) (pieces_of l.text) ++ more)
      ≡ is_marked_run (opening l.matched) (sub_literals (variables_literals (members_view l.variables.entries)) (pieces_of l.rest) ++ more);
  text : shadow (Utf8 l.rest);
}

abbrev pub decreases-read_pieces-loop-before : goal.decreases-read_pieces-loop-before
decreases-read_pieces-loop-before l = length l.rest

abbrev pub decreases-read_value : goal.decreases-read_value
decreases-read_value l = 8 * l.left.now + 0

abbrev pub decreases-read_piece : goal.decreases-read_piece
decreases-read_piece l = 8 * l.left.now + 1

abbrev pub decreases-read_items : goal.decreases-read_items
decreases-read_items l = 8 * l.left.now + 2

abbrev pub decreases-read_pieces : goal.decreases-read_pieces
decreases-read_pieces l = 8 * l.left.now + 2

abbrev pub decreases-read_concat : goal.decreases-read_concat
decreases-read_concat l = 8 * l.left.now + 3

abbrev pub decreases-read_sub : goal.decreases-read_sub
decreases-read_sub l = 8 * l.left.now + 3

abbrev pub decreases-read_form : goal.decreases-read_form
decreases-read_form l = 8 * l.left.now + 4

abbrev pub decreases-read_array_sub : goal.decreases-read_array_sub
decreases-read_array_sub l = 8 * l.left.now + 2
