use Rattle.std.proofs.Common.{◌≡◌, ◌++◌}
use Rattle.cdk_expansion.specs.Mentions.{piece_keys}
use Rattle.cdk_markers.specs.Cut.{cut_of}
use Rattle.cdk_markers.specs.Left.{left}
use Rattle.cdk_tokens.specs.TableView.{tokens_in}
use Rattle.cdk_lazies.specs.MentionGraph.{tokens_by}
use Rattle.cdk_lazies.proofs.markers.push_text.Given as goal

abbrev pub invariant-loop-piece : goal.invariant-loop-piece
invariant-loop-piece l =
    let ts = tokens_in l.table in
    (goal.iterator-loop-piece).can_next l.piece-iterator ×
    (goal.iterator-loop-piece).is_finite l.piece-iterator ×
    (l.fn.numbers.items ++ tokens_by ts (piece_keys (cut_of l.text)) ≡ l.numbers.items ++ tokens_by ts (piece_keys (left l.piece-iterator)))
