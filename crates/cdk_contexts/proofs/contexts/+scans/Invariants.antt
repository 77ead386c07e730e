use Rattle.std.proofs.Common.{◌≡◌, ◌++◌, drop, string_bytes}
use Rattle.cdk_language.specs.Expression.{expressions_view}
use Rattle.cdk_language.specs.Runs.{Literals, is_marked_run}
use Rattle.cdk_tree.specs.Placed.{construct_at}
use Rattle.cdk_tree.specs.TreeView.{constructs}
use Rattle.cdk_contexts.specs.Contexts.{pieces_literals}
use Rattle.cdk_contexts.proofs.contexts.+scans.Given as goal

abbrev pub invariant-scan_pieces-loop-piece : goal.invariant-scan_pieces-loop-piece
invariant-scan_pieces-loop-piece l =
    let scopes = (construct_at (constructs l.tree) l.at).contexts in
    (rest : Literals) → is_marked_run (string_bytes l.fn.run) (pieces_literals scopes (expressions_view l.piece-items) ++ rest) ≡ is_marked_run (string_bytes l.run) (pieces_literals scopes (expressions_view (drop l.piece-index l.piece-items)) ++ rest)
