use Rattle.std.proofs.Common.{◌||◌, string_bytes, sym, ap, ◌∙◌}
use Rattle.cdk_base.specs.Marker.{has_marker}
use Rattle.cdk_language.specs.Expression.{expressions_view}
use Rattle.cdk_language.specs.Runs.{is_marked_run}
use Rattle.cdk_tree.specs.Placed.{construct_at}
use Rattle.cdk_tree.specs.TreeView.{constructs}
use Rattle.cdk_contexts.specs.Contexts.{pieces_literals}
use Rattle.cdk_contexts.proofs.ContextLemmas.{whole_run}
use Rattle.cdk_contexts.proofs.contexts.is_marked_concat.Goals as goal

pub returns-then-branch : goal.returns-then-branch
returns-then-branch c =
    let literals = pieces_literals (construct_at (constructs c.args.tree.now) c.args.at).contexts (expressions_view c.args.pieces.now) in
    let next = string_bytes c.scan_pieces.new.run in
    let run = whole_run (string_bytes c.new-run.result) literals c.in_ok-scan_pieces.field-0 next c.in_ok-scan_pieces.ensures in
    sym (ap (λ s. is_marked_run s literals) (sym c.new-run.ensures.bytes) ∙ run ∙ ap (λ b. b || has_marker next) c.if-branch.true)

pub returns : goal.returns
returns c =
    let literals = pieces_literals (construct_at (constructs c.args.tree.now) c.args.at).contexts (expressions_view c.args.pieces.now) in
    let next = string_bytes c.scan_pieces.new.run in
    let run = whole_run (string_bytes c.new-run.result) literals c.in_ok-scan_pieces.field-0 next c.in_ok-scan_pieces.ensures in
    c.has_marker.ensures ∙ ap has_marker c.as_str.ensures.value
    ∙ sym (ap (λ s. is_marked_run s literals) (sym c.new-run.ensures.bytes) ∙ run ∙ ap (λ b. b || has_marker next) c.if-branch.false)
