use Rattle.std.proofs.Common.{◌≡◌, drop}
use Rattle.cdk_language.specs.Expression.{expressions_view, fields_view}
use Rattle.cdk_tree.specs.Placed.{construct_at}
use Rattle.cdk_tree.specs.TreeView.{constructs}
use Rattle.cdk_contexts.specs.Contexts.{any_marked_run, fields_marked_run}
use Rattle.cdk_contexts.proofs.contexts.+marked.Given as goal

abbrev pub invariant-any_marked_run-loop-item : goal.invariant-any_marked_run-loop-item
invariant-any_marked_run-loop-item l =
    let scopes = (construct_at (constructs l.tree) l.at).contexts in
    any_marked_run scopes (expressions_view l.item-items) ≡ any_marked_run scopes (expressions_view (drop l.item-index l.item-items))

abbrev pub invariant-fields_marked_run-loop-field : goal.invariant-fields_marked_run-loop-field
invariant-fields_marked_run-loop-field l =
    let scopes = (construct_at (constructs l.tree) l.at).contexts in
    fields_marked_run scopes (fields_view l.field-items) ≡ fields_marked_run scopes (fields_view (drop l.field-index l.field-items))
