use Rattle.std.proofs.Common.{◌≡◌, drop}
use Rattle.cdk_language.specs.Expression.{expressions_view, fields_view}
use Rattle.cdk_tree.specs.Placed.{construct_at}
use Rattle.cdk_tree.specs.TreeView.{constructs}
use Rattle.cdk_contexts.specs.Contexts.{any_misses_context, fields_miss_context}
use Rattle.cdk_contexts.proofs.contexts.+misses.Given as goal

abbrev pub invariant-item_misses_context-loop-item : goal.invariant-item_misses_context-loop-item
invariant-item_misses_context-loop-item l =
    let scopes = (construct_at (constructs l.tree) l.at).contexts in
    any_misses_context scopes (expressions_view l.item-items) ≡ any_misses_context scopes (expressions_view (drop l.item-index l.item-items))

abbrev pub invariant-field_misses_context-loop-field : goal.invariant-field_misses_context-loop-field
invariant-field_misses_context-loop-field l =
    let scopes = (construct_at (constructs l.tree) l.at).contexts in
    fields_miss_context scopes (fields_view l.field-items) ≡ fields_miss_context scopes (fields_view (drop l.field-index l.field-items))
