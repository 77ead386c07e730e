use Rattle.std.proofs.Common.{◌≡◌, ◌∷◌, ◌+◌, ◌||◌, [], true, false, drop, sym, ap, ◌∙◌, arith}
use Rattle.std.proofs.lemmas.List.{drop_all, drop_more}
use Rattle.cdk_language.specs.Expression.{expressions_view, fields_view, view}
use Rattle.cdk_tree.specs.Placed.{construct_at}
use Rattle.cdk_tree.specs.TreeView.{constructs}
use Rattle.cdk_contexts.specs.Contexts.{any_misses_context, fields_miss_context, misses_context}
use Rattle.cdk_contexts.proofs.Seen.{seen_field}
use Rattle.cdk_contexts.proofs.contexts.+misses.Goals as goal

pub item_misses_context-loop-item-preserved : goal.item_misses_context-loop-item-preserved
item_misses_context-loop-item-preserved t c =
    let l = c.loop-item in
    let scopes = (construct_at (constructs c.args.tree.now) c.args.at).contexts in
    let xs = c.as_slice-item-items.result.now in
    let x = c.item-item.result in
    let rest = drop (l.item-index + 1) xs in
    let here : drop l.item-index xs ≡ x ∷ rest = drop_more xs l.item-index x (omega arith) ∙ ap (λ y. y ∷ rest) (sym c.item-item.is) in
    let none : misses_context scopes (view x) ≡ false = sym c.misses_context.ensures ∙ c.if-misses_context.false in
    l.invariant ∙ ap (λ ys. any_misses_context scopes (expressions_view ys)) here
    ∙ ap (λ b. b || any_misses_context scopes (expressions_view rest)) none

pub item_misses_context-returns-then-misses_context : goal.item_misses_context-returns-then-misses_context
item_misses_context-returns-then-misses_context t c =
    let l = c.loop-item in
    let scopes = (construct_at (constructs c.args.tree.now) c.args.at).contexts in
    let xs = c.as_slice-item-items.result.now in
    let x = c.item-item.result in
    let rest = drop (l.item-index + 1) xs in
    let here : drop l.item-index xs ≡ x ∷ rest = drop_more xs l.item-index x (omega arith) ∙ ap (λ y. y ∷ rest) (sym c.item-item.is) in
    let some : misses_context scopes (view x) ≡ true = sym c.misses_context.ensures ∙ c.if-misses_context.true in
    sym (
    ap (λ ys. any_misses_context scopes (expressions_view ys)) (sym c.as_slice-item-items.ensures) ∙ l.invariant ∙ ap (λ ys. any_misses_context scopes (expressions_view ys)) here
    ∙ ap (λ b. b || any_misses_context scopes (expressions_view rest)) some
    )

pub item_misses_context-returns : goal.item_misses_context-returns
item_misses_context-returns t c =
    let l = c.loop-item in
    let scopes = (construct_at (constructs c.args.tree.now) c.args.at).contexts in
    let xs = c.as_slice-item-items.result.now in
    let none : drop l.item-index xs ≡ [] = drop_all l.item-index xs (omega arith) in
    sym (
    ap (λ ys. any_misses_context scopes (expressions_view ys)) (sym c.as_slice-item-items.ensures) ∙ l.invariant ∙ ap (λ ys. any_misses_context scopes (expressions_view ys)) none
    )

pub field_misses_context-loop-field-preserved : goal.field_misses_context-loop-field-preserved
field_misses_context-loop-field-preserved t c =
    let l = c.loop-field in
    let scopes = (construct_at (constructs c.args.tree.now) c.args.at).contexts in
    let xs = c.as_slice-field-items.result.now in
    let x = c.field-item.result in
    let rest = drop (l.field-index + 1) xs in
    let here : drop l.field-index xs ≡ x ∷ rest = drop_more xs l.field-index x (omega arith) ∙ ap (λ y. y ∷ rest) (sym c.field-item.is) in
    let none : misses_context scopes (view x.value) ≡ false = sym c.misses_context.ensures ∙ c.if-misses_context.false in
    l.invariant ∙ ap (λ fs. fields_miss_context scopes (fields_view fs)) here
    ∙ ap (λ p. misses_context scopes p.1 || fields_miss_context scopes (fields_view rest)) (seen_field x)
    ∙ ap (λ b. b || fields_miss_context scopes (fields_view rest)) none

pub field_misses_context-returns-then-misses_context : goal.field_misses_context-returns-then-misses_context
field_misses_context-returns-then-misses_context t c =
    let l = c.loop-field in
    let scopes = (construct_at (constructs c.args.tree.now) c.args.at).contexts in
    let xs = c.as_slice-field-items.result.now in
    let x = c.field-item.result in
    let rest = drop (l.field-index + 1) xs in
    let here : drop l.field-index xs ≡ x ∷ rest = drop_more xs l.field-index x (omega arith) ∙ ap (λ y. y ∷ rest) (sym c.field-item.is) in
    let some : misses_context scopes (view x.value) ≡ true = sym c.misses_context.ensures ∙ c.if-misses_context.true in
    sym (
    ap (λ ys. fields_miss_context scopes (fields_view ys)) (sym c.as_slice-field-items.ensures) ∙ l.invariant ∙ ap (λ fs. fields_miss_context scopes (fields_view fs)) here
    ∙ ap (λ p. misses_context scopes p.1 || fields_miss_context scopes (fields_view rest)) (seen_field x)
    ∙ ap (λ b. b || fields_miss_context scopes (fields_view rest)) some
    )

pub field_misses_context-returns : goal.field_misses_context-returns
field_misses_context-returns t c =
    let l = c.loop-field in
    let scopes = (construct_at (constructs c.args.tree.now) c.args.at).contexts in
    let xs = c.as_slice-field-items.result.now in
    let none : drop l.field-index xs ≡ [] = drop_all l.field-index xs (omega arith) in
    sym (
    ap (λ ys. fields_miss_context scopes (fields_view ys)) (sym c.as_slice-field-items.ensures) ∙ l.invariant ∙ ap (λ ys. fields_miss_context scopes (fields_view ys)) none
    )
