use Rattle.std.proofs.Common.{◌≡◌, ◌∷◌, ◌+◌, ◌||◌, [], true, false, drop, sym, ap, ◌∙◌, arith}
use Rattle.std.proofs.lemmas.List.{drop_all, drop_more}
use Rattle.cdk_language.specs.Expression.{expressions_view, fields_view, view}
use Rattle.cdk_tree.specs.Placed.{construct_at}
use Rattle.cdk_tree.specs.TreeView.{constructs}
use Rattle.cdk_contexts.specs.Contexts.{any_marked_run, fields_marked_run, has_marked_run}
use Rattle.cdk_contexts.proofs.Seen.{seen_field}
use Rattle.cdk_contexts.proofs.contexts.+marked.Goals as goal

pub any_marked_run-loop-item-preserved : goal.any_marked_run-loop-item-preserved
any_marked_run-loop-item-preserved t c =
    let l = c.loop-item in
    let scopes = (construct_at (constructs c.args.tree.now) c.args.at).contexts in
    let xs = c.as_slice-item-items.result.now in
    let x = c.item-item.result in
    let rest = drop (l.item-index + 1) xs in
    let here : drop l.item-index xs ≡ x ∷ rest = drop_more xs l.item-index x (omega arith) ∙ ap (λ y. y ∷ rest) (sym c.item-item.is) in
    let none : has_marked_run scopes (view x) ≡ false = sym c.in_ok-has_marked_run.ensures ∙ c.if-branch.false in
    l.invariant ∙ ap (λ ys. any_marked_run scopes (expressions_view ys)) here
    ∙ ap (λ b. b || any_marked_run scopes (expressions_view rest)) none

pub any_marked_run-returns-then-branch : goal.any_marked_run-returns-then-branch
any_marked_run-returns-then-branch t c =
    let l = c.loop-item in
    let scopes = (construct_at (constructs c.args.tree.now) c.args.at).contexts in
    let xs = c.as_slice-item-items.result.now in
    let x = c.item-item.result in
    let rest = drop (l.item-index + 1) xs in
    let here : drop l.item-index xs ≡ x ∷ rest = drop_more xs l.item-index x (omega arith) ∙ ap (λ y. y ∷ rest) (sym c.item-item.is) in
    let some : has_marked_run scopes (view x) ≡ true = sym c.in_ok-has_marked_run.ensures ∙ c.if-branch.true in
    sym (
    ap (λ ys. any_marked_run scopes (expressions_view ys)) (sym c.as_slice-item-items.ensures) ∙ l.invariant ∙ ap (λ ys. any_marked_run scopes (expressions_view ys)) here
    ∙ ap (λ b. b || any_marked_run scopes (expressions_view rest)) some
    )

pub any_marked_run-returns : goal.any_marked_run-returns
any_marked_run-returns t c =
    let l = c.loop-item in
    let scopes = (construct_at (constructs c.args.tree.now) c.args.at).contexts in
    let xs = c.as_slice-item-items.result.now in
    let none : drop l.item-index xs ≡ [] = drop_all l.item-index xs (omega arith) in
    sym (
    ap (λ ys. any_marked_run scopes (expressions_view ys)) (sym c.as_slice-item-items.ensures) ∙ l.invariant ∙ ap (λ ys. any_marked_run scopes (expressions_view ys)) none
    )

pub fields_marked_run-loop-field-preserved : goal.fields_marked_run-loop-field-preserved
fields_marked_run-loop-field-preserved t c =
    let l = c.loop-field in
    let scopes = (construct_at (constructs c.args.tree.now) c.args.at).contexts in
    let xs = c.as_slice-field-items.result.now in
    let x = c.field-item.result in
    let rest = drop (l.field-index + 1) xs in
    let here : drop l.field-index xs ≡ x ∷ rest = drop_more xs l.field-index x (omega arith) ∙ ap (λ y. y ∷ rest) (sym c.field-item.is) in
    let none : has_marked_run scopes (view x.value) ≡ false = sym c.in_ok-has_marked_run.ensures ∙ c.if-branch.false in
    l.invariant ∙ ap (λ fs. fields_marked_run scopes (fields_view fs)) here
    ∙ ap (λ p. has_marked_run scopes p.1 || fields_marked_run scopes (fields_view rest)) (seen_field x)
    ∙ ap (λ b. b || fields_marked_run scopes (fields_view rest)) none

pub fields_marked_run-returns-then-branch : goal.fields_marked_run-returns-then-branch
fields_marked_run-returns-then-branch t c =
    let l = c.loop-field in
    let scopes = (construct_at (constructs c.args.tree.now) c.args.at).contexts in
    let xs = c.as_slice-field-items.result.now in
    let x = c.field-item.result in
    let rest = drop (l.field-index + 1) xs in
    let here : drop l.field-index xs ≡ x ∷ rest = drop_more xs l.field-index x (omega arith) ∙ ap (λ y. y ∷ rest) (sym c.field-item.is) in
    let some : has_marked_run scopes (view x.value) ≡ true = sym c.in_ok-has_marked_run.ensures ∙ c.if-branch.true in
    sym (
    ap (λ ys. fields_marked_run scopes (fields_view ys)) (sym c.as_slice-field-items.ensures) ∙ l.invariant ∙ ap (λ fs. fields_marked_run scopes (fields_view fs)) here
    ∙ ap (λ p. has_marked_run scopes p.1 || fields_marked_run scopes (fields_view rest)) (seen_field x)
    ∙ ap (λ b. b || fields_marked_run scopes (fields_view rest)) some
    )

pub fields_marked_run-returns : goal.fields_marked_run-returns
fields_marked_run-returns t c =
    let l = c.loop-field in
    let scopes = (construct_at (constructs c.args.tree.now) c.args.at).contexts in
    let xs = c.as_slice-field-items.result.now in
    let none : drop l.field-index xs ≡ [] = drop_all l.field-index xs (omega arith) in
    sym (
    ap (λ ys. fields_marked_run scopes (fields_view ys)) (sym c.as_slice-field-items.ensures) ∙ l.invariant ∙ ap (λ ys. fields_marked_run scopes (fields_view ys)) none
    )
