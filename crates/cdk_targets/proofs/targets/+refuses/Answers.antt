use Rattle.std.proofs.Common.{◌≡◌, ◌∷◌, ◌+◌, drop, false, true, sym, ap, ◌∙◌, arith}
use Rattle.std.specs.Prelude.{◌||◌}
use Rattle.std.specs.List.{list_any}
use Rattle.std.proofs.lemmas.List.{drop_more}
use Rattle.std.proofs.lemmas.List.Folds.{list_any-append}
use Rattle.cdk_language.specs.Expression.{view, expressions_view}
use Rattle.cdk_tree.specs.Expected.{expected, expected_pieces, target, text_place}
use Rattle.cdk_targets.specs.Looks.{is_refused}
use Rattle.cdk_tree.specs.declared.role.TargetRole.TheVariants as roles
use Rattle.cdk_targets.proofs.RefusedLemmas.{view-If, view-FindInMap, choice_else, keys_then, keys_else}
use Rattle.cdk_targets.proofs.targets.+refuses.Goals as goal

pub refuses_piece-loop-piece-preserved : goal.refuses_piece-loop-piece-preserved
refuses_piece-loop-piece-preserved t c =
    let l = c.loop-piece in
    let xs = c.as_slice-piece-items.result.now in
    let x = c.piece-item.result in
    let p = is_refused c.args.tree.now c.args.look c.args.at in
    let here : drop l.piece-index xs ≡ x ∷ drop (l.piece-index + 1) xs = drop_more xs l.piece-index x (omega arith) ∙ ap (λ y. y ∷ drop (l.piece-index + 1) xs) (sym c.piece-item.is) in
    let rest = expected_pieces (expressions_view (drop (l.piece-index + 1) xs)) in
    let none : list_any p (text_place (view x) ∷ expected (view x)) ≡ false = sym c.if-refuses_text.ensures in
    l.invariant ∙ ap (λ ys. list_any p (expected_pieces (expressions_view ys))) here ∙ list_any-append p (text_place (view x) ∷ expected (view x)) rest ∙ ap (λ b. b || list_any p rest) none

pub refuses-returns-else-refuses : goal.refuses-returns-else-refuses
refuses-returns-else-refuses t c =
    let p = is_refused c.args.tree.now c.args.look c.args.at in
    let a = c.in-If in
    let seen = ap view a.is ∙ view-If a.path a.x a.y in
    let here : p (target roles.Condition a.path) ≡ false = ap (λ s. p (target roles.Condition s)) (sym c.as_str-in-If.ensures) ∙ sym c.if-refuses_target.ensures in
    let first : list_any p (expected (view a.x.value)) ≡ false = ap (λ e. list_any p (expected (view e))) (sym c.deref-in-If.ensures) ∙ sym c.if-refuses.ensures in
    c.refuses-in-If.ensures ∙ ap (λ e. list_any p (expected (view e))) c.deref-in-If-2.ensures
    ∙ sym (ap (λ v. list_any p (expected v)) seen ∙ choice_else p a.path (view a.x.value) (view a.y.value) here first)

pub refuses-returns-then-refuses_text : goal.refuses-returns-then-refuses_text
refuses-returns-then-refuses_text t c =
    let p = is_refused c.args.tree.now c.args.look c.args.at in
    let a = c.in-FindInMap in
    let seen = ap view a.is ∙ view-FindInMap a.path a.x a.y in
    let here : p (target roles.Mapping a.path) ≡ false = ap (λ s. p (target roles.Mapping s)) (sym c.as_str-in-FindInMap.ensures) ∙ sym c.if-refuses_target-2.ensures in
    let first : list_any p (text_place (view a.x.value) ∷ expected (view a.x.value)) ≡ true = ap (λ e. list_any p (text_place (view e) ∷ expected (view e))) (sym c.deref-in-FindInMap.ensures) ∙ sym c.if-refuses_text.ensures in
    sym (ap (λ v. list_any p (expected v)) seen ∙ keys_then p a.path (view a.x.value) (view a.y.value) here first)

pub refuses-returns-else-refuses_text : goal.refuses-returns-else-refuses_text
refuses-returns-else-refuses_text t c =
    let p = is_refused c.args.tree.now c.args.look c.args.at in
    let a = c.in-FindInMap in
    let seen = ap view a.is ∙ view-FindInMap a.path a.x a.y in
    let here : p (target roles.Mapping a.path) ≡ false = ap (λ s. p (target roles.Mapping s)) (sym c.as_str-in-FindInMap.ensures) ∙ sym c.if-refuses_target-2.ensures in
    let first : list_any p (text_place (view a.x.value) ∷ expected (view a.x.value)) ≡ false = ap (λ e. list_any p (text_place (view e) ∷ expected (view e))) (sym c.deref-in-FindInMap.ensures) ∙ sym c.if-refuses_text.ensures in
    c.refuses_text-in-FindInMap-2.ensures ∙ ap (λ e. list_any p (text_place (view e) ∷ expected (view e))) c.deref-in-FindInMap-2.ensures
    ∙ sym (ap (λ v. list_any p (expected v)) seen ∙ keys_else p a.path (view a.x.value) (view a.y.value) here first)
