use Rattle.std.proofs.Common.{◌≡◌, ◌+◌, [], ◌∷◌, drop, sym, ap, ◌∙◌, arith}
use Rattle.std.proofs.lemmas.List.{drop_more, drop_all}
use Rattle.std.proofs.lemmas.Result.{IfOk-weaker}
use Rattle.serde_json.specs.View.{view, items_view}
use Rattle.serde_json.proofs.Views.{view-Array}
use Rattle.cdk_eval.specs.Conditions.{item_truths, part_truths, not_form, has_items, is_few}
use Rattle.cdk_eval.specs.Outcomes.{Holds}
use Rattle.cdk_eval.specs.Template.{outcome}
use Rattle.cdk_eval.specs.Views.{truth_view}
use Rattle.cdk_scopes.specs.Scopes.{scope_view, truth_in}
use Rattle.cdk_conditions.specs.Kept.{few_by, hold_by, both_by, form_truth}
use Rattle.cdk_conditions.proofs.Counts.{no_few, few_hold, both_end, both_fault, not_other}
use Rattle.cdk_conditions.proofs.Forms.{truth_of_junction, truth_of_not}
use Rattle.cdk_conditions.proofs.truth.+truth.Goals as goal

pub form_truth-returns-in-Some : goal.form_truth-returns-in-Some
form_truth-returns-in-Some t c =
    let op = outcome (scope_view c.args.scope.now) in
    let f = truth_in c.args.truths.now in
    let k = c.args.key.now in
    let d = view c.args.part.now in
    let is_all = c.in-Some.is_all in
    IfOk-weaker c.few_truth.result (λ t. truth_view t ≡ few_by is_all (part_truths op f d)) (λ t. truth_view t ≡ form_truth op f k d) (λ t h. h ∙ sym (truth_of_junction op f k d is_all c.in-Some.ensures)) c.few_truth.ensures

pub form_truth-returns-then-eq : goal.form_truth-returns-then-eq
form_truth-returns-then-eq t c =
    let op = outcome (scope_view c.args.scope.now) in
    let f = truth_in c.args.truths.now in
    let k = c.args.key.now in
    let d = view c.args.part.now in
    IfOk-weaker c.not_truth.result (λ t. truth_view t ≡ not_form (part_truths op f d)) (λ t. truth_view t ≡ form_truth op f k d) (λ t h. h ∙ sym (truth_of_not op f k d (sym c.if-eq.ensures))) c.not_truth.ensures

pub few_truth-returns-then-not-has_few : goal.few_truth-returns-then-not-has_few
few_truth-returns-then-not-has_few t c = no_few (outcome (scope_view c.args.scope.now)) (truth_in c.args.truths.now) c.args.is_all (view c.args.parts.now) (sym c.if-not-has_few.ensures)

pub few_truth-returns-in-Untold : goal.few_truth-returns-in-Untold
few_truth-returns-in-Untold t c =
    let l = c.loop-item in
    let op = outcome (scope_view c.args.scope.now) in
    let f = truth_in c.args.truths.now in
    let xs = c.deref-item-items.result.now in
    let x = c.item-item.result in
    let here : drop l.item-index xs ≡ x ∷ drop (l.item-index + 1) xs = drop_more xs l.item-index x (omega arith) ∙ ap (λ y. y ∷ drop (l.item-index + 1) xs) (sym c.item-item.is) in
    let opened = ap view c.in-Array.is ∙ view-Array c.in-Array.items in
    let few = sym (ap (has_items is_few) opened) ∙ sym c.if-not-has_few.ensures in
    sym (ap (λ d. few_by c.args.is_all (part_truths op f d)) opened ∙ few_hold op f c.args.is_all (items_view c.in-Array.items.items) few
    ∙ ap (λ ys. hold_by c.args.is_all (item_truths op f (items_view ys))) (sym c.deref-item-items.ensures.value) ∙ l.invariant
    ∙ ap (λ ys. both_by c.args.is_all (Holds l.holds) (hold_by c.args.is_all (item_truths op f (items_view ys)))) here
    ∙ both_fault c.args.is_all l.holds _ c.in-Untold.fault _ (sym c.in_ok-more.ensures ∙ ap truth_view c.in-Untold.is))

pub few_truth-returns : goal.few_truth-returns
few_truth-returns t c =
    let l = c.loop-item in
    let op = outcome (scope_view c.args.scope.now) in
    let f = truth_in c.args.truths.now in
    let xs = c.deref-item-items.result.now in
    let none : drop l.item-index xs ≡ [] = drop_all l.item-index xs (omega arith) in
    let opened = ap view c.in-Array.is ∙ view-Array c.in-Array.items in
    let few = sym (ap (has_items is_few) opened) ∙ sym c.if-not-has_few.ensures in
    sym (ap (λ d. few_by c.args.is_all (part_truths op f d)) opened ∙ few_hold op f c.args.is_all (items_view c.in-Array.items.items) few
    ∙ ap (λ ys. hold_by c.args.is_all (item_truths op f (items_view ys))) (sym c.deref-item-items.ensures.value) ∙ l.invariant
    ∙ ap (λ ys. both_by c.args.is_all (Holds l.holds) (hold_by c.args.is_all (item_truths op f (items_view ys)))) none ∙ both_end c.args.is_all l.holds)

pub not_truth-returns-in_default-one_of : goal.not_truth-returns-in_default-one_of
not_truth-returns-in_default-one_of t c =
    let op = outcome (scope_view c.args.scope.now) in
    let f = truth_in c.args.truths.now in
    not_other op f c.in-Array.items.items c.in_default-one_of.ensures ∙ sym (ap (λ d. not_form (part_truths op f d)) (ap view c.in-Array.is ∙ view-Array c.in-Array.items))
