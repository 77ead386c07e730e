use Rattle.std.proofs.Common.{◌≡◌, [], ◌∷◌, ◌+◌, drop, option_map, sym, ap, ◌∙◌, arith}
use Rattle.std.proofs.lemmas.List.{drop_more, drop_all}
use Rattle.serde_json.specs.Data.{object, member, no_members}
use Rattle.serde_json.specs.View.{view as json_view, items_view, members_view}
use Rattle.serde_json.proofs.Views.{view-Array}
use Rattle.cdk_language.specs.Application.{condition_of, conditions_from, negated_of}
use Rattle.cdk_language.specs.Condition.{view}
use Rattle.cdk_members.proofs.Giving.{gives}
use Rattle.cdk_expressions.proofs.ConditionLemmas.{conditions_before, read_next_condition, all_conditions_read, no_negated}
use Rattle.cdk_expressions.proofs.FormLemmas.{no_condition}
use Rattle.cdk_expressions.proofs.conditions.+conditions.Goals as goal

pub conditions_from-loop-item-preserved : goal.conditions_from-loop-item-preserved
conditions_from-loop-item-preserved t c =
    let l = c.loop-item in
    let xs = c.deref-item-items.result.now in
    let x = c.item-item.result in
    let here : drop l.item-index xs ≡ x ∷ drop (l.item-index + 1) xs = drop_more xs l.item-index x (omega arith) ∙ ap (λ y. y ∷ drop (l.item-index + 1) xs) (sym c.item-item.is) in
    let rest = conditions_from (items_view (drop (l.item-index + 1) xs)) in
    let was = l.invariant ∙ ap (λ ys. option_map (conditions_before l.found) (conditions_from (items_view ys))) here in
    read_next_condition l.found c.in_ok-read_condition.field-0 (condition_of (json_view x)) rest _ was c.in_ok-read_condition.ensures ∙ ap (λ es. option_map (conditions_before es) rest) (sym c.in_ok-push.ensures.ok)

pub conditions_from-returns : goal.conditions_from-returns
conditions_from-returns t c =
    let l = c.loop-item in
    let xs = c.deref-item-items.result.now in
    let none : drop l.item-index xs ≡ [] = drop_all l.item-index xs (omega arith) in
    ap (λ ys. conditions_from (items_view ys)) (sym c.deref-item-items.ensures.value)
    ∙ all_conditions_read l.found _ (l.invariant ∙ ap (λ ys. option_map (conditions_before l.found) (conditions_from (items_view ys))) none)

pub negated_of-returns-in-None : goal.negated_of-returns-in-None
negated_of-returns-in-None t c =
    ap negated_of (ap json_view c.in-Array.is ∙ view-Array c.in-Array.items) ∙ no_negated c.in-Array.items.items c.in-None.ensures

pub form_of-returns-in-None : goal.form_of-returns-in-None
form_of-returns-in-None t c = no_condition c.args.members.now.entries c.in-None.ensures

pub form_of-returns-in-Some : goal.form_of-returns-in-Some
form_of-returns-in-Some t c =
    let d = json_view c.in-Some.member.now in
    gives view _ _ _ c.form_with.ensures (ap (λ es. condition_of (object (members_view es))) c.in-Some.ensures ∙ ap (λ k. condition_of (object (member k d no_members))) (sym c.as_str.ensures.value))
