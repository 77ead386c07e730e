use Rattle.std.proofs.Common.{◌≡◌, ◌+◌, List, [], ◌∷◌, codes, drop, length, rules, sym, ap, ◌∙◌, length-append, arith}
use Rattle.std.proofs.lemmas.List.{drop_all, drop_more}
use Rattle.serde_json.specs.Data.{array}
use Rattle.serde_json.specs.View.{items_view}
use Rattle.cdk_expansion.specs.Conditions.{condition_plain, conditions_plain, operand_plain}
use Rattle.cdk_keeping.proofs.MoreKept.{stays_further}
use Rattle.cdk_keeping.proofs.OnlyLazy.{if_ok}
use Rattle.cdk_language.specs.Condition as condition
use Rattle.cdk_language.specs.Condition.{conditions_view, view as condition_view}
use Rattle.cdk_language.specs.Expression.{view}
use Rattle.cdk_language.specs.declared.condition.Cond.{And, Cond, Equals, Or, the_lemmas}
use Rattle.cdk_language.specs.declared.expression.Expr.{Expr}
use Rattle.cdk_leaves.specs.Kept.{results_in}
use Rattle.cdk_leaves.specs.Views.{scope_view}
use Rattle.cdk_plain.specs.Rendered.{and_items, one, rendered_condition, rendered_conditions}
use Rattle.cdk_resolve.proofs.PartsLaid.{condition_counted, condition_laid, none_more, part_laid}
use Rattle.cdk_contexts.specs.Expressions.{operands_of, operands_of_all}
use Rattle.cdk_tree.specs.TreeView.{constructs}
use Rattle.cdk_resolve.proofs.conditions.+conditions.Goals as goal

view-Equals : (x y : Expr) → condition_view (Equals x y) ≡ condition.equals (view x) (view y)
view-Equals x y = search (rules, the_lemmas)

view-And : (cs : List Cond) → condition_view (And cs) ≡ condition.all_of (conditions_view cs)
view-And cs = search (rules, the_lemmas)

view-Or : (cs : List Cond) → condition_view (Or cs) ≡ condition.any_of (conditions_view cs)
view-Or cs = search (rules, the_lemmas)

pub part_json-returns-in-Equals-clause-value : goal.part_json-returns-in-Equals-clause-value
part_json-returns-in-Equals-clause-value t c =
    let s = scope_view c.args.scope.now in
    let is = ap condition_view c.in-Equals.is ∙ view-Equals c.in-Equals.field-0 c.in-Equals.field-1 in
    if_ok c.equals_json.result
    (λ v h k enough. h k enough ∙ ap (λ d. rendered_condition s.homes (condition_plain (constructs c.args.tree.now) (operand_plain k s.tokens s.bodies c.args.at) c.args.next.now d)) (sym is))
    c.equals_json.ensures.value

pub part_json-returns-in_ok-parts-in-And-clause-value : goal.part_json-returns-in_ok-parts-in-And-clause-value
part_json-returns-in_ok-parts-in-And-clause-value t c =
    let s = scope_view c.args.scope.now in
    condition_laid s.homes (constructs c.args.tree.now) (λ k. operand_plain k s.tokens s.bodies c.args.at) c.args.next.now (length s.order) c.all_of.result
    (one (codes "Fn::And") (array (items_view c.in_ok-parts-in-And.parts.items)))
    (condition_view c.args.part.now) _ (ap condition_view c.in-And.is ∙ view-And c.in-And.parts)
    (λ k enough. ap (λ ds. one (codes "Fn::And") (array ds)) (c.in_ok-parts-in-And.ensures.value k enough))
    c.all_of.ensures

pub part_json-returns-in_ok-parts-in-And-clause-counted : goal.part_json-returns-in_ok-parts-in-And-clause-counted
part_json-returns-in_ok-parts-in-And-clause-counted t c =
    condition_counted c.all_of.result c.args.next.now c.parts_json.new.next (condition_view c.args.part.now) _ (ap condition_view c.in-And.is ∙ view-And c.in-And.parts) c.in_ok-parts-in-And.ensures.counted

pub part_json-returns-in_ok-parts-in-Or-clause-value : goal.part_json-returns-in_ok-parts-in-Or-clause-value
part_json-returns-in_ok-parts-in-Or-clause-value t c =
    let s = scope_view c.args.scope.now in
    condition_laid s.homes (constructs c.args.tree.now) (λ k. operand_plain k s.tokens s.bodies c.args.at) c.args.next.now (length s.order) c.any_of.result
    (one (codes "Fn::Or") (array (items_view c.in_ok-parts-in-Or.parts.items)))
    (condition_view c.args.part.now) _ (ap condition_view c.in-Or.is ∙ view-Or c.in-Or.parts)
    (λ k enough. ap (λ ds. one (codes "Fn::Or") (array ds)) (c.in_ok-parts-in-Or.ensures.value k enough))
    c.any_of.ensures

pub part_json-returns-in_ok-parts-in-Or-clause-counted : goal.part_json-returns-in_ok-parts-in-Or-clause-counted
part_json-returns-in_ok-parts-in-Or-clause-counted t c =
    condition_counted c.any_of.result c.args.next.now c.parts_json-in-Or.new.next (condition_view c.args.part.now) _ (ap condition_view c.in-Or.is ∙ view-Or c.in-Or.parts) c.in_ok-parts-in-Or.ensures.counted

pub parts_json-returns-in_err-value-clause-stays : goal.parts_json-returns-in_err-value-clause-stays
parts_json-returns-in_err-value-clause-stays t c = stays_further (results_in c.args.kept.now) (results_in c.loop-part.kept) (results_in c.part_json.new.kept) c.loop-part.invariant.stays c.part_json.ensures.stays

pub parts_json-returns-in_err-push-clause-stays : goal.parts_json-returns-in_err-push-clause-stays
parts_json-returns-in_err-push-clause-stays t c = stays_further (results_in c.args.kept.now) (results_in c.loop-part.kept) (results_in c.part_json.new.kept) c.loop-part.invariant.stays c.part_json.ensures.stays

pub parts_json-loop-part-preserved : goal.parts_json-loop-part-preserved
parts_json-loop-part-preserved t c =
    let s = scope_view c.args.scope.now in
    let cs = constructs c.args.tree.now in
    let l = c.loop-part in
    let xs = c.as_slice-part-items.result.now in
    let x = c.part-item.result in
    let here : drop l.part-index xs ≡ x ∷ drop (l.part-index + 1) xs = drop_more xs l.part-index x (omega arith) ∙ ap (λ y. y ∷ drop (l.part-index + 1) xs) (sym c.part-item.is) in
    let rest = conditions_view (drop (l.part-index + 1) xs) in
    let counted = ap (λ ys. length (operands_of_all (conditions_view ys))) here in
    let split = length-append (operands_of (condition_view x)) (operands_of_all rest) in
    let next = c.in_ok-value.ensures.counted in
    record {
      same = λ k enough.
          l.invariant.same k enough
          ∙ (ap (λ ys. and_items (items_view l.values.items) (rendered_conditions s.homes (conditions_plain cs (operand_plain k s.tokens s.bodies c.args.at) l.next (conditions_view ys)))) here
          ∙ part_laid s.homes cs (operand_plain k s.tokens s.bodies c.args.at) l.next c.part_json.new.next (condition_view x) rest l.values.items c.push.new.self.items c.in_ok-value.value
          (c.in_ok-value.ensures.value k enough) c.in_ok-push.ensures.items next);
      counted = omega (arith, l.invariant.counted, counted, split, next);
      stays = stays_further (results_in c.args.kept.now) (results_in l.kept) (results_in c.part_json.new.kept) l.invariant.stays c.part_json.ensures.stays;
      settled = c.part_json.ensures.settled;
    }

pub parts_json-returns-clause-value : goal.parts_json-returns-clause-value
parts_json-returns-clause-value t c =
    let s = scope_view c.args.scope.now in
    let cs = constructs c.args.tree.now in
    let l = c.loop-part in
    let xs = c.as_slice-part-items.result.now in
    let none : drop l.part-index xs ≡ [] = drop_all l.part-index xs (omega arith) in
    λ k enough.
    sym (ap (λ ys. rendered_conditions s.homes (conditions_plain cs (operand_plain k s.tokens s.bodies c.args.at) c.args.next.now (conditions_view ys))) (sym c.as_slice-part-items.ensures)
    ∙ (l.invariant.same k enough
    ∙ (ap (λ ys. and_items (items_view l.values.items) (rendered_conditions s.homes (conditions_plain cs (operand_plain k s.tokens s.bodies c.args.at) l.next (conditions_view ys)))) none
    ∙ none_more (items_view l.values.items))))
