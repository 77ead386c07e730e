use Rattle.std.proofs.Common.{◌≡◌, ◌∷◌, ◌++◌, ◌+◌, ◌||◌, [], List, Bool, true, false, drop, sym, ap, ◌∙◌, arith}
use Rattle.std.specs.List.{list_any}
use Rattle.std.proofs.lemmas.Grind.{common_steps}
use Rattle.std.proofs.lemmas.List.{drop_all, drop_more}
use Rattle.cdk_language.specs.Condition.{view, conditions_view}
use Rattle.cdk_language.specs.Expression.{Expression}
use Rattle.cdk_tree.specs.Placed.{construct_at}
use Rattle.cdk_tree.specs.TreeView.{constructs}
use Rattle.cdk_contexts.specs.Scanning.{has_flaw}
use Rattle.cdk_contexts.specs.Expressions.{operands_of, operands_of_all}
use Rattle.cdk_contexts.proofs.contexts.+conditions.Goals as goal

any_of_both : (p : Expression → Bool) (xs ys : List Expression) → list_any p (xs ++ ys) ≡ (list_any p xs || list_any p ys)
any_of_both p xs ys = grind (arith, common_steps)

pub part_has_flaw-loop-part-preserved : goal.part_has_flaw-loop-part-preserved
part_has_flaw-loop-part-preserved t c =
    let l = c.loop-part in
    let p = has_flaw c.args.flaw (construct_at (constructs c.args.tree.now) c.args.at).contexts in
    let xs = c.as_slice-part-items.result.now in
    let x = c.part-item.result in
    let rest = drop (l.part-index + 1) xs in
    let here : drop l.part-index xs ≡ x ∷ rest = drop_more xs l.part-index x (omega arith) ∙ ap (λ y. y ∷ rest) (sym c.part-item.is) in
    let none : list_any p (operands_of (view x)) ≡ false = sym c.in_ok-condition_has_flaw.ensures ∙ c.if-branch.false in
    l.invariant ∙ ap (λ ys. list_any p (operands_of_all (conditions_view ys))) here
    ∙ any_of_both p (operands_of (view x)) (operands_of_all (conditions_view rest))
    ∙ ap (λ b. b || list_any p (operands_of_all (conditions_view rest))) none

pub part_has_flaw-returns-then-branch : goal.part_has_flaw-returns-then-branch
part_has_flaw-returns-then-branch t c =
    let l = c.loop-part in
    let p = has_flaw c.args.flaw (construct_at (constructs c.args.tree.now) c.args.at).contexts in
    let xs = c.as_slice-part-items.result.now in
    let x = c.part-item.result in
    let rest = drop (l.part-index + 1) xs in
    let here : drop l.part-index xs ≡ x ∷ rest = drop_more xs l.part-index x (omega arith) ∙ ap (λ y. y ∷ rest) (sym c.part-item.is) in
    let some : list_any p (operands_of (view x)) ≡ true = sym c.in_ok-condition_has_flaw.ensures ∙ c.if-branch.true in
    sym (
    ap (λ ys. list_any p (operands_of_all (conditions_view ys))) (sym c.as_slice-part-items.ensures) ∙ l.invariant
    ∙ ap (λ ys. list_any p (operands_of_all (conditions_view ys))) here
    ∙ any_of_both p (operands_of (view x)) (operands_of_all (conditions_view rest))
    ∙ ap (λ b. b || list_any p (operands_of_all (conditions_view rest))) some
    )

pub part_has_flaw-returns : goal.part_has_flaw-returns
part_has_flaw-returns t c =
    let l = c.loop-part in
    let p = has_flaw c.args.flaw (construct_at (constructs c.args.tree.now) c.args.at).contexts in
    let xs = c.as_slice-part-items.result.now in
    let none : drop l.part-index xs ≡ [] = drop_all l.part-index xs (omega arith) in
    sym (
    ap (λ ys. list_any p (operands_of_all (conditions_view ys))) (sym c.as_slice-part-items.ensures) ∙ l.invariant
    ∙ ap (λ ys. list_any p (operands_of_all (conditions_view ys))) none
    )
