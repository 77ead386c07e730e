use Rattle.std.proofs.Common.{◌≡◌, ◌∷◌, ◌++◌, ◌+◌, [], drop, length, map, Box, Global, rules, sym, ap, subst, ◌∙◌, arith}
use Rattle.std.specs.Prelude.{OnOk}
use Rattle.std.proofs.lemmas.List.{append-nil, drop_all, drop_more}
use Rattle.serde_json.specs.View.{view as json_view}
use Rattle.cdk_base.specs.declared.text.Text.{Text}
use Rattle.cdk_language.specs.Condition as condition
use Rattle.cdk_language.specs.Condition.{view as condition_view, conditions_view}
use Rattle.cdk_language.specs.Expression.{view}
use Rattle.cdk_language.specs.declared.condition.Cond.{Cond, Equals, Named, Not, the_lemmas}
use Rattle.cdk_language.specs.declared.expression.Expr.{Expr}
use Rattle.cdk_tree.specs.TreeView.{constructs}
use Rattle.cdk_tokens.specs.TableView.{tokens_in}
use Rattle.cdk_contexts.specs.Expressions.{operands_of, operands_of_all}
use Rattle.cdk_tokens.specs.Whole.{marked_list, tokens_of_list}
use Rattle.cdk_tokens.proofs.ListLemmas.{marked_lists_then, tokens_of_lists_then, two_marked, two_tokens}
use Rattle.cdk_tokens.proofs.whole.+operands.Goals as goal

view-Equals : (x y : Expr) → condition_view (Equals x y) ≡ condition.equals (view x) (view y)
view-Equals x y = search (rules, the_lemmas)

view-Not : (x : Box Cond Global) → condition_view (Not x) ≡ condition.negated (condition_view x.value)
view-Not x = search (rules, the_lemmas)

view-Named : (t : Text) → condition_view (Named t) ≡ condition.named t
view-Named t = search (rules, the_lemmas)

pub push_each-loop-part-preserved : goal.push_each-loop-part-preserved
push_each-loop-part-preserved t c =
    let l = c.loop-part in
    let cs = constructs c.args.tree.now in
    let at = c.args.at in
    let xs = c.as_slice-part-items.result.now in
    let x = c.part-item.result in
    let old = tokens_in l.table in
    let new = tokens_in c.push_operands.new.table in
    let done = map json_view l.values.items in
    let now = map json_view c.push_operands.new.values.items in
    let own = operands_of (condition_view x) in
    let rest = operands_of_all (conditions_view (drop (l.part-index + 1) xs)) in
    let here : drop l.part-index xs ≡ x ∷ drop (l.part-index + 1) xs = drop_more xs l.part-index x (omega arith) ∙ ap (λ y. y ∷ drop (l.part-index + 1) xs) (sym c.part-item.is) in
    let more = c.in_ok-push_operands.ensures.tokens in (
      l.invariant.0 ∙ ap (λ ys. done ++ marked_list cs at (length old) (operands_of_all (conditions_view ys))) here
          ∙ marked_lists_then cs at own old new more done now rest c.in_ok-push_operands.ensures.value,
      l.invariant.1 ∙ ap (λ ys. old ++ tokens_of_list cs at (length old) (operands_of_all (conditions_view ys))) here
          ∙ tokens_of_lists_then cs at own old new more rest,
    )

pub push_each-returns-clause-value : goal.push_each-returns-clause-value
push_each-returns-clause-value t c =
    let l = c.loop-part in
    let cs = constructs c.args.tree.now in
    let at = c.args.at in
    let xs = c.as_slice-part-items.result.now in
    let old = tokens_in c.args.table.now in
    let new = tokens_in l.table in
    let before = map json_view c.args.values.now.items in
    let done = map json_view l.values.items in
    let none : drop l.part-index xs ≡ [] = drop_all l.part-index xs (omega arith) in
    sym (
    ap (λ ys. before ++ marked_list cs at (length old) (operands_of_all (conditions_view ys))) (sym c.as_slice-part-items.ensures)
    ∙ l.invariant.0 ∙ ap (λ ys. done ++ marked_list cs at (length new) (operands_of_all (conditions_view ys))) none ∙ append-nil done
    )

pub push_each-returns-clause-tokens : goal.push_each-returns-clause-tokens
push_each-returns-clause-tokens t c =
    let l = c.loop-part in
    let cs = constructs c.args.tree.now in
    let at = c.args.at in
    let xs = c.as_slice-part-items.result.now in
    let old = tokens_in c.args.table.now in
    let new = tokens_in l.table in
    let none : drop l.part-index xs ≡ [] = drop_all l.part-index xs (omega arith) in
    sym (
    ap (λ ys. old ++ tokens_of_list cs at (length old) (operands_of_all (conditions_view ys))) (sym c.as_slice-part-items.ensures)
    ∙ l.invariant.1 ∙ ap (λ ys. new ++ tokens_of_list cs at (length new) (operands_of_all (conditions_view ys))) none ∙ append-nil new
    )

pub push_operands-returns-in_ok-push_operand-in-Equals-2-clause-value : goal.push_operands-returns-in_ok-push_operand-in-Equals-2-clause-value
push_operands-returns-in_ok-push_operand-in-Equals-2-clause-value t c =
    let cs = constructs c.args.tree.now in
    let at = c.args.at in
    let old = tokens_in c.args.table.now in
    let done = map json_view c.args.values.now.items in
    let a = c.in-Equals in
    let first = c.in_ok-push_operand-in-Equals.ensures in
    let second = (c.in_ok-push_operand-in-Equals-2).ensures in
    two_marked cs at (view a.x) (view a.y) old (tokens_in c.push_operand.new.table) (tokens_in c.push_operand-in-Equals.new.table) first.tokens second.tokens
    done (map json_view c.push_operand.new.values.items) (map json_view c.push_operand-in-Equals.new.values.items) first.value second.value
    ∙ ap (λ o. done ++ marked_list cs at (length old) (operands_of o)) (sym (ap condition_view a.is ∙ view-Equals a.x a.y))

pub push_operands-returns-in_ok-push_operand-in-Equals-2-clause-tokens : goal.push_operands-returns-in_ok-push_operand-in-Equals-2-clause-tokens
push_operands-returns-in_ok-push_operand-in-Equals-2-clause-tokens t c =
    let cs = constructs c.args.tree.now in
    let at = c.args.at in
    let old = tokens_in c.args.table.now in
    let a = c.in-Equals in
    two_tokens cs at (view a.x) (view a.y) old (tokens_in c.push_operand.new.table) (tokens_in c.push_operand-in-Equals.new.table)
    c.in_ok-push_operand-in-Equals.ensures.tokens (c.in_ok-push_operand-in-Equals-2).ensures.tokens
    ∙ ap (λ o. old ++ tokens_of_list cs at (length old) (operands_of o)) (sym (ap condition_view a.is ∙ view-Equals a.x a.y))

pub push_operands-returns-in-Not : goal.push_operands-returns-in-Not
push_operands-returns-in-Not t c =
    let cs = constructs c.args.tree.now in
    let at = c.args.at in
    let old = tokens_in c.args.table.now in
    let done = map json_view c.args.values.now.items in
    let a = c.in-Not in
    let r = c.push_operands.result in
    let same : operands_of (condition_view c.deref.result.now) ≡ operands_of (condition_view c.args.c.now) =
    ap (λ x. operands_of (condition_view x)) c.deref.ensures ∙ sym (ap operands_of (ap condition_view a.is ∙ view-Not a.part)) in
    record {
      value = subst (λ es. OnOk r (map json_view c.push_operands.new.values.items ≡ done ++ marked_list cs at (length old) es)) same c.push_operands.ensures.value;
      tokens = subst (λ es. OnOk r (tokens_in c.push_operands.new.table ≡ old ++ tokens_of_list cs at (length old) es)) same c.push_operands.ensures.tokens;
    }

pub push_operands-returns-in-Named : goal.push_operands-returns-in-Named
push_operands-returns-in-Named t c =
    let cs = constructs c.args.tree.now in
    let at = c.args.at in
    let old = tokens_in c.args.table.now in
    let done = map json_view c.args.values.now.items in
    let a = c.in-Named in
    let none = sym (ap operands_of (ap condition_view a.is ∙ view-Named a.field-0)) in
    record {
      value = sym (append-nil done) ∙ ap (λ es. done ++ marked_list cs at (length old) es) none;
      tokens = sym (append-nil old) ∙ ap (λ es. old ++ tokens_of_list cs at (length old) es) none;
    }
