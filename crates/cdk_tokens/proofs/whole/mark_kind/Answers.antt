use Rattle.std.proofs.Common.{◌≡◌, ◌++◌, length, sym, ap, subst}
use Rattle.std.specs.Prelude.{IfOk, OnOk}
use Rattle.cdk_language.specs.Construct.{kind_view}
use Rattle.cdk_tree.specs.TreeView.{constructs}
use Rattle.cdk_tokens.specs.TableView.{tokens_in}
use Rattle.cdk_tokens.specs.Views.{part_view}
use Rattle.cdk_contexts.specs.Expressions.{expressions_in}
use Rattle.cdk_tokens.specs.Whole.{marked_body, tokens_of_list}
use Rattle.cdk_tokens.proofs.whole.mark_kind.Goals as goal

pub returns-in-Resource : goal.returns-in-Resource
returns-in-Resource c =
    let cs = constructs c.args.tree.now in
    let at = c.args.at in
    let old = tokens_in c.args.table.now in
    let r = c.mark_value.result in
    let new = tokens_in c.mark_value.new.table in
    let same = ap kind_view (sym c.in-Resource.is) in
    record {
      value = subst (λ b. IfOk r (λ p. part_view p ≡ marked_body cs at (length old) b)) same c.mark_value.ensures.value;
      tokens = subst (λ b. OnOk r (new ≡ old ++ tokens_of_list cs at (length old) (expressions_in b))) same c.mark_value.ensures.tokens;
    }

pub returns-in-Output : goal.returns-in-Output
returns-in-Output c =
    let cs = constructs c.args.tree.now in
    let at = c.args.at in
    let old = tokens_in c.args.table.now in
    let r = c.mark_value-in-Output.result in
    let new = tokens_in c.mark_value-in-Output.new.table in
    let same = ap kind_view (sym c.in-Output.is) in
    record {
      value = subst (λ b. IfOk r (λ p. part_view p ≡ marked_body cs at (length old) b)) same c.mark_value-in-Output.ensures.value;
      tokens = subst (λ b. OnOk r (new ≡ old ++ tokens_of_list cs at (length old) (expressions_in b))) same c.mark_value-in-Output.ensures.tokens;
    }

pub returns-in-Lazy : goal.returns-in-Lazy
returns-in-Lazy c =
    let cs = constructs c.args.tree.now in
    let at = c.args.at in
    let old = tokens_in c.args.table.now in
    let r = c.mark_value-in-Lazy.result in
    let new = tokens_in c.mark_value-in-Lazy.new.table in
    let same = ap kind_view (sym c.in-Lazy.is) in
    record {
      value = subst (λ b. IfOk r (λ p. part_view p ≡ marked_body cs at (length old) b)) same c.mark_value-in-Lazy.ensures.value;
      tokens = subst (λ b. OnOk r (new ≡ old ++ tokens_of_list cs at (length old) (expressions_in b))) same c.mark_value-in-Lazy.ensures.tokens;
    }

pub returns-in-Condition : goal.returns-in-Condition
returns-in-Condition c =
    let cs = constructs c.args.tree.now in
    let at = c.args.at in
    let old = tokens_in c.args.table.now in
    let r = c.mark_operands.result in
    let new = tokens_in c.mark_operands.new.table in
    let same = ap kind_view (sym c.in-Condition.is) in
    record {
      value = subst (λ b. IfOk r (λ p. part_view p ≡ marked_body cs at (length old) b)) same c.mark_operands.ensures.value;
      tokens = subst (λ b. OnOk r (new ≡ old ++ tokens_of_list cs at (length old) (expressions_in b))) same c.mark_operands.ensures.tokens;
    }
