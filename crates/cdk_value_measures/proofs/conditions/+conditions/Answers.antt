use Rattle.std.proofs.Common.{refl, sym, ap, ◌∙◌}
use Rattle.cdk_expansion.specs.Conditions.{conditions_plain, operand_plain}
use Rattle.cdk_language.specs.Condition.{conditions_view}
use Rattle.cdk_value_measures.proofs.Running.{conditions_after, conditions_running}
use Rattle.cdk_value_measures.specs.Constructs.{lazy_count, path_in}
use Rattle.cdk_tokens.specs.TableView.{marked_in, tokens_in}
use Rattle.cdk_tree.specs.TreeView.{constructs}
use Rattle.cdk_value_measures.proofs.conditions.+conditions.Goals as goal

pub parts_measures-loop-part-init : goal.parts_measures-loop-part-init
parts_measures-loop-part-init t c =
    let cs = constructs c.args.tree.now in
    let operand = operand_plain (lazy_count cs) (tokens_in c.args.table.now) (marked_in c.args.marked.now) c.args.at in
    let plains = conditions_plain cs operand c.args.next.now (conditions_view c.as_slice-part-items.result.now) in
    record { same = conditions_running (path_in cs) plains ∙ ap (λ ps. conditions_after (path_in cs) ps plains) (sym c.none-sum.ensures); counted = refl }
