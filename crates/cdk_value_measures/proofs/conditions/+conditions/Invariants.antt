use Rattle.std.proofs.Common.{◌≡◌, ◌+◌, drop, length}
use Rattle.cdk_expansion.specs.Conditions.{conditions_plain, operand_plain}
use Rattle.cdk_language.specs.Condition.{conditions_view}
use Rattle.cdk_value_measures.proofs.Running.{conditions_after}
use Rattle.cdk_value_measures.specs.Measures.{conditions_parts}
use Rattle.cdk_value_measures.specs.Constructs.{lazy_count, path_in}
use Rattle.cdk_tokens.specs.TableView.{marked_in, tokens_in}
use Rattle.cdk_contexts.specs.Expressions.{operands_of_all}
use Rattle.cdk_tree.specs.TreeView.{constructs}
use Rattle.cdk_value_measures.proofs.conditions.+conditions.Given as goal

abbrev pub invariant-parts_measures-loop-part : goal.invariant-parts_measures-loop-part
invariant-parts_measures-loop-part l =
    let cs = constructs l.tree in
    let operand = operand_plain (lazy_count cs) (tokens_in l.table) (marked_in l.marked) l.at in
    let rest = conditions_view (drop l.part-index l.part-items) in record {
      same : conditions_parts (path_in cs) (conditions_plain cs operand l.fn.next (conditions_view l.part-items)) ≡ conditions_after (path_in cs) l.sum (conditions_plain cs operand l.next rest);
      counted : l.fn.next + length (operands_of_all (conditions_view l.part-items)) ≡ l.next + length (operands_of_all rest);
    }
