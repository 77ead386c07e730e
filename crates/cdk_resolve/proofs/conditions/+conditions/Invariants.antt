use Rattle.std.proofs.Common.{◌≡◌, ◌≤◌, ◌+◌, ℕ, drop, length}
use Rattle.serde_json.specs.View.{items_view}
use Rattle.cdk_expansion.specs.Conditions.{conditions_plain, operand_plain}
use Rattle.cdk_keeping.specs.Keeping.{IsSettled}
use Rattle.cdk_language.specs.Condition.{conditions_view}
use Rattle.cdk_leaves.specs.Kept.{results_in}
use Rattle.cdk_leaves.specs.Lazies.{Stays}
use Rattle.cdk_leaves.specs.Views.{scope_view}
use Rattle.cdk_plain.specs.Rendered.{and_items, rendered_conditions}
use Rattle.cdk_contexts.specs.Expressions.{operands_of_all}
use Rattle.cdk_tree.specs.TreeView.{constructs}
use Rattle.cdk_resolve.proofs.conditions.+conditions.Given as goal

abbrev pub invariant-parts_json-loop-part : goal.invariant-parts_json-loop-part
invariant-parts_json-loop-part l =
    let s = scope_view l.scope in
    let cs = constructs l.tree in
    let rest = conditions_view (drop l.part-index l.part-items) in record {
      same : (k : ℕ) → length s.order ≤ k → rendered_conditions s.homes (conditions_plain cs (operand_plain k s.tokens s.bodies l.at) l.fn.next (conditions_view l.part-items))
          ≡ and_items (items_view l.values.items) (rendered_conditions s.homes (conditions_plain cs (operand_plain k s.tokens s.bodies l.at) l.next rest));
      counted : l.fn.next + length (operands_of_all (conditions_view l.part-items)) ≡ l.next + length (operands_of_all rest);
      stays : Stays (results_in l.fn.kept) (results_in l.kept);
      settled : IsSettled s (results_in l.kept);
    }
