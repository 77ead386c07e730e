use Rattle.std.proofs.Common.{◌≡◌, drop}
use Rattle.std.specs.List.{list_any}
use Rattle.cdk_language.specs.Condition.{conditions_view}
use Rattle.cdk_tree.specs.Placed.{construct_at}
use Rattle.cdk_tree.specs.TreeView.{constructs}
use Rattle.cdk_contexts.specs.Scanning.{has_flaw}
use Rattle.cdk_contexts.specs.Expressions.{operands_of_all}
use Rattle.cdk_contexts.proofs.contexts.+conditions.Given as goal

abbrev pub invariant-part_has_flaw-loop-part : goal.invariant-part_has_flaw-loop-part
invariant-part_has_flaw-loop-part l =
    let p = has_flaw l.flaw (construct_at (constructs l.tree) l.at).contexts in
    list_any p (operands_of_all (conditions_view l.part-items)) ≡ list_any p (operands_of_all (conditions_view (drop l.part-index l.part-items)))
