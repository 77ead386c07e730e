use Rattle.std.proofs.Common.{◌≡◌, ◌++◌, drop, length, map}
use Rattle.serde_json.specs.View.{view as json_view}
use Rattle.cdk_language.specs.Condition.{conditions_view}
use Rattle.cdk_tree.specs.TreeView.{constructs}
use Rattle.cdk_tokens.specs.TableView.{tokens_in}
use Rattle.cdk_contexts.specs.Expressions.{operands_of_all}
use Rattle.cdk_tokens.specs.Whole.{marked_list, tokens_of_list}
use Rattle.cdk_tokens.proofs.whole.+operands.Given as goal

abbrev pub invariant-push_each-loop-part : goal.invariant-push_each-loop-part
invariant-push_each-loop-part l =
    let cs = constructs l.tree in
    let old = tokens_in l.fn.table in
    let now = tokens_in l.table in
    let all = operands_of_all (conditions_view l.part-items) in
    let rest = operands_of_all (conditions_view (drop l.part-index l.part-items)) in
    (map json_view l.fn.values.items ++ marked_list cs l.at (length old) all ≡ map json_view l.values.items ++ marked_list cs l.at (length now) rest)
    × (old ++ tokens_of_list cs l.at (length old) all ≡ now ++ tokens_of_list cs l.at (length now) rest)
