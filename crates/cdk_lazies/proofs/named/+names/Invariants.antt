use Rattle.std.proofs.Common.{◌≡◌, ◌++◌, drop}
use Rattle.cdk_language.specs.Condition.{conditions_view}
use Rattle.cdk_tokens.specs.TableView.{tokens_in}
use Rattle.cdk_tree.specs.TreeView.{constructs}
use Rattle.cdk_lazies.specs.MentionGraph.{conditions_by, names_in_all}
use Rattle.cdk_lazies.proofs.named.+names.Given as goal

abbrev pub invariant-push_part_names-loop-part : goal.invariant-push_part_names-loop-part
invariant-push_part_names-loop-part l =
    let cs = constructs l.tree in
    let ts = tokens_in l.table in
    l.fn.numbers.items ++ conditions_by cs ts (names_in_all (conditions_view l.part-items)) ≡ l.numbers.items ++ conditions_by cs ts (names_in_all (conditions_view (drop l.part-index l.part-items)))
