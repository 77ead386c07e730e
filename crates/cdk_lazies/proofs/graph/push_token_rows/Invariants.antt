use Rattle.std.proofs.Common.{◌≡◌, ◌++◌, drop}
use Rattle.cdk_graphs.specs.Graph.{graph_view}
use Rattle.cdk_tokens.specs.TableView.{tokens_in}
use Rattle.cdk_tree.specs.TreeView.{constructs}
use Rattle.cdk_lazies.specs.MentionGraph.{token_rows}
use Rattle.cdk_lazies.proofs.graph.push_token_rows.Given as goal

abbrev pub invariant-loop-number : goal.invariant-loop-number
invariant-loop-number l =
    let cs = constructs l.tree in
    let ts = tokens_in l.table in
    graph_view l.fn.rows.items ++ token_rows cs ts ts ≡ graph_view l.rows.items ++ token_rows cs ts (drop l.number ts)
