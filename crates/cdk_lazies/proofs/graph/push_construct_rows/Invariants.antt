use Rattle.std.proofs.Common.{◌≡◌, ◌++◌, drop}
use Rattle.cdk_graphs.specs.Graph.{graph_view}
use Rattle.cdk_tokens.specs.TableView.{marked_in, tokens_in}
use Rattle.cdk_tree.specs.TreeView.{constructs}
use Rattle.cdk_lazies.specs.MentionGraph.{construct_rows}
use Rattle.cdk_lazies.proofs.graph.push_construct_rows.Given as goal

abbrev pub invariant-loop-number : goal.invariant-loop-number
invariant-loop-number l =
    let cs = constructs l.tree in
    let ts = tokens_in l.table in
    let ms = marked_in l.marked in
    graph_view l.fn.rows.items ++ construct_rows cs ts ms 0 cs ≡ graph_view l.rows.items ++ construct_rows cs ts ms l.number (drop l.number cs)
