use Rattle.std.proofs.Common.{◌≡◌, ◌<◌, ap, ◌∙◌, length, arith}
use Rattle.std.specs.Prelude.{nat_lt}
use Rattle.cdk_tokens.specs.TableView.{marked_in, tokens_in}
use Rattle.cdk_tree.specs.Placed.{construct_at}
use Rattle.cdk_tree.specs.TreeView.{constructs}
use Rattle.cdk_lazies.specs.MentionGraph.{body_mentions}
use Rattle.cdk_lazies.proofs.Rows.{construct_row_put, same_number}
use Rattle.cdk_lazies.proofs.graph.push_construct_rows.Goals as goal

pub loop-number-preserved : goal.loop-number-preserved
loop-number-preserved c =
    let l = c.loop-number in
    let cs = constructs c.args.tree.now in
    let ts = tokens_in c.args.table.now in
    let ms = marked_in c.args.marked.now in
    let n = l.number in
    let within : n < length cs = omega (arith, c.len-number-end.ensures) in
    let at : c.in-Some.at ≡ n = same_number (nat_lt n (length cs)) n c.in-Some.at c.in-Some.ensures in
    l.invariant
    ∙ construct_row_put cs ts ms n l.rows.items c.in_ok-row.row c.push.new.self.items within
    (c.in_ok-row.ensures ∙ ap (λ k. body_mentions cs ts ms k (construct_at cs k).body) at) c.in_ok-push.ensures.items
