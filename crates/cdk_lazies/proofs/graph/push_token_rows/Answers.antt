use Rattle.std.proofs.Common.{◌∙◌}
use Rattle.cdk_tokens.specs.TableView.{tokens_in}
use Rattle.cdk_tokens.specs.Views.{token_view}
use Rattle.cdk_tree.specs.TreeView.{constructs}
use Rattle.cdk_lazies.proofs.Rows.{token_row_put}
use Rattle.cdk_lazies.proofs.graph.push_token_rows.Goals as goal

pub loop-number-preserved : goal.loop-number-preserved
loop-number-preserved c =
    let l = c.loop-number in
    let cs = constructs c.args.tree.now in
    let ts = tokens_in c.args.table.now in
    let token = token_view c.in-Some.token.now in
    l.invariant
    ∙ token_row_put cs ts ts l.number token l.rows.items c.in_ok-row.row c.push.new.self.items c.in-Some.ensures c.in_ok-row.ensures c.in_ok-push.ensures.items
