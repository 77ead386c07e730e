use Rattle.std.proofs.Common.{arith}
use Rattle.cdk_value_measures.proofs.KeptMeasures.{kept_serves}
use Rattle.cdk_tokens.specs.TableView.{marked_in, tokens_in}
use Rattle.cdk_tree.specs.TreeView.{constructs}
use Rattle.cdk_value_measures.proofs.lazies.lazy_measures.Goals as goal

pub returns : goal.returns
returns c =
    let cs = constructs c.args.tree.now in
    let ts = tokens_in c.args.table.now in
    let ms = marked_in c.args.marked.now in
    let serves = kept_serves cs ts ms c.args.order.now c.requires in grind (arith, serves)
