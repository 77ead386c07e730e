use Rattle.cdk_pass_cases.proofs.MarkedTrees.{are_marked}
use Rattle.cdk_tree.specs.TreeView.{constructs}
use Rattle.cdk_pass_cases.proofs.checking.marks_of.Goals as goal

pub returns : goal.returns
returns c = are_marked c.mark.result (constructs c.args.tree.now) c.requires c.in_default.ensures c.mark.ensures
