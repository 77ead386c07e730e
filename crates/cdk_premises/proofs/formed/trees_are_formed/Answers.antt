use Rattle.cdk_premises.proofs.FormedTrees.{trees_are_formed}
use Rattle.cdk_premises.proofs.formed.trees_are_formed.Goals as goal

pub returns : goal.returns
returns c = trees_are_formed
