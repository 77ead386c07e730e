use Rattle.cdk_premises.proofs.FormedTrees.{trees_stay_formed}
use Rattle.cdk_premises.proofs.formed.trees_stay_formed.Goals as goal

pub returns : goal.returns
returns c = trees_stay_formed
