use Rattle.cdk_premises.proofs.CleanTrees.{trees_stay_clean}
use Rattle.cdk_premises.proofs.clean.trees_stay_clean.Goals as goal

pub returns : goal.returns
returns c = trees_stay_clean
