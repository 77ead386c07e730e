use Rattle.cdk_premises.proofs.CleanTrees.{trees_are_clean}
use Rattle.cdk_premises.proofs.clean.trees_are_clean.Goals as goal

pub returns : goal.returns
returns c = trees_are_clean
