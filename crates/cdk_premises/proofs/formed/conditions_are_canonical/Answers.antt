use Rattle.cdk_premises.proofs.FitConditions.{conditions_are_canonical}
use Rattle.cdk_premises.proofs.formed.conditions_are_canonical.Goals as goal

pub returns : goal.returns
returns c = conditions_are_canonical
