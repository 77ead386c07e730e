use Rattle.cdk_premises.proofs.FitConditions.{conditions_are_well}
use Rattle.cdk_premises.proofs.formed.conditions_are_well.Goals as goal

pub returns : goal.returns
returns c = conditions_are_well
