use Rattle.cdk_premises.proofs.ConditionNames.{conditions_are_closed}
use Rattle.cdk_premises.proofs.mentions.conditions_are_closed.Goals as goal

pub returns : goal.returns
returns c = conditions_are_closed
