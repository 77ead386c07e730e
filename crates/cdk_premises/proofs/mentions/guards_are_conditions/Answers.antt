use Rattle.cdk_premises.proofs.GuardTargets.{guards_are_conditions}
use Rattle.cdk_premises.proofs.mentions.guards_are_conditions.Goals as goal

pub returns : goal.returns
returns c = guards_are_conditions
