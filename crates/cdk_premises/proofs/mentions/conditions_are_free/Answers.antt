use Rattle.cdk_premises.proofs.ConditionWays.{conditions_are_free}
use Rattle.cdk_premises.proofs.mentions.conditions_are_free.Goals as goal

pub returns : goal.returns
returns c = conditions_are_free c.loops_are_found.ensures
