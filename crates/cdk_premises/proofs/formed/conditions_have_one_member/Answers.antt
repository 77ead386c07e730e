use Rattle.cdk_premises.proofs.FitConditions.{conditions_have_one_member}
use Rattle.cdk_premises.proofs.formed.conditions_have_one_member.Goals as goal

pub returns : goal.returns
returns c = conditions_have_one_member
