use Rattle.cdk_premises.proofs.FormedConstructs.{applications_are_formed}
use Rattle.cdk_premises.proofs.formed.applications_are_formed.Goals as goal

pub returns : goal.returns
returns c = applications_are_formed
