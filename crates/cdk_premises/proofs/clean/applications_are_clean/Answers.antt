use Rattle.cdk_premises.proofs.CleanConstructs.{applications_are_clean}
use Rattle.cdk_premises.proofs.clean.applications_are_clean.Goals as goal

pub returns : goal.returns
returns c = applications_are_clean
