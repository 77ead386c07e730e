use Rattle.cdk_premises.proofs.PlainApplications.{applications_are_rooted}
use Rattle.cdk_premises.proofs.mentions.applications_are_rooted.Goals as goal

pub returns : goal.returns
returns c = applications_are_rooted
