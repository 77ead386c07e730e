use Rattle.cdk_meaning.proofs.Report.{resources_keep_meaning}
use Rattle.cdk_meaning.proofs.laws.resources_keep_meaning.Goals as goal

pub returns : goal.returns
returns c = resources_keep_meaning
