use Rattle.cdk_meaning.proofs.Report.{outputs_keep_meaning}
use Rattle.cdk_meaning.proofs.laws.outputs_keep_meaning.Goals as goal

pub returns : goal.returns
returns c = outputs_keep_meaning
