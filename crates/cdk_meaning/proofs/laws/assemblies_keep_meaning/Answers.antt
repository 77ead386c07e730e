use Rattle.cdk_meaning.proofs.Assembly.{assemblies_keep_meaning}
use Rattle.cdk_meaning.proofs.laws.assemblies_keep_meaning.Goals as goal

pub returns : goal.returns
returns c = assemblies_keep_meaning
