use Rattle.cdk_meaning.proofs.Lists.{cutting_undoes_joining}
use Rattle.cdk_meaning.proofs.laws.cutting_undoes_joining.Goals as goal

pub returns : goal.returns
returns c = cutting_undoes_joining
