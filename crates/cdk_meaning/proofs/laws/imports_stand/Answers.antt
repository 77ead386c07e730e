use Rattle.cdk_meaning.proofs.Assembly.{imports_stand}
use Rattle.cdk_meaning.proofs.laws.imports_stand.Goals as goal

pub returns : goal.returns
returns c = imports_stand
