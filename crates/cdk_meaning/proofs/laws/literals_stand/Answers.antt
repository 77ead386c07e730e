use Rattle.cdk_meaning.proofs.Literals.{literals_stand_law}
use Rattle.cdk_meaning.proofs.laws.literals_stand.Goals as goal

pub returns : goal.returns
returns c = literals_stand_law
