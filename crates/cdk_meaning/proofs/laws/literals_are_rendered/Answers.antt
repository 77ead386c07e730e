use Rattle.cdk_meaning.proofs.Literals.{literals_are_rendered}
use Rattle.cdk_meaning.proofs.laws.literals_are_rendered.Goals as goal

pub returns : goal.returns
returns c = literals_are_rendered
