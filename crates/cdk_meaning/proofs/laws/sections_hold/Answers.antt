use Rattle.cdk_meaning.proofs.Sections.{sections_hold}
use Rattle.cdk_meaning.proofs.laws.sections_hold.Goals as goal

pub returns : goal.returns
returns c = sections_hold
