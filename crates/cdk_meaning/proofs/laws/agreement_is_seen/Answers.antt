use Rattle.cdk_meaning.proofs.Collapse.{agreement_is_seen}
use Rattle.cdk_meaning.proofs.laws.agreement_is_seen.Goals as goal

pub returns : goal.returns
returns c = agreement_is_seen
