use Rattle.cdk_meaning.proofs.Canonical.{rendered_is_canonical}
use Rattle.cdk_meaning.proofs.laws.rendered_is_canonical.Goals as goal

pub returns : goal.returns
returns c = rendered_is_canonical
