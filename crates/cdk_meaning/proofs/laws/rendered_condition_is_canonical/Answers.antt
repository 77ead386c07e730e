use Rattle.cdk_meaning.proofs.Canonical.{rendered_condition_is_canonical}
use Rattle.cdk_meaning.proofs.laws.rendered_condition_is_canonical.Goals as goal

pub returns : goal.returns
returns c = rendered_condition_is_canonical
