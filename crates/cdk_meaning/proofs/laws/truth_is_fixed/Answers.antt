use Rattle.cdk_meaning.proofs.Conditions.{truth_is_fixed}
use Rattle.cdk_meaning.proofs.laws.truth_is_fixed.Goals as goal

pub returns : goal.returns
returns c = truth_is_fixed
