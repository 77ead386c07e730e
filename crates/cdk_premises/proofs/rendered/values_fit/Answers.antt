use Rattle.cdk_premises.proofs.CheckedDepths.{values_fit}
use Rattle.cdk_premises.proofs.rendered.values_fit.Goals as goal

pub returns : goal.returns
returns c = values_fit c.loops_are_found.ensures
