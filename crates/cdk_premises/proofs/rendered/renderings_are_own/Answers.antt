use Rattle.cdk_premises.proofs.Renderings.{renderings_are_own}
use Rattle.cdk_premises.proofs.rendered.renderings_are_own.Goals as goal

pub returns : goal.returns
returns c = renderings_are_own c.loops_are_found.ensures
