use Rattle.cdk_premises.proofs.Renderings.{condition_renderings_are_own}
use Rattle.cdk_premises.proofs.rendered.condition_renderings_are_own.Goals as goal

pub returns : goal.returns
returns c = condition_renderings_are_own c.loops_are_found.ensures
