use Rattle.cdk_local_homes.proofs.LocalRenders.{local_homes_render, local_homes_render_conditions}
use Rattle.cdk_local_homes.proofs.laws.local_homes_render.Goals as goal

pub returns-clause-values : goal.returns-clause-values
returns-clause-values c = local_homes_render

pub returns-clause-conditions : goal.returns-clause-conditions
returns-clause-conditions c = local_homes_render_conditions
