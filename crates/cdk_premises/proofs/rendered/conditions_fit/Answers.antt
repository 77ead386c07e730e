use Rattle.cdk_premises.proofs.RenderedDepths.{conditions_fit, conditions_have_room}
use Rattle.cdk_premises.proofs.rendered.conditions_fit.Goals as goal

pub returns : goal.returns
returns c = record { levels = conditions_fit; room = conditions_have_room }
