use Rattle.cdk_premises.proofs.RenderedDepths.{rendered_fits, rendered_has_room}
use Rattle.cdk_premises.proofs.rendered.rendered_fits.Goals as goal

pub returns : goal.returns
returns c = record { levels = rendered_fits; room = rendered_has_room }
