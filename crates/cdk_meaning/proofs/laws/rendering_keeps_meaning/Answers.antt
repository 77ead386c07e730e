use Rattle.cdk_meaning.proofs.Kept.{rendering_kept}
use Rattle.cdk_meaning.proofs.laws.rendering_keeps_meaning.Goals as goal

pub returns : goal.returns
returns c = rendering_kept
