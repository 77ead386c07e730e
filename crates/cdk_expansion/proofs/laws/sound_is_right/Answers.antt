use Rattle.cdk_expansion.proofs.SoundLaw.{sound_is_right}
use Rattle.cdk_expansion.proofs.laws.sound_is_right.Goals as goal

pub returns : goal.returns
returns c = sound_is_right
