use Rattle.cdk_expansion.proofs.FormWhole.{values_have_right_markers}
use Rattle.cdk_expansion.proofs.laws.values_have_right_markers.Goals as goal

pub returns : goal.returns
returns c = values_have_right_markers
