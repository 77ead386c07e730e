use Rattle.cdk_expansion.proofs.FormWhole.{operands_have_right_markers}
use Rattle.cdk_expansion.proofs.laws.operands_have_right_markers.Goals as goal

pub returns : goal.returns
returns c = operands_have_right_markers
