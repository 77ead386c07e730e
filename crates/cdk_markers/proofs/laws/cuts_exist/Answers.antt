use Rattle.cdk_markers.proofs.CutLaws.{cuts_exist}
use Rattle.cdk_markers.proofs.laws.cuts_exist.Goals as goal

pub returns : goal.returns
returns c = cuts_exist
