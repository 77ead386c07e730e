use Rattle.cdk_markers.proofs.CutLaws.{cuts_are_unique}
use Rattle.cdk_markers.proofs.laws.cuts_are_unique.Goals as goal

pub returns : goal.returns
returns c = cuts_are_unique
