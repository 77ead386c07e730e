use Rattle.cdk_expansion.proofs.Joined.{marking_keeps_forms}
use Rattle.cdk_expansion.proofs.laws.marking_keeps_forms.Goals as goal

pub returns : goal.returns
returns c = marking_keeps_forms
