use Rattle.cdk_meaning.proofs.Conditions.{conditions_kept}
use Rattle.cdk_meaning.proofs.laws.conditions_keep_truth.Goals as goal

pub returns : goal.returns
returns c = conditions_kept
