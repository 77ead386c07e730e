use Rattle.cdk_eval.proofs.Bound.{names_opened}
use Rattle.cdk_eval.proofs.laws.condition_names_are_opened.Goals as goal

pub returns : goal.returns
returns c = names_opened
