use Rattle.cdk_eval.proofs.Order.{cycles_found}
use Rattle.cdk_eval.proofs.laws.cycles_are_found.Goals as goal

pub returns : goal.returns
returns c = cycles_found
