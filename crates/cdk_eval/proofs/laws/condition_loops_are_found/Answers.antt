use Rattle.cdk_eval.proofs.Bound.{loops_found}
use Rattle.cdk_eval.proofs.laws.condition_loops_are_found.Goals as goal

pub returns : goal.returns
returns c = loops_found
