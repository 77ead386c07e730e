use Rattle.cdk_eval.proofs.Bound.{bound_suffices}
use Rattle.cdk_eval.proofs.laws.condition_bound_suffices.Goals as goal

pub returns : goal.returns
returns c = bound_suffices
