use Rattle.cdk_eval.proofs.Order.{order_is_whole as whole}
use Rattle.cdk_eval.proofs.laws.order_is_whole.Goals as goal

pub returns : goal.returns
returns c = whole
