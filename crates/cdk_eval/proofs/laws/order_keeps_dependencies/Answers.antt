use Rattle.cdk_eval.proofs.Order.{order_keeps}
use Rattle.cdk_eval.proofs.laws.order_keeps_dependencies.Goals as goal

pub returns : goal.returns
returns c = order_keeps
