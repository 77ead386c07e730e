use Rattle.cdk_premises.proofs.SuitedOrders.{lazy_orders_are_ready}
use Rattle.cdk_premises.proofs.suited.lazy_orders_are_ready.Goals as goal

pub returns : goal.returns
returns c = lazy_orders_are_ready
