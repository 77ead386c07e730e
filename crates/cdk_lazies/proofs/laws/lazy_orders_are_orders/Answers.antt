use Rattle.cdk_lazies.proofs.LawTargets.{lazy_orders_are_orders}
use Rattle.cdk_lazies.proofs.laws.lazy_orders_are_orders.Goals as goal

pub returns : goal.returns
returns c = lazy_orders_are_orders
