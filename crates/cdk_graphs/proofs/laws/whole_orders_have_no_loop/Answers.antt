use Rattle.cdk_graphs.proofs.OrderLaws.{whole_orders_have_no_loop}
use Rattle.cdk_graphs.proofs.laws.whole_orders_have_no_loop.Goals as goal

pub returns : goal.returns
returns c = whole_orders_have_no_loop
