use Rattle.cdk_graphs.proofs.OrderLaws.{orders_are_whole}
use Rattle.cdk_graphs.proofs.laws.orders_are_whole.Goals as goal

pub returns : goal.returns
returns c = orders_are_whole
