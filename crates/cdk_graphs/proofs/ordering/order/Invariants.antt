use Rattle.cdk_graphs.specs.Graph.{graph_view}
use Rattle.cdk_graphs.proofs.Placing.{Places}
use Rattle.cdk_graphs.proofs.ordering.order.Given as goal

abbrev pub invariant-placing : goal.invariant-placing
invariant-placing l = Places (graph_view l.graph) l._turn l.numbers.items l.queue
