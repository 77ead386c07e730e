use Rattle.std.proofs.Common.{sym, subst, List, ℕ}
use Rattle.cdk_graphs.specs.Graph.{graph_view}
use Rattle.cdk_graphs.specs.Walks.{IsEntered}
use Rattle.cdk_graphs.proofs.Walking.{begins}
use Rattle.cdk_graphs.proofs.search.find.Goals as goal

pub walk-init : goal.walk-init
walk-init c =
    let w = c.args.walk.now in
    let entered = subst (λ (row : List ℕ). IsEntered c.args.number row w c.enter.new.self) c.row_of.ensures c.in_ok-enter.ensures in
    begins (graph_view c.args.graph.now) w c.enter.new.self c.args.number c.requires.walk (sym c.in-New.ensures) entered
