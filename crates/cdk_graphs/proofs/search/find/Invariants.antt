use Rattle.std.proofs.Common.{ℕ}
use Rattle.cdk_graphs.specs.Graph.{graph_view}
use Rattle.cdk_graphs.specs.Marks.{IsMet}
use Rattle.cdk_graphs.specs.Walks.{IsWalk, steps_left}
use Rattle.cdk_graphs.proofs.search.find.Given as goal

abbrev pub invariant-walk : goal.invariant-walk
invariant-walk l = IsWalk (graph_view l.graph) l.walk × ((n : ℕ) → IsMet l.fn.walk.marks n → IsMet l.walk.marks n) × IsMet l.walk.marks l.number

abbrev pub decreases-walk : goal.decreases-walk
decreases-walk l = steps_left (graph_view l.graph) l.walk
