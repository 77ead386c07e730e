use Rattle.std.proofs.Common.{ℕ, ◌<◌}
use Rattle.cdk_graphs.specs.Graph.{graph_view}
use Rattle.cdk_graphs.specs.Marks.{IsMet}
use Rattle.cdk_graphs.specs.Walks.{IsResting}
use Rattle.cdk_graphs.proofs.search.loops.Given as goal

abbrev pub invariant-loop-number : goal.invariant-loop-number
invariant-loop-number l = IsResting (graph_view l.graph) l.walk × ((n : ℕ) → n < l.number → IsMet l.walk.marks n)
