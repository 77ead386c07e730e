use Rattle.std.proofs.Common.{◌≡◌, ℕ, [], length}
use Rattle.cdk_graphs.specs.Graph.{graph_view, leads}
use Rattle.cdk_graphs.proofs.reverse.empty_rows.Given as goal

abbrev pub invariant-loop-row : goal.invariant-loop-row
invariant-loop-row l = record {
  size : length l.rows.items ≡ l._row;
  empty : (n : ℕ) → leads (graph_view l.rows.items) n ≡ [];
}
