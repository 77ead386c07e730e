use Rattle.std.proofs.Common.{◌≡◌, ℕ, length}
use Rattle.std.specs.Prelude.{nat_lt, if◌then◌else◌}
use Rattle.cdk_graphs.specs.Graph.{graph_view, leads}
use Rattle.cdk_graphs.specs.Queued.{occurrences}
use Rattle.cdk_graphs.proofs.reverse.reversed.Given as goal

-- the leads of the numbers before are turned round
abbrev pub invariant-loop-number : goal.invariant-loop-number
invariant-loop-number l = record {
  size : length l.rows.items ≡ length l.graph;
  counted : (n k : ℕ) → occurrences k (leads (graph_view l.rows.items) n) ≡ (if nat_lt k l.number then occurrences n (leads (graph_view l.graph) k) else 0);
}
