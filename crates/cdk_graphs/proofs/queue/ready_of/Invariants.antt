use Rattle.std.proofs.Common.{◌≡◌, ℕ, length, nat_cmp}
use Rattle.std.specs.Prelude.{◌&&◌, nat_eq, nat_lt}
use Rattle.std.specs.BTreeSet.{contains_by}
use Rattle.cdk_graphs.specs.Graph.{graph_view, leads}
use Rattle.cdk_graphs.proofs.queue.ready_of.Given as goal

abbrev pub invariant-loop-number : goal.invariant-loop-number
invariant-loop-number l = (k : ℕ) → contains_by (nat_cmp k) l.ready ≡ nat_lt k l.number && nat_eq (length (leads (graph_view l.graph) k)) 0
