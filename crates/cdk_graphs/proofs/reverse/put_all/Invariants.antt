use Rattle.std.proofs.Common.{◌≡◌, ℕ, ◌+◌, drop}
use Rattle.std.specs.Prelude.{nat_eq, if◌then◌else◌}
use Rattle.cdk_graphs.specs.Graph.{graph_view, leads}
use Rattle.cdk_graphs.specs.Queued.{occurrences}
use Rattle.cdk_graphs.proofs.reverse.put_all.Given as goal

abbrev pub invariant-loop-target : goal.invariant-loop-target
invariant-loop-target l = (n k : ℕ) →
    occurrences k (leads (graph_view l.rows) n) + (if nat_eq l.number k then occurrences n (drop l.target-index l.targets) else 0)
    ≡ occurrences k (leads (graph_view l.initial.rows) n) + (if nat_eq l.number k then occurrences n l.targets else 0)
