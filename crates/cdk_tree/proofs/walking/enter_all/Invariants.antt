use Rattle.std.proofs.Common.{◌≡◌, length}
use Rattle.cdk_tree.specs.NodesView.{placed_nodes}
use Rattle.cdk_tree.specs.Walking.{all_placed, size_of_all, waiting, AreBelow, IsSound}
use Rattle.cdk_tree.proofs.walking.enter_all.Given as goal

abbrev pub invariant-loop-next : goal.invariant-loop-next
invariant-loop-next l = record {
  sound : IsSound (placed_nodes l.nodes);
  below : AreBelow (length (placed_nodes l.nodes)) (waiting l.pending);
  all : all_placed (placed_nodes l.initial.nodes) (waiting l.initial.pending) ≡ all_placed (placed_nodes l.nodes) (waiting l.pending);
}

abbrev pub decreases-loop-next : goal.decreases-loop-next
decreases-loop-next l = size_of_all (waiting l.pending)
