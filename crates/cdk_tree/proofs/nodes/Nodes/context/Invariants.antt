use Rattle.std.proofs.Common.{◌≡◌, ◌<◌, length, suc}
use Rattle.std.specs.Prelude.{MatchOption}
use Rattle.std.specs.Option.{option_map_or}
use Rattle.cdk_tree.specs.Placed.{construct_at, look_up}
use Rattle.cdk_tree.specs.Slots.{contexts_above}
use Rattle.cdk_tree.specs.NodesView.{placed_nodes}
use Rattle.cdk_tree.proofs.nodes.Nodes.context.Given as goal

abbrev pub invariant-loop-next : goal.invariant-loop-next
invariant-loop-next l = record {
  inside : MatchOption l.next (Unit {0}) (λ n. n < length (placed_nodes l.self));
  same : look_up l.key (construct_at (placed_nodes l.self) l.fn.at).contexts ≡ look_up l.key (contexts_above (placed_nodes l.self) l.next);
}

abbrev pub decreases-loop-next : goal.decreases-loop-next
decreases-loop-next l = option_map_or suc l.next 0
