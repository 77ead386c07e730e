use Rattle.std.proofs.Common.{◌≡◌, take}
use Rattle.std.specs.Prelude.{map}
use Rattle.cdk_tree.specs.Needed.{needed_body}
use Rattle.cdk_tree.specs.NodesView.{placed_nodes}
use Rattle.cdk_tree.proofs.lists.all_needs.Given as goal

abbrev pub invariant-loop-number : goal.invariant-loop-number
invariant-loop-number l = let cs = placed_nodes l.nodes in l.all ≡ map (λ c. needed_body cs c.contexts c.body) (take l.number cs)
