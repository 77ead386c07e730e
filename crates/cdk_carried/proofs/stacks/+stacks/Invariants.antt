use Rattle.std.proofs.Common.{◌≡◌, ◌≤◌, ◌+◌, ◌-◌, ◌^◌, min, drop}
use Rattle.cdk_language.specs.Construct.{nodes_view}
use Rattle.cdk_carried.specs.Carried.{stacks_among}
use Rattle.cdk_carried.proofs.stacks.+stacks.Given as goal

abbrev pub invariant-stacks_among-loop-node : goal.invariant-stacks_among-loop-node
invariant-stacks_among-loop-node l =
    (l.sum ≤ 2 ^ 64 - 1) × (min (stacks_among (nodes_view l.nodes)) (2 ^ 64 - 1) ≡ min (l.sum + stacks_among (nodes_view (drop l.node-index l.node-items))) (2 ^ 64 - 1))
