use Rattle.std.proofs.Common.{◌≡◌, drop}
use Rattle.cdk_language.specs.Construct.{nodes_view}
use Rattle.cdk_carried.specs.Carried.{have_carried_parts}
use Rattle.cdk_carried.proofs.parts.+constructs.Given as goal

abbrev pub invariant-have_carried_parts-loop-node : goal.invariant-have_carried_parts-loop-node
invariant-have_carried_parts-loop-node l =
    have_carried_parts (nodes_view l.nodes) ≡ have_carried_parts (nodes_view (drop l.node-index l.node-items))
