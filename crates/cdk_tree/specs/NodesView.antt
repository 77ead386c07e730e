-- The constructs of `Nodes`, by number.
use Rattle.std.specs.Prelude.{List}
use Rattle.cdk_tree.specs.Placed.{Placed}
use Rattle.cdk_tree.specs.Slots.{constructs_in}
use Rattle.cdk_tree.specs.declared.nodes.Nodes.{Nodes}

abbrev pub placed_nodes : Nodes → List Placed
placed_nodes t = constructs_in t.slots
