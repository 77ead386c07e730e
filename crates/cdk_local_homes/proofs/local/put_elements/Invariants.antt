use Rattle.cdk_homes.specs.Kept.{entries_in}
use Rattle.cdk_local_homes.proofs.local.put_elements.Given as goal
use Rattle.cdk_local_homes.specs.Local.{HasElementsBelow}
use Rattle.cdk_tree.specs.TreeView.{constructs}

abbrev pub invariant-loop-number : goal.invariant-loop-number
invariant-loop-number l = HasElementsBelow (entries_in l.homes) (constructs l.tree) l.stack l.number
