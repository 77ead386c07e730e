use Rattle.cdk_tree.specs.TreeView.{constructs}
use Rattle.cdk_dependencies.proofs.ResourceLemmas.{AreCountedTo}
use Rattle.cdk_dependencies.proofs.resources.resource_counts.Given as goal

abbrev pub invariant-loop-number : goal.invariant-loop-number
invariant-loop-number l = AreCountedTo (constructs l.tree) l.number l.counts.items
