use Rattle.std.proofs.Common.{◌≡◌, ◌++◌, length}
use Rattle.cdk_language.specs.Construct.{nodes_view}
use Rattle.cdk_tree.specs.Walking.{children_of, waiting}
use Rattle.cdk_tree.proofs.walking.push_children.Given as goal

abbrev pub invariant-loop-node : goal.invariant-loop-node
invariant-loop-node l = children_of l.parent (nodes_view l.initial.children) ++ waiting l.initial.pending ≡ children_of l.parent (nodes_view l.children) ++ waiting l.pending

abbrev pub decreases-loop-node : goal.decreases-loop-node
decreases-loop-node l = length l.children
