use Rattle.std.proofs.Common.{◌≡◌, map}
use Rattle.std.specs.List.{range_with_len}
use Rattle.cdk_tree.specs.TreeView.{constructs}
use Rattle.cdk_stacks.specs.Made.{names_of}
use Rattle.cdk_stacks.proofs.made.Names.of.Given as goal

abbrev pub invariant-loop-number : goal.invariant-loop-number
invariant-loop-number l = l.each ≡ map (names_of (constructs l.tree)) (range_with_len 0 l.number)
