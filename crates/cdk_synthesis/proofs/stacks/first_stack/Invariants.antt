use Rattle.std.proofs.Common.{◌≡◌, ◌-◌, length}
use Rattle.std.specs.List.{range_with_len}
use Rattle.cdk_tree.specs.TreeView.{constructs}
use Rattle.cdk_synthesis.specs.Stacks.{first_stack}
use Rattle.cdk_synthesis.proofs.StackLemmas.{first_among}
use Rattle.cdk_synthesis.proofs.stacks.first_stack.Given as goal

abbrev pub invariant-loop-number : goal.invariant-loop-number
invariant-loop-number l =
    first_stack (constructs l.tree) ≡ first_among (constructs l.tree) (range_with_len l.number (length (constructs l.tree) - l.number))
