use Rattle.std.proofs.Common.{◌≡◌, ◌-◌, length}
use Rattle.std.specs.List.{range_with_len}
use Rattle.cdk_tree.specs.TreeView.{constructs}
use Rattle.cdk_template.specs.Counts.{is_too_large}
use Rattle.cdk_template.specs.Room.{is_exceeded}
use Rattle.cdk_template.proofs.counts.is_too_large.Given as goal

abbrev pub invariant-loop-number : goal.invariant-loop-number
invariant-loop-number l =
    is_too_large (constructs l.tree) l.stack ≡ is_exceeded l.room (constructs l.tree) l.stack (range_with_len l.number (length (constructs l.tree) - l.number))
