use Rattle.std.proofs.Common.{◌≡◌, ◌-◌, length}
use Rattle.std.specs.List.{range_with_len}
use Rattle.cdk_tree.specs.TreeView.{constructs}
use Rattle.cdk_stacks.specs.Claims.{name_findings, name_findings_of}
use Rattle.cdk_stacks.specs.Taken.{HasTaken}
use Rattle.cdk_stacks.proofs.checking.check.Given as goal

abbrev pub invariant-loop-number : goal.invariant-loop-number
invariant-loop-number l =
    HasTaken l.taken (constructs l.tree) l.number × (name_findings (constructs l.tree) ≡ name_findings_of (constructs l.tree) (range_with_len l.number (length (constructs l.tree) - l.number)))
