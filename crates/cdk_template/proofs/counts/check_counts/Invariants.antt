use Rattle.std.proofs.Common.{◌≡◌, ◌-◌, length}
use Rattle.std.specs.List.{range_with_len}
use Rattle.cdk_tree.specs.TreeView.{constructs}
use Rattle.cdk_template.specs.Counts.{count_findings, count_findings_of}
use Rattle.cdk_template.proofs.counts.check_counts.Given as goal

abbrev pub invariant-loop-number : goal.invariant-loop-number
invariant-loop-number l =
    count_findings (constructs l.tree) ≡ count_findings_of (constructs l.tree) (range_with_len l.number (length (constructs l.tree) - l.number))
