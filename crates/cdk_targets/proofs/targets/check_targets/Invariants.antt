use Rattle.std.proofs.Common.{◌≡◌, drop}
use Rattle.cdk_tree.specs.Expected.{target_findings, target_findings_from}
use Rattle.cdk_tree.specs.Lists.{list_lazies}
use Rattle.cdk_tree.specs.TreeView.{constructs}
use Rattle.cdk_targets.proofs.targets.check_targets.Given as goal

abbrev pub invariant-loop-number : goal.invariant-loop-number
invariant-loop-number l =
    let cs = constructs l.tree in target_findings cs ≡ target_findings_from cs (list_lazies cs) l.number (drop l.number cs)
