use Rattle.std.proofs.Common.{◌≡◌, ◌≤◌, drop}
use Rattle.cdk_sizes.specs.SizeFindings.{largest_sum, size_findings, size_findings_from}
use Rattle.cdk_tokens.specs.TableView.{marked_in, tokens_in}
use Rattle.cdk_tree.specs.TreeView.{constructs}
use Rattle.cdk_sizes.proofs.check.check_each.Given as goal

abbrev pub invariant-loop-number : goal.invariant-loop-number
invariant-loop-number l =
    let cs = constructs l.tree in
    let ts = tokens_in l.table in
    let ms = marked_in l.marked in record {
      small : l.sum ≤ largest_sum;
      same : size_findings cs ts ms ≡ size_findings_from cs ts ms l.sum l.number (drop l.number cs);
    }
