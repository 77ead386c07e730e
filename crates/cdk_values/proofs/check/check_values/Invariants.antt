use Rattle.std.proofs.Common.{◌≡◌, drop}
use Rattle.cdk_tree.specs.TreeView.{constructs}
use Rattle.cdk_tokens.specs.TableView.{marked_in, tokens_in}
use Rattle.cdk_values.specs.Findings.{value_findings, value_findings_from}
use Rattle.cdk_values.proofs.check.check_values.Given as goal

abbrev pub invariant-loop-number : goal.invariant-loop-number
invariant-loop-number l =
    let ts = tokens_in l.table in
    let ms = marked_in l.marked in
    let cs = constructs l.tree in
    value_findings ts ms cs ≡ value_findings_from ts ms l.number (drop l.number cs)
