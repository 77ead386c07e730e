use Rattle.std.proofs.Common.{◌≡◌, drop}
use Rattle.cdk_tokens.specs.TableView.{tokens_in}
use Rattle.cdk_tree.specs.PlaceFindings.{first}
use Rattle.cdk_tree.specs.TreeView.{constructs}
use Rattle.cdk_lazies.specs.Told.{told_findings_from}
use Rattle.cdk_lazies.proofs.faults.first_cycle.Given as goal

abbrev pub invariant-loop-number : goal.invariant-loop-number
invariant-loop-number l =
    let cs = constructs l.tree in
    let ts = tokens_in l.table in
    first (told_findings_from ts l.loops 0 cs) ≡ first (told_findings_from ts l.loops l.number (drop l.number cs))
