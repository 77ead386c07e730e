use Rattle.std.proofs.Common.{◌≡◌, drop}
use Rattle.cdk_tree.specs.TreeView.{constructs}
use Rattle.cdk_contexts.specs.Contexts.{context_findings, context_findings_from}
use Rattle.cdk_contexts.proofs.contexts.check_contexts.Given as goal

abbrev pub invariant-loop-number : goal.invariant-loop-number
invariant-loop-number l =
    let cs = constructs l.tree in context_findings cs ≡ context_findings_from l.number (drop l.number cs)
