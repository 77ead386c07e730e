use Rattle.std.proofs.Common.{◌≡◌, length, subst, arith}
use Rattle.cdk_tree.specs.TreeView.{constructs}
use Rattle.cdk_dependencies.proofs.ResourceLemmas.{AreCountedTo, counted_resources}
use Rattle.cdk_dependencies.proofs.resources.resource_counts.Goals as goal

pub returns : goal.returns
returns c =
    let cs = constructs c.args.tree.now in
    let counts = c.loop-number.counts.items in
    let end : c.loop-number.number ≡ length cs = omega (arith, c.len-number-end.ensures) in
    counted_resources cs counts (subst (λ n. AreCountedTo cs n counts) end c.loop-number.invariant)
