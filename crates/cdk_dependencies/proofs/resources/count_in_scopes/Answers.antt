use Rattle.std.proofs.Common.{◌≡◌, ◌+◌, ◌<◌, min, length, get_or, set, Some, sym, ap, ◌∙◌, subst, arith}
use Rattle.cdk_tree.specs.TreeView.{constructs}
use Rattle.cdk_dependencies.specs.Counts.{most}
use Rattle.cdk_dependencies.proofs.ResourceLemmas.{IsCountedTo, counted_more, counted_none}
use Rattle.cdk_dependencies.proofs.resources.count_in_scopes.Goals as goal

pub loop-next-init : goal.loop-next-init
loop-next-init c = counted_none (constructs c.args.tree.now) c.args.at c.args.counts.now c.requires.within (λ t. omega (arith, c.type_inv.counts t))

pub loop-next-preserved : goal.loop-next-preserved
loop-next-preserved c =
    let cs = constructs c.args.tree.now in
    let n = c.args.at in
    let at = c.in-Some.scope in
    let now = c.loop-next.counts in
    let so_far : IsCountedTo cs n (Some at) c.args.counts.now now = subst (λ o. IsCountedTo cs n o c.args.counts.now now) c.in-Some.is c.loop-next.invariant in
    let within : at < length now = omega (arith, so_far.placed) in
    let place : c.number-place.result ≡ at = c.number-place.ensures in
    let new : set now c.number-place.result c.saturating_add.result ≡ set now at (min (get_or now at 0 + 1) most) =
    ap (λ x. set now c.number-place.result x) c.saturating_add.ensures ∙ ap (λ k. set now k (min (get_or now k 0 + 1) most)) place in
    subst (IsCountedTo cs n c.parent-next.result c.args.counts.now) (sym new)
    (counted_more cs n at c.parent-next.result c.args.counts.now now within c.parent-next.ensures.value c.parent-next.ensures.below so_far)
