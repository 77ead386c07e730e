use Rattle.std.proofs.Common.{◌≡◌, ◌+◌, ◌<◌, min, [], ◌∷◌, ◌++◌, length, get_or, sym, ap, ◌∙◌, subst, arith}
use Rattle.std.specs.Prelude.{nat_lt, IfSome}
use Rattle.std.specs.Option.{option_map_or}
use Rattle.cdk_tree.specs.Placed.{construct_at}
use Rattle.cdk_tree.specs.TreeView.{constructs}
use Rattle.cdk_dependencies.specs.Counts.{most}
use Rattle.cdk_dependencies.specs.Pairs.{entry_pairs}
use Rattle.cdk_dependencies.proofs.PairLemmas.{HavePairsTo, have_all, have_more, id_is}
use Rattle.cdk_dependencies.proofs.counting.pair_counts.Goals as goal

pub loop-number-preserved : goal.loop-number-preserved
loop-number-preserved c =
    let cs = constructs c.args.tree.now in
    let n = c.loop-number.number in
    let counts = c.loop-number.counts.items in
    let own = c.entry_pairs-own.result in
    let above = c.count_above-above.result in
    let at : c.in-Some.at ≡ n = id_is (nat_lt n (length cs)) n c.in-Some.at c.in-Some.ensures in
    let own_is : own ≡ min (entry_pairs cs n) most = c.entry_pairs-own.ensures ∙ ap (λ k. min (entry_pairs cs k) most) at in
    let above_is : above ≡ option_map_or (λ m. get_or counts m 0) (construct_at cs n).parent 0 =
    c.count_above-above.ensures.value
    ∙ ap (λ l. option_map_or (λ m. get_or l m 0) (construct_at cs c.in-Some.at).parent 0) c.deref-in-loop-number.ensures.value
    ∙ ap (λ k. option_map_or (λ m. get_or counts m 0) (construct_at cs k).parent 0) at in
    let below : IfSome (construct_at cs n).parent (λ m. m < n) = subst (λ k. IfSome (construct_at cs k).parent (λ m. m < k)) at c.count_above-above.ensures.below in
    let pushed : c.push.new.self.items ≡ counts ++ min (own + above) most ∷ [] = c.in_ok-push.ensures.items ∙ ap (λ x. counts ++ x ∷ []) c.saturating_add.ensures in
    subst (HavePairsTo cs (n + 1)) (sym pushed) (have_more cs n counts own above below own_is above_is c.loop-number.invariant)

pub returns : goal.returns
returns c =
    let cs = constructs c.args.tree.now in
    let counts = c.loop-number.counts.items in
    let end : c.loop-number.number ≡ length cs = omega (arith, c.len-number-end.ensures) in
    have_all cs counts (subst (λ n. HavePairsTo cs n counts) end c.loop-number.invariant)
