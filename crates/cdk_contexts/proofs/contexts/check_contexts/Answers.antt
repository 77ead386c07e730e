use Rattle.std.proofs.Common.{◌≡◌, ◌∷◌, ◌+◌, drop, length, Some, sym, ap, ◌∙◌, arith}
use Rattle.std.specs.Prelude.{nat_lt}
use Rattle.std.proofs.lemmas.List.{drop_more}
use Rattle.cdk_tree.specs.Expected.{target_at}
use Rattle.cdk_tree.specs.PlaceFindings.{first}
use Rattle.cdk_tree.specs.Placed.{construct_at, nowhere}
use Rattle.cdk_tree.specs.TreeView.{constructs}
use Rattle.cdk_contexts.specs.Contexts.{context_findings_from, wrong_contexts_at}
use Rattle.cdk_contexts.proofs.ContextLemmas.{first_target, same_number}
use Rattle.cdk_contexts.proofs.contexts.check_contexts.Goals as goal

pub returns-in-Some-wrong : goal.returns-in-Some-wrong
returns-in-Some-wrong c =
    let cs = constructs c.args.tree.now in
    let n = c.loop-number.number in
    let code = c.in-Some-wrong.code in
    let here : drop n cs ≡ construct_at cs n ∷ drop (n + 1) cs = drop_more cs n nowhere (omega (arith, c.len-number-end.ensures)) in
    let same : c.in-Some.at ≡ n = same_number (nat_lt n (length cs)) n c.in-Some.at c.in-Some.ensures in
    let own : first (wrong_contexts_at (construct_at cs n)) ≡ Some code = ap (λ k. first (wrong_contexts_at (construct_at cs k))) (sym same) ∙ sym c.in-Ok.ensures ∙ c.in-Some-wrong.is in
    ap first (c.loop-number.invariant ∙ ap (context_findings_from n) here)
    ∙ first_target n (wrong_contexts_at (construct_at cs n)) (context_findings_from (n + 1) (drop (n + 1) cs)) code own
    ∙ ap (λ k. Some (target_at k code)) (sym same)
