use Rattle.std.proofs.Common.{◌≡◌, ◌∷◌, ◌+◌, List, drop, length, Some, None, ℕ, sym, ap, ◌∙◌, arith}
use Rattle.std.specs.Prelude.{nat_lt}
use Rattle.std.proofs.lemmas.List.{drop_more}
use Rattle.cdk_base.specs.declared.code.Code.{Code}
use Rattle.cdk_tree.specs.Expected.{target_at}
use Rattle.cdk_tree.specs.PlaceFindings.{first}
use Rattle.cdk_tree.specs.Placed.{construct_at, nowhere}
use Rattle.cdk_tree.specs.TreeView.{constructs}
use Rattle.cdk_tokens.specs.TableView.{marked_in, tokens_in}
use Rattle.cdk_tokens.specs.Whole.{value_at}
use Rattle.cdk_values.specs.Findings.{value_findings_from, wrong_values_at}
use Rattle.cdk_values.proofs.Firsts.{first_target, no_target, same_number}
use Rattle.cdk_values.proofs.check.check_values.Goals as goal

pub returns-in-Some-wrong_at : goal.returns-in-Some-wrong_at
returns-in-Some-wrong_at c =
    let cs = constructs c.args.tree.now in
    let ts = tokens_in c.args.table.now in
    let ms = marked_in c.args.marked.now in
    let n = c.loop-number.number in
    let code = c.in-Some-wrong_at.code in
    let codes : ℕ → List Code = λ k. wrong_values_at ts (value_at ms k) (construct_at cs k).body in
    let here : drop n cs ≡ construct_at cs n ∷ drop (n + 1) cs = drop_more cs n nowhere (omega (arith, c.len-number-end.ensures)) in
    let same : c.in-Some.at ≡ n = same_number (nat_lt n (length cs)) n c.in-Some.at c.in-Some.ensures in
    let own : first (codes n) ≡ Some code = ap (λ k. first (codes k)) (sym same) ∙ sym c.wrong_at.ensures ∙ c.in-Some-wrong_at.is in
    ap first (c.loop-number.invariant ∙ ap (value_findings_from ts ms n) here)
    ∙ first_target n (codes n) (value_findings_from ts ms (n + 1) (drop (n + 1) cs)) code own
    ∙ ap (λ k. Some (target_at k code)) (sym same)

pub loop-number-preserved : goal.loop-number-preserved
loop-number-preserved c =
    let cs = constructs c.args.tree.now in
    let ts = tokens_in c.args.table.now in
    let ms = marked_in c.args.marked.now in
    let n = c.loop-number.number in
    let codes : ℕ → List Code = λ k. wrong_values_at ts (value_at ms k) (construct_at cs k).body in
    let here : drop n cs ≡ construct_at cs n ∷ drop (n + 1) cs = drop_more cs n nowhere (omega (arith, c.len-number-end.ensures)) in
    let same : c.in-Some.at ≡ n = same_number (nat_lt n (length cs)) n c.in-Some.at c.in-Some.ensures in
    let own : first (codes n) ≡ None = ap (λ k. first (codes k)) (sym same) ∙ sym c.wrong_at.ensures ∙ c.in_default-wrong_at.is in
    c.loop-number.invariant ∙ ap (value_findings_from ts ms n) here ∙ no_target n (codes n) (value_findings_from ts ms (n + 1) (drop (n + 1) cs)) own
