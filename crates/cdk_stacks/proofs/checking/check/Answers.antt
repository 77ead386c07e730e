use Rattle.std.proofs.Common.{◌≡◌, ◌<◌, ◌+◌, ◌-◌, ◌++◌, ℕ, map, length, Some, None, sym, ap, subst, ◌∙◌, arith}
use Rattle.std.specs.Prelude.{nat_lt}
use Rattle.std.specs.List.{range_with_len}
use Rattle.cdk_tree.specs.PlaceFindings.{first}
use Rattle.cdk_tree.specs.TreeView.{constructs}
use Rattle.cdk_stacks.specs.Claims.{found_at, name_findings_of, wrong_names}
use Rattle.cdk_stacks.specs.Taken.{HasTaken}
use Rattle.cdk_stacks.proofs.ClaimLemmas.{first-found, first-none}
use Rattle.cdk_stacks.proofs.Tests.{range_rest}
use Rattle.cdk_stacks.proofs.Within.{id_is}
use Rattle.cdk_stacks.proofs.checking.check.Goals as goal

pub returns-in-Some-wrong_name : goal.returns-in-Some-wrong_name
returns-in-Some-wrong_name c =
    let cs = constructs c.args.tree.now in
    let n = c.loop-number.number in
    let code = c.in-Some-wrong_name.code in
    let within : n < length cs = omega (arith, c.len-number-end.ensures) in
    let at : c.in-Some.at ≡ n = id_is (nat_lt n (length cs)) n c.in-Some.at c.in-Some.ensures in
    let own : first (wrong_names cs n) ≡ Some code = ap (λ k. first (wrong_names cs k)) (sym at) ∙ sym c.in-Some-wrong_name.ensures in
    ap first (c.loop-number.invariant.1 ∙ ap (name_findings_of cs) (range_rest n (length cs) within))
    ∙ first-found n (wrong_names cs n) (name_findings_of cs (range_with_len (n + 1) (length cs - (n + 1)))) code own
    ∙ ap (λ k. Some (found_at k code)) (sym at)

pub loop-number-preserved : goal.loop-number-preserved
loop-number-preserved c =
    let cs = constructs c.args.tree.now in
    let n = c.loop-number.number in
    let within : n < length cs = omega (arith, c.len-number-end.ensures) in
    let at : c.in-Some.at ≡ n = id_is (nat_lt n (length cs)) n c.in-Some.at c.in-Some.ensures in
    let own : first (wrong_names cs n) ≡ None = ap (λ k. first (wrong_names cs k)) (sym at) ∙ sym c.in_default-wrong_name.ensures in
    let P : ℕ → Type 0 = λ k. HasTaken c.put_names.new.self cs (k + 1) in (
      subst P at c.in-Ok-put_names.ensures,
      c.loop-number.invariant.1 ∙ ap (name_findings_of cs) (range_rest n (length cs) within)
          ∙ ap (λ codes. map (found_at n) codes ++ name_findings_of cs (range_with_len (n + 1) (length cs - (n + 1)))) (first-none (wrong_names cs n) own),
    )
