use Rattle.std.proofs.Common.{◌≡◌, ◌∷◌, ◌++◌, ◌+◌, ◌<◌, ℕ, List, [], drop, map, length, Bool, true, false, Option, Some, None, sym, ap, ◌∙◌, arith}
use Rattle.std.specs.Prelude.{nat_lt, if◌then◌else◌}
use Rattle.std.proofs.lemmas.List.{drop_more}
use Rattle.cdk_base.specs.declared.code.Code.{Code}
use Rattle.cdk_tree.specs.Expected.{target_at, target_findings_from, wrong_targets_at}
use Rattle.cdk_tree.specs.Lists.{list_lazies}
use Rattle.cdk_tree.specs.PlaceFindings.{first}
use Rattle.cdk_tree.specs.Placed.{construct_at, nowhere}
use Rattle.cdk_tree.specs.TreeView.{constructs}
use Rattle.cdk_tree.specs.declared.role.Found.{Found}
use Rattle.cdk_tree.proofs.Findings.{first-none}
use Rattle.cdk_targets.proofs.targets.check_targets.Goals as goal

-- the construct of a number has this number
number_is : (b : Bool) (n at : ℕ) → Some at ≡ (if b then Some n else None) → at ≡ n
number_is true n at is = cc
number_is false n at is = cc

first-target : (n : ℕ) (codes : List Code) (rest : List Found) (c : Code) → first codes ≡ Some c → first (map (target_at n) codes ++ rest) ≡ Some (target_at n c)
first-target n [] rest c h = cc
first-target n (x ∷ codes) rest c h = let same : x ≡ c = cc in ap (λ k. Some (target_at n k)) same

pub returns-in-Some-wrong_target : goal.returns-in-Some-wrong_target
returns-in-Some-wrong_target c =
    let cs = constructs c.args.tree.now in
    let n = c.loop-number.number in
    let here : drop n cs ≡ construct_at cs n ∷ drop (n + 1) cs = drop_more cs n nowhere (omega (arith, c.len-number-end.ensures)) in
    let at : c.in-Some.at ≡ n = number_is (nat_lt n (length cs)) n c.in-Some.at c.in-Some.ensures in
    let lazies = list_lazies cs in
    let own : first (wrong_targets_at cs lazies (construct_at cs n)) ≡ Some c.in-Some-wrong_target.code = ap (λ k. first (wrong_targets_at cs lazies (construct_at cs k))) (sym at) ∙ sym c.in-Some-wrong_target.ensures in
    ap first (c.loop-number.invariant ∙ ap (target_findings_from cs lazies n) here)
    ∙ first-target n (wrong_targets_at cs lazies (construct_at cs n)) (target_findings_from cs lazies (n + 1) (drop (n + 1) cs)) c.in-Some-wrong_target.code own
    ∙ ap (λ k. Some (target_at k c.in-Some-wrong_target.code)) (sym at)

pub loop-number-preserved : goal.loop-number-preserved
loop-number-preserved c =
    let cs = constructs c.args.tree.now in
    let n = c.loop-number.number in
    let here : drop n cs ≡ construct_at cs n ∷ drop (n + 1) cs = drop_more cs n nowhere (omega (arith, c.len-number-end.ensures)) in
    let at : c.in-Some.at ≡ n = number_is (nat_lt n (length cs)) n c.in-Some.at c.in-Some.ensures in
    let lazies = list_lazies cs in
    let own : first (wrong_targets_at cs lazies (construct_at cs n)) ≡ None = ap (λ k. first (wrong_targets_at cs lazies (construct_at cs k))) (sym at) ∙ sym c.in_default-wrong_target.ensures in
    c.loop-number.invariant ∙ ap (target_findings_from cs lazies n) here
    ∙ ap (λ codes. map (target_at n) codes ++ target_findings_from cs lazies (n + 1) (drop (n + 1) cs)) (first-none (wrong_targets_at cs lazies (construct_at cs n)) own)
