use Rattle.std.proofs.Common.{◌≡◌, ◌<◌, ◌+◌, ◌-◌, ◌++◌, map, length, Some, true, false, sym, ap, ◌∙◌, arith}
use Rattle.std.specs.Prelude.{nat_lt, ◌&&◌}
use Rattle.std.specs.List.{range_with_len}
use Rattle.cdk_base.specs.declared.code.Code.TheVariants.{TooMany}
use Rattle.cdk_tree.specs.PlaceFindings.{first, when}
use Rattle.cdk_tree.specs.Placed.{construct_at, is_stack}
use Rattle.cdk_tree.specs.TreeView.{constructs}
use Rattle.cdk_stacks.proofs.Tests.{range_rest}
use Rattle.cdk_stacks.proofs.Within.{id_is}
use Rattle.cdk_template.specs.Counts.{count_at, count_findings_of, is_too_large}
use Rattle.cdk_template.proofs.CountLemmas.{first_too_many}
use Rattle.cdk_template.proofs.counts.check_counts.Goals as goal

pub returns-then-is_wrong : goal.returns-then-is_wrong
returns-then-is_wrong c =
    let cs = constructs c.args.tree.now in
    let n = c.loop-number.number in
    let within : n < length cs = omega (arith, c.len-number-end.ensures) in
    let at : c.in-Some.at ≡ n = id_is (nat_lt n (length cs)) n c.in-Some.at c.in-Some.ensures in
    let wrong = is_stack (construct_at cs n).body && is_too_large cs n in
    let own : wrong ≡ true = ap (λ k. is_stack (construct_at cs k).body && is_too_large cs k) (sym at) ∙ sym c.if-is_wrong.ensures in
    ap first (c.loop-number.invariant ∙ ap (count_findings_of cs) (range_rest n (length cs) within))
    ∙ first_too_many n wrong (count_findings_of cs (range_with_len (n + 1) (length cs - (n + 1)))) own
    ∙ ap (λ k. Some (count_at k TooMany)) (sym at)

pub loop-number-preserved : goal.loop-number-preserved
loop-number-preserved c =
    let cs = constructs c.args.tree.now in
    let n = c.loop-number.number in
    let within : n < length cs = omega (arith, c.len-number-end.ensures) in
    let at : c.in-Some.at ≡ n = id_is (nat_lt n (length cs)) n c.in-Some.at c.in-Some.ensures in
    let own : (is_stack (construct_at cs n).body && is_too_large cs n) ≡ false = ap (λ k. is_stack (construct_at cs k).body && is_too_large cs k) (sym at) ∙ sym c.if-is_wrong.ensures in
    c.loop-number.invariant ∙ ap (count_findings_of cs) (range_rest n (length cs) within)
    ∙ ap (λ t. map (count_at n) (when t TooMany) ++ count_findings_of cs (range_with_len (n + 1) (length cs - (n + 1)))) own
