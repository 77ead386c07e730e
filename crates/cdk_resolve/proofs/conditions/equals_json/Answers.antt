use Rattle.std.proofs.Common.{◌≡◌, ◌+◌, ap, ap₂, ◌∙◌, arith}
use Rattle.std.proofs.lemmas.Result.{IfOk-weaker}
use Rattle.cdk_expansion.specs.Conditions.{operand_plain}
use Rattle.cdk_keeping.proofs.MoreKept.{stays_further}
use Rattle.cdk_keeping.proofs.OnlyLazy.{if_ok}
use Rattle.cdk_leaves.specs.Kept.{results_in}
use Rattle.cdk_leaves.specs.Views.{scope_view}
use Rattle.cdk_plain.specs.Rendered.{rendered}
use Rattle.cdk_resolve.specs.Conditions.{equals_in}
use Rattle.cdk_resolve.proofs.conditions.equals_json.Goals as goal

pub returns-clause-value : goal.returns-clause-value
returns-clause-value c =
    let s = scope_view c.args.scope.now in
    let first = c.in_ok-first.ensures.number in
    let second = c.in_ok-second.ensures.number ∙ c.in_ok-first.ensures.counted in
    if_ok c.equals.result
    (λ v e k enough. e ∙ ap₂ equals_in
    (c.in_ok-first-2.ensures.value k enough ∙ ap (λ n. rendered s.homes (operand_plain k s.tokens s.bodies c.args.at n)) first)
    (c.in_ok-second-2.ensures.value k enough ∙ ap (λ n. rendered s.homes (operand_plain k s.tokens s.bodies c.args.at n)) second))
    c.equals.ensures

pub returns-clause-counted : goal.returns-clause-counted
returns-clause-counted c =
    let next : c.take_number-2.new.next ≡ c.args.next.now + 2 = omega (arith, c.in_ok-first.ensures.counted, c.in_ok-second.ensures.counted) in
    IfOk-weaker c.equals.result _ _ (λ v made. next) c.equals.ensures

pub returns-clause-stays : goal.returns-clause-stays
returns-clause-stays c = stays_further (results_in c.args.kept.now) (results_in c.operand_json.new.kept) (results_in c.operand_json-2.new.kept) c.operand_json.ensures.stays c.operand_json-2.ensures.stays

pub returns-in_err-second-2-clause-stays : goal.returns-in_err-second-2-clause-stays
returns-in_err-second-2-clause-stays c = stays_further (results_in c.args.kept.now) (results_in c.operand_json.new.kept) (results_in c.operand_json-2.new.kept) c.operand_json.ensures.stays c.operand_json-2.ensures.stays
