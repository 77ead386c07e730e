use Rattle.std.proofs.Common.{◌≡◌, sym, ◌∙◌}
use Rattle.std.proofs.lemmas.Result.{IfOk-weaker}
use Rattle.serde_json.specs.View.{view}
use Rattle.cdk_eval.specs.Conditions.{equals_form}
use Rattle.cdk_eval.specs.Template.{outcome}
use Rattle.cdk_eval.specs.Views.{truth_view}
use Rattle.cdk_scopes.specs.Scopes.{scope_view, truth_in}
use Rattle.cdk_conditions.specs.Kept.{form_truth}
use Rattle.cdk_conditions.proofs.Forms.{truth_of_equals, truth_of_name, truth_of_none}
use Rattle.cdk_conditions.proofs.truth.own_truth.Goals as goal

pub returns-then-eq : goal.returns-then-eq
returns-then-eq c =
    let op = outcome (scope_view c.args.scope.now) in
    let f = truth_in c.args.truths.now in
    let k = c.args.key.now in
    let d = view c.args.part.now in
    IfOk-weaker c.equals_truth.result (λ t. truth_view t ≡ equals_form op d) (λ t. truth_view t ≡ form_truth op f k d) (λ t h. h ∙ sym (truth_of_equals op f k d (sym c.if-eq.ensures))) c.equals_truth.ensures

pub returns-then-eq-2 : goal.returns-then-eq-2
returns-then-eq-2 c = c.name_truth.ensures ∙ sym (truth_of_name (outcome (scope_view c.args.scope.now)) (truth_in c.args.truths.now) c.args.key.now (view c.args.part.now) (sym c.if-eq-2.ensures))

pub returns : goal.returns
returns c = sym (truth_of_none (outcome (scope_view c.args.scope.now)) (truth_in c.args.truths.now) c.args.key.now (view c.args.part.now) (sym c.if-eq.ensures) c.requires.no_junction c.requires.not_negated (sym c.if-eq-2.ensures))
