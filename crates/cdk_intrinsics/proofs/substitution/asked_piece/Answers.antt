use Rattle.std.proofs.Common.{refl, ap, sym, ◌∙◌}
use Rattle.serde_json.specs.Data.{string}
use Rattle.cdk_eval.specs.Outcomes.{Value}
use Rattle.cdk_scopes.specs.Scopes.{scope_view}
use Rattle.cdk_intrinsics.specs.Substitution.{look, asked_by}
use Rattle.cdk_intrinsics.proofs.substitution.asked_piece.Goals as goal

pub returns-in_ok-text-in-Spelled : goal.returns-in_ok-text-in-Spelled
returns-in_ok-text-in-Spelled c =
    let by = asked_by (scope_view c.args.scope.now) (look c.args.named.now) in
    (string c.from_string.result, ap by (sym c.in-Spelled.ensures) ∙ ap (λ t. Value (string t)) (sym (c.from_string.ensures ∙ c.in_ok-text-in-Spelled.ensures.ok)), refl)
