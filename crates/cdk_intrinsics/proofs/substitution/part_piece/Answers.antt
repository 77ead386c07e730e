use Rattle.std.proofs.Common.{refl, ap, sym, ◌∙◌}
use Rattle.serde_json.specs.Data.{string}
use Rattle.cdk_eval.specs.Outcomes.{Value}
use Rattle.cdk_texts.specs.Steps.{part_view}
use Rattle.cdk_scopes.specs.Scopes.{scope_view}
use Rattle.cdk_intrinsics.specs.Substitution.{look, part_by}
use Rattle.cdk_intrinsics.proofs.substitution.part_piece.Goals as goal

pub returns-in_ok-new-in-Literal : goal.returns-in_ok-new-in-Literal
returns-in_ok-new-in-Literal c =
    let by = part_by (scope_view c.args.scope.now) (look c.args.named.now) in
    (string c.in_ok-new-in-Literal.field-0, ap (λ p. by (part_view p)) c.in-Literal.is ∙ ap (λ t. Value (string t)) (sym c.in_ok-new-in-Literal.ensures), refl)
