use Rattle.std.proofs.Common.{[], ◌∷◌, map, sym, ap, ap₂, ◌∙◌}
use Rattle.std.proofs.lemmas.List.{map-append}
use Rattle.serde_json.specs.View.{members_view}
use Rattle.cdk_eval.specs.Template.{each_member}
use Rattle.cdk_eval.specs.Views.{outcome_view, property_view}
use Rattle.cdk_scopes.specs.Scopes.{scope_view}
use Rattle.cdk_evaluator.proofs.Lookups.{moved}
use Rattle.cdk_evaluator.proofs.resources.properties_in.Goals as goal

pub loop-key-preserved : goal.loop-key-preserved
loop-key-preserved c =
    let scope = scope_view c.args.scope.now in
    let key = c.in_ok-key.key in
    let outcome = c.in_ok-outcome.outcome in
    let rest = each_member scope (members_view c.next.new.self) in
    let split = ap (λ es. each_member scope (members_view es)) c.in-Some.ensures.steps ∙ ap₂ (λ k o. (k, o) ∷ rest) (sym (c.in_ok-key.ensures ∙ c.as_str.ensures.value)) (sym c.in_ok-outcome.ensures) in
    let pushed = ap (map property_view) c.in_ok-push.ensures.ok ∙ map-append property_view c.loop-key.properties _ in
    moved _ _ _ ((key, outcome_view outcome) ∷ []) _ rest c.loop-key.invariant split pushed
