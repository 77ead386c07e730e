use Rattle.std.proofs.Common.{[], ◌∷◌, map, sym, ap, ◌∙◌}
use Rattle.std.proofs.lemmas.List.{map-append}
use Rattle.serde_json.specs.View.{view, members_view}
use Rattle.cdk_eval.specs.Stack.{resource_at, resource_outcomes}
use Rattle.cdk_eval.specs.Views.{resource_view}
use Rattle.cdk_scopes.specs.Scopes.{scope_view, presence_of}
use Rattle.cdk_evaluator.proofs.Lookups.{moved}
use Rattle.cdk_evaluator.proofs.resources.resources_in.Goals as goal

pub loop-logical-preserved : goal.loop-logical-preserved
loop-logical-preserved c =
    let scope = scope_view c.args.scope.now in
    let there = presence_of c.args.truths.now in
    let d = view c.in-Some.resource.now in
    let rest = resource_outcomes there scope (members_view c.next.new.self) in
    let told = c.in_ok-out.ensures ∙ ap (λ n. resource_at (there d) scope n d) c.as_str.ensures.value in
    let split = ap (λ es. resource_outcomes there scope (members_view es)) c.in-Some.ensures.steps ∙ ap (λ r. r ∷ rest) (sym told) in
    let pushed = ap (map resource_view) c.in_ok-push.ensures.ok ∙ map-append resource_view c.loop-logical.resources (c.in_ok-out.out ∷ []) in
    moved _ _ _ (resource_view c.in_ok-out.out ∷ []) _ rest c.loop-logical.invariant split pushed
