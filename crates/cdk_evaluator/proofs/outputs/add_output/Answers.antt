use Rattle.std.proofs.Common.{◌≡◌, ℕ, List, [], ◌∷◌, ◌++◌, map, sym, ap, ap₂, ◌∙◌}
use Rattle.std.proofs.lemmas.List.{map-append}
use Rattle.std.proofs.lemmas.Result.{IfOk-weaker}
use Rattle.serde_json.specs.View.{view}
use Rattle.cdk_eval.specs.Stack.{output_at, export_name, export_entry}
use Rattle.cdk_eval.specs.Views.{output_entry}
use Rattle.cdk_eval.specs.declared.report.OutputOut.{OutputOut}
use Rattle.cdk_scopes.specs.Scopes.{scope_view, presence_of}
use Rattle.cdk_evaluator.specs.Made.{export_pair}
use Rattle.cdk_evaluator.proofs.outputs.add_output.Goals as goal

pub returns-clause-outputs : goal.returns-clause-outputs
returns-clause-outputs c =
    let scope = scope_view c.args.scope.now in
    let d = view c.args.output.now in
    let outcome = output_at (presence_of c.args.truths.now d) scope d in
    let old = c.args.made.now.outputs in
    let new = c.push.new.self in
    let x : OutputOut = record { logical = c.in_ok-logical.logical; outcome = c.in_ok-outcome.field-0.outcome } in
    let same = ap₂ (λ n o. (n, o)) c.in_ok-logical.ensures c.in_ok-outcome.ensures.outcome in
    IfOk-weaker c.push.result (λ _. new ≡ old ++ x ∷ []) (λ _. map output_entry new ≡ map output_entry old ++ (c.args.logical.now, outcome) ∷ [])
    (λ _ h. ap (map output_entry) h ∙ map-append output_entry old (x ∷ []) ∙ ap (λ y. map output_entry old ++ y ∷ []) same) c.push.ensures.ok

pub returns-clause-exports : goal.returns-clause-exports
returns-clause-exports c =
    let scope = scope_view c.args.scope.now in
    let d = view c.args.output.now in
    let outcome = output_at (presence_of c.args.truths.now d) scope d in
    let old = map export_pair c.args.made.now.exports in
    let new = map export_pair c.push_export.new.exports in
    let made = c.in_ok-outcome.ensures in
    let told = λ (xs : List (List ℕ × List ℕ)). c.in_ok-push_export.ensures xs ∙ ap (λ ys. old ++ ys) (sym (made.export xs) ∙ ap (λ o. export_entry o (export_name scope d) xs) made.outcome) in
    IfOk-weaker c.push.result (λ _. c.push.new.self ≡ c.args.made.now.outputs ++ record { logical = c.in_ok-logical.logical; outcome = c.in_ok-outcome.field-0.outcome } ∷ [])
    (λ _. (xs : List (List ℕ × List ℕ)) → new ++ xs ≡ old ++ export_entry outcome (export_name scope d) xs) (λ _ h. told) c.push.ensures.ok
