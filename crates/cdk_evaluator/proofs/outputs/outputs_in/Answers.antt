use Rattle.std.proofs.Common.{[], ◌∷◌, ◌++◌, map, string_bytes, sym, ap, ◌∙◌}
use Rattle.serde_json.specs.View.{view, members_view}
use Rattle.cdk_eval.specs.Stack.{output_at, output_outcomes, export_name, export_entry, export_entries}
use Rattle.cdk_eval.specs.Views.{output_entry}
use Rattle.cdk_scopes.specs.Scopes.{scope_view, presence_of}
use Rattle.cdk_evaluator.specs.Made.{export_pair}
use Rattle.cdk_evaluator.proofs.Lookups.{moved}
use Rattle.cdk_evaluator.proofs.outputs.outputs_in.Goals as goal

pub loop-logical-preserved : goal.loop-logical-preserved
loop-logical-preserved c =
    let l = c.loop-logical in
    let scope = scope_view c.args.scope.now in
    let there = presence_of c.args.truths.now in
    let d = view c.in-Some.output.now in
    let outcome = output_at (there d) scope d in
    let rest = output_outcomes there scope (members_view c.next.new.self) in
    let was = map output_entry l.made.outputs in
    let exports = map export_pair l.made.exports in
    let more = export_entries there scope (members_view c.next.new.self) in
    let pushed = c.in_ok-add_output.ensures.outputs ∙ ap (λ n. was ++ (n, outcome) ∷ []) c.as_str.ensures.value in (
      moved _ was _ ((string_bytes c.in-Some.logical.now, outcome) ∷ []) _ rest l.invariant.0 (ap (λ es. output_outcomes there scope (members_view es)) c.in-Some.ensures.steps) pushed,
      l.invariant.1 ∙ ap (λ es. exports ++ export_entries there scope (members_view es)) c.in-Some.ensures.steps
          ∙ sym {b = exports ++ export_entry outcome (export_name scope d) more} (c.in_ok-add_output.ensures.exports more),
    )
