use Rattle.std.proofs.Common.{map, ap, ◌∙◌}
use Rattle.std.specs.Prelude.{codes}
use Rattle.cdk_eval.specs.Sections.{section, scope}
use Rattle.cdk_eval.specs.Stack.{resource_outcomes, output_outcomes, export_entries}
use Rattle.cdk_eval.specs.Views.{values_view, stack_view, resource_view, output_entry}
use Rattle.cdk_scopes.specs.Scopes.{presence_of, exports_view}
use Rattle.cdk_evaluator.specs.Made.{export_pair}
use Rattle.cdk_evaluator.proofs.Stacks.{same_stack, same_exports}
use Rattle.cdk_evaluator.proofs.stack.stack_under.Goals as goal

pub returns-clause-out : goal.returns-clause-out
returns-clause-out c =
    let v = values_view c.args.values.now in
    let e = exports_view c.args.exports.now in
    let s = stack_view c.args.stack.now in
    let ts = c.args.truths.now in
    let made = c.in_ok-outputs.field-0 in
    let resources = c.in_ok-resources.ensures ∙ ap (λ n. resource_outcomes (presence_of ts) (scope v n s.template e) (section (codes "Resources") s.template)) c.as_str-2.ensures in
    let outputs = c.in_ok-outputs.ensures.outputs ∙ ap (λ n. output_outcomes (presence_of ts) (scope v n s.template e) (section (codes "Outputs") s.template)) c.as_str-2.ensures in
    same_stack v e s ts c.requires c.in_ok-name.name (map resource_view c.in_ok-resources.resources) (map output_entry made.outputs) (c.in_ok-name.ensures ∙ c.as_str.ensures) resources outputs

pub returns-clause-exports : goal.returns-clause-exports
returns-clause-exports c =
    let v = values_view c.args.values.now in
    let e = exports_view c.args.exports.now in
    let s = stack_view c.args.stack.now in
    let ts = c.args.truths.now in
    let made = c.in_ok-outputs.field-0 in
    same_exports v e s ts c.requires (map export_pair made.exports) (c.in_ok-outputs.ensures.exports ∙ ap (λ n. export_entries (presence_of ts) (scope v n s.template e) (section (codes "Outputs") s.template)) c.as_str-2.ensures)
