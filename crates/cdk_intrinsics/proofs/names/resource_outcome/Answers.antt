use Rattle.std.proofs.Common.{Some, None, codes, sym, ap, subst, ◌∙◌}
use Rattle.serde_json.specs.Data.{string}
use Rattle.serde_json.specs.Find.{get_member}
use Rattle.serde_json.specs.View.{view}
use Rattle.cdk_eval.specs.Outcomes.{Value}
use Rattle.cdk_eval.specs.Sections.{section, made_text, operand_resource}
use Rattle.cdk_eval.specs.Values.{physical_text}
use Rattle.cdk_eval.specs.Views.{values_view}
use Rattle.cdk_scopes.specs.Scopes.{IsSoundAt}
use Rattle.cdk_intrinsics.specs.Names.{resource_in}
use Rattle.cdk_intrinsics.proofs.Made.{text_made, absent}
use Rattle.cdk_intrinsics.proofs.names.resource_outcome.Goals as goal

pub returns-in_default : goal.returns-in_default
returns-in_default c =
    let s = c.args.scope.now in
    absent (values_view s.values.now) s.stack.now (view s.template.now) s.place c.args.name.now c.in_default.ensures

pub returns-in_default-place : goal.returns-in_default-place
returns-in_default-place c =
    let s = c.args.scope.now in
    ap operand_resource c.in-Some.ensures ∙ sym (ap (λ p. resource_in (values_view s.values.now) s.stack.now (view s.template.now) p c.args.name.now) c.in_default-place.is)

pub returns-in-Some-barred_by : goal.returns-in-Some-barred_by
returns-in-Some-barred_by c =
    let s = c.args.scope.now in
    let v = values_view s.values.now in
    let t = view s.template.now in
    let sound = subst (IsSoundAt v s.stack.now t) c.in-Body.is c.requires in
    let x = physical_text v s.stack.now c.args.name.now in
    let found = get_member c.args.name.now (section (codes "Resources") t) in
    text_made v s.stack.now t c.in-Body.truths.now sound x (view c.in-Some.resource.now) (Some c.in-Some-barred_by.fault) found
    (λ y. ap (λ q. made_text q y) (sym c.presence.ensures) ∙ c.in-Some-barred_by.ensures y) c.in-Some.ensures
    ∙ sym (ap (λ p. resource_in v s.stack.now t p c.args.name.now) c.in-Body.is)

pub returns : goal.returns
returns c =
    let s = c.args.scope.now in
    let v = values_view s.values.now in
    let t = view s.template.now in
    let sound = subst (IsSoundAt v s.stack.now t) c.in-Body.is c.requires in
    let x = physical_text v s.stack.now c.args.name.now in
    let found = get_member c.args.name.now (section (codes "Resources") t) in
    c.text_outcome.ensures ∙ ap (λ y. Value (string y)) c.in_ok-text.ensures
    ∙ text_made v s.stack.now t c.in-Body.truths.now sound x (view c.in-Some.resource.now) None found (λ y. ap (λ q. made_text q y) (sym c.presence.ensures) ∙ c.in_default-barred_by.ensures y) c.in-Some.ensures
    ∙ sym (ap (λ p. resource_in v s.stack.now t p c.args.name.now) c.in-Body.is)
