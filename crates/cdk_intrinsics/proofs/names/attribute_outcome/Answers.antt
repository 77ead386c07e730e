use Rattle.std.proofs.Common.{Some, None, codes, sym, ap, subst, ◌∙◌}
use Rattle.serde_json.specs.Data.{string}
use Rattle.serde_json.specs.Find.{get_member}
use Rattle.serde_json.specs.View.{view}
use Rattle.cdk_eval.specs.Outcomes.{Value}
use Rattle.cdk_eval.specs.Sections.{section, made_text, resource_outcome}
use Rattle.cdk_eval.specs.Values.{attribute_text}
use Rattle.cdk_eval.specs.Views.{values_view}
use Rattle.cdk_scopes.specs.Scopes.{scope_at, IsSoundAt}
use Rattle.cdk_intrinsics.proofs.Made.{text_made}
use Rattle.cdk_intrinsics.proofs.names.attribute_outcome.Goals as goal

pub returns-in_default : goal.returns-in_default
returns-in_default c =
    let s = c.args.scope.now in
    sym (ap (λ p. (scope_at (values_view s.values.now) s.stack.now (view s.template.now) p).attribute c.args.name.now c.args.attribute.now) c.in_default.is)

pub returns-in_default-entry : goal.returns-in_default-entry
returns-in_default-entry c =
    let s = c.args.scope.now in
    let v = values_view s.values.now in
    let t = view s.template.now in
    ap (resource_outcome v s.stack.now t (attribute_text v s.stack.now c.args.name.now c.args.attribute.now)) c.in_default-entry.ensures
    ∙ sym (ap (λ p. (scope_at v s.stack.now t p).attribute c.args.name.now c.args.attribute.now) c.in-Body.is)

pub returns-in-Some-barred_by : goal.returns-in-Some-barred_by
returns-in-Some-barred_by c =
    let s = c.args.scope.now in
    let v = values_view s.values.now in
    let t = view s.template.now in
    let sound = subst (IsSoundAt v s.stack.now t) c.in-Body.is c.requires in
    let x = attribute_text v s.stack.now c.args.name.now c.args.attribute.now in
    let found = get_member c.args.name.now (section (codes "Resources") t) in
    text_made v s.stack.now t c.in-Body.truths.now sound x (view c.in-Some.resource.now) (Some c.in-Some-barred_by.fault) found
    (λ y. ap (λ q. made_text q y) (sym c.presence.ensures) ∙ c.in-Some-barred_by.ensures y) c.in-Some.ensures
    ∙ sym (ap (λ p. (scope_at v s.stack.now t p).attribute c.args.name.now c.args.attribute.now) c.in-Body.is)

pub returns : goal.returns
returns c =
    let s = c.args.scope.now in
    let v = values_view s.values.now in
    let t = view s.template.now in
    let sound = subst (IsSoundAt v s.stack.now t) c.in-Body.is c.requires in
    let x = attribute_text v s.stack.now c.args.name.now c.args.attribute.now in
    let found = get_member c.args.name.now (section (codes "Resources") t) in
    c.text_outcome.ensures ∙ ap (λ y. Value (string y)) c.in_ok-text.ensures
    ∙ text_made v s.stack.now t c.in-Body.truths.now sound x (view c.in-Some.resource.now) None found (λ y. ap (λ q. made_text q y) (sym c.presence.ensures) ∙ c.in_default-barred_by.ensures y) c.in-Some.ensures
    ∙ sym (ap (λ p. (scope_at v s.stack.now t p).attribute c.args.name.now c.args.attribute.now) c.in-Body.is)
