use Rattle.std.proofs.Common.{ap, ◌∙◌}
use Rattle.serde_json.specs.View.{view}
use Rattle.serde_json.specs.declared.value.Value.{size-Value}
use Rattle.cdk_eval.specs.Outcomes.{picked}
use Rattle.cdk_eval.specs.Template.{outcome}
use Rattle.cdk_scopes.specs.Scopes.{scope_view}
use Rattle.cdk_intrinsics.specs.Forms.{if_among}
use Rattle.cdk_intrinsics.proofs.Parts.{if_listed}
use Rattle.cdk_intrinsics.proofs.forms.if_branch.Goals as goal

pub returns-in_default-clause-picked : goal.returns-in_default-clause-picked
returns-in_default-clause-picked c =
    let s = scope_view c.args.scope.now in
    ap (if_among s) c.in_default.ensures.parts ∙ if_listed s (view c.args.argument.now)

pub returns-clause-picked : goal.returns-clause-picked
returns-clause-picked c =
    let s = scope_view c.args.scope.now in
    let own = outcome s in
    let held = own (view c.in-Some.held.now) in
    let other = own (view c.in-Some.other.now) in
    c.branch-condition.ensures.picked own ∙ ap (λ t. picked t held other) c.condition.ensures ∙ ap (if_among s) c.in-Some.ensures.parts ∙ if_listed s (view c.args.argument.now)

pub returns-clause-smaller : goal.returns-clause-smaller
returns-clause-smaller c = c.branch-condition.ensures.smaller (size-Value c.args.argument.now) c.in-Some.ensures.smaller.0 c.in-Some.ensures.smaller.1
