use Rattle.std.proofs.Common.{◌+◌, ◌<◌, sym, subst}
use Rattle.serde_json.specs.View.{view, members_view}
use Rattle.cdk_eval.specs.Template.{outcome}
use Rattle.cdk_scopes.specs.Scopes.{scope_view}
use Rattle.cdk_conditions.specs.Walks.{Walks, positions_of, names_left, waiting_left, steps_left}
use Rattle.cdk_conditions.proofs.Steps.{turned_push}
use Rattle.cdk_conditions.proofs.Walking.{begins, ends, not_settled}
use Rattle.cdk_conditions.proofs.order.settle.Goals as goal

pub walk-init : goal.walk-init
walk-init c =
    let cs = members_view c.args.conditions.now.entries in
    let ts = c.args.truths.now in
    let name = c.args.name.now in
    let d = view c.in-Some.condition.now in
    let found = c.in-Some.ensures in
    let first = begins (outcome (scope_view c.args.scope.now)) cs ts c.new-walk.result c.enter.new.self name d c.requires.right c.requires.closed c.new-walk.ensures.groups c.new-walk.ensures.positions (not_settled cs ts name d found.0 found.1) found.0 c.in_ok-enter.ensures in
    (first.0, λ n h. h, first.1)

pub step-requires-clause-walk : goal.step-requires-clause-walk
step-requires-clause-walk c =
    let w = c.walk.walk in
    subst (Walks (outcome (scope_view c.args.scope.now)) (members_view c.args.conditions.now.entries) c.walk.truths (positions_of w) w.entered) (turned_push c.pop.new.self w.groups c.in-Some-pop.group c.in-Some-pop.ensures) c.walk.invariant.0

pub walk-preserved : goal.walk-preserved
walk-preserved c =
    let was = c.walk.invariant in
    let is = c.in_ok-step.ensures in
    (is.walk, λ n h. is.step.kept n (was.1 n h), is.step.entered c.args.name.now was.2)

pub walk-smaller : goal.walk-smaller
walk-smaller c =
    let cs = members_view c.args.conditions.now.entries in
    let w = c.walk.walk in
    let turned = turned_push c.pop.new.self w.groups c.in-Some-pop.group c.in-Some-pop.ensures in
    subst (λ gs. steps_left cs c.step.new.walk < names_left (positions_of w) cs + waiting_left gs) (sym turned) c.in_ok-step.ensures.step.fewer

pub returns : goal.returns
returns c =
    let is = c.walk.invariant in
    record {
      right = is.0.right;
      closed = is.0.closed;
      kept = is.1;
      settled = ends (outcome (scope_view c.args.scope.now)) (members_view c.args.conditions.now.entries) c.walk.truths c.walk.walk c.args.name.now is.0 c.in_default-pop.ensures.0 is.2;
    }
