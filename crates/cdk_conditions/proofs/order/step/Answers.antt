use Rattle.std.proofs.Common.{◌≡◌, ℕ, List, [], ◌∷◌, ◌++◌, true, sym, subst, ◌∙◌, arith}
use Rattle.std.proofs.lemmas.Result.{IfOk-weaker}
use Rattle.serde_json.specs.Data.{Members}
use Rattle.serde_json.specs.View.{view, members_view}
use Rattle.cdk_eval.specs.Template.{outcome}
use Rattle.cdk_scopes.specs.Scopes.{scope_view}
use Rattle.cdk_scopes.specs.declared.truths.Truths.{Truths}
use Rattle.cdk_conditions.specs.Kept.{is_kept}
use Rattle.cdk_conditions.specs.Walks.{Walks, IsWalk, IsStep, IsJoining, IsEntered, AreGrouped, positions_of, groups_of}
use Rattle.cdk_conditions.specs.declared.walk.Walk.{Walk}
use Rattle.cdk_conditions.proofs.Groups.{grouped}
use Rattle.cdk_conditions.proofs.Walking.{passed, joins_with, enters_with, not_settled}
use Rattle.cdk_conditions.proofs.Ways.{texts_push}
use Rattle.cdk_conditions.proofs.order.step.Goals as goal

pub close-requires-clause-walk : goal.close-requires-clause-walk
close-requires-clause-walk c =
    let g = c.args.group in
    let w = c.args.walk.now in
    subst (λ ws. Walks (outcome (scope_view c.args.scope.now)) (members_view c.args.conditions.now.entries) c.args.truths.now (positions_of w) w.entered (grouped g.first g.members ws g.is_loop ∷ groups_of w))
    (c.in_default.ensures.0 ∙ sym c.in_default.ensures.1) c.requires.walk

pub returns-in_default-clause-step : goal.returns-in_default-clause-step
returns-in_default-clause-step c =
    let ts = c.args.truths.now in
    let us = c.close.new.truths in
    let w = c.args.walk.now in
    IfOk-weaker c.close.result (λ _. (n : List ℕ) → is_kept ts n ≡ true → is_kept us n ≡ true) (λ _. IsStep (members_view c.args.conditions.now.entries) ts w c.args.group us w)
    (λ _ kept. record { kept = kept; entered = λ n h. h; fewer = omega arith }) c.close.ensures.kept

pub returns-in_default-unsettled : goal.returns-in_default-unsettled
returns-in_default-unsettled c =
    let op = outcome (scope_view c.args.scope.now) in
    let cs = members_view c.args.conditions.now.entries in
    let ts = c.args.truths.now in
    let w = c.args.walk.now in
    let g = c.args.group in
    let popped = texts_push c.pop.new.self g.waiting c.in-Some.name c.in-Some.ensures in
    let v : Walk = record { groups = c.push.new.self; positions = w.positions; entered = w.entered } in
    let P = c.push.new.self ≡ w.groups ++ grouped g.first g.members c.pop.new.self g.is_loop ∷ [] in
    let next = λ (h : P). passed op cs ts w g.first g.members g.waiting c.pop.new.self g.is_loop c.in-Some.name.now popped c.requires.walk c.push.new.self h c.in_default-unsettled.ensures in
    record {
      walk = IfOk-weaker c.push.result (λ _. P) (λ _. IsWalk op cs ts v) (λ _ h. (next h).0) c.push.ensures.ok;
      step = IfOk-weaker c.push.result (λ _. P) (λ _. IsStep cs ts w g ts v) (λ _ h. (next h).1) c.push.ensures.ok;
    }

pub returns-in-Some-get : goal.returns-in-Some-get
returns-in-Some-get c =
    let op = outcome (scope_view c.args.scope.now) in
    let cs = members_view c.args.conditions.now.entries in
    let ts = c.args.truths.now in
    let w = c.args.walk.now in
    let v = c.join.new.self in
    let g = c.args.group in
    let name = c.in-Some.name.now in
    let found = c.in-Some-unsettled.ensures in
    let popped = texts_push c.pop.new.self g.waiting c.in-Some.name c.in-Some.ensures in
    let last = grouped g.first g.members c.pop.new.self g.is_loop in
    let P = (ds : Members) (us : Truths) (x : List ℕ) → IsJoining ds us (positions_of w) x c.in-Some-get.position last (groups_of w) → AreGrouped ds us last w v in
    let next = λ (h : P). joins_with op cs ts w g.first g.members g.waiting c.pop.new.self g.is_loop name popped c.requires.walk v c.in-Some-get.position (not_settled cs ts name (view c.in-Some-unsettled.condition.now) found.0 found.1) (sym c.in-Some-get.ensures) h in
    record {
      walk = IfOk-weaker c.join.result (λ _. P) (λ _. IsWalk op cs ts v) (λ _ h. (next h).0) c.join.ensures;
      step = IfOk-weaker c.join.result (λ _. P) (λ _. IsStep cs ts w g ts v) (λ _ h. (next h).1) c.join.ensures;
    }

pub returns : goal.returns
returns c =
    let op = outcome (scope_view c.args.scope.now) in
    let cs = members_view c.args.conditions.now.entries in
    let ts = c.args.truths.now in
    let w = c.args.walk.now in
    let v = c.enter.new.self in
    let g = c.args.group in
    let name = c.in-Some.name.now in
    let d = view c.in-Some-unsettled.condition.now in
    let found = c.in-Some-unsettled.ensures in
    let popped = texts_push c.pop.new.self g.waiting c.in-Some.name c.in-Some.ensures in
    let pushed : Walk = record { groups = c.push-2.new.self; positions = w.positions; entered = w.entered } in
    let P = IsEntered name d pushed v in
    let next = λ (h : P). enters_with op cs ts w g.first g.members g.waiting c.pop.new.self g.is_loop name popped c.requires.walk c.push-2.new.self v d c.in_ok-push.ensures.ok (not_settled cs ts name d found.0 found.1) found.0 (sym c.in_default-get.ensures) h in
    record {
      walk = IfOk-weaker c.enter.result (λ _. P) (λ _. IsWalk op cs ts v) (λ _ h. (next h).0) c.enter.ensures;
      step = IfOk-weaker c.enter.result (λ _. P) (λ _. IsStep cs ts w g ts v) (λ _ h. (next h).1) c.enter.ensures;
    }
