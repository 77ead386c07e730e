use Rattle.std.proofs.Common.{◌==◌, length, sym, ap, ◌∙◌}
use Rattle.serde_json.specs.View.{view}
use Rattle.cdk_keeping.proofs.MoreKept.{all_stand, fewer_left, nil_of, not_nil_of, nothing_missing, stays_further}
use Rattle.cdk_keeping.proofs.Settled.{keeps_reached, rendered_right}
use Rattle.cdk_leaves.specs.Kept.{results_in}
use Rattle.cdk_leaves.specs.Views.{scope_view}
use Rattle.cdk_keeping.proofs.keeping.resolved.Goals as goal

pub returns-then-is_empty-clause-value : goal.returns-then-is_empty-clause-value
returns-then-is_empty-clause-value c =
    let empty = nil_of c.value_json.new.missing.items (ap (λ ns. length ns == 0) (sym c.as_slice.ensures.value) ∙ (sym c.is_empty.ensures ∙ c.if-is_empty.true)) in
    let none = nothing_missing (scope_view c.args.scope.now) (results_in c.loop-waiting.kept) (view c.args.value.now) c.new-waiting.result.items c.value_json.new.missing.items c.new-waiting.ensures.items c.in_ok-json.ensures.missing empty in
    λ k enough. c.in_ok-json.ensures.json ∙ rendered_right (scope_view c.args.scope.now) (results_in c.loop-waiting.kept) c.requires.ready c.loop-waiting.invariant.settled.right (view c.args.value.now) none k enough

pub returns-then-is_empty-clause-reached : goal.returns-then-is_empty-clause-reached
returns-then-is_empty-clause-reached c =
    let empty = nil_of c.value_json.new.missing.items (ap (λ ns. length ns == 0) (sym c.as_slice.ensures.value) ∙ (sym c.is_empty.ensures ∙ c.if-is_empty.true)) in
    let none = nothing_missing (scope_view c.args.scope.now) (results_in c.loop-waiting.kept) (view c.args.value.now) c.new-waiting.result.items c.value_json.new.missing.items c.new-waiting.ensures.items c.in_ok-json.ensures.missing empty in
    keeps_reached (scope_view c.args.scope.now) (results_in c.loop-waiting.kept) c.requires.ready c.loop-waiting.invariant.settled.closed (view c.args.value.now) none

pub keep_all-requires-clause-waiting : goal.keep_all-requires-clause-waiting
keep_all-requires-clause-waiting c =
    all_stand (scope_view c.args.scope.now) c.requires.ready (results_in c.loop-waiting.kept) (view c.args.value.now) c.new-waiting.result.items c.value_json.new.missing.items c.new-waiting.ensures.items c.in_ok-json.ensures.missing

pub loop-waiting-smaller : goal.loop-waiting-smaller
loop-waiting-smaller c =
    let some = not_nil_of c.value_json.new.missing.items (ap (λ ns. length ns == 0) (sym c.as_slice.ensures.value) ∙ (sym c.is_empty.ensures ∙ c.if-is_empty.false)) in
    fewer_left (scope_view c.args.scope.now) c.requires.ready (results_in c.loop-waiting.kept) (results_in c.keep_all.new.kept) (view c.args.value.now) c.new-waiting.result.items c.value_json.new.missing.items c.new-waiting.ensures.items
    c.in_ok-json.ensures.missing some c.in_ok-keep_all.ensures.stays c.in_ok-keep_all.ensures.all

pub loop-waiting-preserved : goal.loop-waiting-preserved
loop-waiting-preserved c = record {
  stays = stays_further (results_in c.args.kept.now) (results_in c.loop-waiting.kept) (results_in c.keep_all.new.kept) c.loop-waiting.invariant.stays c.keep_all.ensures.stays;
  settled = c.keep_all.ensures.settled;
}

pub returns-in_err-keep_all-clause-stays : goal.returns-in_err-keep_all-clause-stays
returns-in_err-keep_all-clause-stays c = stays_further (results_in c.args.kept.now) (results_in c.loop-waiting.kept) (results_in c.keep_all.new.kept) c.loop-waiting.invariant.stays c.keep_all.ensures.stays
