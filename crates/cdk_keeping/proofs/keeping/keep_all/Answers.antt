use Rattle.cdk_keeping.proofs.LoopMeasure.{falls}
use Rattle.cdk_keeping.proofs.Waiting.{last_is_new, settled_same, waits_done, waits_first, waits_next}
use Rattle.cdk_leaves.specs.Kept.{results_in}
use Rattle.cdk_leaves.specs.Views.{scope_view}
use Rattle.cdk_keeping.proofs.keeping.keep_all.Goals as goal

pub loop-lazy-init : goal.loop-lazy-init
loop-lazy-init c = record { waits = waits_first (scope_view c.args.scope.now) c.args.waiting.now.items (results_in c.args.kept.now) c.requires.settled c.requires.waiting }

pub keep_or_wait-requires : goal.keep_or_wait-requires
keep_or_wait-requires c =
    last_is_new (scope_view c.args.scope.now) c.requires.ready c.args.waiting.now.items (results_in c.args.kept.now) (results_in c.loop-lazy.kept) c.next_unkept.new.waiting.items c.in-Some.lazy
    c.loop-lazy.waiting.items c.loop-lazy.invariant.waits c.in-Some.ensures

pub loop-lazy-smaller : goal.loop-lazy-smaller
loop-lazy-smaller c =
    falls (scope_view c.args.scope.now) c.requires.ready c.args.waiting.now.items (results_in c.args.kept.now) (results_in c.loop-lazy.kept) c.next_unkept.new.waiting.items c.in-Some.lazy
    c.loop-lazy.waiting.items c.loop-lazy.invariant.waits c.in-Some.ensures (results_in c.keep_or_wait.new.kept) c.keep_or_wait.new.waiting.items c.in_ok-keep_or_wait.ensures.ok

pub loop-lazy-preserved : goal.loop-lazy-preserved
loop-lazy-preserved c = record {
  waits =
      waits_next (scope_view c.args.scope.now) c.requires.ready c.args.waiting.now.items (results_in c.args.kept.now) (results_in c.loop-lazy.kept) c.next_unkept.new.waiting.items c.in-Some.lazy
      c.loop-lazy.waiting.items c.loop-lazy.invariant.waits c.in-Some.ensures (results_in c.keep_or_wait.new.kept) c.keep_or_wait.new.waiting.items c.in_ok-keep_or_wait.ensures.ok;
}

pub returns-in_err-keep_or_wait-clause-settled : goal.returns-in_err-keep_or_wait-clause-settled
returns-in_err-keep_or_wait-clause-settled c =
    settled_same (scope_view c.args.scope.now) (results_in c.loop-lazy.kept) (results_in c.keep_or_wait.new.kept) c.in_err-keep_or_wait.ensures.err c.loop-lazy.invariant.waits.settled

pub returns-clause-all : goal.returns-clause-all
returns-clause-all c =
    waits_done (scope_view c.args.scope.now) c.args.waiting.now.items (results_in c.args.kept.now) (results_in c.loop-lazy.kept) c.loop-lazy.waiting.items c.loop-lazy.invariant.waits c.in_default.ensures
