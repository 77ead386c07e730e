use Rattle.std.proofs.Common.{[], false, length, map, sym, ap, ◌∙◌}
use Rattle.std.specs.Prelude.{◌&&◌, not, nat_eq, slice_index}
use Rattle.cdk_eval.specs.Reach.{is_among}
use Rattle.cdk_artifacts.specs.Found.{stack_view}
use Rattle.cdk_artifacts.specs.Queued.{missing}
use Rattle.cdk_artifacts.proofs.Counting.{counts_first, missing_all, value_same}
use Rattle.cdk_artifacts.proofs.queue.Queue.of_stacks.Goals as goal

pub returns : goal.returns
returns c = record {
  waiting = λ k. ap (λ xs. slice_index xs k) c.in_ok-counts.ensures ∙ counts_first c.args.stacks.now k;
  ready = λ k. c.in_ok-ready.ensures k ∙ value_same false (λ s. nat_eq (length s.dependencies) 0) (λ s. not (is_among s.id []) && nat_eq (missing [] s.dependencies) 0) (λ s. ap (λ m. nat_eq m 0) (sym (missing_all s.dependencies))) (map stack_view c.args.stacks.now) k;
}
