use Rattle.std.proofs.Common.{◌≡◌, ℕ, false, length, map, take, nat_cmp}
use Rattle.std.specs.Prelude.{nat_eq}
use Rattle.std.specs.BTreeSet.{contains_by}
use Rattle.cdk_artifacts.specs.Found.{stack_view}
use Rattle.cdk_artifacts.specs.Queued.{value_at}
use Rattle.cdk_artifacts.proofs.queue.ready_of.Given as goal

abbrev pub invariant-loop-number : goal.invariant-loop-number
invariant-loop-number l = (k : ℕ) → contains_by (nat_cmp k) l.ready ≡ value_at false (λ s. nat_eq (length s.dependencies) 0) (map stack_view (take l.number l.stacks)) k
