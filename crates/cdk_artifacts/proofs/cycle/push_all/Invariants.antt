use Rattle.std.proofs.Common.{◌≡◌, List, ℕ, Bool, true, drop}
use Rattle.cdk_artifacts.specs.Found.{has_name}
use Rattle.cdk_artifacts.specs.Found.{texts_of}
use Rattle.cdk_artifacts.specs.Ways.{Grows, AreSeen}
use Rattle.cdk_artifacts.proofs.cycle.push_all.Given as goal

abbrev pub invariant-loop-id : goal.invariant-loop-id
invariant-loop-id l =
    Grows (texts_of l.dependencies) (has_name l.initial.seen) (has_name l.seen) (texts_of l.initial.open_ids) (texts_of l.open_ids)
    × ((t : List ℕ → Bool) → ((n : List ℕ) → has_name l.seen n ≡ true → t n ≡ true) → AreSeen l.goal t (texts_of (drop l.id-index l.dependencies)) → AreSeen l.goal t (texts_of l.dependencies))
