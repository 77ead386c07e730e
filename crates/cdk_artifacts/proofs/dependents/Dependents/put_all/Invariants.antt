use Rattle.std.proofs.Common.{◌≡◌, ℕ, ◌+◌, List, drop}
use Rattle.std.specs.Prelude.{nat_eq, if◌then◌else◌}
use Rattle.cdk_artifacts.specs.Found.{texts_of}
use Rattle.cdk_artifacts.specs.Queued.{times, occurrences, numbers_at}
use Rattle.cdk_artifacts.proofs.dependents.Dependents.put_all.Given as goal

abbrev pub invariant-loop-name : goal.invariant-loop-name
invariant-loop-name l = (n : List ℕ) (k : ℕ) →
    occurrences k (numbers_at l.self n) + (if nat_eq l.number k then times n (texts_of (drop l.name-index l.names)) else 0)
    ≡ occurrences k (numbers_at l.initial.self n) + (if nat_eq l.number k then times n (texts_of l.names) else 0)
