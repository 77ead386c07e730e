use Rattle.std.proofs.Common.{◌≡◌, ℕ, List, ◌++◌, drop, false}
use Rattle.md5.specs.Md5.{Holds}
use Rattle.cdk_names.proofs.Parts.{slashed}
use Rattle.cdk_names.proofs.hash.digest_of.Given as goal

abbrev pub invariant-loop-component : goal.invariant-loop-component
invariant-loop-component l =
    (m : List ℕ) × Holds l.hasher m × (m ++ slashed l.later (drop l.component-index l.components) ≡ slashed false l.components)
