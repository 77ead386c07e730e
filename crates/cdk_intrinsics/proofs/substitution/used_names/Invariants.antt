use Rattle.std.proofs.Common.{◌≡◌, ℕ, List, Bool, true, drop, map}
use Rattle.cdk_texts.specs.Steps.{part_view}
use Rattle.cdk_scopes.specs.Scopes.{has_name}
use Rattle.cdk_intrinsics.specs.Substitution.{AreUsed}
use Rattle.cdk_intrinsics.proofs.substitution.used_names.Given as goal

abbrev pub invariant-loop-part : goal.invariant-loop-part
invariant-loop-part l = (u : List ℕ → Bool) → ((n : List ℕ) → has_name l.used n ≡ true → u n ≡ true) → AreUsed u (map part_view (drop l.part-index l.parts)) → AreUsed u (map part_view l.parts)
