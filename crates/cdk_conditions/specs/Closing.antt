-- What is kept where no name of a group waits.
use Rattle.std.specs.Prelude.{◌≡◌, ◌⊎◌, ℕ, List, true, false, Option, Some, bytes_eq, if◌then◌else◌}
use Rattle.serde_json.specs.Data.{Data}
use Rattle.cdk_eval.specs.Conditions.{truth_of}
use Rattle.cdk_eval.specs.Outcomes.{Outcome, Untold}
use Rattle.cdk_eval.specs.Reach.{IsIn}
use Rattle.cdk_eval.specs.Views.{truth_view}
use Rattle.cdk_eval.specs.declared.fault.EvalFault.TheVariants.{ConditionLoop}
use Rattle.cdk_scopes.specs.Scopes.{kept_at, truth_in}
use Rattle.cdk_scopes.specs.declared.truths.Kept.{Kept}
use Rattle.cdk_scopes.specs.declared.truths.Truths.{Truths}

-- kept as a condition that reaches itself
pub record IsLooping (o : Option Kept) : Type 0 where
  pub one : Kept
  pub found : o ≡ Some one
  pub truth : truth_view one.truth ≡ Untold ConditionLoop
  pub is_loop : one.is_loop ≡ true

pub record KeepsLoops (names : List (List ℕ)) (old new : Truths) : Type 0 where
  pub kept : (n : List ℕ) → IsIn n names → IsLooping (kept_at new.kept n)
  pub others : (n : List ℕ) → (IsIn n names × IsLooping (kept_at new.kept n)) ⊎ (kept_at new.kept n ≡ kept_at old.kept n)

-- one more is kept: the truth of its form, under the truths so far
pub record KeepsTruth (operand : Data → Outcome) (name : List ℕ) (d : Data) (old new : Truths) : Type 0 where
  pub one : Kept
  pub truth : truth_view one.truth ≡ truth_of operand (truth_in old) d
  pub is_loop : one.is_loop ≡ false
  pub updates : (n : List ℕ) → kept_at new.kept n ≡ (if bytes_eq name n then Some one else kept_at old.kept n)
