-- The names that are taken while constructs are looked at in walk order.
use Rattle.std.specs.Prelude.{◌≡◌, ◌||◌, ℕ, List, Option, None}
use Rattle.std.specs.List.{list_any, range_with_len}
use Rattle.cdk_claims.specs.Claims.{Claim, is_claim}
use Rattle.cdk_claims.specs.Taken.{is_taken}
use Rattle.cdk_claims.specs.declared.scoped.ScopedNames.{ScopedNames}
use Rattle.cdk_tree.specs.Placed.{Placed}
use Rattle.cdk_stacks.specs.Claims.{artifact_claim, logical_claim, stack_claim, tree_claim}
use Rattle.cdk_stacks.specs.declared.taken.Taken.{Taken}

-- what is taken is what was claimed at first, and what the constructs of lower numbers than n claim
pub record TakesBefore (s : ScopedNames) (at_first : Option Claim) (claim_of : ℕ → Option Claim) (n : ℕ) : Type 0 where
  pub taken : (scope : ℕ) (name : List ℕ) → is_taken s scope name ≡ (is_claim at_first scope name || list_any (λ m. is_claim (claim_of m) scope name) (range_with_len 0 n))

pub record HasTaken (t : Taken) (cs : List Placed) (n : ℕ) : Type 0 where
  pub logical : TakesBefore t.logical None (logical_claim cs) n
  pub stacks : TakesBefore t.stacks None (stack_claim cs) n
  pub artifacts : TakesBefore t.artifacts tree_claim (artifact_claim cs) n
