-- The names that are taken, each in a scope.
use Rattle.std.specs.Prelude.{ℕ, List, Bool, false, Option, Some, None, is_some}
use Rattle.std.specs.declared.cmp.Ordering.{Ordering}
use Rattle.std.specs.BTreeMap.{get_by}
use Rattle.std.specs.Ordering.{nat_cmp, ordering_then}
use Rattle.std.specs.Cmp.Lexicographic.{slice_cmp}
use denote.Ref.{Bor}
use Rattle.cdk_claims.specs.Claims as claims
use Rattle.cdk_claims.specs.declared.scoped.Claim.{Claim}
use Rattle.cdk_claims.specs.declared.scoped.ScopedNames.{ScopedNames}

abbrev pub claim_view : Claim → claims.Claim
claim_view c = (c.scope, c.name.now)

-- how a scope and a name compare with a key
abbrev pub key_cmp : ℕ → List ℕ → ℕ × Bor (List ℕ) → Ordering
key_cmp scope name k = ordering_then (nat_cmp scope k.0) (slice_cmp nat_cmp name k.1.now)

-- the name is taken in the scope
abbrev pub is_taken : ScopedNames → ℕ → List ℕ → Bool
is_taken s scope name = is_some (get_by (key_cmp scope name) s.names)

abbrev pub is_claim_taken : ScopedNames → Option claims.Claim → Bool
is_claim_taken s None = false
is_claim_taken s (Some c) = is_taken s c.0 c.1
