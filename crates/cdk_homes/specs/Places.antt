-- The places that an index has.
use Rattle.std.specs.Prelude.{ℕ, List, Option, Some, None, option_and_then}
use Rattle.std.specs.BTreeMap.{get_by, get_by_text}
use Rattle.std.specs.Ordering.{nat_cmp, ordering_then}
use Rattle.cdk_homes.specs.declared.index.Index.{Index}
use Rattle.cdk_homes.specs.declared.places.Places.{Places}

-- of a consumer and what it refers to
abbrev pub place_of : Places → ℕ → ℕ → Option ℕ
place_of p c a = get_by (λ k. ordering_then (nat_cmp c k.0) (nat_cmp a k.1)) p.places

-- of a consumer and a target
abbrev pub place_in : Index → ℕ → ℕ → Option (List ℕ) → Option ℕ
place_in i c a None = place_of i.references c a
place_in i c a (Some t) = option_and_then (λ p. place_of p c a) (get_by_text i.attributes t)
