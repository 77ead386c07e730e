-- Objects by the numbers of constructs: one more that is empty, and none.
use Rattle.std.proofs.Common.{◌≡◌, ℕ, zero, suc, List, [], ◌∷◌, ◌++◌, String, BTreeMap, Global, refl}
use Rattle.serde_json.specs.Data.{no_members}
use Rattle.serde_json.specs.View.{members_view}
use Rattle.serde_json.specs.declared.value.Value.{Value}
use Rattle.cdk_objects.specs.Maps.{members_in}

-- one more object that is empty
pub members_in-push : (maps : List (BTreeMap (String Global) Value)) (m : BTreeMap (String Global) Value) → members_view m.entries ≡ no_members
    → ((n : ℕ) → members_in maps n ≡ no_members) → (n : ℕ) → members_in (maps ++ m ∷ []) n ≡ no_members
members_in-push [] m e all zero = e
members_in-push [] m e all (suc n) = all n
members_in-push (x ∷ maps) m e all zero = all zero
members_in-push (x ∷ maps) m e all (suc n) = members_in-push maps m e (λ k. all (suc k)) n

pub members_in-none : (n : ℕ) → members_in [] n ≡ no_members
members_in-none zero = refl
members_in-none (suc n) = refl
