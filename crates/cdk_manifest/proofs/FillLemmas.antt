-- Objects that are filled in one walk over all constructs.
use Rattle.std.proofs.Common.{◌≡◌, ℕ, ◌+◌, ◌-◌, ◌<◌, ◌≤◌, List, [], ◌∷◌, length, Bool, true, false, cond, Some, String, BTreeMap, Global, refl, ap, ◌∙◌, arith}
use Rattle.std.specs.Prelude.{filter}
use Rattle.std.specs.List.{range_with_len}
use Rattle.std.specs.BTreeMap.{btree_map_len}
use Rattle.serde_json.specs.Data.{Data, Members, object, put}
use Rattle.serde_json.specs.View.{members_view, view}
use Rattle.serde_json.specs.declared.value.Value.{Value, Object}
use Rattle.serde_json.proofs.Views.{view-Object}
use Rattle.cdk_stacks.proofs.Tests.{range_rest}
use Rattle.cdk_manifest.specs.Objects.{filled, put_where, unless_empty}

not_empty_at : (es : List (String Global × Value)) → (length es ≡ 0 → ⊥) → Some (object (members_view es)) ≡ unless_empty (members_view es)
not_empty_at [] some = absurd (some refl)
not_empty_at (e ∷ es) some = refl

-- an object that has members
pub not_empty : (m : BTreeMap (String Global) Value) → (btree_map_len m ≡ 0 → ⊥) → Some (view (Object m)) ≡ unless_empty (members_view m.entries)
not_empty m some = ap Some (view-Object m) ∙ not_empty_at m.entries some

module _ (name : ℕ → List ℕ) (entry : ℕ → Data) (test : ℕ → Bool) where
  -- the entries of those from a number on
  abbrev pub filled_from : ℕ → ℕ → Members → Members
  filled_from n count ms = filled name entry (filter test (range_with_len n (count - n))) ms

  one_more : (n : ℕ) (ns : List ℕ) (ms : Members) → (b : Bool) → filled name entry (cond b (n ∷ ns) ns) ms ≡ filled name entry ns (cond b (put (name n) (entry n) ms) ms)
  one_more n ns ms true = refl
  one_more n ns ms false = refl

  -- the first of them
  pub filled_from-next : (n count : ℕ) (ms : Members) → n < count → filled_from n count ms ≡ filled_from (n + 1) count (put_where name entry test n ms)
  filled_from-next n count ms within =
      ap (λ ns. filled name entry (filter test ns) ms) (range_rest n count within)
      ∙ one_more n (filter test (range_with_len (n + 1) (count - (n + 1)))) ms (test n)

  -- none is left
  pub filled_from-end : (n count : ℕ) (ms : Members) → count ≤ n → filled_from n count ms ≡ ms
  filled_from-end n count ms past = let none : count - n ≡ 0 = omega arith in ap (λ k. filled name entry (filter test (range_with_len n k)) ms) none

  -- all are left
  pub filled_from-start : (count : ℕ) (ms : Members) → filled name entry (filter test (range_with_len 0 count)) ms ≡ filled_from 0 count ms
  filled_from-start count ms = let all : count ≡ count - 0 = omega arith in ap (λ k. filled name entry (filter test (range_with_len 0 k)) ms) all
