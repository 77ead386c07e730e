-- A store of results to which a slot is added for a lazy of which nothing was kept.
use Rattle.std.proofs.Common.{◌≡◌, ◌==◌, ℕ, Option, Some, None, Result, Ok, Err, option_and_then, inl, inr, refl, sym, ap, ◌∙◌, subst, if◌then◌else◌}
use Rattle.std.proofs.lemmas.Bool.{cases_eq, cond-false, cond-true, eq-eqb, ne_eqb}
use Rattle.std.specs.BTreeMap.{BTreeMap, IsUnchanged, Updates}
use Rattle.std.specs.Cmp.{unsigned_ties}
use Rattle.std.specs.Map.{lookup}
use Rattle.std.specs.Ordering.{is_eq, nat_cmp}
use Rattle.std.specs.Prelude.{OnErr, OnOk}
use Rattle.serde_json.specs.Data.{Data}
use Rattle.cdk_leaves.specs.Lazies.{IsKept}
use Rattle.cdk_leaves.specs.Slots.{IsOwn, own_in, own_json, result_of, root_of, slot_json, slot_of, slot_root}
use Rattle.cdk_leaves.specs.declared.results.Slot.TheVariants.{Own, Same}
use Rattle.cdk_leaves.specs.declared.results.Slot.{Slot}

-- each slot that points to another lazy points to one that is kept as its own
abbrev pub AreSettled : BTreeMap ℕ Slot → Type 0
AreSettled slots = (n m : ℕ) → slot_of slots n ≡ Some (Same m) → IsOwn (slot_of slots m)

-- as such a slot does
abbrev pub PointsRight : BTreeMap ℕ Slot → Slot → Type 0
PointsRight slots (Own v) = Unit {0}
PointsRight slots (Same m) = IsOwn (slot_of slots m)

-- ---- what a store keeps

own_is_kept : (o : Option Slot) → IsOwn o → option_and_then own_json o ≡ None → ⊥
own_is_kept None own e = cc own
own_is_kept (Some (Own v)) own e = cc e
own_is_kept (Some (Same m)) own e = cc own

slot_is_kept : (slots : BTreeMap ℕ Slot) (s : Slot) → PointsRight slots s → slot_json slots s ≡ None → ⊥
slot_is_kept slots (Own v) right e = cc e
slot_is_kept slots (Same m) right e = own_is_kept (slot_of slots m) right e

points_right : (slots : BTreeMap ℕ Slot) → AreSettled slots → (n : ℕ) (s : Slot) → slot_of slots n ≡ Some s → PointsRight slots s
points_right slots settled n (Own v) e = tt
points_right slots settled n (Same m) e = settled n m e

-- where nothing is kept there is no slot
no_slot : (slots : BTreeMap ℕ Slot) → AreSettled slots → (n : ℕ) (o : Option Slot) → slot_of slots n ≡ o → option_and_then (slot_json slots) o ≡ None → o ≡ None
no_slot slots settled n None e none = refl
no_slot slots settled n (Some s) e none = absurd (slot_is_kept slots s (points_right slots settled n s e) none)

pub nothing_kept : (slots : BTreeMap ℕ Slot) → AreSettled slots → (n : ℕ) → result_of slots n ≡ None → slot_of slots n ≡ None
nothing_kept slots settled n none = no_slot slots settled n (slot_of slots n) refl none

-- ---- roots

root_right : (slots : BTreeMap ℕ Slot) → AreSettled slots → (n : ℕ) (o : Option Slot) → slot_of slots n ≡ o → (r : Data) → option_and_then (slot_json slots) o ≡ Some r → IsOwn (slot_of slots (slot_root n o))
root_right slots settled n None e r kept = absurd (cc kept)
root_right slots settled n (Some (Own v)) e r kept = subst IsOwn (sym e) refl
root_right slots settled n (Some (Same m)) e r kept = settled n m e

-- the lazy that a kept one's JSON is kept of is kept as its own
pub root_is_own : (slots : BTreeMap ℕ Slot) → AreSettled slots → (n root : ℕ) → IsKept (result_of slots) n → root ≡ root_of slots n → IsOwn (slot_of slots root)
root_is_own slots settled n root kept is = subst (λ m. IsOwn (slot_of slots m)) (sym is) (root_right slots settled n (slot_of slots n) refl kept.result kept.is)

root_same : (slots : BTreeMap ℕ Slot) (n : ℕ) (o : Option Slot) → slot_of slots n ≡ o → (r : Data) → option_and_then (slot_json slots) o ≡ Some r → own_in slots (slot_root n o) ≡ option_and_then (slot_json slots) o
root_same slots n None e r kept = absurd (cc kept)
root_same slots n (Some (Own v)) e r kept = ap (option_and_then own_json) e
root_same slots n (Some (Same m)) e r kept = refl

-- and has the same JSON
pub root_has_result : (slots : BTreeMap ℕ Slot) (n root : ℕ) → IsKept (result_of slots) n → root ≡ root_of slots n → own_in slots root ≡ result_of slots n
root_has_result slots n root kept is = ap (own_in slots) is ∙ root_same slots n (slot_of slots n) refl kept.result kept.is

-- ---- one slot more

-- `after` has the slot of the lazy, of which `before` had none, and all of `before`
pub record Adds (before after : BTreeMap ℕ Slot) (lazy : ℕ) (slot : Slot) : Type 0 where
  pub settled : AreSettled before
  pub free : slot_of before lazy ≡ None
  pub right : PointsRight before slot
  pub updates : (n : ℕ) → slot_of after n ≡ (if lazy == n then Some slot else slot_of before n)

-- as an insert makes it
pub adds_by : (before after : BTreeMap ℕ Slot) (lazy number : ℕ) (slot : Slot) → AreSettled before → result_of before lazy ≡ None → PointsRight before slot → number ≡ lazy
    → Updates nat_cmp before after number (Some slot) → Adds before after lazy slot
adds_by before after lazy number slot settled none right same updates = record {
  settled = settled;
  free = nothing_kept before settled lazy none;
  right = right;
  updates = λ n. updates.0 n ∙ ap (λ b. if b then Some slot else slot_of before n) (sym (unsigned_ties number n) ∙ ap (λ k. k == n) same);
}

module _ (before after : BTreeMap ℕ Slot) (lazy : ℕ) (slot : Slot) (adds : Adds before after lazy slot) where
  new_slot : (n : ℕ) → n ≡ lazy → slot_of after n ≡ Some slot
  new_slot n e = adds.updates n ∙ cond-true (lazy == n) (Some slot) (slot_of before n) (eq-eqb lazy n (sym e))

  other_slot : (n : ℕ) → (n ≡ lazy → ⊥) → slot_of after n ≡ slot_of before n
  other_slot n other = adds.updates n ∙ cond-false (lazy == n) (Some slot) (slot_of before n) (ne_eqb lazy n (λ e. other (sym e)))

  -- what a lazy was kept as stays
  own_stays : (n : ℕ) → IsOwn (slot_of before n) → slot_of after n ≡ slot_of before n
  own_stays n own = other_slot n (λ e. let none : IsOwn None = subst IsOwn (ap (slot_of before) e ∙ adds.free) own in cc none)

  own_still : (n : ℕ) → IsOwn (slot_of before n) → IsOwn (slot_of after n)
  own_still n own = subst IsOwn (sym (own_stays n own)) own

  same_json : (s : Slot) → PointsRight before s → slot_json after s ≡ slot_json before s
  same_json (Own v) right = refl
  same_json (Same m) right = ap (option_and_then own_json) (own_stays m right)

  same_result : (n : ℕ) (o : Option Slot) → slot_of before n ≡ o → option_and_then (slot_json after) o ≡ option_and_then (slot_json before) o
  same_result n None e = refl
  same_result n (Some s) e = same_json s (points_right before adds.settled n s e)

  pub added_results : (n : ℕ) → result_of after n ≡ (if n == lazy then slot_json before slot else result_of before n)
  added_results n = elim (cases_eq n lazy) [
    | inl e ↦ ap (option_and_then (slot_json after)) (new_slot n e) ∙ (same_json slot adds.right ∙ sym (cond-true (n == lazy) (slot_json before slot) (result_of before n) (eq-eqb n lazy e)))
    | inr other ↦
        ap (option_and_then (slot_json after)) (other_slot n other)
        ∙ (same_result n (slot_of before n) refl ∙ sym (cond-false (n == lazy) (slot_json before slot) (result_of before n) (ne_eqb n lazy other)))
  ]

  still_right : (s : Slot) → PointsRight before s → PointsRight after s
  still_right (Own v) right = tt
  still_right (Same m) right = own_still m right

  pub added_settled : AreSettled after
  added_settled n m e = elim (cases_eq n lazy) [
    | inl new ↦ let same : slot ≡ Same m = cc (sym (new_slot n new) ∙ e) in own_still m (subst (PointsRight before) same adds.right)
    | inr other ↦ own_still m (adds.settled n m (sym (other_slot n other) ∙ e))
  ]

-- ---- after an insert, which may have failed

unchanged_slot : (before after : BTreeMap ℕ Slot) → IsUnchanged before after → (n : ℕ) → slot_of after n ≡ slot_of before n
unchanged_slot before after same n = ap (λ es. lookup (λ k. is_eq (nat_cmp n k)) es) same

pub settled_by : {T E : Type 0} (before after : BTreeMap ℕ Slot) (lazy number : ℕ) (slot : Slot) (r : Result T E) → AreSettled before → result_of before lazy ≡ None → PointsRight before slot → number ≡ lazy
    → OnOk r (Updates nat_cmp before after number (Some slot)) → OnErr r (IsUnchanged before after) → AreSettled after
settled_by before after lazy number slot (Ok x) settled none right same updates unchanged = added_settled before after lazy slot (adds_by before after lazy number slot settled none right same updates)
settled_by before after lazy number slot (Err e) settled none right same updates unchanged = λ n m at.
    subst IsOwn (sym (unchanged_slot before after unchanged m)) (settled n m (sym (unchanged_slot before after unchanged n) ∙ at))
