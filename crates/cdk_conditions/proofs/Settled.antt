-- The truth of a condition whose names are settled.
use Rattle.std.proofs.Common.{◌≡◌, ℕ, zero, suc, List, [], ◌∷◌, Bool, true, false, cond, Option, Some, None, refl, sym, subst, ap, ◌∙◌, inl, inr}
use Rattle.std.specs.Prelude.{◌⊎◌, ◌||◌, is_some, bytes_eq, if◌then◌else◌}
use Rattle.std.specs.Ordering.{nat_cmp, match_ordering, is_eq}
use Rattle.std.specs.declared.cmp.Ordering.{Ordering}
use Rattle.std.specs.declared.cmp.Ordering.TheVariants.{Less, Equal, Greater}
use Rattle.std.specs.Cmp.Lexicographic.{slice_cmp}
use Rattle.std.proofs.lemmas.Map.Text.{is_eq-slice_cmp}
use Rattle.serde_json.specs.Data.{Data, Members, member}
use Rattle.serde_json.specs.Find.{get_member}
use Rattle.cdk_eval.specs.declared.fault.EvalFault.TheVariants.{UnknownName, ConditionLoop}
use Rattle.cdk_eval.specs.Conditions.{names_in, names_of, count, is_loop, found_truth, truth_of, truth_within, named_truth}
use Rattle.cdk_eval.specs.Outcomes.{Outcome, Untold}
use Rattle.cdk_eval.specs.Reach.{IsIn, comes_to}
use Rattle.cdk_eval.proofs.Reach.{bytes_same, same_bytes}
use Rattle.cdk_eval.proofs.Bound.{truth_same, loops_found, names_opened}
use Rattle.cdk_scopes.specs.Scopes.{kept_at, kept_truth, truth_in}
use Rattle.cdk_scopes.specs.declared.truths.Kept.{Kept}
use Rattle.cdk_scopes.specs.declared.truths.Truths.{Truths}
use Rattle.cdk_conditions.specs.Closing.{IsLooping, KeepsLoops, KeepsTruth}
use Rattle.cdk_conditions.specs.Kept.{is_kept, IsKeptRight, AreRight, IsSettled, AreSettled}
use Rattle.cdk_conditions.specs.Walks.{leads_in, Leads, AreClosed}
use Rattle.cdk_conditions.proofs.Ways.{any_of, or_true}

module _ (op : Data → Outcome) (cs : Members) where
  loop_within : (n : ℕ) (c : List ℕ) (d : Data) → get_member c cs ≡ Some d → is_loop cs c ≡ true → truth_within op cs n c ≡ Untold ConditionLoop
  loop_within zero c d found loop = ap (found_truth (λ d. Untold ConditionLoop)) found
  loop_within (suc n) c d found loop =
      ap (found_truth (λ d. if is_loop cs c then Untold ConditionLoop else truth_of op (truth_within op cs n) d)) found ∙ ap (λ b. if b then Untold ConditionLoop else truth_of op (truth_within op cs n) d) loop

  pub loop_truth : (c : List ℕ) (d : Data) → get_member c cs ≡ Some d → is_loop cs c ≡ true → named_truth op cs c ≡ Untold ConditionLoop
  loop_truth c d found loop = loop_within (count cs) c d found loop

  unknown_within : (n : ℕ) (c : List ℕ) → get_member c cs ≡ None → truth_within op cs n c ≡ Untold UnknownName
  unknown_within zero c none = ap (found_truth (λ d. Untold ConditionLoop)) none
  unknown_within (suc n) c none = ap (found_truth (λ d. if is_loop cs c then Untold ConditionLoop else truth_of op (truth_within op cs n) d)) none

  pub kept_alike : (ts : Truths) → AreRight op cs ts → (n : List ℕ) → IsSettled cs ts n → truth_in ts n ≡ named_truth op cs n
  kept_alike ts right n settled = at (kept_at ts.kept n) refl (right n) settled
    where
      at : (o : Option Kept) → kept_at ts.kept n ≡ o → IsKeptRight op cs n o → (is_some o ≡ true) ⊎ (get_member n cs ≡ None) → kept_truth o ≡ named_truth op cs n
      at None e r (inl k) = cc
      at None e r (inr none) = sym (unknown_within (count cs) n none)
      at (Some k) e r s = r.0

  pub settled_truth : (ts : Truths) (c : List ℕ) (d : Data) → AreRight op cs ts → get_member c cs ≡ Some d → AreSettled cs ts (names_in d) → is_loop cs c ≡ false → truth_of op (truth_in ts) d ≡ named_truth op cs c
  settled_truth ts c d right found settled no_loop =
      truth_same op (truth_in ts) (named_truth op cs) d (λ n i. kept_alike ts right n (settled n i)) ∙ sym (names_opened op cs c d found no_loop)

  -- ---- what is settled leads to what is settled

  known_no : (n d : List ℕ) → get_member n cs ≡ None → IsIn d (leads_in cs n) → ⊥
  known_no n d none i = subst (λ o. IsIn d (names_of o)) none i

  settled_next : (ts : Truths) → AreClosed cs ts → (n d : List ℕ) → IsSettled cs ts n → IsIn d (leads_in cs n) → IsSettled cs ts d
  settled_next ts closed n d (inl k) i = closed n k d i
  settled_next ts closed n d (inr none) i = absurd (known_no n d none i)

  settled_on : (ts : Truths) → AreClosed cs ts → (k : ℕ) (n g : List ℕ) → AreSettled cs ts (leads_in cs n) → comes_to (leads_in cs) k g n ≡ true → IsSettled cs ts g
  settled_on ts closed zero n g settled h = cc
  settled_on ts closed (suc k) n g settled h =
      let r = any_of (λ d. bytes_eq d g || comes_to (leads_in cs) k g d) (leads_in cs n) h in
      at r.0 (settled r.0 r.1) (or_true (bytes_eq r.0 g) (comes_to (leads_in cs) k g r.0) r.2) (λ u. settled_on ts closed k r.0 g (λ d i. settled_next ts closed r.0 d (settled r.0 r.1) i) u)
    where
      at : (d : List ℕ) → IsSettled cs ts d → (bytes_eq d g ≡ true) ⊎ (comes_to (leads_in cs) k g d ≡ true) → (comes_to (leads_in cs) k g d ≡ true → IsSettled cs ts g) → IsSettled cs ts g
      at d s (inl e) later = subst (IsSettled cs ts) (bytes_same d g e) s
      at d s (inr u) later = later u

  pub no_loop : (ts : Truths) (c : List ℕ) → AreClosed cs ts → AreSettled cs ts (leads_in cs c) → (IsSettled cs ts c → ⊥) → is_loop cs c ≡ false
  no_loop ts c closed settled unsettled = at (is_loop cs c) refl
    where
      at : (b : Bool) → is_loop cs c ≡ b → is_loop cs c ≡ false
      at true loop = absurd (unsettled (settled_on ts closed (count cs) c c settled loop))
      at false e = e

  -- ---- more is kept

  kept_either : (a : Bool) (k : Kept) (o : Option Kept) → is_some o ≡ true → is_some (cond a (Some k) o) ≡ true
  kept_either true k o h = refl
  kept_either false k o h = h

  kept_new : (c n : List ℕ) (a : Bool) (k : Kept) (o : Option Kept) → bytes_eq c n ≡ a → is_some (cond a (Some k) o) ≡ true → (c ≡ n) ⊎ (is_some o ≡ true)
  kept_new c n true k o e h = inl (bytes_same c n e)
  kept_new c n false k o e h = inr h

  right_either : (c n : List ℕ) (a : Bool) (k : Kept) (o : Option Kept) → bytes_eq c n ≡ a → IsKeptRight op cs c (Some k) → IsKeptRight op cs n o → IsKeptRight op cs n (cond a (Some k) o)
  right_either c n true k o e new old = subst (λ (m : List ℕ). IsKeptRight op cs m (Some k)) (bytes_same c n e) new
  right_either c n false k o e new old = old

  -- the names are kept too, and no others
  pub record Keeps (names : List (List ℕ)) (old new : Truths) : Type 0 where
    pub right : AreRight op cs new
    pub kept : (n : List ℕ) → is_kept old n ≡ true → is_kept new n ≡ true
    pub each : (n : List ℕ) → IsIn n names → is_kept new n ≡ true
    pub given : (n : List ℕ) → is_kept new n ≡ true → (is_kept old n ≡ true) ⊎ IsIn n names

  is_condition : (ts : Truths) (n : List ℕ) → (IsSettled cs ts n → ⊥) → (d : Data) × (get_member n cs ≡ Some d)
  is_condition ts n unsettled = at (get_member n cs) refl
    where
      at : (o : Option Data) → get_member n cs ≡ o → (d : Data) × (get_member n cs ≡ Some d)
      at None e = absurd (unsettled (inr e))
      at (Some d) e = (d, e)

  pub keeps_loops : (names : List (List ℕ)) (old new : Truths) → AreRight op cs old → ((n : List ℕ) → IsIn n names → Leads cs n n × (IsSettled cs old n → ⊥)) → KeepsLoops names old new → Keeps names old new
  keeps_loops names old new right loops keeps = record {
    right = λ n. right_at n (keeps.others n);
    kept = λ n h. kept_at_all n h (keeps.others n);
    each = λ n i. some n (keeps.kept n i);
    given = λ n h. given_at n h (keeps.others n);
  }
    where
      some : (n : List ℕ) → IsLooping (kept_at new.kept n) → is_kept new n ≡ true
      some n l = ap is_some l.found

      right_at : (n : List ℕ) → (IsIn n names × IsLooping (kept_at new.kept n)) ⊎ (kept_at new.kept n ≡ kept_at old.kept n) → IsKeptRight op cs n (kept_at new.kept n)
      right_at n (inr e) = subst (IsKeptRight op cs n) (sym e) (right n)
      right_at n (inl l) =
          let here = loops n l.0 in
          let loop : is_loop cs n ≡ true = loops_found cs here.0.0 n here.0.1 in
          let found = is_condition old n here.1 in
          subst (IsKeptRight op cs n) (sym l.1.found) (l.1.truth ∙ sym (loop_truth n found.0 found.1 loop), l.1.is_loop ∙ sym loop)

      kept_at_all : (n : List ℕ) → is_kept old n ≡ true → (IsIn n names × IsLooping (kept_at new.kept n)) ⊎ (kept_at new.kept n ≡ kept_at old.kept n) → is_kept new n ≡ true
      kept_at_all n h (inl l) = some n l.1
      kept_at_all n h (inr e) = ap is_some e ∙ h

      given_at : (n : List ℕ) → is_kept new n ≡ true → (IsIn n names × IsLooping (kept_at new.kept n)) ⊎ (kept_at new.kept n ≡ kept_at old.kept n) → (is_kept old n ≡ true) ⊎ IsIn n names
      given_at n h (inl l) = inr l.0
      given_at n h (inr e) = inl (sym (ap is_some e) ∙ h)

  pub keeps_truth : (old new : Truths) (c : List ℕ) (d : Data) → AreRight op cs old → AreClosed cs old → get_member c cs ≡ Some d → AreSettled cs old (leads_in cs c) → (IsSettled cs old c → ⊥) → KeepsTruth op c d old new → Keeps (c ∷ []) old new
  keeps_truth old new c d right closed found settled unsettled keeps = record {
    right = λ n. subst (IsKeptRight op cs n) (sym (keeps.updates n)) (right_either c n (bytes_eq c n) keeps.one (kept_at old.kept n) refl here (right n));
    kept = λ n h. ap is_some (keeps.updates n) ∙ kept_either (bytes_eq c n) keeps.one (kept_at old.kept n) h;
    each = λ n i. name n i;
    given = λ n h. turned n (kept_new c n (bytes_eq c n) keeps.one (kept_at old.kept n) refl (sym (ap is_some (keeps.updates n)) ∙ h));
  }
    where
      no : is_loop cs c ≡ false
      no = no_loop old c closed settled unsettled

      here : IsKeptRight op cs c (Some keeps.one)
      here = (keeps.truth ∙ settled_truth old c d right found (subst (λ o. AreSettled cs old (names_of o)) found settled) no, keeps.is_loop ∙ sym no)

      name : (n : List ℕ) → IsIn n (c ∷ []) → is_kept new n ≡ true
      name n (inl e) = subst (λ (m : List ℕ). is_kept new m ≡ true) e (ap is_some (keeps.updates c) ∙ ap (λ b. is_some (cond b (Some keeps.one) (kept_at old.kept c))) (same_bytes c))
      name n (inr i) = absurd i

      turned : (n : List ℕ) → (c ≡ n) ⊎ (is_kept old n ≡ true) → (is_kept old n ≡ true) ⊎ IsIn n (c ∷ [])
      turned n (inl e) = inr (inl e)
      turned n (inr h) = inl h

-- ---- all conditions are kept

pub next_key : (n k : List ℕ) (e : Data) (ms : Members) → is_some (get_member n (member k e ms)) ≡ true → (k ≡ n) ⊎ (is_some (get_member n ms) ≡ true)
next_key n k e ms h = at (slice_cmp nat_cmp n k) refl h
  where
    at : (o : Ordering) → slice_cmp nat_cmp n k ≡ o → is_some (match_ordering o (get_member n ms) (Some e) (get_member n ms)) ≡ true → (k ≡ n) ⊎ (is_some (get_member n ms) ≡ true)
    at Equal is g = inl (sym (bytes_same n k (sym (is_eq-slice_cmp n k) ∙ ap is_eq is)))
    at Less is g = inr g
    at Greater is g = inr g

none_of : (o : Option Data) → is_some o ≡ false → o ≡ None
none_of None h = refl
none_of (Some d) h = cc

pub all_settled : (cs : Members) (ts : Truths) (n : List ℕ) → (is_some (get_member n cs) ≡ true → (is_kept ts n ≡ true) ⊎ (false ≡ true)) → IsSettled cs ts n
all_settled cs ts n all = at (is_some (get_member n cs)) refl
  where
    kept : (is_kept ts n ≡ true) ⊎ (false ≡ true) → IsSettled cs ts n
    kept (inl k) = inl k
    kept (inr e) = cc

    at : (b : Bool) → is_some (get_member n cs) ≡ b → IsSettled cs ts n
    at true e = kept (all e)
    at false e = inr (none_of (get_member n cs) e)

pub kept_there : (cs : Members) (ts : Truths) (n : List ℕ) → is_some (get_member n cs) ≡ true → IsSettled cs ts n → is_kept ts n ≡ true
kept_there cs ts n there (inl k) = k
kept_there cs ts n there (inr none) = let f = ap is_some none in cc
