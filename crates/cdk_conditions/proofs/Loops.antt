-- Conditions that are kept as loops, one after the other.
use Rattle.std.proofs.Common.{◌≡◌, ℕ, zero, suc, ◌<◌, List, length, get_or, Bor, [], ◌∷◌, Bool, true, false, cond, Option, Some, None, refl, sym, subst, ap, ◌∙◌, inl, inr, arith}
use Rattle.std.specs.Prelude.{◌⊎◌, bytes_eq, if◌then◌else◌}
use Rattle.std.specs.List.{slice_get}
use Rattle.cdk_eval.specs.Outcomes.{Untold}
use Rattle.cdk_eval.specs.Reach.{IsIn}
use Rattle.cdk_eval.specs.Views.{truth_view}
use Rattle.cdk_eval.specs.declared.fault.EvalFault.TheVariants.{ConditionLoop}
use Rattle.cdk_eval.proofs.Reach.{bytes_same, same_bytes}
use Rattle.cdk_scopes.specs.Scopes.{kept_at}
use Rattle.cdk_scopes.specs.declared.truths.Kept.{Kept}
use Rattle.cdk_scopes.specs.declared.truths.Truths.{Truths}
use Rattle.cdk_conditions.specs.Closing.{IsLooping, KeepsLoops}
use Rattle.cdk_conditions.specs.Kept.{texts_of}

pub in_at : (ns : List (Bor (List ℕ))) (i : ℕ) (d : Bor (List ℕ)) → i < length ns → IsIn (get_or ns i d).now (texts_of ns)
in_at [] i d h = absurd (omega arith)
in_at (n ∷ ns) zero d h = inl refl
in_at (n ∷ ns) (suc i) d h = inr (in_at ns i d (omega arith))

pub first_in : (ns : List (Bor (List ℕ))) (m : Bor (List ℕ)) → Some m ≡ slice_get ns 0 → IsIn m.now (texts_of ns)
first_in [] m h = cc
first_in (n ∷ ns) m h = let same : n ≡ m = cc in inl (ap (λ (b : Bor (List ℕ)). b.now) same)

pub first_none : (ns : List (Bor (List ℕ))) → None ≡ slice_get ns 0 → ns ≡ []
first_none [] h = refl
first_none (n ∷ ns) h = cc

-- all are kept but the rest
pub record AreKept (names : List (List ℕ)) (old : List ℕ → Option Kept) (rest : List (List ℕ)) (now : List ℕ → Option Kept) : Type 0 where
  pub each : (n : List ℕ) → IsIn n names → IsLooping (now n) ⊎ IsIn n rest
  pub others : (n : List ℕ) → (IsIn n names × IsLooping (now n)) ⊎ (now n ≡ old n)

pub keeps_more : (names : List (List ℕ)) (old : List ℕ → Option Kept) (rest : List (List ℕ)) (x : List ℕ) (was now : List ℕ → Option Kept) (k : Kept)
    → truth_view k.truth ≡ Untold ConditionLoop → k.is_loop ≡ true → IsIn x names → AreKept names old (x ∷ rest) was → ((n : List ℕ) → now n ≡ (if bytes_eq x n then Some k else was n)) → AreKept names old rest now
keeps_more names old rest x was now k truth is_loop here kept updates = record {
  each = λ n i. each n (kept.each n i);
  others = λ n. others n (bytes_eq x n) refl (kept.others n);
}
  where
    one : IsLooping (Some k)
    one = record { one = k; found = refl; truth = truth; is_loop = is_loop }

    either : (b : Bool) (o : Option Kept) → IsLooping o → IsLooping (cond b (Some k) o)
    either true o h = one
    either false o h = h

    looping : (n : List ℕ) → IsLooping (was n) → IsLooping (now n)
    looping n h = subst IsLooping (sym (updates n)) (either (bytes_eq x n) (was n) h)

    at_x : IsLooping (now x)
    at_x = subst IsLooping (sym (updates x ∙ ap (λ b. cond b (Some k) (was x)) (same_bytes x))) one

    each : (n : List ℕ) → IsLooping (was n) ⊎ IsIn n (x ∷ rest) → IsLooping (now n) ⊎ IsIn n rest
    each n (inl h) = inl (looping n h)
    each n (inr (inl e)) = inl (subst (λ (m : List ℕ). IsLooping (now m)) e at_x)
    each n (inr (inr i)) = inr i

    others : (n : List ℕ) (b : Bool) → bytes_eq x n ≡ b → (IsIn n names × IsLooping (was n)) ⊎ (was n ≡ old n) → (IsIn n names × IsLooping (now n)) ⊎ (now n ≡ old n)
    others n true e h = let same = bytes_same x n e in inl (subst (λ (m : List ℕ). IsIn m names) same here, subst (λ (m : List ℕ). IsLooping (now m)) same at_x)
    others n false e (inl h) = inl (h.0, looping n h.1)
    others n false e (inr h) = inr (updates n ∙ ap (λ b. cond b (Some k) (was n)) e ∙ h)

pub keeps_all : (names : List (List ℕ)) (old new : Truths) → AreKept names (kept_at old.kept) [] (kept_at new.kept) → KeepsLoops names old new
keeps_all names old new kept = record { kept = λ n i. at n (kept.each n i); others = kept.others }
  where
    at : (n : List ℕ) → IsLooping (kept_at new.kept n) ⊎ IsIn n [] → IsLooping (kept_at new.kept n)
    at n (inl h) = h
    at n (inr i) = absurd i
