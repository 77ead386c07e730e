-- Marks of numbers, through their changes.
use Rattle.std.proofs.Common.{◌≡◌, ℕ, zero, suc, ◌+◌, ◌<◌, ◌≤◌, List, length, [], ◌∷◌, ◌++◌, set, Bool, refl, sym, subst, ap, ◌∙◌, inl, inr, arith}
use Rattle.std.specs.Prelude.{◌⊎◌, Contains}
use Rattle.std.proofs.lemmas.Bool.{cases_eq, cases_lt}
use Rattle.std.proofs.lemmas.List.{get_or-set_same, get_or-set_other, get_or_past, length-set}
use Rattle.std.proofs.lemmas.List.Elements.{Contains-push, Contains-push_cases, Contains-append_left}
use Rattle.cdk_graphs.specs.Graph.{Graph, leads}
use Rattle.cdk_graphs.specs.Marks.{mark_at, IsMet, Changes, steps_of, steps_new}
use Rattle.cdk_graphs.specs.declared.marks.Mark.{Mark}
use Rattle.cdk_graphs.specs.declared.marks.Mark.TheVariants.{New, Open, Told}

-- ---- one mark

pub same_position : (m : Mark) (j k : ℕ) → m ≡ Open j → m ≡ Open k → j ≡ k
same_position m j k h e = cc

pub open_met : (m : Mark) (k : ℕ) → m ≡ Open k → m ≡ New → ⊥
open_met m k h e = cc

pub told_met : (m : Mark) (b : Bool) → m ≡ Told b → m ≡ New → ⊥
told_met m b h e = cc

pub open_untold : (m : Mark) (k : ℕ) (b : Bool) → m ≡ Open k → m ≡ Told b → ⊥
open_untold m k b h e = cc

pub same_answer : (m : Mark) (a b : Bool) → m ≡ Told a → m ≡ Told b → a ≡ b
same_answer m a b h e = cc

pub rest_told : (m : Mark) → (m ≡ New → ⊥) → ((k : ℕ) → m ≡ Open k → ⊥) → (b : Bool) × (m ≡ Told b)
rest_told New met closed = absurd (met refl)
rest_told (Open k) met closed = absurd (closed k refl)
rest_told (Told b) met closed = (b, refl)

-- a number that was met stands in the list
pub met_within : (marks : List Mark) (n : ℕ) → IsMet marks n → n < length marks
met_within marks n met = at (cases_lt n (length marks))
  where
    at : (n < length marks) ⊎ (length marks ≤ n) → n < length marks
    at (inl h) = h
    at (inr h) = absurd (met (get_or_past marks n New h))

-- ---- changes

pub changes_more : (xs : List ℕ) (x : ℕ) (mark : Mark) (old now : List Mark) → Changes xs mark old now → x < length now → Changes (xs ++ x ∷ []) mark old (set now x mark)
changes_more xs x mark old now was within = record {
  size = length-set now x mark ∙ was.size;
  each = λ n i. each n (Contains-push_cases xs x n i) (cases_eq n x);
  others = λ n. others n (was.others n) (cases_eq n x);
}
  where
    here : mark_at (set now x mark) x ≡ mark
    here = get_or-set_same now x mark New within

    at_x : (n : ℕ) → x ≡ n → mark_at (set now x mark) n ≡ mark
    at_x n e = subst (λ (k : ℕ). mark_at (set now x mark) k ≡ mark) e here

    each : (n : ℕ) → Contains xs n ⊎ (x ≡ n) → (n ≡ x) ⊎ (n ≡ x → ⊥) → mark_at (set now x mark) n ≡ mark
    each n (inr e) c = at_x n e
    each n (inl i) (inl e) = at_x n (sym e)
    each n (inl i) (inr other) = get_or-set_other now x n mark New other ∙ was.each n i

    others : (n : ℕ) → Contains xs n ⊎ (mark_at now n ≡ mark_at old n) → (n ≡ x) ⊎ (n ≡ x → ⊥) → Contains (xs ++ x ∷ []) n ⊎ (mark_at (set now x mark) n ≡ mark_at old n)
    others n o (inl e) = inl (subst (λ (k : ℕ). Contains (xs ++ x ∷ []) k) (sym e) (Contains-push xs x))
    others n (inl i) (inr other) = inl (Contains-append_left xs (x ∷ []) n i)
    others n (inr e) (inr other) = inr (get_or-set_other now x n mark New other ∙ e)

pub changes_met : (numbers : List ℕ) (mark : Mark) (old new : List Mark) → (mark ≡ New → ⊥) → Changes numbers mark old new → (n : ℕ) → IsMet old n → IsMet new n
changes_met numbers mark old new other changes n met = at (changes.others n)
  where
    at : Contains numbers n ⊎ (mark_at new n ≡ mark_at old n) → IsMet new n
    at (inl i) e = other (sym (changes.each n i) ∙ e)
    at (inr same) e = met (sym same ∙ e)

-- ---- the steps that the new numbers take

steps_one : (m l : Mark) (row : List ℕ) → ((m ≡ New → ⊥) → l ≡ New → ⊥) → steps_of l row ≤ steps_of m row
steps_one m (Open k) row met = omega arith
steps_one m (Told b) row met = omega arith
steps_one New New row met = omega arith
steps_one (Open k) New row met = absurd (met (λ e. cc) refl)
steps_one (Told b) New row met = absurd (met (λ e. cc) refl)

pub steps_fewer : (old new : List Mark) (rows : Graph) → length new ≡ length old → ((n : ℕ) → IsMet old n → IsMet new n) → steps_new new rows ≤ steps_new old rows
steps_fewer [] [] rows size met = omega arith
steps_fewer [] (l ∷ new) rows size met = absurd (omega arith)
steps_fewer (m ∷ old) [] rows size met = absurd (omega arith)
steps_fewer (m ∷ old) (l ∷ new) [] size met = omega arith
steps_fewer (m ∷ old) (l ∷ new) (row ∷ rows) size met = omega (arith, steps_one m l row (met 0), steps_fewer old new rows (omega arith) (λ n. met (suc n)))

steps_entered : (l : Mark) (row : List ℕ) → (l ≡ New → ⊥) → steps_of l row ≡ 0
steps_entered New row met = absurd (met refl)
steps_entered (Open k) row met = refl
steps_entered (Told b) row met = refl

-- a number that is entered anew
pub steps_less : (old new : List Mark) (rows : Graph) (y : ℕ) → length new ≡ length old → ((n : ℕ) → IsMet old n → IsMet new n) → y < length old → y < length rows → mark_at old y ≡ New → IsMet new y
    → steps_new new rows + suc (length (leads rows y)) ≤ steps_new old rows
steps_less [] new rows y size met within inside was now = absurd (omega arith)
steps_less (m ∷ old) [] rows y size met within inside was now = absurd (omega arith)
steps_less (m ∷ old) (l ∷ new) [] y size met within inside was now = absurd (omega arith)
steps_less (m ∷ old) (l ∷ new) (row ∷ rows) zero size met within inside was now =
    omega (arith, ap (λ k. steps_of k row) was, steps_entered l row now, steps_fewer old new rows (omega arith) (λ n. met (suc n)))
steps_less (m ∷ old) (l ∷ new) (row ∷ rows) (suc y) size met within inside was now =
    omega (arith, steps_one m l row (met 0), steps_less old new rows y (omega arith) (λ n. met (suc n)) (omega arith) (omega arith) was now)
