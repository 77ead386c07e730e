-- Where the numbers of a list stand, and which of some numbers don't.
use Rattle.std.proofs.Common.{◌≡◌, ◌≤◌, ◌+◌, ℕ, zero, suc, ◌⊎◌, inl, inr, List, [], ◌∷◌, ◌++◌, length, Bool, true, false, not, Some, refl, sym, ap, ap₂, ◌∙◌, arith}
use Rattle.std.specs.Prelude.{◌||◌, nat_eq}
use Rattle.std.specs.List.{slice_get, Contains}
use Rattle.std.proofs.lemmas.Bool.{eq-eqb, eqb-true, ne_eqb, or_right}
use Rattle.std.proofs.lemmas.Bool.Decides.{eqb_tells}
use Rattle.cdk_graphs.specs.Graph.{Graph, StandsBefore, IsHeld}
use Rattle.cdk_graphs.specs.Queued.{missing, occurrences, plus_if, stands}
use Rattle.cdk_graphs.proofs.Members.{contains_first, contains_later, contains_no, first_or_rest}

-- ---- places

pub place_of : (xs : List ℕ) (m : ℕ) → stands xs m ≡ true → StandsBefore xs (length xs) m
place_of [] m h = cc
place_of (x ∷ xs) m h = elim (eqb_tells x m) [
  | inl e ↦ record { place = 0; before = omega arith; there = ap Some e.1 }
  | inr e ↦ (let s = place_of xs m (sym (ap (λ b. b || stands xs m) e.0) ∙ h) in
      let lower = s.before in
      record { place = suc s.place; before = omega (arith, lower); there = s.there })
]

pub stands_at : (xs : List ℕ) (p m : ℕ) → slice_get xs p ≡ Some m → stands xs m ≡ true
stands_at [] p m e = cc
stands_at (x ∷ xs) zero m e = let same : x ≡ m = cc in ap (λ b. b || stands xs m) (eq-eqb x m same)
stands_at (x ∷ xs) (suc p) m e = or_right (nat_eq x m) (stands xs m) (stands_at xs p m e)

pub stands_before : (xs : List ℕ) (p m : ℕ) → StandsBefore xs p m → stands xs m ≡ true
stands_before xs p m s = stands_at xs s.place m s.there

pub get_front : (xs ys : List ℕ) (p m : ℕ) → slice_get xs p ≡ Some m → slice_get (xs ++ ys) p ≡ Some m
get_front [] ys p m e = cc
get_front (x ∷ xs) ys zero m e = e
get_front (x ∷ xs) ys (suc p) m e = get_front xs ys p m e

pub get_last : (xs : List ℕ) (x : ℕ) → slice_get (xs ++ x ∷ []) (length xs) ≡ Some x
get_last [] x = refl
get_last (y ∷ xs) x = get_last xs x

pub get_cases : (xs : List ℕ) (x p m : ℕ) → slice_get (xs ++ x ∷ []) p ≡ Some m → (slice_get xs p ≡ Some m) ⊎ ((p ≡ length xs) × (x ≡ m))
get_cases [] x zero m e = inr (refl, cc)
get_cases [] x (suc p) m e = cc
get_cases (y ∷ xs) x zero m e = inl e
get_cases (y ∷ xs) x (suc p) m e = elim (get_cases xs x p m e) [
  | inl a ↦ inl a
  | inr b ↦ inr (ap suc b.0, b.1)
]

-- ---- one number more

pub stands_push : (xs : List ℕ) (x k : ℕ) → stands (xs ++ x ∷ []) k ≡ nat_eq x k || stands xs k
stands_push [] x k = refl
stands_push (y ∷ xs) x k = ap (λ b. nat_eq y k || b) (stands_push xs x k) ∙ swap (nat_eq y k) (nat_eq x k) (stands xs k)
  where
    swap : (a b c : Bool) → (a || (b || c)) ≡ (b || (a || c))
    swap true true c = refl
    swap true false c = refl
    swap false true c = refl
    swap false false c = refl

pub stands_on : (xs : List ℕ) (x p m : ℕ) → StandsBefore xs p m → StandsBefore (xs ++ x ∷ []) p m
stands_on xs x p m s = record { place = s.place; before = s.before; there = get_front xs (x ∷ []) s.place m s.there }

pub held_on : (g : Graph) (xs : List ℕ) (x p m : ℕ) → p ≤ length xs → IsHeld g xs p m → IsHeld g (xs ++ x ∷ []) p m
held_on g xs x p m h held = record {
  by = held.by;
  leads_there = held.leads_there;
  later = λ s. elim (get_cases xs x s.place held.by s.there) [
    | inl a ↦ held.later record { place = s.place; before = s.before; there = a }
    | inr b ↦ (let lower = s.before in absurd (omega (arith, h, lower, b.0)))
  ];
}

-- ---- which numbers don't stand

split_step : (a b c : Bool) (m o w : ℕ) → m + o ≡ w → b ≡ a → (a ≡ true → c ≡ false) → plus_if (not (b || c)) m + plus_if a o ≡ plus_if (not c) w
split_step true true true m o w h e new = let none = new refl in absurd (cc)
split_step true true false m o w h e new = omega (arith, h)
split_step true false c m o w h e new = absurd (cc)
split_step false true c m o w h e new = absurd (cc)
split_step false false true m o w h e new = h
split_step false false false m o w h e new = omega (arith, h)

flipped : (x n : ℕ) → nat_eq n x ≡ nat_eq x n
flipped x n = elim (eqb_tells x n) [
  | inl e ↦ eq-eqb n x (sym e.1) ∙ sym e.0
  | inr e ↦ ne_eqb n x (λ s. e.1 (sym s)) ∙ sym e.0
]

-- a number more stands: its occurrences aren't missing any more
pub missing_split : (n : ℕ) (order xs : List ℕ) → stands order n ≡ false → missing (order ++ n ∷ []) xs + occurrences n xs ≡ missing order xs
missing_split n order [] h = refl
missing_split n order (x ∷ xs) h =
    ap (λ b. plus_if (not b) (missing (order ++ n ∷ []) xs) + plus_if (nat_eq x n) (occurrences n xs)) (stands_push order n x)
    ∙ split_step (nat_eq x n) (nat_eq n x) (stands order x) _ _ _ (missing_split n order xs h) (flipped x n) (λ e. ap (stands order) (eqb-true x n e) ∙ h)

pub none_missing : (order xs : List ℕ) → ((m : ℕ) → Contains xs m → stands order m ≡ true) → missing order xs ≡ 0
none_missing order [] h = refl
none_missing order (x ∷ xs) h =
    ap₂ (λ b n. plus_if (not b) n) (h x (contains_first x xs)) (none_missing order xs (λ m c. h m (contains_later x xs m c)))

pub all_stand : (order xs : List ℕ) (m : ℕ) → missing order xs ≡ 0 → Contains xs m → stands order m ≡ true
all_stand order [] m h c = absurd (contains_no m c)
all_stand order (x ∷ xs) m h c = at (stands order x) refl h (all_stand order xs m)
  where
    at : (b : Bool) → stands order x ≡ b → plus_if (not b) (missing order xs) ≡ 0 → (missing order xs ≡ 0 → Contains xs m → stands order m ≡ true) → stands order m ≡ true
    at true e z more = elim (first_or_rest x xs m c) [
      | inl same ↦ ap (stands order) same ∙ e
      | inr r ↦ more z r
    ]
    at false e z more = absurd (omega (arith, z))

-- one of the numbers that doesn't stand
pub record Absent (order xs : List ℕ) : Type 0 where
  pub number : ℕ
  pub is_one : Contains xs number
  pub absent : stands order number ≡ false

pub some_absent : (order xs : List ℕ) → (missing order xs ≡ 0 → ⊥) → Absent order xs
some_absent order [] h = absurd (h refl)
some_absent order (x ∷ xs) h = at (stands order x) refl h (some_absent order xs)
  where
    at : (b : Bool) → stands order x ≡ b → (plus_if (not b) (missing order xs) ≡ 0 → ⊥) → ((missing order xs ≡ 0 → ⊥) → Absent order xs) → Absent order (x ∷ xs)
    at true e none more = let a = more none in record { number = a.number; is_one = contains_later x xs a.number a.is_one; absent = a.absent }
    at false e none more = record { number = x; is_one = contains_first x xs; absent = e }
