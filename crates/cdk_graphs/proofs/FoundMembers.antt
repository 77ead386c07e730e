-- What a list contains: which member passes a test, and a list without a number that it contains.
use Rattle.std.proofs.Common.{◌≡◌, ◌<◌, ℕ, ◌⊎◌, inl, inr, List, [], ◌∷◌, length, Bool, true, false, ◌||◌, nat_eq, refl, sym, subst, ap, ◌∙◌, arith, eqb-true}
use Rattle.std.specs.List.{Contains, list_any, range_with_len}
use Rattle.std.proofs.lemmas.Bool.{eqb-false}
use Rattle.std.proofs.lemmas.List.Elements.{Contains-append_cases, Contains-append_left, Contains-append_right, Contains-get_or, Contains-push, Contains-push_cases}
use Rattle.std.proofs.lemmas.List.FromFn.{get_or-range_with_len, length-range_with_len}

-- ---- the first member and those behind it

contains_no : (x : ℕ) → Contains [] x → ⊥
contains_no x c = let none : length {A = ℕ} [] ≡ 0 = refl in omega (arith, none, c.1)

contains_one : (x y : ℕ) → Contains (x ∷ []) y → y ≡ x
contains_one x y c = elim (Contains-push_cases [] x y c) [
  | inl n ↦ absurd (contains_no y n)
  | inr e ↦ sym e
]

contains_first : (x : ℕ) (xs : List ℕ) → Contains (x ∷ xs) x
contains_first x xs = Contains-append_left (x ∷ []) xs x (Contains-push [] x)

contains_later : (x : ℕ) (xs : List ℕ) (y : ℕ) → Contains xs y → Contains (x ∷ xs) y
contains_later x xs y c = Contains-append_right (x ∷ []) xs y c

first_or_later : (x : ℕ) (xs : List ℕ) (y : ℕ) → Contains (x ∷ xs) y → (y ≡ x) ⊎ Contains xs y
first_or_later x xs y c = elim (Contains-append_cases (x ∷ []) xs y c) [
  | inl one ↦ inl (contains_one x y one)
  | inr later ↦ inr later
]

-- ---- tests

pub same_or_not : (a b : ℕ) → (a ≡ b) ⊎ (a ≡ b → ⊥)
same_or_not a b = at (nat_eq a b) refl
  where
    at : (t : Bool) → nat_eq a b ≡ t → (a ≡ b) ⊎ (a ≡ b → ⊥)
    at true e = inl (eqb-true a b e)
    at false e = inr (eqb-false a b e)

pub or_true : (a b : Bool) → (a || b) ≡ true → (a ≡ true) ⊎ (b ≡ true)
or_true true b h = inl refl
or_true false b h = inr h

pub or_left : (a b : Bool) → a ≡ true → (a || b) ≡ true
or_left true b h = refl
or_left false b h = cc

pub or_right : (a b : Bool) → b ≡ true → (a || b) ≡ true
or_right true b h = refl
or_right false b h = h

-- a member that passes the test
pub record Passes (test : ℕ → Bool) (xs : List ℕ) : Type 0 where
  pub member : ℕ
  pub is_there : Contains xs member
  pub passes : test member ≡ true

pub one_passes : (test : ℕ → Bool) (xs : List ℕ) → list_any test xs ≡ true → Passes test xs
one_passes test [] h = cc
one_passes test (x ∷ xs) h = elim (or_true (test x) (list_any test xs) h) [
  | inl first ↦ record { member = x; is_there = contains_first x xs; passes = first }
  | inr rest ↦ let later = one_passes test xs rest in record { member = later.member; is_there = contains_later x xs later.member later.is_there; passes = later.passes }
]

pub any_passes : (test : ℕ → Bool) (xs : List ℕ) (y : ℕ) → Contains xs y → test y ≡ true → list_any test xs ≡ true
any_passes test [] y c t = absurd (contains_no y c)
any_passes test (x ∷ xs) y c t = elim (first_or_later x xs y c) [
  | inl e ↦ or_left (test x) (list_any test xs) (ap test (sym e) ∙ t)
  | inr later ↦ or_right (test x) (list_any test xs) (any_passes test xs y later t)
]

-- ---- a list without a number that it contains

-- the rest is shorter, and contains every other number
pub record Without (xs : List ℕ) (x : ℕ) : Type 0 where
  pub rest : List ℕ
  pub shorter : length rest < length xs
  pub others : (y : ℕ) → Contains xs y → (y ≡ x → ⊥) → Contains rest y

without_first : (x : ℕ) (xs : List ℕ) (y : ℕ) → y ≡ x → Without (x ∷ xs) y
without_first x xs y e = record {
  rest = xs;
  shorter = grind arith;
  others = λ z c other. elim (first_or_later x xs z c) [
    | inl same ↦ absurd (other (same ∙ sym e))
    | inr later ↦ later
  ];
}

with_first : (x : ℕ) (xs : List ℕ) (y : ℕ) → Without xs y → Without (x ∷ xs) y
with_first x xs y w = record {
  rest = x ∷ w.rest;
  shorter = grind (arith, w.shorter);
  others = λ z c other. elim (first_or_later x xs z c) [
    | inl same ↦ rw same (contains_first x w.rest)
    | inr later ↦ contains_later x w.rest z (w.others z later other)
  ];
}

pub without : (xs : List ℕ) (x : ℕ) → Contains xs x → Without xs x
without [] x c = absurd (contains_no x c)
without (y ∷ xs) x c = elim (first_or_later y xs x c) [
  | inl e ↦ without_first y xs x e
  | inr later ↦ with_first y xs x (without xs x later)
]

-- ---- all numbers below a bound

pub below_is_there : (n m : ℕ) → m < n → Contains (range_with_len 0 n) m
below_is_there n m h =
    let there : length (range_with_len 0 n) ≡ n = length-range_with_len 0 n in
    subst (Contains (range_with_len 0 n)) (get_or-range_with_len 0 n m 0 h ∙ omega arith) (Contains-get_or (range_with_len 0 n) m 0 (omega (arith, there, h)))
