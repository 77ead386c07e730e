-- What a list contains, and the list without a number: it is shorter, and contains every other number that it contained.
use Rattle.std.proofs.Common.{◌≡◌, ◌<◌, ℕ, zero, suc, ◌⊎◌, inl, inr, List, [], ◌∷◌, length, refl, sym, subst, ap, ◌∙◌, arith}
use Rattle.std.specs.List.{Contains}
use Rattle.std.proofs.lemmas.Bool.{cases_eq}
use Rattle.std.proofs.lemmas.List.Elements.{Contains-append_cases, Contains-append_left, Contains-append_right, Contains-push, Contains-push_cases}

pub contains_no : (x : ℕ) → Contains [] x → ⊥
contains_no x c = let none : length {A = ℕ} [] ≡ 0 = refl in omega (arith, none, c.1)

pub contains_first : (x : ℕ) (xs : List ℕ) → Contains (x ∷ xs) x
contains_first x xs = Contains-append_left (x ∷ []) xs x (Contains-push [] x)

pub contains_later : (x : ℕ) (xs : List ℕ) (y : ℕ) → Contains xs y → Contains (x ∷ xs) y
contains_later x xs y c = Contains-append_right (x ∷ []) xs y c

pub first_or_rest : (x : ℕ) (xs : List ℕ) (y : ℕ) → Contains (x ∷ xs) y → (y ≡ x) ⊎ Contains xs y
first_or_rest x xs y c = elim (Contains-append_cases (x ∷ []) xs y c) [
  | inl one ↦ elim (Contains-push_cases [] x y one) [
    | inl n ↦ absurd (contains_no y n)
    | inr e ↦ inl (sym e)
  ]
  | inr r ↦ inr r
]

-- ---- without a number

pub record Without (xs : List ℕ) (x : ℕ) : Type 0 where
  pub rest : List ℕ
  pub shorter : length rest < length xs
  pub others : (y : ℕ) → Contains xs y → (y ≡ x → ⊥) → Contains rest y

without_first : (x : ℕ) (xs : List ℕ) (y : ℕ) → y ≡ x → Without (x ∷ xs) y
without_first x xs y e = record {
  rest = xs;
  shorter = grind arith;
  others = λ z c other. elim (first_or_rest x xs z c) [
    | inl same ↦ absurd (other (same ∙ sym e))
    | inr r ↦ r
  ];
}

with_first : (x : ℕ) (xs : List ℕ) (y : ℕ) → Without xs y → Without (x ∷ xs) y
with_first x xs y w = record {
  rest = x ∷ w.rest;
  shorter = grind (arith, w.shorter);
  others = λ z c other. elim (first_or_rest x xs z c) [
    | inl same ↦ rw same (contains_first x w.rest)
    | inr r ↦ contains_later x w.rest z (w.others z r other)
  ];
}

pub without : (xs : List ℕ) (x : ℕ) → Contains xs x → Without xs x
without [] x c = absurd (contains_no x c)
without (y ∷ xs) x c = elim (first_or_rest y xs x c) [
  | inl e ↦ without_first y xs x e
  | inr r ↦ with_first y xs x (without xs x r)
]

-- ---- the numbers below one

abbrev pub below : ℕ → List ℕ
below zero = []
below (suc n) = n ∷ below n

pub below_count : (n : ℕ) → length (below n) ≡ n
below_count zero = refl
below_count (suc n) = ap suc (below_count n)

pub below_has : (n m : ℕ) → m < n → Contains (below n) m
below_has zero m h = absurd (omega (arith, h))
below_has (suc n) m h = elim (cases_eq m n) [
  | inl e ↦ subst (λ (x : ℕ). Contains (n ∷ below n) x) (sym e) (contains_first n (below n))
  | inr other ↦ contains_later n (below n) m (below_has n m (omega (arith, h, other)))
]
