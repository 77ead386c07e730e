-- What holds of each of a list, what is among the numbers that a test picks, and what a test finds.
use Rattle.std.proofs.Common.{◌≡◌, ◌<◌, ◌≤◌, ℕ, zero, suc, ◌+◌, List, [], ◌∷◌, ◌++◌, map, length, filter, Bool, true, false, cond, refl, sym, ap, ◌∙◌, arith, inl, inr}
use Rattle.std.specs.Prelude.{◌||◌}
use Rattle.std.specs.List.{list_any, range_with_len}
use Rattle.std.proofs.lemmas.Bool.{cases_lt}
use Rattle.cdk_meaning.specs.Names.{Each, IsIn}
use Rattle.cdk_tree.specs.Placed.{Placed, construct_at}

pub each_append : {A : Type 0} (P : A → Type 0) (xs ys : List A) → Each P xs → Each P ys → Each P (xs ++ ys)
each_append P [] ys h g = g
each_append P (x ∷ xs) ys h g = (h.0, each_append P xs ys h.1 g)

pub placed_at : (P : Placed → Type 0) (cs : List Placed) (n : ℕ) → n < length cs → Each P cs → P (construct_at cs n)
placed_at P [] n within h = absurd (omega (arith, within))
placed_at P (c ∷ cs) zero within h = h.0
placed_at P (c ∷ cs) (suc n) within h = placed_at P cs n (omega (arith, within)) h.1

pub map_nil : {A B : Type 0} (f : A → B) (xs : List A) (ys : List B) → map f xs ++ ys ≡ [] → (xs ≡ []) × (ys ≡ [])
map_nil f [] ys e = (refl, e)
map_nil f (x ∷ xs) ys e = cc

-- ---- numbers that are picked

in_range : (k a most : ℕ) → a ≤ k → k < a + most → IsIn k (range_with_len a most)
in_range k a zero low high = absurd (omega (arith, low, high))
in_range k a (suc most) low high = elim (cases_lt a k) [
  | inl more ↦ inr (in_range k (a + 1) most (omega (arith, more)) (omega (arith, high)))
  | inr last ↦ inl (omega (arith, low, last))
]

in_filter : (test : ℕ → Bool) (k : ℕ) (ns : List ℕ) → test k ≡ true → IsIn k ns → IsIn k (filter test ns)
in_filter test k [] is h = absurd h
in_filter test k (n ∷ ns) is h = at (test n) refl h (λ i. in_filter test k ns is i)
  where
    at : (b : Bool) → test n ≡ b → IsIn k (n ∷ ns) → (IsIn k ns → IsIn k (filter test ns)) → IsIn k (cond b (n ∷ filter test ns) (filter test ns))
    at true e (inl same) later = inl same
    at true e (inr i) later = inr (later i)
    at false e (inl same) later = absurd (cc (ap test same))
    at false e (inr i) later = later i

pub is_picked : (test : ℕ → Bool) (k most : ℕ) → k < most → test k ≡ true → IsIn k (filter test (range_with_len 0 most))
is_picked test k most below is = in_filter test k (range_with_len 0 most) is (in_range k 0 most (omega arith) (omega (arith, below)))

-- all that are picked are below the bound, and meet the test
picked_from : (P : ℕ → Type 0) (test : ℕ → Bool) (a most end : ℕ) → a + most ≤ end → ((n : ℕ) → n < end → test n ≡ true → P n) → Each P (filter test (range_with_len a most))
picked_from P test a zero end fits h = tt
picked_from P test a (suc most) end fits h = at (test a) refl (picked_from P test (a + 1) most end (omega (arith, fits)) h)
  where
    at : (b : Bool) → test a ≡ b → Each P (filter test (range_with_len (a + 1) most)) → Each P (cond b (a ∷ filter test (range_with_len (a + 1) most)) (filter test (range_with_len (a + 1) most)))
    at true e rest = (h a (omega (arith, fits)) e, rest)
    at false e rest = rest

pub each_picked : (P : ℕ → Type 0) (test : ℕ → Bool) (most : ℕ) → ((n : ℕ) → n < most → test n ≡ true → P n) → Each P (filter test (range_with_len 0 most))
each_picked P test most h = picked_from P test 0 most most (omega arith) h

-- ---- a list of one at most

pub only_one : {A : Type 0} (a b : A) (xs : List A) → length xs ≤ 1 → IsIn a xs → IsIn b xs → a ≡ b
only_one a b [] few i j = absurd i
only_one a b (x ∷ []) few (inl e) (inl f) = sym e ∙ f
only_one a b (x ∷ []) few (inl e) (inr j) = absurd j
only_one a b (x ∷ []) few (inr i) j = absurd i
only_one a b (x ∷ y ∷ xs) few i j = absurd (omega (arith, few))

-- ---- what a test finds

pub found_in : {A : Type 0} (test : A → Bool) (xs : List A) → list_any test xs ≡ true → (x : A) × IsIn x xs × (test x ≡ true)
found_in test [] h = absurd (cc h)
found_in {A} test (x ∷ xs) h = at (test x) refl h (found_in test xs)
  where
    at : (b : Bool) → test x ≡ b → (b || list_any test xs) ≡ true → (list_any test xs ≡ true → (y : A) × IsIn y xs × (test y ≡ true)) → (y : A) × IsIn y (x ∷ xs) × (test y ≡ true)
    at true e g later = (x, inl refl, e)
    at false e g later = let found = later g in (found.0, inr found.1, found.2)
