-- What is picked from a list, and the places of the list that it was picked from.
use Rattle.std.proofs.Common.{◌≡◌, ◌<◌, ◌≤◌, ℕ, zero, suc, ◌+◌, List, [], ◌∷◌, length, take, Option, Some, None, refl, sym, ap, subst, ◌∙◌, arith, inl, inr}
use Rattle.std.specs.Prelude.{slice_get}
use Rattle.std.specs.List.{cons_option, filter_map}
use Rattle.std.proofs.lemmas.Bool.{cases_lt}
use Rattle.cdk_graphs.specs.Graph.{StandsBefore}

-- how many are picked before a place
abbrev pub picked_before : (ℕ → Option ℕ) → List ℕ → ℕ → ℕ
picked_before f xs p = length (filter_map f (take p xs))

-- the place in the list of what is picked
pub record PickedAt (f : ℕ → Option ℕ) (xs : List ℕ) (p y : ℕ) : Type 0 where
  pub place : ℕ
  pub number : ℕ
  pub there : slice_get xs place ≡ Some number
  pub picked : f number ≡ Some y
  pub count : picked_before f xs place ≡ p

module _ (f : ℕ → Option ℕ) where
  -- a place further on, after as many as are picked of the first
  one_further : (x : ℕ) (xs : List ℕ) (p r y : ℕ) → length (cons_option (f x) []) + p ≡ r → PickedAt f xs p y → PickedAt f (x ∷ xs) r y
  one_further x xs p r y e k = record { place = suc k.place; number = k.number; there = k.there; picked = k.picked; count = counted (f x) e }
    where
      counted : (o : Option ℕ) → length (cons_option o []) + p ≡ r → length (cons_option o (filter_map f (take k.place xs))) ≡ r
      counted None e = omega (arith, k.count)
      counted (Some z) e = omega (arith, k.count)

  pub picked_at : (xs : List ℕ) (p y : ℕ) → slice_get (filter_map f xs) p ≡ Some y → PickedAt f xs p y
  picked_at [] p y h = absurd (cc h)
  picked_at (x ∷ xs) p y h = at (f x) refl p h (λ q. picked_at xs q y)
    where
      at : (o : Option ℕ) → f x ≡ o → (p : ℕ) → slice_get (cons_option o (filter_map f xs)) p ≡ Some y
          → ((q : ℕ) → slice_get (filter_map f xs) q ≡ Some y → PickedAt f xs q y) → PickedAt f (x ∷ xs) p y
      at None e p h rest = one_further x xs p p y (ap (λ o. length (cons_option o []) + p) e ∙ omega arith) (rest p h)
      at (Some z) e zero h rest = record { place = 0; number = x; there = refl; picked = e ∙ h; count = refl }
      at (Some z) e (suc p) h rest = one_further x xs p (suc p) y (ap (λ o. length (cons_option o []) + p) e ∙ omega arith) (rest p h)

  -- what stands before a place is picked before it
  place_picked : (xs : List ℕ) (p q x y : ℕ) → q < p → slice_get xs q ≡ Some x → f x ≡ Some y → StandsBefore (filter_map f xs) (picked_before f xs p) y
  place_picked [] p q x y low there picked = absurd (cc there)
  place_picked (z ∷ xs) zero q x y low there picked = absurd (omega (arith, low))
  place_picked (z ∷ xs) (suc p) zero x y low there picked =
      let here : f z ≡ Some y = ap f (same z x there) ∙ picked in
      subst (λ o. StandsBefore (cons_option o (filter_map f xs)) (length (cons_option o (filter_map f (take p xs)))) y) (sym here)
      (record { place = 0; before = omega arith; there = refl })
    where
      same : (a b : ℕ) → Some a ≡ Some b → a ≡ b
      same a b h = cc
  place_picked (z ∷ xs) (suc p) (suc q) x y low there picked = at (f z) (place_picked xs p q x y (omega (arith, low)) there picked)
    where
      at : (o : Option ℕ) → StandsBefore (filter_map f xs) (picked_before f xs p) y → StandsBefore (cons_option o (filter_map f xs)) (length (cons_option o (filter_map f (take p xs)))) y
      at None s = s
      at (Some w) s = record { place = suc s.place; before = omega (arith, s.before); there = s.there }

  pub stands_picked : (xs : List ℕ) (p x y : ℕ) → StandsBefore xs p x → f x ≡ Some y → StandsBefore (filter_map f xs) (picked_before f xs p) y
  stands_picked xs p x y s picked = place_picked xs p s.place x y s.before s.there picked

  more_later : (xs : List ℕ) (p q : ℕ) → p ≤ q → picked_before f xs p ≤ picked_before f xs q
  more_later xs zero q low = omega arith
  more_later xs (suc p) zero low = absurd (omega (arith, low))
  more_later [] (suc p) (suc q) low = omega arith
  more_later (x ∷ xs) (suc p) (suc q) low = at (f x) (more_later xs p q (omega (arith, low)))
    where
      at : (o : Option ℕ) → picked_before f xs p ≤ picked_before f xs q → length (cons_option o (filter_map f (take p xs))) ≤ length (cons_option o (filter_map f (take q xs)))
      at None h = h
      at (Some z) h = omega (arith, h)

  -- a number that is picked before a place stands before it
  pub record StandsAs (xs : List ℕ) (p y : ℕ) : Type 0 where
    pub number : ℕ
    pub picked : f number ≡ Some y
    pub stands : StandsBefore xs p number

  pub picked_stands : (xs : List ℕ) (p y : ℕ) → StandsBefore (filter_map f xs) (picked_before f xs p) y → StandsAs xs p y
  picked_stands xs p y s =
      let k = picked_at xs s.place y s.there in
      let low : k.place < p = elim (cases_lt k.place p) [
        | inl low ↦ low
        | inr high ↦ absurd (omega (arith, more_later xs p k.place high, k.count, s.before))
      ] in
      record { number = k.number; picked = k.picked; stands = record { place = k.place; before = low; there = k.there } }
