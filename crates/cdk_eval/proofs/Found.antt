-- A way by names needs no more steps than there are names that lead anywhere.
use Rattle.std.proofs.Common.{◌≡◌, ℕ, zero, suc, ◌≤◌, List, [], ◌∷◌, length, Bool, true, false, refl, sym, ap, ◌∙◌, inl, inr, arith}
use Rattle.std.specs.Prelude.{◌⊎◌, ◌||◌, bytes_eq, if◌then◌else◌}
use Rattle.std.specs.List.{list_any}
use Rattle.cdk_eval.specs.Reach.{comes_to, IsIn}
use Rattle.cdk_eval.proofs.Reach.{any_more, or_more, comes_within}

either_way : (a b : ℕ) → (a ≤ b) ⊎ (suc b ≤ a)
either_way zero b = inl (omega arith)
either_way (suc a) zero = inr (omega arith)
either_way (suc a) (suc b) = at (either_way a b)
  where
    at : (a ≤ b) ⊎ (suc b ≤ a) → (suc a ≤ suc b) ⊎ (suc (suc b) ≤ suc a)
    at (inl h) = inl (omega (arith, h))
    at (inr h) = inr (omega (arith, h))

abbrev one_more_if : Bool → ℕ → ℕ
one_more_if b n = if b then suc n else n

module _ (leads : List ℕ → List (List ℕ)) (goal : List ℕ) where
  -- how many of the names come to the goal by so many steps
  abbrev held : ℕ → List (List ℕ) → ℕ
  held k [] = 0
  held k (x ∷ xs) = one_more_if (comes_to leads k goal x) (held k xs)

  more_at : (a b : Bool) (x y : ℕ) → (a ≡ true → b ≡ true) → x ≤ y → one_more_if a x ≤ one_more_if b y
  more_at true true x y f h = omega (arith, h)
  more_at true false x y f h = let e = f refl in cc
  more_at false true x y f h = omega (arith, h)
  more_at false false x y f h = h

  held_more : (k : ℕ) (xs : List (List ℕ)) → held k xs ≤ held (suc k) xs
  held_more k [] = omega arith
  held_more k (x ∷ xs) = more_at (comes_to leads k goal x) (comes_to leads (suc k) goal x) (held k xs) (held (suc k) xs) (comes_within leads k (suc k) goal x (omega arith)) (held_more k xs)

  most_at : (b : Bool) (x y : ℕ) → x ≤ y → one_more_if b x ≤ suc y
  most_at true x y h = omega (arith, h)
  most_at false x y h = omega (arith, h)

  held_most : (k : ℕ) (xs : List (List ℕ)) → held k xs ≤ length xs
  held_most k [] = omega arith
  held_most k (x ∷ xs) = most_at (comes_to leads k goal x) (held k xs) (length xs) (held_most k xs)

  -- where no more come by one step more, none does
  none_new : (k : ℕ) (xs : List (List ℕ)) → held (suc k) xs ≤ held k xs → (c : List ℕ) → IsIn c xs → comes_to leads (suc k) goal c ≡ true → comes_to leads k goal c ≡ true
  none_new k [] h c i t = absurd i
  none_new k (x ∷ xs) h c i t = at (comes_to leads k goal x) (comes_to leads (suc k) goal x) refl refl h i (λ h i. none_new k xs h c i t)
    where
      at : (a b : Bool) → comes_to leads k goal x ≡ a → comes_to leads (suc k) goal x ≡ b → one_more_if b (held (suc k) xs) ≤ one_more_if a (held k xs) → IsIn c (x ∷ xs)
          → (held (suc k) xs ≤ held k xs → IsIn c xs → comes_to leads k goal c ≡ true) → comes_to leads k goal c ≡ true
      at true b e f h (inl s) later = ap (comes_to leads k goal) (sym s) ∙ e
      at true true e f h (inr i) later = later (omega (arith, h)) i
      at true false e f h (inr i) later = let g = comes_within leads k (suc k) goal x (omega arith) e in cc
      at false true e f h i later = absurd (omega (arith, h, held_more k xs))
      at false false e f h (inl s) later = let g : comes_to leads (suc k) goal c ≡ false = ap (comes_to leads (suc k) goal) (sym s) ∙ f in cc
      at false false e f h (inr i) later = later h i

  all_held : (k : ℕ) (xs : List (List ℕ)) → length xs ≤ held k xs → (c : List ℕ) → IsIn c xs → comes_to leads k goal c ≡ true
  all_held k [] h c i = absurd i
  all_held k (x ∷ xs) h c i = at (comes_to leads k goal x) refl h i (λ h i. all_held k xs h c i)
    where
      at : (b : Bool) → comes_to leads k goal x ≡ b → length (x ∷ xs) ≤ one_more_if b (held k xs) → IsIn c (x ∷ xs)
          → (length xs ≤ held k xs → IsIn c xs → comes_to leads k goal c ≡ true) → comes_to leads k goal c ≡ true
      at true e h (inl s) later = ap (comes_to leads k goal) (sym s) ∙ e
      at true e h (inr i) later = later (omega (arith, h)) i
      at false e h i later = absurd (omega (arith, h, held_most k xs))

  -- a name that comes there within any number of steps does so within k
  abbrev IsSettled : ℕ → Type 0
  IsSettled k = (n : ℕ) (c : List ℕ) → comes_to leads n goal c ≡ true → comes_to leads k goal c ≡ true

  settles : (k : ℕ) → ((c : List ℕ) → comes_to leads (suc k) goal c ≡ true → comes_to leads k goal c ≡ true) → IsSettled k
  settles k f zero c t = cc
  settles k f (suc n) c t =
      f c (any_more (λ d. bytes_eq d goal || comes_to leads n goal d) (λ d. bytes_eq d goal || comes_to leads k goal d)
      (λ d e. or_more (bytes_eq d goal) (comes_to leads n goal d) (comes_to leads k goal d) (settles k f n d) e) (leads c) t)

  module _ (names : List (List ℕ)) (others : (c : List ℕ) → IsIn c names ⊎ (leads c ≡ [])) where
    in_names : (k : ℕ) (c : List ℕ) → comes_to leads k goal c ≡ true → IsIn c names
    in_names zero c t = cc
    in_names (suc k) c t = at (others c)
      where
        at : IsIn c names ⊎ (leads c ≡ []) → IsIn c names
        at (inl i) = i
        at (inr e) = let none : comes_to leads (suc k) goal c ≡ false = ap (list_any (λ d. bytes_eq d goal || comes_to leads k goal d)) e in cc

    settled_or_more : (k : ℕ) → IsSettled k ⊎ (k ≤ held k names)
    settled_or_more zero = inr (omega arith)
    settled_or_more (suc k) = at (settled_or_more k) (either_way (held (suc k) names) (held k names))
      where
        later : IsSettled k → IsSettled (suc k)
        later s n c t = comes_within leads k (suc k) goal c (omega arith) (s n c t)

        at : IsSettled k ⊎ (k ≤ held k names) → (held (suc k) names ≤ held k names) ⊎ (suc (held k names) ≤ held (suc k) names) → IsSettled (suc k) ⊎ (suc k ≤ held (suc k) names)
        at (inl s) w = inl (later s)
        at (inr h) (inl same) = inl (later (settles k (λ c t. none_new k names same c (in_names (suc k) c t) t)))
        at (inr h) (inr more) = inr (omega (arith, h, more))

    pub found_within : (n : ℕ) (c : List ℕ) → comes_to leads n goal c ≡ true → comes_to leads (length names) goal c ≡ true
    found_within n c t = at (settled_or_more (length names))
      where
        at : IsSettled (length names) ⊎ (length names ≤ held (length names) names) → comes_to leads (length names) goal c ≡ true
        at (inl s) = s n c t
        at (inr h) = all_held (length names) names h c (in_names n c t)
