-- Where no condition reaches itself, no more of them stand one inside another than there are.
use Rattle.std.proofs.Common.{arith, ◌≡◌, ◌≤◌, ◌+◌, ℕ, zero, suc, List, [], ◌∷◌, length, Bool, true, false, ◌&&◌, ◌||◌, Option, refl, sym, ap, ◌∙◌, subst, inl, inr, eq-eqb, eqb-true}
use Rattle.std.specs.Prelude.{◌==◌, ◌⊎◌}
use Rattle.std.specs.List.{list_any}
use Rattle.cdk_plain.specs.Plain.{Plain, Condition, equals, all_of, any_of, negation, named, Conditions, no_conditions, condition}
use Rattle.cdk_meaning.specs.Mentions.{names_in, all_names_in}
use Rattle.cdk_meaning.specs.Truth.{negated, condition_meaning, meaning_folded, truth_within, reaches}
use Rattle.cdk_meaning.specs.Names.{IsIn, Each}
use Rattle.cdk_meaning.proofs.NameLists.{or_right, or_cases, each_at, each_front, each_back, each_more}

-- ---- tests of lists

pub any_true : (p : ℕ → Bool) (x : ℕ) (xs : List ℕ) → IsIn x xs → p x ≡ true → list_any p xs ≡ true
any_true p x [] i h = absurd i
any_true p x (y ∷ xs) (inl e) h = ap (λ b. b || list_any p xs) (ap p e ∙ h)
any_true p x (y ∷ xs) (inr i) h = or_right (p y) (list_any p xs) (any_true p x xs i h)

any_weaker : (p q : ℕ → Bool) → ((x : ℕ) → p x ≡ true → q x ≡ true) → (xs : List ℕ) → list_any p xs ≡ true → list_any q xs ≡ true
any_weaker p q w [] h = h
any_weaker p q w (x ∷ xs) h = at (or_cases (p x) (list_any p xs) h) (any_weaker p q w xs)
  where
    at : (p x ≡ true) ⊎ (list_any p xs ≡ true) → (list_any p xs ≡ true → list_any q xs ≡ true) → q x || list_any q xs ≡ true
    at (inl g) later = ap (λ b. b || list_any q xs) (w x g)
    at (inr g) later = or_right (q x) (list_any q xs) (later g)

-- ---- a list without one of its elements

without : (c : ℕ) (xs : List ℕ) → IsIn c xs → List ℕ
without c [] i = []
without c (x ∷ xs) (inl e) = xs
without c (x ∷ xs) (inr i) = x ∷ without c xs i

in_without : (c x : ℕ) (xs : List ℕ) (i : IsIn c xs) → IsIn x xs → (c ≡ x) ⊎ IsIn x (without c xs i)
unfolding without
in_without c x [] i j = absurd i
in_without c x (y ∷ xs) (inl e) (inl g) = inl (sym e ∙ g)
in_without c x (y ∷ xs) (inl e) (inr j) = inr j
in_without c x (y ∷ xs) (inr i) (inl g) = inr (inl g)
in_without c x (y ∷ xs) (inr i) (inr j) = at (in_without c x xs i j)
  where
    at : (c ≡ x) ⊎ IsIn x (without c xs i) → (c ≡ x) ⊎ IsIn x (y ∷ without c xs i)
    at (inl e) = inl e
    at (inr k) = inr (inr k)

without_shorter : (c : ℕ) (xs : List ℕ) (i : IsIn c xs) → suc (length (without c xs i)) ≡ length xs
unfolding without
without_shorter c [] i = absurd i
without_shorter c (x ∷ xs) (inl e) = refl
without_shorter c (x ∷ xs) (inr i) = ap suc (without_shorter c xs i)

-- ---- a condition turns on the names in it alone

module _ (text_at : Plain → Option (List ℕ)) (f g : ℕ → Option Bool) where
  mutual
    same_meaning : (c : Condition) → Each (λ d. f d ≡ g d) (names_in c) → condition_meaning text_at f c ≡ condition_meaning text_at g c
    same_meaning (equals x y) h = refl
    same_meaning (all_of cs) h = same_folded (λ a b. a && b) true cs h
    same_meaning (any_of cs) h = same_folded (λ a b. a || b) false cs h
    same_meaning (negation c) h = ap negated (same_meaning c h)
    same_meaning (named c) h = h.0

    same_folded : (o : Bool → Bool → Bool) (b : Bool) (cs : Conditions) → Each (λ d. f d ≡ g d) (all_names_in cs) → meaning_folded text_at f o b cs ≡ meaning_folded text_at g o b cs
    same_folded o b no_conditions h = refl
    same_folded o b (condition c cs) h =
        rw (same_meaning c (each_front (λ d. f d ≡ g d) (names_in c) (all_names_in cs) h), same_folded o b cs (each_back (λ d. f d ≡ g d) (names_in c) (all_names_in cs) h))

-- ---- ways from one to another

module _ (conditions : ℕ → Condition) where
  one_step : (k c d : ℕ) → IsIn d (names_in (conditions c)) → reaches conditions (suc k) d c ≡ true
  one_step k c d i = any_true (λ e. (e == d) || reaches conditions k d e) d (names_in (conditions c)) i (ap (λ b. b || reaches conditions k d d) (eq-eqb d d refl))

  -- one more step at the end
  step_end : (n x c g : ℕ) → reaches conditions n c x ≡ true → IsIn g (names_in (conditions c)) → reaches conditions (suc n) g x ≡ true
  step_end zero x c g h i = cc
  step_end (suc n) x c g h i =
      any_weaker (λ d. (d == c) || reaches conditions n c d) (λ d. (d == g) || reaches conditions (suc n) g d) (λ d t. or_right (d == g) (reaches conditions (suc n) g d) (at d (or_cases (d == c) (reaches conditions n c d) t) (λ u. step_end n d c g u i))) (names_in (conditions x)) h
    where
      at : (d : ℕ) → (d == c ≡ true) ⊎ (reaches conditions n c d ≡ true) → (reaches conditions n c d ≡ true → reaches conditions (suc n) g d ≡ true) → reaches conditions (suc n) g d ≡ true
      at d (inl e) later = subst (λ (y : ℕ). reaches conditions (suc n) g y ≡ true) (sym (eqb-true d c e)) (one_step n c g i)
      at d (inr u) later = later u

  -- what is free of itself at a bound is so at each lower one
  pub more_steps : (n m g c : ℕ) → n ≤ m → reaches conditions n g c ≡ true → reaches conditions m g c ≡ true
  more_steps zero m g c l h = cc
  more_steps (suc n) zero g c l h = let no_such : ⊥ = omega arith in absurd no_such
  more_steps (suc n) (suc m) g c l h =
      any_weaker (λ d. (d == g) || reaches conditions n g d) (λ d. (d == g) || reaches conditions m g d) (λ d t. at d (or_cases (d == g) (reaches conditions n g d) t) (λ u. more_steps n m g d (omega arith) u)) (names_in (conditions c)) h
    where
      at : (d : ℕ) → (d == g ≡ true) ⊎ (reaches conditions n g d ≡ true) → (reaches conditions n g d ≡ true → reaches conditions m g d ≡ true) → (d == g) || reaches conditions m g d ≡ true
      at d (inl e) later = ap (λ b. b || reaches conditions m g d) e
      at d (inr u) later = or_right (d == g) (reaches conditions m g d) (later u)

-- ---- the bound makes no difference from the number of conditions on

module _ (text_at : ℕ → Plain → Option (List ℕ)) (conditions : ℕ → Condition) (ns : List ℕ) (closed : Each (λ c. Each (λ d. IsIn d ns) (names_in (conditions c))) ns) (free : Each (λ c. reaches conditions (length ns) c c ≡ false) ns) where
  -- those that may still be opened, and all others lead to `c` in at most k steps
  abbrev Left : ℕ → ℕ → List ℕ → Type 0
  Left k c rest = (x : ℕ) → IsIn x ns → IsIn x rest ⊎ (reaches conditions k c x ≡ true)

  some_left : (c : ℕ) (rest : List ℕ) → IsIn c rest → 1 ≤ length rest
  some_left c rest i = let e = without_shorter c rest i in omega arith

  not_back : (k d : ℕ) → IsIn d ns → k ≤ length ns → reaches conditions k d d ≡ true → ⊥
  not_back k d i l h =
      let t : reaches conditions (length ns) d d ≡ true = more_steps conditions k (length ns) d d l h in
      let f : reaches conditions (length ns) d d ≡ false = each_at (λ c. reaches conditions (length ns) c c ≡ false) d ns free i in
      cc (t, f)

  left_after : (k c d : ℕ) (rest : List ℕ) (i : IsIn c rest) → IsIn d (names_in (conditions c)) → Left k c rest → Left (suc k) d (without c rest i)
  left_after k c d rest i u inv x j = at (inv x j)
    where
      gone : (c ≡ x) ⊎ IsIn x (without c rest i) → IsIn x (without c rest i) ⊎ (reaches conditions (suc k) d x ≡ true)
      gone (inl e) = inr (subst (λ (y : ℕ). reaches conditions (suc k) d y ≡ true) e (one_step conditions k c d u))
      gone (inr r) = inl r

      at : IsIn x rest ⊎ (reaches conditions k c x ≡ true) → IsIn x (without c rest i) ⊎ (reaches conditions (suc k) d x ≡ true)
      at (inl r) = gone (in_without c x rest i r)
      at (inr h) = inr (step_end conditions k x c d h u)

  -- what `c` names is left when `c` is taken out
  still_left : (k c d : ℕ) (rest : List ℕ) (i : IsIn c rest) → IsIn d (names_in (conditions c)) → IsIn d ns → k + length rest ≤ length ns → Left k c rest → IsIn d (without c rest i)
  still_left k c d rest i u j l inv = at (inv d j)
    where
      few : suc k ≤ length ns
      few = let s = some_left c rest i in omega arith

      same : (c ≡ d) ⊎ IsIn d (without c rest i) → IsIn d (without c rest i)
      same (inl e) = absurd (not_back (suc k) d j few (subst (λ (y : ℕ). reaches conditions (suc k) d y ≡ true) e (one_step conditions k c d u)))
      same (inr r) = r

      at : IsIn d rest ⊎ (reaches conditions k c d ≡ true) → IsIn d (without c rest i)
      at (inl r) = same (in_without c d rest i r)
      at (inr h) = absurd (not_back (suc k) d j few (step_end conditions k d c d h u))

  enough : (n m k c : ℕ) (rest : List ℕ) → IsIn c rest → IsIn c ns → length rest ≤ n → length rest ≤ m → k + length rest ≤ length ns → Left k c rest → truth_within text_at conditions n c ≡ truth_within text_at conditions m c
  enough zero m k c rest i j ln lm l inv = let s = some_left c rest i in let no_such : ⊥ = omega arith in absurd no_such
  enough (suc n) zero k c rest i j ln lm l inv = let s = some_left c rest i in let no_such : ⊥ = omega arith in absurd no_such
  enough (suc n) (suc m) k c rest i j ln lm l inv =
      let e = without_shorter c rest i in
      same_meaning (text_at c) (truth_within text_at conditions n) (truth_within text_at conditions m) (conditions c)
      (each_more (λ d. IsIn d ns) (λ d. truth_within text_at conditions n d ≡ truth_within text_at conditions m d) (names_in (conditions c))
      (λ d u g. enough n m (suc k) d (without c rest i) (still_left k c d rest i u g l inv) g (omega arith) (omega arith) (omega arith) (left_after k c d rest i u inv))
      (each_at (λ a. Each (λ d. IsIn d ns) (names_in (conditions a))) c ns closed j))

  pub bound_enough : (n m c : ℕ) → length ns ≤ n → length ns ≤ m → IsIn c ns → truth_within text_at conditions n c ≡ truth_within text_at conditions m c
  bound_enough n m c ln lm i = enough n m 0 c ns i i ln lm (omega arith) (λ x j. inl j)
