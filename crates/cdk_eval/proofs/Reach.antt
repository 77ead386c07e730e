-- Ways by names that lead to names.
use Rattle.std.proofs.Common.{◌≡◌, ℕ, zero, suc, ◌+◌, ◌≤◌, List, [], ◌∷◌, ◌++◌, length, Bool, true, false, refl, sym, ap, ◌∙◌, inl, inr, arith, rules}
use Rattle.std.specs.Prelude.{◌⊎◌, ◌||◌, bytes_eq, ⊤}
use Rattle.std.specs.List.{list_any}
use Rattle.std.proofs.lemmas.Slice.Eq.{bytes_eq-Decides}
use Rattle.cdk_eval.specs.Reach.{is_among, IsIn, comes_to}

pub bytes_same : (k l : List ℕ) → bytes_eq k l ≡ true → k ≡ l
bytes_same k l h = search (rules, bytes_eq-Decides)

pub same_bytes : (k : List ℕ) → bytes_eq k k ≡ true
same_bytes k = (bytes_eq-Decides k k).1 refl

pub in_front : (n : List ℕ) (xs ys : List (List ℕ)) → IsIn n xs → IsIn n (xs ++ ys)
in_front n [] ys h = absurd h
in_front n (x ∷ xs) ys (inl e) = inl e
in_front n (x ∷ xs) ys (inr h) = inr (in_front n xs ys h)

pub in_back : (n : List ℕ) (xs ys : List (List ℕ)) → IsIn n ys → IsIn n (xs ++ ys)
in_back n [] ys h = h
in_back n (x ∷ xs) ys h = inr (in_back n xs ys h)

or_right : (a : Bool) (b : Bool) → b ≡ true → (a || b) ≡ true
or_right true b e = refl
or_right false b e = e

pub in_when_among : (n : List ℕ) (xs : List (List ℕ)) → is_among n xs ≡ true → IsIn n xs
in_when_among n [] h = cc
in_when_among n (x ∷ xs) h = at (bytes_eq n x) refl h (in_when_among n xs)
  where
    at : (b : Bool) → bytes_eq n x ≡ b → (b || is_among n xs) ≡ true → (is_among n xs ≡ true → IsIn n xs) → IsIn n (x ∷ xs)
    at true e h later = inl (sym (bytes_same n x e))
    at false e h later = inr (later h)

pub any_in : (test : List ℕ → Bool) (n : List ℕ) (xs : List (List ℕ)) → IsIn n xs → test n ≡ true → list_any test xs ≡ true
any_in test n [] h t = absurd h
any_in test n (x ∷ xs) (inl e) t = ap (λ b. b || list_any test xs) (ap test e ∙ t)
any_in test n (x ∷ xs) (inr h) t = or_right (test x) (list_any test xs) (any_in test n xs h t)

pub any_more : (t u : List ℕ → Bool) → ((d : List ℕ) → t d ≡ true → u d ≡ true) → (xs : List (List ℕ)) → list_any t xs ≡ true → list_any u xs ≡ true
any_more t u f [] h = cc
any_more t u f (x ∷ xs) h = at (t x) refl h (any_more t u f xs)
  where
    at : (b : Bool) → t x ≡ b → (b || list_any t xs) ≡ true → (list_any t xs ≡ true → list_any u xs ≡ true) → list_any u (x ∷ xs) ≡ true
    at true e h later = ap (λ b. b || list_any u xs) (f x e)
    at false e h later = or_right (u x) (list_any u xs) (later h)

pub or_more : (a b c : Bool) → (b ≡ true → c ≡ true) → (a || b) ≡ true → (a || c) ≡ true
or_more true b c f h = refl
or_more false b c f h = f h

module _ (leads : List ℕ → List (List ℕ)) where
  pub comes_within : (n m : ℕ) (goal c : List ℕ) → n ≤ m → comes_to leads n goal c ≡ true → comes_to leads m goal c ≡ true
  comes_within zero m goal c h t = cc
  comes_within (suc n) zero goal c h t = absurd (omega (arith, h))
  comes_within (suc n) (suc m) goal c h t =
      any_more (λ d. bytes_eq d goal || comes_to leads n goal d) (λ d. bytes_eq d goal || comes_to leads m goal d)
      (λ d e. or_more (bytes_eq d goal) (comes_to leads n goal d) (comes_to leads m goal d) (comes_within n m goal d (omega (arith, h))) e)
      (leads c) t

  -- each of the names leads to the one before it, and the first to x
  abbrev pub IsPath : List (List ℕ) → List ℕ → Type 0
  IsPath [] x = ⊤
  IsPath (p ∷ ps) x = IsIn x (leads p) × IsPath ps p

  pub path_comes : (ps : List (List ℕ)) (x goal : List ℕ) (k n : ℕ) → (bytes_eq x goal || comes_to leads k goal x) ≡ true → IsPath ps x → k + length ps ≤ n → (q : List ℕ) → IsIn q ps → comes_to leads n goal q ≡ true
  path_comes [] x goal k n near path h q i = absurd i
  path_comes (p ∷ ps) x goal k n near path h q i = at i (path_comes ps p goal (suc k) n (or_right (bytes_eq p goal) (comes_to leads (suc k) goal p) here) path.1 (omega (arith, h)) q)
    where
      here : comes_to leads (suc k) goal p ≡ true
      here = any_in (λ d. bytes_eq d goal || comes_to leads k goal d) x (leads p) path.0 near

      at : IsIn q (p ∷ ps) → (IsIn q ps → comes_to leads n goal q ≡ true) → comes_to leads n goal q ≡ true
      at (inl e) later = ap (comes_to leads n goal) (sym e) ∙ comes_within (suc k) n goal p (omega (arith, h)) here
      at (inr i) later = later i

  -- what stands on its own path comes back to itself
  pub path_returns : (ps : List (List ℕ)) (c : List ℕ) (n : ℕ) → IsPath ps c → length ps ≤ n → IsIn c ps → comes_to leads n c c ≡ true
  path_returns ps c n path h i = path_comes ps c c 0 n (ap (λ b. b || false) (same_bytes c)) path (omega (arith, h)) c i
