-- The search for a way from a stack to itself.
use Rattle.std.proofs.Common.{◌≡◌, ℕ, zero, suc, ◌<◌, List, length, get_or, Bor, [], ◌∷◌, ◌++◌, Bool, true, false, refl, sym, subst, ap, ◌∙◌, inl, inr, arith}
use Rattle.std.specs.Prelude.{◌⊎◌, ◌||◌, bytes_eq}
use Rattle.std.specs.List.{list_any}
use Rattle.std.proofs.lemmas.List.{map-append}
use Rattle.cdk_artifacts.specs.Found.{texts_of}
use Rattle.cdk_eval.specs.Reach.{IsIn, comes_to}
use Rattle.cdk_eval.proofs.Reach.{bytes_same, same_bytes, any_in, any_more, in_front, in_back}
use Rattle.cdk_artifacts.specs.Ways.{Grows, AreSeen}

pub in_or : (n : List ℕ) (xs ys : List (List ℕ)) → IsIn n (xs ++ ys) → IsIn n xs ⊎ IsIn n ys
in_or n [] ys i = inr i
in_or n (x ∷ xs) ys (inl e) = inl (inl e)
in_or n (x ∷ xs) ys (inr i) = at (in_or n xs ys i)
  where
    at : IsIn n xs ⊎ IsIn n ys → IsIn n (x ∷ xs) ⊎ IsIn n ys
    at (inl j) = inl (inr j)
    at (inr j) = inr j

-- ---- what grows

pub grows_none : (s : List ℕ → Bool) (o : List (List ℕ)) → Grows [] s s o o
grows_none s o = record { more = λ n h. h; opened = λ n h. inl h; stays = λ n i. i; given = λ n i. inl i }

pub grows_same : (m : List ℕ) (s : List ℕ → Bool) (o : List (List ℕ)) → Grows (m ∷ []) s s o o
grows_same m s o = record { more = λ n h. h; opened = λ n h. inl h; stays = λ n i. i; given = λ n i. inl i }

or_true : (a b : Bool) → (a || b) ≡ true → (a ≡ true) ⊎ (b ≡ true)
or_true true b h = inl refl
or_true false b h = inr h

pub grows_one : (m : List ℕ) (s t : List ℕ → Bool) (o p : List (List ℕ)) → ((n : List ℕ) → t n ≡ bytes_eq m n || s n) → p ≡ o ++ m ∷ [] → Grows (m ∷ []) s t o p × (t m ≡ true)
grows_one m s t o p seen pushed = (
  record {
    more = λ n h. seen n ∙ either (bytes_eq m n) (s n) h;
    opened = λ n h. by_new n (or_true (bytes_eq m n) (s n) (sym (seen n) ∙ h));
    stays = λ n i. subst (IsIn n) (sym pushed) (in_front n o (m ∷ []) i);
    given = λ n i. in_or n o (m ∷ []) (subst (IsIn n) pushed i);
  },
  seen m ∙ ap (λ b. b || s m) (same_bytes m),
)
  where
    either : (a b : Bool) → b ≡ true → (a || b) ≡ true
    either true b h = refl
    either false b h = h

    by_new : (n : List ℕ) → (bytes_eq m n ≡ true) ⊎ (s n ≡ true) → (s n ≡ true) ⊎ IsIn n p
    by_new n (inl e) = inr (subst (IsIn n) (sym pushed) (in_back n o (m ∷ []) (inl (bytes_same m n e))))
    by_new n (inr h) = inl h

-- some of the names, then one more of them
pub grows_more : (names : List (List ℕ)) (m : List ℕ) (s t u : List ℕ → Bool) (o p q : List (List ℕ)) → IsIn m names → Grows names s t o p → Grows (m ∷ []) t u p q → Grows names s u o q
grows_more names m s t u o p q i g h = record {
  more = λ n k. h.more n (g.more n k);
  opened = λ n k. by_new n (h.opened n k);
  stays = λ n j. h.stays n (g.stays n j);
  given = λ n j. by_given n (h.given n j);
}
  where
    by_old : (n : List ℕ) → (s n ≡ true) ⊎ IsIn n p → (s n ≡ true) ⊎ IsIn n q
    by_old n (inl k) = inl k
    by_old n (inr j) = inr (h.stays n j)

    by_new : (n : List ℕ) → (t n ≡ true) ⊎ IsIn n q → (s n ≡ true) ⊎ IsIn n q
    by_new n (inl k) = by_old n (g.opened n k)
    by_new n (inr j) = inr j

    by_given : (n : List ℕ) → IsIn n p ⊎ IsIn n (m ∷ []) → IsIn n o ⊎ IsIn n names
    by_given n (inl j) = g.given n j
    by_given n (inr (inl e)) = inr (subst (λ (k : List ℕ). IsIn k names) e i)
    by_given n (inr (inr j)) = absurd j

-- ---- ways

module _ (leads : List ℕ → List (List ℕ)) where
  -- one more step at the end of a way
  pub come_on : (k : ℕ) (x g c : List ℕ) → comes_to leads k x c ≡ true → IsIn g (leads x) → comes_to leads (suc k) g c ≡ true
  come_on zero x g c t i = cc
  come_on (suc k) x g c t i = any_more (λ d. bytes_eq d x || comes_to leads k x d) (λ d. bytes_eq d g || comes_to leads (suc k) g d) (λ d h. at d (or_true (bytes_eq d x) (comes_to leads k x d) h) (λ u. come_on k x g d u i)) (leads c) t
    where
      right : (a b : Bool) → b ≡ true → (a || b) ≡ true
      right true b h = refl
      right false b h = h

      one : comes_to leads (suc k) g x ≡ true
      one = any_in (λ d. bytes_eq d g || comes_to leads k g d) g (leads x) i (ap (λ b. b || comes_to leads k g g) (same_bytes g))

      at : (d : List ℕ) → (bytes_eq d x ≡ true) ⊎ (comes_to leads k x d ≡ true) → (comes_to leads k x d ≡ true → comes_to leads (suc k) g d ≡ true) → (bytes_eq d g || comes_to leads (suc k) g d) ≡ true
      at d (inl e) later = right (bytes_eq d g) (comes_to leads (suc k) g d) (subst (λ (y : List ℕ). comes_to leads (suc k) g y ≡ true) (sym (bytes_same d x e)) one)
      at d (inr u) later = right (bytes_eq d g) (comes_to leads (suc k) g d) (later u)

  module _ (start : List ℕ) where
    -- what is open is reached; what is seen and not open has all its names seen
    pub record Searches (s : List ℕ → Bool) (o : List (List ℕ)) : Type 0 where
      pub reached : (n : List ℕ) → IsIn n o → (k : ℕ) × (comes_to leads k n start ≡ true)
      pub closed : (n : List ℕ) → (n ≡ start) ⊎ (s n ≡ true) → IsIn n o ⊎ AreSeen start s (leads n)

    pub one_step : (n : List ℕ) → IsIn n (leads start) → comes_to leads 1 n start ≡ true
    one_step n i = any_in (λ d. bytes_eq d n || comes_to leads 0 n d) n (leads start) i (ap (λ b. b || comes_to leads 0 n n) (same_bytes n))

    pub begins : (s t : List ℕ → Bool) (p : List (List ℕ)) → ((n : List ℕ) → s n ≡ false) → Grows (leads start) s t [] p → AreSeen start t (leads start) → Searches t p
    begins s t p none g seen = record { reached = λ n i. way n (g.given n i); closed = λ n h. at n h }
      where
        way : (n : List ℕ) → IsIn n [] ⊎ IsIn n (leads start) → (k : ℕ) × (comes_to leads k n start ≡ true)
        way n (inl i) = absurd i
        way n (inr i) = (1, one_step n i)

        by_new : (n : List ℕ) → (s n ≡ true) ⊎ IsIn n p → IsIn n p ⊎ AreSeen start t (leads n)
        by_new n (inl h) = let f = none n in absurd (cc)
        by_new n (inr i) = inl i

        at : (n : List ℕ) → (n ≡ start) ⊎ (t n ≡ true) → IsIn n p ⊎ AreSeen start t (leads n)
        at n (inl e) = inr (subst (λ (y : List ℕ). AreSeen start t (leads y)) (sym e) seen)
        at n (inr h) = by_new n (g.opened n h)

    pub steps : (s t : List ℕ → Bool) (o p all : List (List ℕ)) (x : List ℕ) → Searches s all → all ≡ o ++ x ∷ [] → Grows (leads x) s t o p → AreSeen start t (leads x) → Searches t p
    steps s t o p all x was popped g seen = record { reached = λ n i. way n (g.given n i); closed = λ n h. at n h }
      where
        way : (n : List ℕ) → IsIn n o ⊎ IsIn n (leads x) → (k : ℕ) × (comes_to leads k n start ≡ true)
        way n (inl i) = was.reached n (subst (IsIn n) (sym popped) (in_front n o (x ∷ []) i))
        way n (inr i) = let r = was.reached x (subst (IsIn x) (sym popped) (in_back x o (x ∷ []) (inl refl))) in (suc r.0, come_on r.0 x n start r.1 i)

        here : (n : List ℕ) → IsIn n o ⊎ IsIn n (x ∷ []) → IsIn n p ⊎ AreSeen start t (leads n)
        here n (inl i) = inl (g.stays n i)
        here n (inr (inl e)) = inr (subst (λ (y : List ℕ). AreSeen start t (leads y)) e seen)
        here n (inr (inr i)) = absurd i

        old : (n : List ℕ) → IsIn n all ⊎ AreSeen start s (leads n) → IsIn n p ⊎ AreSeen start t (leads n)
        old n (inl i) = here n (in_or n o (x ∷ []) (subst (IsIn n) popped i))
        old n (inr h) = inr (λ d i. let q = h d i in (q.0, g.more d q.1))

        by_new : (n : List ℕ) → (s n ≡ true) ⊎ IsIn n p → IsIn n p ⊎ AreSeen start t (leads n)
        by_new n (inl h) = old n (was.closed n (inr h))
        by_new n (inr i) = inl i

        at : (n : List ℕ) → (n ≡ start) ⊎ (t n ≡ true) → IsIn n p ⊎ AreSeen start t (leads n)
        at n (inl e) = old n (was.closed n (inl e))
        at n (inr h) = by_new n (g.opened n h)

    pub finds : (s : List ℕ → Bool) (o all : List (List ℕ)) (x : List ℕ) → Searches s all → all ≡ o ++ x ∷ [] → IsIn start (leads x) → (k : ℕ) × (comes_to leads k start start ≡ true)
    finds s o all x was popped i =
        let r = was.reached x (subst (IsIn x) (sym popped) (in_back x o (x ∷ []) (inl refl))) in (suc r.0, come_on r.0 x start start r.1 i)

    none_at : (t : List ℕ → Bool) (xs : List (List ℕ)) → ((d : List ℕ) → IsIn d xs → t d ≡ false) → list_any t xs ≡ false
    none_at t [] h = refl
    none_at t (x ∷ xs) h = ap (λ b. b || list_any t xs) (h x (inl refl)) ∙ none_at t xs (λ d i. h d (inr i))

    -- where nothing is open, no way leads back
    pub ends : (s : List ℕ → Bool) → Searches s [] → (k : ℕ) (n : List ℕ) → (n ≡ start) ⊎ (s n ≡ true) → comes_to leads k start n ≡ false
    ends s was zero n h = refl
    ends s was (suc k) n h = at (was.closed n h) (λ d g. ends s was k d (inr g))
      where
        at : IsIn n [] ⊎ AreSeen start s (leads n) → ((d : List ℕ) → s d ≡ true → comes_to leads k start d ≡ false) → comes_to leads (suc k) start n ≡ false
        at (inl i) later = absurd i
        at (inr seen) later = none_at (λ d. bytes_eq d start || comes_to leads k start d) (leads n) (λ d i. let q = seen d i in ap (λ b. b || comes_to leads k start d) q.0 ∙ later d q.1)

-- ---- names in a slice

pub in_at : (ns : List (Bor (List ℕ))) (i : ℕ) (d : Bor (List ℕ)) → i < length ns → IsIn (get_or ns i d).now (texts_of ns)
in_at [] i d h = absurd (omega arith)
in_at (n ∷ ns) zero d h = inl refl
in_at (n ∷ ns) (suc i) d h = inr (in_at ns i d (omega arith))

pub texts_push : (ns ms : List (Bor (List ℕ))) (m : Bor (List ℕ)) → ms ≡ ns ++ m ∷ [] → texts_of ms ≡ texts_of ns ++ m.now ∷ []
texts_push ns ms m e = ap texts_of e ∙ map-append (λ n. n.now) ns (m ∷ [])

pub seen_more : (goal : List ℕ) (t : List ℕ → Bool) (m : List ℕ) (ns : List (List ℕ)) → bytes_eq m goal ≡ false → t m ≡ true → AreSeen goal t ns → AreSeen goal t (m ∷ ns)
seen_more goal t m ns e h rest n (inl s) = (ap (λ x. bytes_eq x goal) (sym s) ∙ e, ap t (sym s) ∙ h)
seen_more goal t m ns e h rest n (inr i) = rest n i
