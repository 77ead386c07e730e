-- Ways from a condition to another by the names in them, and names in lists.
use Rattle.std.proofs.Common.{◌≡◌, ℕ, zero, suc, ◌+◌, List, length, Bor, [], ◌∷◌, ◌++◌, Bool, true, false, refl, sym, subst, ap, ◌∙◌, inl, inr, arith}
use Rattle.std.specs.Prelude.{◌⊎◌, ◌||◌, bytes_eq}
use Rattle.std.specs.List.{list_any}
use Rattle.std.proofs.lemmas.List.{map-append, length-append}
use Rattle.serde_json.specs.Data.{Members}
use Rattle.cdk_eval.specs.Reach.{IsIn, comes_to}
use Rattle.cdk_eval.proofs.Reach.{bytes_same, same_bytes, any_in, any_more, in_front, in_back, comes_within}
use Rattle.cdk_conditions.specs.Kept.{texts_of}
use Rattle.cdk_conditions.specs.Walks.{leads_in, Leads, Joins}

pub in_or : (n : List ℕ) (xs ys : List (List ℕ)) → IsIn n (xs ++ ys) → IsIn n xs ⊎ IsIn n ys
in_or n [] ys i = inr i
in_or n (x ∷ xs) ys (inl e) = inl (inl e)
in_or n (x ∷ xs) ys (inr i) = at (in_or n xs ys i)
  where
    at : IsIn n xs ⊎ IsIn n ys → IsIn n (x ∷ xs) ⊎ IsIn n ys
    at (inl j) = inl (inr j)
    at (inr j) = inr j

pub or_true : (a b : Bool) → (a || b) ≡ true → (a ≡ true) ⊎ (b ≡ true)
or_true true b h = inl refl
or_true false b h = inr h

pub any_of : (t : List ℕ → Bool) (xs : List (List ℕ)) → list_any t xs ≡ true → (d : List ℕ) × IsIn d xs × (t d ≡ true)
any_of t [] h = cc
any_of t (x ∷ xs) h = at (t x) refl h (any_of t xs)
  where
    at : (b : Bool) → t x ≡ b → (b || list_any t xs) ≡ true → (list_any t xs ≡ true → (d : List ℕ) × IsIn d xs × (t d ≡ true)) → (d : List ℕ) × IsIn d (x ∷ xs) × (t d ≡ true)
    at true e h later = (x, inl refl, e)
    at false e h later = let r = later h in (r.0, inr r.1, r.2)

-- ---- ways

right : (a b : Bool) → b ≡ true → (a || b) ≡ true
right true b h = refl
right false b h = h

-- one way after another
across : (leads : List ℕ → List (List ℕ)) (k j : ℕ) (a b c : List ℕ) → comes_to leads k b a ≡ true → comes_to leads j c b ≡ true → comes_to leads (k + j) c a ≡ true
across leads zero j a b c h g = cc
across leads (suc k) j a b c h g =
    let e : suc (k + j) ≡ suc k + j = omega arith in
    subst (λ i. comes_to leads i c a ≡ true) e (any_more (λ d. bytes_eq d b || comes_to leads k b d) (λ d. bytes_eq d c || comes_to leads (k + j) c d) (λ d t. at d (or_true (bytes_eq d b) (comes_to leads k b d) t) (λ u. across leads k j d b c u g)) (leads a) h)
  where
    at : (d : List ℕ) → (bytes_eq d b ≡ true) ⊎ (comes_to leads k b d ≡ true) → (comes_to leads k b d ≡ true → comes_to leads (k + j) c d ≡ true) → (bytes_eq d c || comes_to leads (k + j) c d) ≡ true
    at d (inl e) later = right (bytes_eq d c) (comes_to leads (k + j) c d) (subst (λ (y : List ℕ). comes_to leads (k + j) c y ≡ true) (sym (bytes_same d b e)) (comes_within leads j (k + j) c b (omega arith) g))
    at d (inr u) later = right (bytes_eq d c) (comes_to leads (k + j) c d) (later u)

module _ (cs : Members) where
  pub one : (a b : List ℕ) → IsIn b (leads_in cs a) → Leads cs a b
  one a b i = (1, any_in (λ d. bytes_eq d b || comes_to (leads_in cs) 0 b d) b (leads_in cs a) i (ap (λ t. t || comes_to (leads_in cs) 0 b b) (same_bytes b)))

  pub via : (a b c : List ℕ) → Leads cs a b → Leads cs b c → Leads cs a c
  via a b c h g = (h.0 + g.0, across (leads_in cs) h.0 g.0 a b c h.1 g.1)

  -- or the way of no step
  pub via_first : (a b c : List ℕ) → (a ≡ b) ⊎ Leads cs a b → Leads cs b c → Leads cs a c
  via_first a b c (inl e) g = subst (λ (x : List ℕ). Leads cs x c) (sym e) g
  via_first a b c (inr h) g = via a b c h g

  pub via_last : (a b c : List ℕ) → Leads cs a b → (b ≡ c) ⊎ Leads cs b c → Leads cs a c
  via_last a b c h (inl e) = subst (λ (x : List ℕ). Leads cs a x) e h
  via_last a b c h (inr g) = via a b c h g

-- ---- names in a slice

pub texts_push : (ns ms : List (Bor (List ℕ))) (m : Bor (List ℕ)) → ms ≡ ns ++ m ∷ [] → texts_of ms ≡ texts_of ns ++ m.now ∷ []
texts_push ns ms m e = ap texts_of e ∙ map-append (λ n. n.now) ns (m ∷ [])

texts_both : (xs ys : List (Bor (List ℕ))) → texts_of (xs ++ ys) ≡ texts_of xs ++ texts_of ys
texts_both xs ys = map-append (λ n. n.now) xs ys

joins : (xs ys zs : List (List ℕ)) → zs ≡ xs ++ ys → Joins xs ys zs
joins xs ys zs e = record {
  either = λ n i. in_or n xs ys (subst (IsIn n) e i);
  first = λ n i. subst (IsIn n) (sym e) (in_front n xs ys i);
  second = λ n i. subst (IsIn n) (sym e) (in_back n xs ys i);
  total = ap length e ∙ length-append xs ys;
}

pub joins_front : (xs ys zs : List (Bor (List ℕ))) → zs ≡ xs ++ ys → Joins (texts_of xs) (texts_of ys) (texts_of zs)
joins_front xs ys zs e = joins (texts_of xs) (texts_of ys) (texts_of zs) (ap texts_of e ∙ texts_both xs ys)

pub joins_back : (xs ys zs : List (Bor (List ℕ))) → zs ≡ ys ++ xs → Joins (texts_of xs) (texts_of ys) (texts_of zs)
joins_back xs ys zs e =
    let j = joins_front ys xs zs e in
    record { either = λ n i. turned n (j.either n i); first = j.second; second = j.first; total = omega (arith, j.total) }
  where
    turned : (n : List ℕ) → IsIn n (texts_of ys) ⊎ IsIn n (texts_of xs) → IsIn n (texts_of xs) ⊎ IsIn n (texts_of ys)
    turned n (inl i) = inr i
    turned n (inr i) = inl i
