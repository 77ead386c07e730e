-- A stack that is placed does not reach itself.
use Rattle.std.proofs.Common.{◌≡◌, ℕ, zero, suc, List, [], ◌∷◌, length, filter, find, cond, Bool, true, false, not, Option, Some, None, refl, sym, ap, ◌∙◌, inl, inr}
use Rattle.std.specs.Prelude.{◌⊎◌, ◌&&◌, ◌||◌, bytes_eq, if◌then◌else◌}
use Rattle.std.specs.List.{list_all, list_any}
use Rattle.cdk_eval.specs.Manifest.{StackArtifact, dependencies_of, comes_back, is_ready, first_then, placed, in_order, ids, AreApart}
use Rattle.cdk_eval.specs.Reach.{is_among, comes_to, IsIn}
use Rattle.cdk_eval.proofs.Reach.{bytes_same, same_bytes}
use Rattle.cdk_artifacts.proofs.Placing.{or_swap}

abbrev Stands : StackArtifact → List StackArtifact → Type 0
Stands s [] = ⊥
Stands s (t ∷ ts) = (t ≡ s) ⊎ Stands s ts

or_true : (a b : Bool) → b ≡ true → (a || b) ≡ true
or_true true b h = refl
or_true false b h = h

among_ids : (s : StackArtifact) (ss : List StackArtifact) → Stands s ss → is_among s.id (ids ss) ≡ true
among_ids s [] i = absurd i
among_ids s (t ∷ ts) (inl e) = ap (λ x. bytes_eq s.id x.id || is_among s.id (ids ts)) e ∙ ap (λ b. b || is_among s.id (ids ts)) (same_bytes s.id)
among_ids s (t ∷ ts) (inr i) = or_true (bytes_eq s.id t.id) (is_among s.id (ids ts)) (among_ids s ts i)

dependencies_at : (s : StackArtifact) (ss : List StackArtifact) → AreApart ss → Stands s ss → dependencies_of ss s.id ≡ s.dependencies
dependencies_at s [] apart i = absurd i
dependencies_at s (t ∷ ts) apart (inl e) =
    ap (λ b. if b then t.dependencies else dependencies_of ts s.id) (ap (λ x. bytes_eq x.id s.id) e ∙ same_bytes s.id) ∙ ap (λ x. x.dependencies) e
dependencies_at s (t ∷ ts) apart (inr i) = at (bytes_eq t.id s.id) refl (dependencies_at s ts apart.1 i)
  where
    at : (b : Bool) → bytes_eq t.id s.id ≡ b → dependencies_of ts s.id ≡ s.dependencies → (if b then t.dependencies else dependencies_of ts s.id) ≡ s.dependencies
    at true e later = let there : is_among t.id (ids ts) ≡ true = ap (λ n. is_among n (ids ts)) (bytes_same t.id s.id e) ∙ among_ids s ts i in absurd (cc)
    at false e later = later

found_some : (p : StackArtifact → Bool) (ss : List StackArtifact) (s : StackArtifact) → find p ss ≡ Some s → Stands s ss × (p s ≡ true)
found_some p [] s h = cc
found_some p (t ∷ ts) s h = at (p t) refl h (found_some p ts s)
  where
    at : (b : Bool) → p t ≡ b → cond b (Some t) (find p ts) ≡ Some s → (find p ts ≡ Some s → Stands s ts × (p s ≡ true)) → Stands s (t ∷ ts) × (p s ≡ true)
    at true e h later = let same : t ≡ s = cc in (inl same, ap p (sym same) ∙ e)
    at false e h later = let r = later h in (inr r.0, r.1)

kept_stands : (p : StackArtifact → Bool) (ss : List StackArtifact) (s : StackArtifact) → Stands s (filter p ss) → Stands s ss × (p s ≡ true)
kept_stands p [] s i = absurd i
kept_stands p (t ∷ ts) s i = at (p t) refl i (kept_stands p ts s)
  where
    at : (b : Bool) → p t ≡ b → Stands s (cond b (t ∷ filter p ts) (filter p ts)) → (Stands s (filter p ts) → Stands s ts × (p s ≡ true)) → Stands s (t ∷ ts) × (p s ≡ true)
    at true h (inl e) later = (inl e, ap p (sym e) ∙ h)
    at true h (inr i) later = let r = later i in (inr r.0, r.1)
    at false h i later = let r = later i in (inr r.0, r.1)

any_of : (t : List ℕ → Bool) (xs : List (List ℕ)) → list_any t xs ≡ true → (x : List ℕ) × IsIn x xs × (t x ≡ true)
any_of t [] h = cc
any_of t (x ∷ xs) h = at (t x) refl h (any_of t xs)
  where
    at : (b : Bool) → t x ≡ b → (b || list_any t xs) ≡ true → (list_any t xs ≡ true → (y : List ℕ) × IsIn y xs × (t y ≡ true)) → (y : List ℕ) × IsIn y (x ∷ xs) × (t y ≡ true)
    at true e h later = (x, inl refl, e)
    at false e h later = let r = later h in (r.0, inr r.1, r.2)

each_of : (t : List ℕ → Bool) (xs : List (List ℕ)) → list_all t xs ≡ true → (x : List ℕ) → IsIn x xs → t x ≡ true
each_of t [] h x i = absurd i
each_of t (y ∷ ys) h x i = at (t y) refl h i (each_of t ys)
  where
    at : (b : Bool) → t y ≡ b → (b && list_all t ys) ≡ true → IsIn x (y ∷ ys) → (list_all t ys ≡ true → (x : List ℕ) → IsIn x ys → t x ≡ true) → t x ≡ true
    at true e h (inl same) later = ap t (sym same) ∙ e
    at true e h (inr i) later = later h x i
    at false e h i later = cc

either : (a b : Bool) → (a || b) ≡ true → (a ≡ true) ⊎ (b ≡ true)
either true b h = inl refl
either false b h = inr h

not_true : (a : Bool) → not a ≡ true → a ≡ false
not_true true h = cc
not_true false h = refl

module _ (ss : List StackArtifact) (apart : AreApart ss) where
  -- those before lead to those before alone, and none to itself
  record IsClosed (before : List (List ℕ)) : Type 0 where
    inner : (n : List ℕ) → is_among n before ≡ true → (k : ℕ) (g : List ℕ) → comes_to (dependencies_of ss) k g n ≡ true → is_among g before ≡ true
    acyclic : (n : List ℕ) → is_among n before ≡ true → (k : ℕ) → comes_to (dependencies_of ss) k n n ≡ false

  at_first : IsClosed []
  at_first = record { inner = λ n h k g w. h; acyclic = λ n h k. cc }

  module _ (before : List (List ℕ)) (s : StackArtifact) (was : IsClosed before) (new : is_among s.id before ≡ false) (there : Stands s ss) (ready : is_ready before s ≡ true) where
    leads_before : (k : ℕ) (g : List ℕ) → comes_to (dependencies_of ss) k g s.id ≡ true → is_among g before ≡ true
    leads_before zero g h = cc
    leads_before (suc k) g h =
        let named : list_any (λ d. bytes_eq d g || comes_to (dependencies_of ss) k g d) s.dependencies ≡ true = ap (λ ds. list_any (λ d. bytes_eq d g || comes_to (dependencies_of ss) k g d) ds) (sym (dependencies_at s ss apart there)) ∙ h in
        let w = any_of (λ d. bytes_eq d g || comes_to (dependencies_of ss) k g d) s.dependencies named in
        at w.0 (each_of (λ d. is_among d before) s.dependencies ready w.0 w.1) (either (bytes_eq w.0 g) (comes_to (dependencies_of ss) k g w.0) w.2)
      where
        at : (d : List ℕ) → is_among d before ≡ true → (bytes_eq d g ≡ true) ⊎ (comes_to (dependencies_of ss) k g d ≡ true) → is_among g before ≡ true
        at d stands (inl e) = ap (λ x. is_among x before) (sym (bytes_same d g e)) ∙ stands
        at d stands (inr t) = was.inner d stands k g t

    one_more : IsClosed (s.id ∷ before)
    one_more = record { inner = λ n h. inner n (either (bytes_eq n s.id) (is_among n before) h); acyclic = λ n h. acyclic n (either (bytes_eq n s.id) (is_among n before) h) }
      where
        inner : (n : List ℕ) → (bytes_eq n s.id ≡ true) ⊎ (is_among n before ≡ true) → (k : ℕ) (g : List ℕ) → comes_to (dependencies_of ss) k g n ≡ true → is_among g (s.id ∷ before) ≡ true
        inner n (inl e) k g w = or_true (bytes_eq g s.id) (is_among g before) (leads_before k g (ap (comes_to (dependencies_of ss) k g) (sym (bytes_same n s.id e)) ∙ w))
        inner n (inr h) k g w = or_true (bytes_eq g s.id) (is_among g before) (was.inner n h k g w)

        no_way : (k : ℕ) (b : Bool) → comes_to (dependencies_of ss) k s.id s.id ≡ b → comes_to (dependencies_of ss) k s.id s.id ≡ false
        no_way k true e = let back = leads_before k s.id e in absurd (cc)
        no_way k false e = e

        acyclic : (n : List ℕ) → (bytes_eq n s.id ≡ true) ⊎ (is_among n before ≡ true) → (k : ℕ) → comes_to (dependencies_of ss) k n n ≡ false
        acyclic n (inl e) k = ap (λ x. comes_to (dependencies_of ss) k x x) (bytes_same n s.id e) ∙ no_way k (comes_to (dependencies_of ss) k s.id s.id) refl
        acyclic n (inr h) k = was.acyclic n h k

  abbrev IsRest : List (List ℕ) → List StackArtifact → Type 0
  IsRest before rest = (t : StackArtifact) → Stands t rest → Stands t ss × (is_among t.id before ≡ false)

  or_none : (b : Bool) → (b || false) ≡ true → b ≡ true
  or_none true h = refl
  or_none false h = h

  none_cyclic : (m : ℕ) (before : List (List ℕ)) (rest : List StackArtifact) → IsClosed before → IsRest before rest → (n : List ℕ) → (is_among n before || is_among n (ids (placed m before rest))) ≡ true → (k : ℕ) → comes_to (dependencies_of ss) k n n ≡ false
  none_cyclic zero before rest was left n h k = was.acyclic n (or_none (is_among n before) h) k
  none_cyclic (suc m) before rest was left n h k =
      at (find (is_ready before) rest) refl h (λ s closed others g. none_cyclic m (s.id ∷ before) (filter (λ r. not (bytes_eq r.id s.id)) rest) closed others n g k)
    where
      at : (o : Option StackArtifact) → find (is_ready before) rest ≡ o
          → (is_among n before || is_among n (ids (first_then o (λ s. placed m (s.id ∷ before) (filter (λ r. not (bytes_eq r.id s.id)) rest))))) ≡ true
          → ((s : StackArtifact) → IsClosed (s.id ∷ before) → IsRest (s.id ∷ before) (filter (λ r. not (bytes_eq r.id s.id)) rest)
          → (is_among n (s.id ∷ before) || is_among n (ids (placed m (s.id ∷ before) (filter (λ r. not (bytes_eq r.id s.id)) rest)))) ≡ true → comes_to (dependencies_of ss) k n n ≡ false)
          → comes_to (dependencies_of ss) k n n ≡ false
      at None e h later = was.acyclic n (or_none (is_among n before) h) k
      at (Some s) e h later =
          let found = found_some (is_ready before) rest s e in
          let here = left s found.0 in
          later s (one_more before s was here.1 here.0 found.1)
          (λ t i. let kept = kept_stands (λ r. not (bytes_eq r.id s.id)) rest t i in let old = left t kept.0 in (old.0, ap (λ b. b || is_among t.id before) (not_true (bytes_eq t.id s.id) kept.1) ∙ old.1))
          (sym (or_swap (is_among n before) (bytes_eq n s.id) (is_among n (ids (placed m (s.id ∷ before) (filter (λ r. not (bytes_eq r.id s.id)) rest))))) ∙ h)

  pub placed_acyclic : (n : List ℕ) → is_among n (ids (in_order ss)) ≡ true → comes_back ss n ≡ false
  placed_acyclic n h = none_cyclic (length ss) [] ss at_first (λ t i. (i, refl)) n h (length ss)
