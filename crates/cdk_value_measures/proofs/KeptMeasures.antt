-- With what is kept of lazies each marked value has the measure of its plain form.
use Rattle.std.proofs.Common.{◌≡◌, ◌<◌, ◌≤◌, ℕ, zero, suc, ◌+◌, List, [], ◌∷◌, ◌++◌, length, replicate, Bool, true, false, true≢false, inl, inr, Some, refl, sym, ap, ◌∙◌, subst, append_assoc, append-nil, length-append, length-set, get_or, arith, if◌then◌else◌}
use Rattle.std.specs.Prelude.{nat_eq, slice_get, slice_set}
use Rattle.std.proofs.lemmas.Bool.{cases_eq, eq-eqb, ne_eqb}
use Rattle.std.proofs.lemmas.List.{get_or-set_other, get_or-set_same, length-replicate}
use Rattle.serde_json.specs.Data.{Data}
use Rattle.cdk_expansion.proofs.BoundLazies.{lazies_suffice}
use Rattle.cdk_expansion.proofs.MentionForms.{same_plain}
use Rattle.cdk_expansion.specs.Expanded as expanded
use Rattle.cdk_expansion.specs.Expanded.{opened, plain_of, value_plain}
use Rattle.cdk_expansion.specs.Mentions.{lazy_value}
use Rattle.cdk_plain.specs.Plain.{Plain, text}
use Rattle.cdk_value_measures.proofs.Expanded.{same_measure}
use Rattle.cdk_value_measures.proofs.LazyNumbers.{each_is_listed, lazies-length, lazies_in, lazy_within, none_reaches_itself}
use Rattle.cdk_value_measures.proofs.Places.{get-at}
use Rattle.cdk_value_measures.specs.Expanding.{kept_at}
use Rattle.cdk_value_measures.specs.Keeping.{kept_after, kept_in, measured, Serves}
use Rattle.cdk_measure.specs.Wholes.{leaf}
use Rattle.cdk_value_measures.specs.Measures.{measure}
use Rattle.cdk_value_measures.specs.Ordered.{SuitsLazies}
use Rattle.cdk_value_measures.specs.Constructs.{lazy_count, path_in}
use Rattle.cdk_measure.specs.declared.measure.Measure.{Measure}
use Rattle.cdk_tokens.specs.Token.{Token}
use Rattle.cdk_tokens.specs.Whole.{MarkedBody}
use Rattle.cdk_tree.specs.Placed.{Placed}

-- the plain forms with that of the lazy n changed
abbrev changed : (ℕ → Plain) → ℕ → Plain → ℕ → Plain
changed lazies n p m = if nat_eq m n then p else lazies m

changed_same : (b : Bool) (p q : Plain) → b ≡ true → (if b then p else q) ≡ p
changed_same true p q e = refl
changed_same false p q e = absurd (true≢false (sym e))

changed_other : (b : Bool) (p q : Plain) → b ≡ false → (if b then p else q) ≡ q
changed_other true p q e = absurd (true≢false e)
changed_other false p q e = refl

-- Once the lazies before the place p are measured, `lazies` tells the plain form that each measure is of: of those lazies their own,
-- however often lazies are opened beyond their place.
record Told (cs : List Placed) (ts : List Token) (ms : List MarkedBody) (order : List ℕ) (p : ℕ) (kept : List Measure) (lazies : ℕ → Plain) : Type 0 where
  long : length kept ≡ length cs
  same : (n : ℕ) → kept_at kept n ≡ measure (path_in cs) (lazies n)
  own : (q m k : ℕ) → q < p → slice_get order q ≡ Some m → q < k → lazies m ≡ opened k ts ms m

-- all are measured
record AllTold (cs : List Placed) (ts : List Token) (ms : List MarkedBody) (order : List ℕ) (kept : List Measure) : Type 0 where
  lazies : ℕ → Plain
  told : Told cs ts ms order (length order) kept lazies

kept-replicate : (k n : ℕ) (m : Measure) → get_or (replicate k m) n m ≡ m
kept-replicate zero n m = refl
kept-replicate (suc k) zero m = refl
kept-replicate (suc k) (suc n) m = kept-replicate k n m

-- a place of another lazy up to p is before p
earlier : (order : List ℕ) (q p l n : ℕ) → q < suc p → slice_get order q ≡ Some l → slice_get order p ≡ Some n → (l ≡ n → ⊥) → q < p
earlier order q p l n low there at other = elim (cases_eq q p) [
  | inl e ↦ let also : slice_get order q ≡ slice_get order p = ap (slice_get order) e in absurd (other cc)
  | inr apart ↦ omega (arith, low, apart)
]

module _ (cs : List Placed) (ts : List Token) (ms : List MarkedBody) (order : List ℕ) (suits : SuitsLazies cs ts ms order) where
  told_first : Told cs ts ms order 0 (replicate (length cs) (leaf 0)) (λ n. text [])
  told_first = record {
    long = length-replicate (length cs) (leaf 0);
    same = λ n. kept-replicate (length cs) n (leaf 0);
    own = λ q m k low at more. absurd (omega (arith, low));
  }

  -- the value of a lazy of the order mentions only lazies before it
  opens : (p : ℕ) (kept : List Measure) (lazies : ℕ → Plain) → Told cs ts ms order p kept lazies → (q m k : ℕ) → q ≤ p → slice_get order q ≡ Some m → q < k
      → value_plain (expanded.known_in lazies ts) (lazy_value ms m) ≡ opened k ts ms m
  opens p kept lazies t q m zero low at more = absurd (omega (arith, more))
  opens p kept lazies t q m (suc k) low at more =
      same_plain ts lazies (opened k ts ms) (lazy_value ms m)
      (λ j mentioned. let s = suits.behind q m j at mentioned in t.own s.place j k (omega (arith, low, s.before)) s.there (omega (arith, more, s.before)))

  told_more : (p n : ℕ) (kept : List Measure) (lazies : ℕ → Plain) → slice_get order p ≡ Some n → Told cs ts ms order p kept lazies
      → Told cs ts ms order (suc p) (slice_set kept n (measured cs ts kept (lazy_value ms n))) (changed lazies n (value_plain (expanded.known_in lazies ts) (lazy_value ms n)))
  told_more p n kept lazies at t =
      let plain : Plain = value_plain (expanded.known_in lazies ts) (lazy_value ms n) in
      let m : Measure = measured cs ts kept (lazy_value ms n) in
      let is : m ≡ measure (path_in cs) plain = same_measure (path_in cs) lazies (kept_at kept) t.same ts (lazy_value ms n) in
      let within = lazy_within cs n (suits.lazies p n at) in
      record {
        long = length-set kept n m ∙ t.long;
        same = λ l. elim (cases_eq l n) [
          | inl e ↦
              ap (λ j. get_or (slice_set kept n m) j (leaf 0)) e
              ∙ (get_or-set_same kept n m (leaf 0) (omega (arith, within, t.long))
              ∙ (is ∙ ap (measure (path_in cs)) (sym (changed_same (nat_eq l n) plain (lazies l) (eq-eqb l n e)))))
          | inr other ↦
              get_or-set_other kept n l m (leaf 0) other
              ∙ (t.same l ∙ ap (measure (path_in cs)) (sym (changed_other (nat_eq l n) plain (lazies l) (ne_eqb l n other))))
        ];
        own = λ q l k low there more. elim (cases_eq l n) [
          | inl e ↦
              changed_same (nat_eq l n) plain (lazies l) (eq-eqb l n e)
              ∙ (ap (λ j. value_plain (expanded.known_in lazies ts) (lazy_value ms j)) (sym e) ∙ opens p kept lazies t q l k (omega (arith, low)) there more)
          | inr other ↦
              changed_other (nat_eq l n) plain (lazies l) (ne_eqb l n other)
              ∙ t.own q l k (earlier order q p l n low there at other) there more
        ];
      }

  told_rest : (before rest : List ℕ) (kept : List Measure) (lazies : ℕ → Plain) → order ≡ before ++ rest → Told cs ts ms order (length before) kept lazies
      → AllTold cs ts ms order (kept_after cs ts ms kept rest)
  told_rest before [] kept lazies e t =
      let P : ℕ → Type 0 = λ p. Told cs ts ms order p kept lazies in
      record { lazies = lazies; told = subst P (ap length (sym (e ∙ append-nil before))) t }
  told_rest before (n ∷ rest) kept lazies e t =
      let at : slice_get order (length before) ≡ Some n = ap (λ ns. slice_get ns (length before)) e ∙ get-at before rest n (length before) refl in
      let next : suc (length before) ≡ length (before ++ n ∷ []) = omega (arith, length-append before (n ∷ [])) in
      let plain : Plain = value_plain (expanded.known_in lazies ts) (lazy_value ms n) in
      let more : List Measure = slice_set kept n (measured cs ts kept (lazy_value ms n)) in
      let P : ℕ → Type 0 = λ p. Told cs ts ms order p more (changed lazies n plain) in
      told_rest (before ++ n ∷ []) rest more (changed lazies n plain) (e ∙ sym (append_assoc before (n ∷ []) rest)) (subst P next (told_more (length before) n kept lazies at t))

  all_told : AllTold cs ts ms order (kept_in cs ts ms order)
  all_told = told_rest [] order (replicate (length cs) (leaf 0)) (λ n. text []) refl told_first

  -- often enough, however lazies are counted
  enough : (d : Data) → plain_of (length order + lazy_count cs) ts ms d ≡ plain_of (lazy_count cs) ts ms d
  enough d =
      let long = lazies-length cs in
      lazies_suffice ts ms (lazies_in cs) (each_is_listed cs ts ms order suits) (none_reaches_itself cs ts ms order suits) d (length order + lazy_count cs) (lazy_count cs) (omega (arith, long)) (omega (arith, long))

  told_serves : (kept : List Measure) (lazies : ℕ → Plain) → Told cs ts ms order (length order) kept lazies → Serves cs ts ms kept
  told_serves kept lazies t = record {
    each = λ d.
        same_measure (path_in cs) lazies (kept_at kept) t.same ts d
        ∙ ap (measure (path_in cs))
        (same_plain ts lazies (opened (length order + lazy_count cs) ts ms) d
        (λ m mentioned. let s = suits.all d m mentioned in t.own s.place m (length order + lazy_count cs) s.before s.there (omega (arith, s.before)))
        ∙ enough d);
  }

  pub kept_serves : Serves cs ts ms (kept_in cs ts ms order)
  kept_serves = told_serves (kept_in cs ts ms order) all_told.lazies all_told.told
