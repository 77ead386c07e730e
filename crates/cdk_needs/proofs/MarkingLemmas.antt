-- What is met, look by look: each look at a need keeps what holds of a marking, and at the end the marking is the least solution.
use Rattle.std.proofs.Common.{◌≡◌, ◌≢◌, ◌<◌, ◌≤◌, ℕ, zero, suc, ◌+◌, ◌-◌, List, [], ◌∷◌, ◌++◌, length, get_or, Bool, true, false, true≢false, Option, Some, None, cond, refl, sym, ap, subst, ◌∙◌, inl, inr, zero-add, arith}
use Rattle.std.specs.Prelude.{◌⊎◌, Contains, replicate, nat_lt, MatchBool}
use Rattle.std.specs.List.{list_all}
use Rattle.std.proofs.lemmas.Bool.{and_from, and_parts, cases_eq, cases_lt, ltb-true, ltb-false}
use Rattle.std.proofs.lemmas.List.{length-append, length-map, length-set, get_or-map, get_or-set_same, get_or-set_other, get_or_append_left, get_or-replicate, length-replicate, get_or_past, ext_get_or}
use Rattle.std.proofs.lemmas.List.Elements.{Contains-append_left, Contains-push, Contains-push_cases}
use Rattle.std.proofs.lemmas.List.Sums.{sum_by-set, sum_by-cons}
use Rattle.std.proofs.Math.Seq.{get_or-append_seam}
use Rattle.std.proofs.Math.ListN.{set}
use Rattle.cdk_needs.specs.Needs.{Needs, is_met, met_after, count_met, steps_left, AreWithin, Advances, IsAttended, IsCounted, IsFirstUnmet, IsMarked, IsMarking, IsMarkingOf, IsNew, Settles, Waits}
use Rattle.cdk_needs.specs.declared.marking.Marking.{Marking}

same_test : (a b : Bool) → (a ≡ true → b ≡ true) → (b ≡ true → a ≡ true) → a ≡ b
same_test true b there back = sym (there refl)
same_test false true there back = back refl
same_test false false there back = refl

-- ---- one more look

list_all-more : {X : Type 0} (p q : X → Bool) → ((x : X) → p x ≡ true → q x ≡ true) → (xs : List X) → list_all p xs ≡ true → list_all q xs ≡ true
list_all-more p q h [] all = refl
list_all-more p q h (x ∷ xs) all = let both = and_parts (p x) (list_all p xs) all in and_from (q x) (list_all q xs) (h x both.0) (list_all-more p q h xs both.1)

list_all-from : (p : ℕ → Bool) (xs : List ℕ) → ((k : ℕ) → k < length xs → p (get_or xs k 0) ≡ true) → list_all p xs ≡ true
list_all-from p [] h = refl
list_all-from p (x ∷ xs) h = and_from (p x) (list_all p xs) (h 0 (omega arith)) (list_all-from p xs (λ k less. h (suc k) (omega arith)))

list_all-at : (p : ℕ → Bool) (xs : List ℕ) (k : ℕ) → k < length xs → list_all p xs ≡ true → p (get_or xs k 0) ≡ true
list_all-at p [] k h all = absurd (omega arith)
list_all-at p (x ∷ xs) zero h all = (and_parts (p x) (list_all p xs) all).0
list_all-at p (x ∷ xs) (suc k) h all = list_all-at p xs k (omega arith) (and_parts (p x) (list_all p xs) all).1

is_met-more : (ms qs : List Bool) (o : Option (List ℕ)) → ((l : ℕ) → get_or ms l false ≡ true → get_or qs l false ≡ true) → is_met ms o ≡ true → is_met qs o ≡ true
is_met-more ms qs None h met = met
is_met-more ms qs (Some ls) h met = list_all-more (λ l. get_or ms l false) (λ l. get_or qs l false) h ls met

pub length-met_after : (k : ℕ) (ns : Needs) → length (met_after k ns) ≡ length ns
length-met_after zero ns = let none : Option (List ℕ) → Bool = λ n. false in length-map ns none
length-met_after (suc k) ns = length-map ns (is_met (met_after k ns))

met_after-at : (k : ℕ) (ns : Needs) (n : ℕ) → n < length ns → get_or (met_after (suc k) ns) n false ≡ is_met (met_after k ns) (get_or ns n None)
met_after-at k ns n h = get_or-map (is_met (met_after k ns)) ns n None false h

nothing_met : (ns : Needs) (l : ℕ) → get_or (met_after 0 ns) l false ≡ false
nothing_met [] zero = refl
nothing_met [] (suc l) = refl
nothing_met (n ∷ ns) zero = refl
nothing_met (n ∷ ns) (suc l) = nothing_met ns l

more_step : (k : ℕ) (ns : Needs) (l : ℕ) → ((x : ℕ) → get_or (met_after k ns) x false ≡ true → get_or (met_after (suc k) ns) x false ≡ true) → (l < length ns) ⊎ (length ns ≤ l)
    → get_or (met_after (suc k) ns) l false ≡ true → get_or (met_after (suc (suc k)) ns) l false ≡ true
more_step k ns l before (inl less) h = met_after-at (suc k) ns l less ∙ is_met-more (met_after k ns) (met_after (suc k) ns) (get_or ns l None) before (sym (met_after-at k ns l less) ∙ h)
more_step k ns l before (inr past) h = absurd (true≢false (sym h ∙ get_or_past (met_after (suc k) ns) l false (omega (arith, length-met_after (suc k) ns))))

more : (k : ℕ) (ns : Needs) (l : ℕ) → get_or (met_after k ns) l false ≡ true → get_or (met_after (suc k) ns) l false ≡ true
more zero ns l h = absurd (true≢false (sym h ∙ nothing_met ns l))
more (suc k) ns l h = more_step k ns l (more k ns) (cases_lt l (length ns)) h

more_by : (j k : ℕ) (ns : Needs) (l : ℕ) → get_or (met_after k ns) l false ≡ true → get_or (met_after (j + k) ns) l false ≡ true
more_by zero k ns l h = ap (λ n. get_or (met_after n ns) l false) (zero-add k) ∙ h
more_by (suc j) k ns l h = let same : suc j + k ≡ suc (j + k) = omega arith in ap (λ n. get_or (met_after n ns) l false) same ∙ more (j + k) ns l (more_by j k ns l h)

more_to : (k m : ℕ) (ns : Needs) (l : ℕ) → k ≤ m → get_or (met_after k ns) l false ≡ true → get_or (met_after m ns) l false ≡ true
more_to k m ns l le h = let same : m ≡ (m - k) + k = omega arith in ap (λ n. get_or (met_after n ns) l false) same ∙ more_by (m - k) k ns l h

-- ---- counting

count_met-set : (ms : List Bool) (u : ℕ) → u < length ms → get_or ms u false ≡ false → count_met (set ms u true) ≡ count_met ms + 1
count_met-set ms u within unmet = let f : Bool → ℕ = λ b. cond b 1 0 in omega (arith, sum_by-set f ms u true false within, ap f unmet)

count-bit : (b : Bool) (n m : ℕ) → n ≤ m → cond b 1 0 + n ≤ suc m
count-bit true n m h = omega arith
count-bit false n m h = omega arith

pub count_met-le : (ms : List Bool) → count_met ms ≤ length ms
count_met-le [] = omega arith
count_met-le (b ∷ ms) = let f : Bool → ℕ = λ x. cond x 1 0 in omega (arith, sum_by-cons f b ms, count-bit b (count_met ms) (length ms) (count_met-le ms))

-- ---- a step

set_met : (ms : List Bool) (u l : ℕ) → get_or ms l false ≡ true → get_or (set ms u true) l false ≡ true
set_met [] zero l h = h
set_met [] (suc u) l h = h
set_met (b ∷ ms) zero zero h = refl
set_met (b ∷ ms) zero (suc l) h = h
set_met (b ∷ ms) (suc u) zero h = h
set_met (b ∷ ms) (suc u) (suc l) h = set_met ms u l h

in_head : (u v : ℕ) (batch : List ℕ) → Contains (u ∷ batch) v → (u ≡ v) ⊎ Contains batch v
in_head u v batch h = by h.0 h.1 h.2
  where
    by : (k : ℕ) → k < length (u ∷ batch) → get_or (u ∷ batch) k v ≡ v → (u ≡ v) ⊎ Contains batch v
    by zero less is = inl is
    by (suc k) less is = inr (k, omega arith, is)

nothing_in : (v : ℕ) → Contains [] v → ⊥
nothing_in v h = let less : h.0 < 0 = h.1 in omega arith

same_needs : (a b : List ℕ) → Some a ≡ Some b → a ≡ b
same_needs a b h = cc

-- the next of a batch is attended to
narrow : (ns : Needs) (from u : ℕ) (batch p : List ℕ) (m : List Bool) (w : List (List ℕ)) (r : List ℕ) → IsMarkingOf ns from (u ∷ batch) p m w r
    → ((ls : List ℕ) → get_or ns u None ≡ Some ls → IsAttended from batch ls u (get_or p u 0) m w r) → IsMarkingOf ns from batch p m w r
narrow ns from u batch p m w r is own = record {
  passed_count = is.passed_count;
  met_count = is.met_count;
  waiting_count = is.waiting_count;
  ready_within = is.ready_within;
  sound = is.sound;
  front = is.front;
  attended = λ v ls within needs. by v ls needs (is.attended v ls within needs);
}
  where
    here : (v : ℕ) (ls : List ℕ) → get_or ns v None ≡ Some ls → u ≡ v → IsAttended from batch ls v (get_or p v 0) m w r
    here v ls needs same = subst (λ x. IsAttended from batch ls x (get_or p x 0) m w r) same (own ls (ap (λ x. get_or ns x None) same ∙ needs))

    by : (v : ℕ) (ls : List ℕ) → get_or ns v None ≡ Some ls → IsAttended from (u ∷ batch) ls v (get_or p v 0) m w r → IsAttended from batch ls v (get_or p v 0) m w r
    by v ls needs (inl past) = inl past
    by v ls needs (inr (inr rest)) = inr (inr rest)
    by v ls needs (inr (inl member)) = split (in_head u v batch member)
      where
        split : (u ≡ v) ⊎ Contains batch v → IsAttended from batch ls v (get_or p v 0) m w r
        split (inl same) = here v ls needs same
        split (inr later) = inr (inl later)

module _ (ns : Needs) (from u : ℕ) (batch p : List ℕ) (m : List Bool) (w : List (List ℕ)) (r : List ℕ) (is : IsMarkingOf ns from (u ∷ batch) p m w r)
    (ls : List ℕ) (within : u < length ns) (needs : get_or ns u None ≡ Some ls) (at : ℕ) (unmet : IsFirstUnmet ls m (get_or p u 0) at) where
  abbrev passed : List ℕ
  passed = set p u at

  passed_here : get_or passed u 0 ≡ at
  passed_here = get_or-set_same p u at 0 (omega (arith, is.passed_count))

  -- what is passed is met
  front-here : (k : ℕ) → k < at → k < length ls → get_or m (get_or ls k 0) false ≡ true
  front-here k less inside = by (cases_lt k (get_or p u 0))
    where
      by : (k < get_or p u 0) ⊎ (get_or p u 0 ≤ k) → get_or m (get_or ls k 0) false ≡ true
      by (inl old) = is.front u ls k within needs old inside
      by (inr new) = unmet.before k new less

  front-next : (v : ℕ) (qs : List ℕ) (k : ℕ) → v < length ns → get_or ns v None ≡ Some qs → k < get_or passed v 0 → k < length qs → get_or m (get_or qs k 0) false ≡ true
  front-next v qs k inside there less short = by (cases_eq v u)
    where
      by : (v ≡ u) ⊎ (v ≡ u → ⊥) → get_or m (get_or qs k 0) false ≡ true
      by (inl same) =
          let one : qs ≡ ls = same_needs qs ls (sym there ∙ ap (λ x. get_or ns x None) same ∙ needs) in
          let up : get_or passed v 0 ≡ at = ap (λ x. get_or passed x 0) same ∙ passed_here in
          ap (λ l. get_or m (get_or l k 0) false) one ∙ front-here k (omega (arith, up)) (omega (arith, ap length one))
      by (inr other) = is.front v qs k inside there (omega (arith, get_or-set_other p u v at 0 other)) short

  -- another one is attended to as before
  abbrev Before : ℕ → List ℕ → Type 0
  Before v qs = IsAttended from batch qs v (get_or p v 0) m w r

  left_over : (v : ℕ) (qs : List ℕ) → (v ≡ u → ⊥) → v < length ns → get_or ns v None ≡ Some qs → Before v qs
  left_over v qs other inside there = by (is.attended v qs inside there)
    where
      split : (u ≡ v) ⊎ Contains batch v → Before v qs
      split (inl same) = absurd (other (sym same))
      split (inr later) = inr (inl later)

      by : IsAttended from (u ∷ batch) qs v (get_or p v 0) m w r → Before v qs
      by (inl past) = inl past
      by (inr (inl member)) = split (in_head u v batch member)
      by (inr (inr rest)) = inr (inr rest)

  -- ---- it waits for the one at `at`

  module _ (short : at < length ls) (inner : get_or ls at 0 < length ns) where
    abbrev leaf : ℕ
    leaf = get_or ls at 0

    abbrev longer : List (List ℕ)
    longer = set w leaf (get_or w leaf [] ++ u ∷ [])

    longer_here : get_or longer leaf [] ≡ get_or w leaf [] ++ u ∷ []
    longer_here = get_or-set_same w leaf (get_or w leaf [] ++ u ∷ []) [] (omega (arith, is.waiting_count))

    still : (l v : ℕ) → Contains (get_or w l []) v → Contains (get_or longer l []) v
    still l v h = by (cases_eq l leaf)
      where
        by : (l ≡ leaf) ⊎ (l ≡ leaf → ⊥) → Contains (get_or longer l []) v
        by (inl same) =
            subst (λ x. Contains (get_or longer x []) v) (sym same)
            (subst (λ xs. Contains xs v) (sym longer_here) (Contains-append_left (get_or w leaf []) (u ∷ []) v (subst (λ x. Contains (get_or w x []) v) same h)))
        by (inr other) = subst (λ xs. Contains xs v) (sym (get_or-set_other w leaf l (get_or w leaf [] ++ u ∷ []) [] other)) h

    parked_here : IsAttended from batch ls u at m longer r
    parked_here = inr (inr (inr (record {
      short = short;
      waits = subst (λ xs. Contains xs u) (sym longer_here) (Contains-push (get_or w leaf []) u);
      left = inl (unmet.here short);
    })))

    attended-wait : (v : ℕ) (qs : List ℕ) → v < length ns → get_or ns v None ≡ Some qs → IsAttended from batch qs v (get_or passed v 0) m longer r
    attended-wait v qs inside there = by (cases_eq v u)
      where
        rest : Before v qs → IsAttended from batch qs v (get_or p v 0) m longer r
        rest (inl past) = inl past
        rest (inr (inl member)) = inr (inl member)
        rest (inr (inr (inl met))) = inr (inr (inl met))
        rest (inr (inr (inr parked))) = inr (inr (inr (record { short = parked.short; waits = still (get_or qs (get_or p v 0) 0) v parked.waits; left = parked.left })))

        by : (v ≡ u) ⊎ (v ≡ u → ⊥) → IsAttended from batch qs v (get_or passed v 0) m longer r
        by (inl same) =
            let one : ls ≡ qs = same_needs ls qs (sym needs ∙ ap (λ x. get_or ns x None) (sym same) ∙ there) in
            subst (λ x. IsAttended from batch qs x (get_or passed x 0) m longer r) (sym same)
            (subst (λ l. IsAttended from batch l u (get_or passed u 0) m longer r) one
            (subst (λ k. IsAttended from batch ls u k m longer r) (sym passed_here) parked_here))
        by (inr other) = subst (λ k. IsAttended from batch qs v k m longer r) (sym (get_or-set_other p u v at 0 other)) (rest (left_over v qs other inside there))

    pub marking-wait : IsMarkingOf ns from batch passed m longer r
    marking-wait = record {
      passed_count = omega (arith, length-set p u at, is.passed_count);
      met_count = is.met_count;
      waiting_count = omega (arith, length-set w leaf (get_or w leaf [] ++ u ∷ []), is.waiting_count);
      ready_within = is.ready_within;
      sound = is.sound;
      front = front-next;
      attended = attended-wait;
    }

  -- ---- it is met

  module _ (all : length ls ≤ at) (fresh : get_or m u false ≡ false) where
    abbrev marks : List Bool
    marks = set m u true

    inside_marks : u < length m
    inside_marks = omega (arith, is.met_count)

    marks_here : get_or marks u false ≡ true
    marks_here = get_or-set_same m u true false inside_marks

    count : count_met marks ≡ suc (count_met m)
    count = omega (arith, count_met-set m u inside_marks fresh)

    sound-here : get_or (met_after (suc (count_met m)) ns) u false ≡ true
    sound-here =
        let every : list_all (λ l. get_or (met_after (count_met m) ns) l false) ls ≡ true =
        list_all-from (λ l. get_or (met_after (count_met m) ns) l false) ls
        (λ k inside. met_sound (get_or ls k 0) (front-here k (omega arith) inside)) in
        met_after-at (count_met m) ns u within ∙ ap (is_met (met_after (count_met m) ns)) needs ∙ every
      where
        met_sound : (l : ℕ) → get_or m l false ≡ true → get_or (met_after (count_met m) ns) l false ≡ true
        met_sound l h = by (cases_lt l (length ns))
          where
            by : (l < length ns) ⊎ (length ns ≤ l) → get_or (met_after (count_met m) ns) l false ≡ true
            by (inl less) = is.sound l less h
            by (inr past) = absurd (true≢false (sym h ∙ get_or_past m l false (omega (arith, is.met_count))))

    sound-mark : (n : ℕ) → n < length ns → get_or marks n false ≡ true → get_or (met_after (count_met marks) ns) n false ≡ true
    sound-mark n inside h = ap (λ k. get_or (met_after k ns) n false) count ∙ by (cases_eq n u)
      where
        by : (n ≡ u) ⊎ (n ≡ u → ⊥) → get_or (met_after (suc (count_met m)) ns) n false ≡ true
        by (inl same) = ap (λ x. get_or (met_after (suc (count_met m)) ns) x false) same ∙ sound-here
        by (inr other) = more (count_met m) ns n (is.sound n inside (sym (get_or-set_other m u n true false other) ∙ h))

    attended-mark : (v : ℕ) (qs : List ℕ) → v < length ns → get_or ns v None ≡ Some qs → IsAttended from batch qs v (get_or passed v 0) marks w (r ++ u ∷ [])
    attended-mark v qs inside there = by (cases_eq v u)
      where
        still_left : (l : ℕ) → (get_or m l false ≡ false) ⊎ Contains r l → (get_or marks l false ≡ false) ⊎ Contains (r ++ u ∷ []) l
        still_left l (inr h) = inr (Contains-append_left r (u ∷ []) l h)
        still_left l (inl h) = which (cases_eq l u)
          where
            which : (l ≡ u) ⊎ (l ≡ u → ⊥) → (get_or marks l false ≡ false) ⊎ Contains (r ++ u ∷ []) l
            which (inl same) = inr (subst (Contains (r ++ u ∷ [])) (sym same) (Contains-push r u))
            which (inr other) = inl (get_or-set_other m u l true false other ∙ h)

        rest : Before v qs → IsAttended from batch qs v (get_or p v 0) marks w (r ++ u ∷ [])
        rest (inl past) = inl past
        rest (inr (inl member)) = inr (inl member)
        rest (inr (inr (inl met))) = inr (inr (inl (set_met m u v met)))
        rest (inr (inr (inr parked))) = inr (inr (inr (record { short = parked.short; waits = parked.waits; left = still_left (get_or qs (get_or p v 0) 0) parked.left })))

        by : (v ≡ u) ⊎ (v ≡ u → ⊥) → IsAttended from batch qs v (get_or passed v 0) marks w (r ++ u ∷ [])
        by (inl same) = inr (inr (inl (ap (λ x. get_or marks x false) same ∙ marks_here)))
        by (inr other) = subst (λ k. IsAttended from batch qs v k marks w (r ++ u ∷ [])) (sym (get_or-set_other p u v at 0 other)) (rest (left_over v qs other inside there))

    ready_within-mark : (k : ℕ) → k < length (r ++ u ∷ []) → get_or (r ++ u ∷ []) k 0 < length ns
    ready_within-mark k less = by (cases_lt k (length r))
      where
        by : (k < length r) ⊎ (length r ≤ k) → get_or (r ++ u ∷ []) k 0 < length ns
        by (inl old) = let h = is.ready_within k old in omega (arith, h, get_or_append_left r (u ∷ []) 0 k old)
        by (inr last) =
            let here : k ≡ length r = omega (arith, length-append r (u ∷ [])) in
            let itself : get_or (r ++ u ∷ []) k 0 ≡ u = ap (λ x. get_or (r ++ u ∷ []) x 0) here ∙ get_or-append_seam r u [] 0 in
            omega (arith, itself)

    pub marking-mark : IsMarkingOf ns from batch passed marks w (r ++ u ∷ [])
    marking-mark = record {
      passed_count = omega (arith, length-set p u at, is.passed_count);
      met_count = omega (arith, length-set m u true, is.met_count);
      waiting_count = is.waiting_count;
      ready_within = ready_within-mark;
      sound = sound-mark;
      front = λ v qs k inside there less short. set_met m u (get_or qs k 0) (front-next v qs k inside there less short);
      attended = attended-mark;
    }

    pub steps-mark : length ns - count_met marks + length (r ++ u ∷ []) ≤ length ns - count_met m + length r
    steps-mark = omega (arith, count, count_met-le marks, length-set m u true, is.met_count, length-append r (u ∷ []))

-- ---- a look by the code

pub record Looked (ns : Needs) (from : ℕ) (batch : List ℕ) (old new : Marking) : Type 0 where
  pub marking : IsMarking ns from batch new
  pub steps : steps_left ns new ≤ steps_left ns old

-- a marking is told by its lists
remade : (ns : Needs) (from : ℕ) (batch : List ℕ) (new : Marking) (p : List ℕ) (m : List Bool) (w : List (List ℕ)) (r : List ℕ)
    → new.passed.items ≡ p → new.met.items ≡ m → new.waiting.items ≡ w → new.ready.items ≡ r → IsMarkingOf ns from batch p m w r → IsMarking ns from batch new
remade ns from batch new p m w r ep em ew er is = rw (ep, em, ew, er) is

advanced : (ns : Needs) (from u : ℕ) (batch : List ℕ) (old new : Marking) (ls : List ℕ) → AreWithin ns → IsMarking ns from (u ∷ batch) old → u < length ns → get_or ns u None ≡ Some ls → get_or old.met.items u false ≡ false
    → (step : Advances ls old new u) → (b : Bool) → nat_lt step.at (length ls) ≡ b → MatchBool b (Waits old new u (get_or ls step.at 0)) (IsMarked old new u) → Looked ns from batch old new
advanced ns from u batch old new ls inner is within needs fresh step true short rest =
    let less : step.at < length ls = ltb-true step.at (length ls) short in
    let leaf = get_or ls step.at 0 in
    record {
      marking = remade ns from batch new (set old.passed.items u step.at) old.met.items (set old.waiting.items leaf (get_or old.waiting.items leaf [] ++ u ∷ [])) old.ready.items step.passed rest.met rest.waiting rest.ready
          (marking-wait ns from u batch old.passed.items old.met.items old.waiting.items old.ready.items is ls within needs step.at step.unmet less (inner u ls step.at needs less));
      steps = omega (arith, ap count_met rest.met, ap length rest.ready);
    }
advanced ns from u batch old new ls inner is within needs fresh step false long rest =
    let all : length ls ≤ step.at = ltb-false step.at (length ls) long in
    let steps = steps-mark ns from u batch old.passed.items old.met.items old.waiting.items old.ready.items is ls within needs step.at step.unmet all fresh in
    record {
      marking = remade ns from batch new (set old.passed.items u step.at) (set old.met.items u true) old.waiting.items (old.ready.items ++ u ∷ []) step.passed rest.met rest.waiting rest.ready
          (marking-mark ns from u batch old.passed.items old.met.items old.waiting.items old.ready.items is ls within needs step.at step.unmet all fresh);
      steps = omega (arith, steps, ap count_met rest.met, ap length rest.ready);
    }

unchanged : (ns : Needs) (from : ℕ) (batch : List ℕ) (old new : Marking) → new ≡ old → IsMarking ns from batch old → Looked ns from batch old new
unchanged ns from batch old new same is = subst (λ x. Looked ns from batch old x) (sym same) (record { marking = is; steps = omega arith })

looked_met : (ns : Needs) (from u : ℕ) (batch : List ℕ) (old new : Marking) (ls : List ℕ) → AreWithin ns → IsMarking ns from (u ∷ batch) old → u < length ns → get_or ns u None ≡ Some ls
    → (b : Bool) → get_or old.met.items u false ≡ b → MatchBool b (new ≡ old) (Advances ls old new u) → Looked ns from batch old new
looked_met ns from u batch old new ls inner is within needs true met same =
    unchanged ns from batch old new same (narrow ns from u batch old.passed.items old.met.items old.waiting.items old.ready.items is (λ qs there. inr (inr (inl met))))
looked_met ns from u batch old new ls inner is within needs false fresh step =
    advanced ns from u batch old new ls inner is within needs fresh step (nat_lt step.at (length ls)) refl step.rest

looked_at : (ns : Needs) (from u : ℕ) (batch : List ℕ) (old new : Marking) → AreWithin ns → IsMarking ns from (u ∷ batch) old → (o : Option (List ℕ)) → get_or ns u None ≡ o → Settles o old new u → Looked ns from batch old new
looked_at ns from u batch old new inner is None needs same =
    unchanged ns from batch old new same (narrow ns from u batch old.passed.items old.met.items old.waiting.items old.ready.items is (λ qs there. absurd (nothing_needed qs (sym needs ∙ there))))
  where
    nothing_needed : (qs : List ℕ) → None ≡ Some qs → ⊥
    nothing_needed qs h = cc
looked_at ns from u batch old new inner is (Some ls) needs settled = by (cases_lt u (length ns))
  where
    by : (u < length ns) ⊎ (length ns ≤ u) → Looked ns from batch old new
    by (inl within) = looked_met ns from u batch old new ls inner is within needs (get_or old.met.items u false) refl settled
    by (inr past) = absurd (nothing_needed (sym (get_or_past ns u None past) ∙ needs))
      where
        nothing_needed : None ≡ Some ls → ⊥
        nothing_needed h = cc

pub looked : (ns : Needs) (from u : ℕ) (batch : List ℕ) (old new : Marking) → AreWithin ns → IsMarking ns from (u ∷ batch) old → Settles (get_or ns u None) old new u → Looked ns from batch old new
looked ns from u batch old new inner is settled = looked_at ns from u batch old new inner is (get_or ns u None) refl settled

pub counted : (ns : Needs) (from : ℕ) (batch : List ℕ) (m : Marking) → IsMarking ns from batch m → IsCounted ns m
counted ns from batch m is = record { passed = is.passed_count; met = is.met_count; waiting = is.waiting_count }

-- ---- the first one of those that aren't looked at yet

pub widen : (ns : Needs) (u : ℕ) (m : Marking) → IsMarking ns u [] m → IsMarking ns (u + 1) (u ∷ []) m
widen ns u m is = record {
  passed_count = is.passed_count;
  met_count = is.met_count;
  waiting_count = is.waiting_count;
  ready_within = is.ready_within;
  sound = is.sound;
  front = is.front;
  attended = λ v ls within needs. by v ls (is.attended v ls within needs);
}
  where
    first : (v : ℕ) (ls : List ℕ) → u ≤ v → (v ≡ u) ⊎ (v ≡ u → ⊥) → IsAttended (u + 1) (u ∷ []) ls v (get_or m.passed.items v 0) m.met.items m.waiting.items m.ready.items
    first v ls past (inl same) = inr (inl (subst (Contains (u ∷ [])) (sym same) (0, omega arith, refl)))
    first v ls past (inr other) = inl (omega (arith, not_equal v u other))
      where
        not_equal : (a b : ℕ) → (a ≡ b → ⊥) → a ≢ b
        not_equal a b h = h

    by : (v : ℕ) (ls : List ℕ) → IsAttended u [] ls v (get_or m.passed.items v 0) m.met.items m.waiting.items m.ready.items → IsAttended (u + 1) (u ∷ []) ls v (get_or m.passed.items v 0) m.met.items m.waiting.items m.ready.items
    by v ls (inl past) = first v ls past (cases_eq v u)
    by v ls (inr (inl member)) = absurd (nothing_in v member)
    by v ls (inr (inr rest)) = inr (inr rest)

-- ---- one that is met is told to those that wait

module _ (ns : Needs) (p : List ℕ) (m : List Bool) (w : List (List ℕ)) (r : List ℕ) (f : ℕ) (is : IsMarkingOf ns (length ns) [] p m w (r ++ f ∷ [])) where
  pub found_within : f < length ns
  found_within = omega (arith, is.ready_within (length r) (omega (arith, length-append r (f ∷ []))), get_or-append_seam r f [] 0)

  abbrev told : List (List ℕ)
  told = set w f []

  attended-told : (v : ℕ) (ls : List ℕ) → IsAttended (length ns) [] ls v (get_or p v 0) m w (r ++ f ∷ []) → IsAttended (length ns) (get_or w f []) ls v (get_or p v 0) m told r
  attended-told v ls (inl past) = inl past
  attended-told v ls (inr (inl member)) = absurd (nothing_in v member)
  attended-told v ls (inr (inr (inl met))) = inr (inr (inl met))
  attended-told v ls (inr (inr (inr parked))) = by (cases_eq leaf f)
    where
      leaf : ℕ
      leaf = get_or ls (get_or p v 0) 0

      by : (get_or ls (get_or p v 0) 0 ≡ f) ⊎ (get_or ls (get_or p v 0) 0 ≡ f → ⊥) → IsAttended (length ns) (get_or w f []) ls v (get_or p v 0) m told r
      by (inl same) = inr (inl (subst (λ x. Contains (get_or w x []) v) same parked.waits))
      by (inr other) = inr (inr (inr (record {
        short = parked.short;
        waits = subst (λ xs. Contains xs v) (sym (get_or-set_other w f (get_or ls (get_or p v 0) 0) [] [] other)) parked.waits;
        left = still (get_or ls (get_or p v 0) 0) other parked.left;
      })))
        where
          which : (l : ℕ) → (l ≡ f → ⊥) → Contains r l ⊎ (f ≡ l) → (get_or m l false ≡ false) ⊎ Contains r l
          which l other (inl h) = inr h
          which l other (inr same) = absurd (other (sym same))

          still : (l : ℕ) → (l ≡ f → ⊥) → (get_or m l false ≡ false) ⊎ Contains (r ++ f ∷ []) l → (get_or m l false ≡ false) ⊎ Contains r l
          still l other (inl h) = inl h
          still l other (inr h) = which l other (Contains-push_cases r f l h)

  pub marking-told : IsMarkingOf ns (length ns) (get_or w f []) p m told r
  marking-told = record {
    passed_count = is.passed_count;
    met_count = is.met_count;
    waiting_count = omega (arith, length-set w f (let none : List ℕ = [] in none), is.waiting_count);
    ready_within = λ k less. let h = is.ready_within k (omega (arith, length-append r (f ∷ []))) in omega (arith, h, get_or_append_left r (f ∷ []) 0 k less);
    sound = is.sound;
    front = is.front;
    attended = λ v ls within needs. attended-told v ls (is.attended v ls within needs);
  }

-- ---- the beginning and the end

new_of : (ns : Needs) (w : List (List ℕ)) → length w ≡ length ns → IsMarkingOf ns 0 [] (replicate (length ns) 0) (replicate (length ns) false) w []
new_of ns w waits = record {
  passed_count = length-replicate (length ns) 0;
  met_count = length-replicate (length ns) false;
  waiting_count = waits;
  ready_within = λ k less. absurd (omega arith);
  sound = λ n within h. absurd (true≢false (sym h ∙ get_or-replicate (length ns) n false false within));
  front = λ u ls k within needs less short. absurd (let nothing : ℕ = 0 in omega (arith, get_or-replicate (length ns) u nothing 0 within));
  attended = λ u ls within needs. inl (omega arith);
}

pub new_marking : (ns : Needs) (m : Marking) → IsNew (length ns) m → IsMarking ns 0 [] m
new_marking ns m new = remade ns 0 [] m (replicate (length ns) 0) (replicate (length ns) false) m.waiting.items [] new.passed new.met refl new.ready (new_of ns m.waiting.items new.waiting_count)

module _ (ns : Needs) (inner : AreWithin ns) (p : List ℕ) (m : List Bool) (w : List (List ℕ)) (is : IsMarkingOf ns (length ns) [] p m w []) where
  met_or_open : (n : ℕ) (ls : List ℕ) (k : ℕ) → n < length ns → get_or ns n None ≡ Some ls → ((l : ℕ) → l < length ns → get_or (met_after k ns) l false ≡ true → get_or m l false ≡ true)
      → is_met (met_after k ns) (Some ls) ≡ true → IsAttended (length ns) [] ls n (get_or p n 0) m w [] → get_or m n false ≡ true
  met_or_open n ls k within needs below h (inl past) = absurd (omega arith)
  met_or_open n ls k within needs below h (inr (inl member)) = absurd (nothing_in n member)
  met_or_open n ls k within needs below h (inr (inr (inl met))) = met
  met_or_open n ls k within needs below h (inr (inr (inr parked))) = absurd (by parked.left)
    where
      met_leaf : get_or m (get_or ls (get_or p n 0) 0) false ≡ true
      met_leaf = below (get_or ls (get_or p n 0) 0) (inner n ls (get_or p n 0) needs parked.short) (list_all-at (λ l. get_or (met_after k ns) l false) ls (get_or p n 0) parked.short h)

      by : (get_or m (get_or ls (get_or p n 0) 0) false ≡ false) ⊎ Contains [] (get_or ls (get_or p n 0) 0) → ⊥
      by (inl unmet) = true≢false (sym met_leaf ∙ unmet)
      by (inr member) = nothing_in (get_or ls (get_or p n 0) 0) member

  met_if_needed : (n k : ℕ) → n < length ns → ((l : ℕ) → l < length ns → get_or (met_after k ns) l false ≡ true → get_or m l false ≡ true) → (o : Option (List ℕ)) → get_or ns n None ≡ o → is_met (met_after k ns) o ≡ true → get_or m n false ≡ true
  met_if_needed n k within below None needs h = absurd (true≢false (sym h))
  met_if_needed n k within below (Some ls) needs h = met_or_open n ls k within needs below h (is.attended n ls within needs)

  -- whatever is met at some look is marked
  complete : (k n : ℕ) → n < length ns → get_or (met_after k ns) n false ≡ true → get_or m n false ≡ true
  complete zero n within h = absurd (true≢false (sym h ∙ nothing_met ns n))
  complete (suc k) n within h = met_if_needed n k within (complete k) (get_or ns n None) refl (sym (met_after-at k ns n within) ∙ h)

  pub all_marked : m ≡ met_after (length ns) ns
  all_marked =
      ext_get_or false m (met_after (length ns) ns) (is.met_count ∙ sym (length-met_after (length ns) ns))
      (λ i inside.
      let within : i < length ns = omega (arith, is.met_count) in
      same_test (get_or m i false) (get_or (met_after (length ns) ns) i false)
      (λ h. more_to (count_met m) (length ns) ns i (omega (arith, count_met-le m, is.met_count)) (is.sound i within h))
      (complete (length ns) i within))
