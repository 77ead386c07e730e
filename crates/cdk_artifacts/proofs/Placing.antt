-- The stacks that are placed one after another, by counts and a queue, are those of `in_order`.
use Rattle.std.proofs.Common.{◌≡◌, ℕ, zero, suc, ◌+◌, ◌<◌, ◌≤◌, List, [], ◌∷◌, ◌++◌, length, map, filter, find, cond, Bool, true, false, not, Some, None, refl, sym, ap, ap₂, subst, ◌∙◌, inl, inr, arith, append-nil, append_assoc}
use Rattle.std.specs.Prelude.{◌⊎◌, ◌&&◌, ◌||◌, bytes_eq, nat_eq, nat_lt}
use Rattle.std.specs.List.{list_all, slice_get}
use Rattle.std.proofs.Math.Path.{fun_ext}
use Rattle.std.proofs.lemmas.Bool.{ne_eqb, eqb-true}
use Rattle.std.proofs.lemmas.Bool.Decides.{nat_tests}
use Rattle.cdk_eval.specs.Manifest.{StackArtifact, is_ready, first_then, placed, in_order, ids, AreApart}
use Rattle.cdk_eval.specs.Reach.{is_among}
use Rattle.cdk_eval.proofs.Reach.{bytes_same, same_bytes}
use Rattle.cdk_artifacts.specs.declared.dependents.Dependents.{Dependents}
use Rattle.cdk_artifacts.specs.declared.queue.Queue.{Queue}
use Rattle.cdk_artifacts.specs.declared.stacks.Stack.{Stack}
use Rattle.cdk_artifacts.specs.Found.{stack_view}
use Rattle.cdk_artifacts.specs.Files.{file_of}
use Rattle.cdk_artifacts.specs.Queued.{plus_if, times, occurrences, missing, value_at, numbers_at, waits, is_queued, Pops, Releases, IsQueued, AreDependents}
use Rattle.cdk_artifacts.proofs.Counting.{value_none, is_same}

-- ---- the stack of a number

abbrev pub IsAt : List StackArtifact → ℕ → StackArtifact → Type 0
IsAt [] k s = ⊥
IsAt (t ∷ ts) zero s = t ≡ s
IsAt (t ∷ ts) (suc k) s = IsAt ts k s

value_is : {X : Type 0} (z : X) (f : StackArtifact → X) (ss : List StackArtifact) (k : ℕ) (s : StackArtifact) → IsAt ss k s → value_at z f ss k ≡ f s
value_is z f [] k s i = absurd i
value_is z f (t ∷ ts) zero s i = ap f i
value_is z f (t ∷ ts) (suc k) s i = value_is z f ts k s i

stack_or_end : (ss : List StackArtifact) (k : ℕ) → ((s : StackArtifact) × IsAt ss k s) ⊎ (length ss ≤ k)
stack_or_end [] k = inr (omega arith)
stack_or_end (t ∷ ts) zero = inl (t, refl)
stack_or_end (t ∷ ts) (suc k) = at (stack_or_end ts k)
  where
    at : ((s : StackArtifact) × IsAt ts k s) ⊎ (length ts ≤ k) → ((s : StackArtifact) × IsAt (t ∷ ts) (suc k) s) ⊎ (suc (length ts) ≤ suc k)
    at (inl r) = inl (r.0, r.1)
    at (inr h) = inr (omega (arith, h))

pub got_at : (stacks : List Stack) (i : ℕ) (s : Stack) → slice_get stacks i ≡ Some s → IsAt (map stack_view stacks) i (stack_view s)
got_at [] i s e = cc
got_at (t ∷ stacks) zero s e = let same : t ≡ s = cc in ap stack_view same
got_at (t ∷ stacks) (suc i) s e = got_at stacks i s e

one_stack : (ss : List StackArtifact) (k : ℕ) (s t : StackArtifact) → IsAt ss k s → IsAt ss k t → s ≡ t
one_stack [] k s t i j = absurd i
one_stack (r ∷ rs) zero s t i j = sym i ∙ j
one_stack (r ∷ rs) (suc k) s t i j = one_stack rs k s t i j

or_true : (a b : Bool) → b ≡ true → (a || b) ≡ true
or_true true b h = refl
or_true false b h = h

among_at : (ss : List StackArtifact) (k : ℕ) (s : StackArtifact) → IsAt ss k s → is_among s.id (ids ss) ≡ true
among_at [] k s i = absurd i
among_at (t ∷ ts) zero s i = ap (λ x. bytes_eq s.id x.id || is_among s.id (ids ts)) i ∙ ap (λ b. b || is_among s.id (ids ts)) (same_bytes s.id)
among_at (t ∷ ts) (suc k) s i = or_true (bytes_eq s.id t.id) (is_among s.id (ids ts)) (among_at ts k s i)

one_place : (ss : List StackArtifact) → AreApart ss → (i k : ℕ) (s t : StackArtifact) → IsAt ss i s → IsAt ss k t → bytes_eq t.id s.id ≡ true → i ≡ k
one_place [] apart i k s t p q e = absurd p
one_place (r ∷ rs) apart zero zero s t p q e = refl
one_place (r ∷ rs) apart zero (suc k) s t p q e =
    let same : r.id ≡ t.id = ap (λ x. x.id) p ∙ sym (bytes_same t.id s.id e) in
    let none : is_among t.id (ids rs) ≡ false = sym (ap (λ n. is_among n (ids rs)) same) ∙ apart.0 in
    let some = among_at rs k t q in
    absurd (cc)
one_place (r ∷ rs) apart (suc i) zero s t p q e =
    let same : r.id ≡ s.id = ap (λ x. x.id) q ∙ bytes_same t.id s.id e in
    let none : is_among s.id (ids rs) ≡ false = sym (ap (λ n. is_among n (ids rs)) same) ∙ apart.0 in
    let some = among_at rs i s p in
    absurd (cc)
one_place (r ∷ rs) apart (suc i) (suc k) s t p q e = ap suc (one_place rs apart.1 i k s t p q e)

-- ---- what is found

find_filter : (q p : StackArtifact → Bool) (ss : List StackArtifact) → find p (filter q ss) ≡ find (λ s. q s && p s) ss
find_filter q p [] = refl
find_filter q p (s ∷ ss) = at (q s) (find_filter q p ss)
  where
    at : (b : Bool) → find p (filter q ss) ≡ find (λ s. q s && p s) ss → find p (cond b (s ∷ filter q ss) (filter q ss)) ≡ cond (b && p s) (Some s) (find (λ s. q s && p s) ss)
    at true h = ap (cond (p s) (Some s)) h
    at false h = h

filter_filter : (q p : StackArtifact → Bool) (ss : List StackArtifact) → filter p (filter q ss) ≡ filter (λ s. q s && p s) ss
filter_filter q p [] = refl
filter_filter q p (s ∷ ss) = at (q s) (filter_filter q p ss)
  where
    at : (b : Bool) → filter p (filter q ss) ≡ filter (λ s. q s && p s) ss → filter p (cond b (s ∷ filter q ss) (filter q ss)) ≡ cond (b && p s) (s ∷ filter (λ s. q s && p s) ss) (filter (λ s. q s && p s) ss)
    at true h = ap (λ r. cond (p s) (s ∷ r) r) h
    at false h = h

first_found : (p : StackArtifact → Bool) (ss : List StackArtifact) (i : ℕ) (s : StackArtifact) → IsAt ss i s → p s ≡ true → ((j : ℕ) → j < i → value_at false p ss j ≡ false) → find p ss ≡ Some s
first_found p [] i s at h before = absurd at
first_found p (t ∷ ts) zero s at h before = ap (λ x. cond (p x) (Some x) (find p ts)) at ∙ ap (λ b. cond b (Some s) (find p ts)) h
first_found p (t ∷ ts) (suc i) s at h before = ap (λ b. cond b (Some t) (find p ts)) (before 0 (omega arith)) ∙ first_found p ts i s at h (λ j l. before (suc j) (omega (arith, l)))

none_found : (p : StackArtifact → Bool) (ss : List StackArtifact) → ((j : ℕ) → value_at false p ss j ≡ false) → find p ss ≡ None
none_found p [] h = refl
none_found p (t ∷ ts) h = ap (λ b. cond b (Some t) (find p ts)) (h 0) ∙ none_found p ts (λ j. h (suc j))

-- ---- what is left

abbrev pub left : List (List ℕ) → List StackArtifact → List StackArtifact
left before ss = filter (λ r. not (is_among r.id before)) ss

abbrev is_next : List (List ℕ) → StackArtifact → Bool
is_next before s = not (is_among s.id before) && nat_eq (missing before s.dependencies) 0

all_stand : (before ds : List (List ℕ)) → list_all (λ d. is_among d before) ds ≡ nat_eq (missing before ds) 0
all_stand before [] = refl
all_stand before (d ∷ ds) = at (is_among d before) (all_stand before ds)
  where
    at : (b : Bool) → list_all (λ d. is_among d before) ds ≡ nat_eq (missing before ds) 0 → (b && list_all (λ d. is_among d before) ds) ≡ nat_eq (plus_if (not b) (missing before ds)) 0
    at true h = h
    at false h = sym (ne_eqb (suc (missing before ds)) 0 (λ e. omega (arith, e)))

next_is : (before : List (List ℕ)) (ss : List StackArtifact) → find (is_ready before) (left before ss) ≡ find (is_next before) ss
next_is before ss =
    let same : (λ (s : StackArtifact). not (is_among s.id before) && is_ready before s) ≡ is_next before = fun_ext (λ s. ap (λ b. not (is_among s.id before) && b) (all_stand before s.dependencies)) in
    find_filter (λ r. not (is_among r.id before)) (is_ready before) ss ∙ ap (λ p. find p ss) same

neither : (a b : Bool) → (not a && not b) ≡ not (b || a)
neither true true = refl
neither true false = refl
neither false true = refl
neither false false = refl

left_after : (s : StackArtifact) (before : List (List ℕ)) (ss : List StackArtifact) → filter (λ r. not (bytes_eq r.id s.id)) (left before ss) ≡ left (s.id ∷ before) ss
left_after s before ss =
    let same : (λ (r : StackArtifact). not (is_among r.id before) && not (bytes_eq r.id s.id)) ≡ (λ (r : StackArtifact). not (is_among r.id (s.id ∷ before))) = fun_ext (λ r. neither (is_among r.id before) (bytes_eq r.id s.id)) in
    filter_filter (λ r. not (is_among r.id before)) (λ r. not (bytes_eq r.id s.id)) ss ∙ ap (λ p. filter p ss) same

left_first : (ss : List StackArtifact) → left [] ss ≡ ss
left_first [] = refl
left_first (s ∷ ss) = ap (λ r. s ∷ r) (left_first ss)

-- ---- one more is placed

missing_split : (n : List ℕ) (before ds : List (List ℕ)) → is_among n before ≡ false → missing (n ∷ before) ds + times n ds ≡ missing before ds
missing_split n before [] h = refl
missing_split n before (d ∷ ds) h = at (bytes_eq d n) refl (is_among d before) refl (missing_split n before ds h)
  where
    at : (a : Bool) → bytes_eq d n ≡ a → (b : Bool) → is_among d before ≡ b → missing (n ∷ before) ds + times n ds ≡ missing before ds
        → plus_if (not (a || b)) (missing (n ∷ before) ds) + plus_if a (times n ds) ≡ plus_if (not b) (missing before ds)
    at true e true f r = let same : is_among d before ≡ is_among n before = ap (λ x. is_among x before) (bytes_same d n e) in absurd (cc)
    at true e false f r = omega (arith, r)
    at false e true f r = r
    at false e false f r = omega (arith, r)

pub split_at : (n : List ℕ) (before : List (List ℕ)) (ss : List StackArtifact) (k : ℕ) → is_among n before ≡ false
    → value_at 0 (λ t. missing (n ∷ before) t.dependencies) ss k + value_at 0 (λ t. times n t.dependencies) ss k ≡ value_at 0 (λ t. missing before t.dependencies) ss k
split_at n before [] k h = refl
split_at n before (s ∷ ss) zero h = missing_split n before s.dependencies h
split_at n before (s ∷ ss) (suc k) h = split_at n before ss k h

and_parts : (a b : Bool) → (a && b) ≡ true → (a ≡ true) × (b ≡ true)
and_parts true b h = (refl, h)
and_parts false b h = cc

not_true : (a : Bool) → not a ≡ true → a ≡ false
not_true true h = cc
not_true false h = refl

-- the test whether a stack waits for nothing any more, by the test before
freed : (m c : ℕ) → (nat_eq (m + c) 0 && true) || (nat_lt 0 c && nat_eq (m + c) c) ≡ nat_eq m 0
freed m c = grind (arith, nat_tests)

next_at : (u : Bool) (w m c : ℕ) → w ≡ m + c → (u ≡ true → w ≡ 0) → ((not u && nat_eq w 0) && true) || (nat_lt 0 c && nat_eq w c) ≡ not u && nat_eq m 0
next_at true w m c e placed =
    let none : c ≡ 0 = let z = placed refl in omega (arith, e, z) in
    ap (λ x. nat_lt 0 x && nat_eq w x) none
next_at false w m c e placed = ap (λ x. (nat_eq x 0 && true) || (nat_lt 0 c && nat_eq x c)) e ∙ freed m c

and_false : (b : Bool) → (b && false) ≡ false
and_false true = refl
and_false false = refl

pub or_swap : (a b c : Bool) → (a || (b || c)) ≡ ((b || a) || c)
or_swap true true c = refl
or_swap true false c = refl
or_swap false true c = refl
or_swap false false c = refl

bytes_flip : (a b : List ℕ) → bytes_eq a b ≡ bytes_eq b a
bytes_flip a b = at (bytes_eq a b) refl (bytes_eq b a) refl
  where
    at : (x : Bool) → bytes_eq a b ≡ x → (y : Bool) → bytes_eq b a ≡ y → x ≡ y
    at true e true f = refl
    at true e false f = let same : bytes_eq b a ≡ true = ap (bytes_eq b) (bytes_same a b e) ∙ same_bytes b in cc
    at false e true f = let same : bytes_eq a b ≡ true = ap (bytes_eq a) (bytes_same b a f) ∙ same_bytes a in cc
    at false e false f = refl

-- ---- the state between two turns

pub record Places (ss : List StackArtifact) (turn : ℕ) (files : List (List ℕ × List ℕ)) (has : List ℕ → Bool) (q : Queue) : Type 0 where
  pub before : List (List ℕ)
  pub turns : ℕ
  pub turns_left : turns + turn ≡ length ss
  pub queued : IsQueued before ss q
  pub settled : (k : ℕ) (t : StackArtifact) → IsAt ss k t → is_among t.id before ≡ true → missing before t.dependencies ≡ 0
  pub has_is : (n : List ℕ) → has n ≡ is_among n before
  pub files_are : map file_of (in_order ss) ≡ files ++ map file_of (placed turns before (left before ss))
  pub ids_are : (n : List ℕ) → is_among n (ids (in_order ss)) ≡ is_among n before || is_among n (ids (placed turns before (left before ss)))

pub begins : (ss : List StackArtifact) (files : List (List ℕ × List ℕ)) (has : List ℕ → Bool) (q : Queue) → files ≡ [] → ((n : List ℕ) → has n ≡ false) → IsQueued [] ss q → Places ss 0 files has q
begins ss files has q none no_name queued = record {
  before = [];
  turns = length ss;
  turns_left = omega arith;
  queued = queued;
  settled = λ k t i h. cc;
  has_is = no_name;
  files_are = sym (ap (λ xs. xs ++ map file_of (placed (length ss) [] (left [] ss))) none ∙ ap (λ r. map file_of (placed (length ss) [] r)) (left_first ss));
  ids_are = λ n. sym (ap (λ r. is_among n (ids (placed (length ss) [] r))) (left_first ss));
}

or_false : (b : Bool) → (b || false) ≡ b
or_false true = refl
or_false false = refl

-- nothing more is placed
closed : (ss : List StackArtifact) (turn : ℕ) (files : List (List ℕ × List ℕ)) (has : List ℕ → Bool) (q : Queue) (p : Places ss turn files has q) → placed p.turns p.before (left p.before ss) ≡ []
    → (files ≡ map file_of (in_order ss)) × ((n : List ℕ) → has n ≡ is_among n (ids (in_order ss)))
closed ss turn files has q p none = (
  sym (p.files_are ∙ ap (λ r. files ++ map file_of r) none ∙ append-nil files),
  λ n. p.has_is n ∙ sym (p.ids_are n ∙ ap (λ r. is_among n p.before || is_among n (ids r)) none ∙ or_false (is_among n p.before)),
)

pub ends : (ss : List StackArtifact) (turn : ℕ) (files : List (List ℕ × List ℕ)) (has : List ℕ → Bool) (q : Queue) → Places ss turn files has q → length ss ≤ turn
    → (files ≡ map file_of (in_order ss)) × ((n : List ℕ) → has n ≡ is_among n (ids (in_order ss)))
ends ss turn files has q p h = closed ss turn files has q p (at p.turns (omega (arith, p.turns_left, h)))
  where
    at : (m : ℕ) → m ≡ 0 → placed m p.before (left p.before ss) ≡ []
    at zero e = refl
    at (suc m) e = absurd (omega (arith, e))

pub stops : (ss : List StackArtifact) (turn : ℕ) (files : List (List ℕ × List ℕ)) (has : List ℕ → Bool) (q : Queue) → Places ss turn files has q → ((k : ℕ) → is_queued q k ≡ false)
    → (files ≡ map file_of (in_order ss)) × ((n : List ℕ) → has n ≡ is_among n (ids (in_order ss)))
stops ss turn files has q p none = closed ss turn files has q p (at p.turns)
  where
    not_found : find (is_ready p.before) (left p.before ss) ≡ None
    not_found = next_is p.before ss ∙ none_found (is_next p.before) ss (λ j. sym (p.queued.ready j) ∙ none j)

    at : (m : ℕ) → placed m p.before (left p.before ss) ≡ []
    at zero = refl
    at (suc m) = ap (λ o. first_then o (λ s. placed m (s.id ∷ p.before) (filter (λ r. not (bytes_eq r.id s.id)) (left p.before ss)))) not_found

pub number_within : (ss : List StackArtifact) (before : List (List ℕ)) (q : Queue) (i : ℕ) → IsQueued before ss q → is_queued q i ≡ true → i < length ss
number_within ss before q i queued h = at (stack_or_end ss i)
  where
    within : (xs : List StackArtifact) (k : ℕ) (s : StackArtifact) → IsAt xs k s → k < length xs
    within [] k s i = absurd i
    within (x ∷ xs) zero s i = omega arith
    within (x ∷ xs) (suc k) s i = let l = within xs k s i in omega (arith, l)

    at : ((s : StackArtifact) × IsAt ss i s) ⊎ (length ss ≤ i) → i < length ss
    at (inl r) = within ss i r.0 r.1
    at (inr l) = let none = queued.ready i ∙ value_none false (is_next before) ss i l in absurd (cc)

-- the next stack is placed
module _ (ss : List StackArtifact) (apart : AreApart ss) (turn : ℕ) (files : List (List ℕ × List ℕ)) (has : List ℕ → Bool) (q p : Queue) (d : Dependents) (s : StackArtifact) (i : ℕ)
    (state : Places ss turn files has q) (at_i : IsAt ss i s) (popped : Pops (Some i) q p) (dependents : AreDependents ss d) where
  is_next_here : is_next state.before s ≡ true
  is_next_here = sym (value_is false (is_next state.before) ss i s at_i) ∙ sym (state.queued.ready i) ∙ popped.0

  new : is_among s.id state.before ≡ false
  new = not_true (is_among s.id state.before) (and_parts (not (is_among s.id state.before)) (nat_eq (missing state.before s.dependencies) 0) is_next_here).0

  none_missing : missing state.before s.dependencies ≡ 0
  none_missing = eqb-true (missing state.before s.dependencies) 0 (and_parts (not (is_among s.id state.before)) (nat_eq (missing state.before s.dependencies) 0) is_next_here).1

  found : find (is_ready state.before) (left state.before ss) ≡ Some s
  found = next_is state.before ss ∙ first_found (is_next state.before) ss i s at_i is_next_here (λ j l. sym (state.queued.ready j) ∙ popped.1 j l)

  differs : (k : ℕ) (t : StackArtifact) → IsAt ss k t → (i ≡ k → ⊥) → bytes_eq t.id s.id ≡ false
  differs k t at_k other = by (bytes_eq t.id s.id) refl
    where
      by : (b : Bool) → bytes_eq t.id s.id ≡ b → bytes_eq t.id s.id ≡ false
      by true e = absurd (other (one_place ss apart i k s t at_i at_k e))
      by false e = e

  pub enough : (k : ℕ) → occurrences k (numbers_at d s.id) ≤ waits p k
  enough k =
      let a = dependents s.id k in
      let b = popped.3 k ∙ state.queued.waiting k in
      let c = split_at s.id state.before ss k new in
      omega (arith, a, b, c)

  pub steps : (r : Queue) (files' : List (List ℕ × List ℕ)) (has' : List ℕ → Bool) → turn < length ss → Releases (numbers_at d s.id) p r → files' ≡ files ++ file_of s ∷ [] → ((n : List ℕ) → has' n ≡ bytes_eq s.id n || has n)
      → Places ss (turn + 1) files' has' r
  steps r files' has' more released filed named = at state.turns state.turns_left state.files_are state.ids_are
    where
      waiting : (k : ℕ) → waits r k ≡ value_at 0 (λ t. missing (s.id ∷ state.before) t.dependencies) ss k
      waiting k =
          let a = dependents s.id k in
          let b = popped.3 k ∙ state.queued.waiting k in
          let c = split_at s.id state.before ss k new in
          let e = released.counted k in
          omega (arith, a, b, c, e)

      -- of the test, at a stack
      ready_here : (k : ℕ) (t : StackArtifact) → IsAt ss k t → (is_queued q k && not (nat_eq i k)) || (nat_lt 0 (occurrences k (numbers_at d s.id)) && nat_eq (waits p k) (occurrences k (numbers_at d s.id))) ≡ is_next (s.id ∷ state.before) t
      ready_here k t at_k =
          let w = missing state.before t.dependencies in
          let m = missing (s.id ∷ state.before) t.dependencies in
          let c = times s.id t.dependencies in
          let was : is_queued q k ≡ is_next state.before t = state.queued.ready k ∙ value_is false (is_next state.before) ss k t at_k in
          let occurs : occurrences k (numbers_at d s.id) ≡ c = dependents s.id k ∙ value_is 0 (λ t. times s.id t.dependencies) ss k t at_k in
          let waited : waits p k ≡ w = popped.3 k ∙ state.queued.waiting k ∙ value_is 0 (λ t. missing state.before t.dependencies) ss k t at_k in
          let split : m + c ≡ w = missing_split s.id state.before t.dependencies new in
          ap₂ (λ b o. (b && not (nat_eq i k)) || (nat_lt 0 o && nat_eq (waits p k) o)) was occurs ∙ ap (λ x. (is_next state.before t && not (nat_eq i k)) || (nat_lt 0 c && nat_eq x c)) waited
          ∙ by (is_same i k) w m c refl split refl
        where
          by : ((nat_eq i k ≡ true) × (i ≡ k)) ⊎ ((nat_eq i k ≡ false) × (i ≡ k → ⊥)) → (w m c : ℕ) → w ≡ missing state.before t.dependencies → m + c ≡ w → m ≡ missing (s.id ∷ state.before) t.dependencies
              → (is_next state.before t && not (nat_eq i k)) || (nat_lt 0 c && nat_eq w c) ≡ is_next (s.id ∷ state.before) t
          by (inl e) w m c is_w split is_m =
              let same : t ≡ s = sym (one_stack ss i s t at_i (subst (λ (j : ℕ). IsAt ss j t) (sym e.1) at_k)) in
              let no_more : w ≡ 0 = is_w ∙ ap (λ x. missing state.before x.dependencies) same ∙ none_missing in
              let none : c ≡ 0 = omega (arith, split, no_more) in
              let itself : bytes_eq t.id s.id ≡ true = ap (λ x. bytes_eq x.id s.id) same ∙ same_bytes s.id in
              ap₂ (λ b o. (is_next state.before t && not b) || (nat_lt 0 o && nat_eq w o)) e.0 none ∙ ap (λ b. b || false) (and_false (is_next state.before t))
              ∙ sym (ap (λ b. not (b || is_among t.id state.before) && nat_eq (missing (s.id ∷ state.before) t.dependencies) 0) itself)
          by (inr e) w m c is_w split is_m =
              let u = is_among t.id state.before in
              ap₂ (λ b x. ((not u && nat_eq x 0) && not b) || (nat_lt 0 c && nat_eq w c)) e.0 (sym is_w)
              ∙ next_at u w m c (sym split) (λ h. is_w ∙ state.settled k t at_k h)
              ∙ ap (λ x. not u && nat_eq x 0) is_m
              ∙ sym (ap (λ b. not (b || u) && nat_eq (missing (s.id ∷ state.before) t.dependencies) 0) (differs k t at_k e.1))

      ready : (k : ℕ) → is_queued r k ≡ value_at false (is_next (s.id ∷ state.before)) ss k
      ready k = released.queued k ∙ ap (λ b. b || (nat_lt 0 (occurrences k (numbers_at d s.id)) && nat_eq (waits p k) (occurrences k (numbers_at d s.id)))) (popped.2 k) ∙ at_k (stack_or_end ss k)
        where
          at_k : ((t : StackArtifact) × IsAt ss k t) ⊎ (length ss ≤ k)
              → (is_queued q k && not (nat_eq i k)) || (nat_lt 0 (occurrences k (numbers_at d s.id)) && nat_eq (waits p k) (occurrences k (numbers_at d s.id))) ≡ value_at false (is_next (s.id ∷ state.before)) ss k
          at_k (inl t) = ready_here k t.0 t.1 ∙ sym (value_is false (is_next (s.id ∷ state.before)) ss k t.0 t.1)
          at_k (inr l) =
              ap₂ (λ b o. (b && not (nat_eq i k)) || (nat_lt 0 o && nat_eq (waits p k) o)) (state.queued.ready k ∙ value_none false (is_next state.before) ss k l) (dependents s.id k ∙ value_none 0 (λ t. times s.id t.dependencies) ss k l)
              ∙ sym (value_none false (is_next (s.id ∷ state.before)) ss k l)

      settled : (k : ℕ) (t : StackArtifact) → IsAt ss k t → is_among t.id (s.id ∷ state.before) ≡ true → missing (s.id ∷ state.before) t.dependencies ≡ 0
      settled k t at_k h = by (bytes_eq t.id s.id) refl h
        where
          split : missing (s.id ∷ state.before) t.dependencies + times s.id t.dependencies ≡ missing state.before t.dependencies
          split = missing_split s.id state.before t.dependencies new

          by : (b : Bool) → bytes_eq t.id s.id ≡ b → (b || is_among t.id state.before) ≡ true → missing (s.id ∷ state.before) t.dependencies ≡ 0
          by true e h =
              let same : t ≡ s = sym (one_stack ss i s t at_i (subst (λ (j : ℕ). IsAt ss j t) (sym (one_place ss apart i k s t at_i at_k e)) at_k)) in
              let none : missing state.before t.dependencies ≡ 0 = ap (λ x. missing state.before x.dependencies) same ∙ none_missing in
              omega (arith, split, none)
          by false e h = let none = state.settled k t at_k h in omega (arith, split, none)

      opened : (m : ℕ) → placed (suc m) state.before (left state.before ss) ≡ s ∷ placed m (s.id ∷ state.before) (left (s.id ∷ state.before) ss)
      opened m = ap (λ o. first_then o (λ x. placed m (x.id ∷ state.before) (filter (λ r. not (bytes_eq r.id x.id)) (left state.before ss)))) found ∙ ap (λ r. s ∷ placed m (s.id ∷ state.before) r) (left_after s state.before ss)

      at : (m : ℕ) → m + turn ≡ length ss → map file_of (in_order ss) ≡ files ++ map file_of (placed m state.before (left state.before ss))
          → ((n : List ℕ) → is_among n (ids (in_order ss)) ≡ is_among n state.before || is_among n (ids (placed m state.before (left state.before ss)))) → Places ss (turn + 1) files' has' r
      at zero e fs is = absurd (omega (arith, e, more))
      at (suc m) e fs is =
          let rest = placed m (s.id ∷ state.before) (left (s.id ∷ state.before) ss) in
          record {
            before = s.id ∷ state.before;
            turns = m;
            turns_left = omega (arith, e);
            queued = record { waiting = waiting; ready = ready };
            settled = settled;
            has_is = λ n. named n ∙ ap₂ (λ a b. a || b) (bytes_flip s.id n) (state.has_is n);
            files_are = fs ∙ ap (λ x. files ++ map file_of x) (opened m) ∙ sym (append_assoc files (file_of s ∷ []) (map file_of rest)) ∙ ap (λ x. x ++ map file_of rest) (sym filed);
            ids_are = λ n. is n ∙ ap (λ x. is_among n state.before || is_among n (ids x)) (opened m) ∙ or_swap (is_among n state.before) (bytes_eq n s.id) (is_among n (ids rest));
          }
