-- The order of a manifest's stacks keeps their dependencies, and leaves none out.
use Rattle.std.proofs.Common.{◌≡◌, ℕ, zero, suc, ◌+◌, ◌≤◌, List, [], ◌∷◌, length, filter, find, cond, not, Bool, true, false, Option, Some, None, refl, sym, ap, subst, ◌∙◌, inl, inr, arith}
use Rattle.std.specs.Prelude.{◌⊎◌, ◌&&◌, ◌||◌, bytes_eq, codes, if◌then◌else◌, option_map}
use Rattle.std.specs.List.{list_all}
use Rattle.serde_json.specs.Data.{Data, Members, no_members, member}
use Rattle.cdk_eval.specs.Reach.{is_among, comes_to, IsIn}
use Rattle.cdk_eval.specs.Manifest.{StackArtifact, artifacts, is_type, stack_ids, stack_at, stack_artifacts, stacks_of, named_in, dependencies_of, comes_back, cyclic, is_ready, first_then, placed, in_order, ids, AreApart, CyclesAreFound, StandAfter, OrderKeepsDependencies, OrderIsWhole}
use Rattle.cdk_eval.proofs.Reach.{any_in, in_when_among, same_bytes, bytes_same, IsPath, path_returns}
use Rattle.cdk_eval.proofs.Unseen.{unseen, unseen_all, unseen_less}
use Rattle.cdk_eval.proofs.Found.{found_within}

among_when_in : (n : List ℕ) (xs : List (List ℕ)) → IsIn n xs → is_among n xs ≡ true
among_when_in n xs i = any_in (bytes_eq n) n xs i (same_bytes n)

-- ---- lists of stacks

abbrev Stands : StackArtifact → List StackArtifact → Type 0
Stands s [] = ⊥
Stands s (t ∷ ts) = (t ≡ s) ⊎ Stands s ts

id_in : (s : StackArtifact) (ss : List StackArtifact) → Stands s ss → IsIn s.id (ids ss)
id_in s [] i = absurd i
id_in s (t ∷ ts) (inl e) = inl (ap (λ x. x.id) e)
id_in s (t ∷ ts) (inr i) = inr (id_in s ts i)

record StackOf (id : List ℕ) (ss : List StackArtifact) : Type 0 where
  stack : StackArtifact
  there : Stands stack ss
  same : stack.id ≡ id

stack_of : (id : List ℕ) (ss : List StackArtifact) → IsIn id (ids ss) → StackOf id ss
stack_of id [] i = absurd i
stack_of id (t ∷ ts) (inl e) = record { stack = t; there = inl refl; same = e }
stack_of id (t ∷ ts) (inr i) = let r = stack_of id ts i in record { stack = r.stack; there = inr r.there; same = r.same }

dependencies_at : (s : StackArtifact) (ss : List StackArtifact) → AreApart ss → Stands s ss → dependencies_of ss s.id ≡ s.dependencies
dependencies_at s [] apart i = absurd i
dependencies_at s (t ∷ ts) apart (inl e) =
    ap (λ b. if b then t.dependencies else dependencies_of ts s.id) (ap (λ x. bytes_eq x.id s.id) e ∙ same_bytes s.id) ∙ ap (λ x. x.dependencies) e
dependencies_at s (t ∷ ts) apart (inr i) = at (bytes_eq t.id s.id) refl (dependencies_at s ts apart.1 i)
  where
    at : (b : Bool) → bytes_eq t.id s.id ≡ b → dependencies_of ts s.id ≡ s.dependencies → (if b then t.dependencies else dependencies_of ts s.id) ≡ s.dependencies
    at true e later = let there : is_among t.id (ids ts) ≡ true = ap (λ n. is_among n (ids ts)) (bytes_same t.id s.id e) ∙ among_when_in s.id (ids ts) (id_in s ts i) in cc
    at false e later = later

module _ (p : StackArtifact → Bool) where
  found_none : (ss : List StackArtifact) → find p ss ≡ None → (s : StackArtifact) → Stands s ss → p s ≡ false
  found_none [] h s i = absurd i
  found_none (t ∷ ts) h s i = at (p t) refl h i (λ h i. found_none ts h s i)
    where
      at : (b : Bool) → p t ≡ b → cond b (Some t) (find p ts) ≡ None → Stands s (t ∷ ts) → (find p ts ≡ None → Stands s ts → p s ≡ false) → p s ≡ false
      at true e h i later = cc
      at false e h (inl same) later = ap p (sym same) ∙ e
      at false e h (inr i) later = later h i

  found_some : (ss : List StackArtifact) (s : StackArtifact) → find p ss ≡ Some s → Stands s ss × (p s ≡ true)
  found_some [] s h = cc
  found_some (t ∷ ts) s h = at (p t) refl h (found_some ts s)
    where
      at : (b : Bool) → p t ≡ b → cond b (Some t) (find p ts) ≡ Some s → (find p ts ≡ Some s → Stands s ts × (p s ≡ true)) → Stands s (t ∷ ts) × (p s ≡ true)
      at true e h later = let same : t ≡ s = cc in (inl same, ap p (sym same) ∙ e)
      at false e h later = let r = later h in (inr r.0, r.1)

  kept_stands : (ss : List StackArtifact) (s : StackArtifact) → Stands s (filter p ss) → Stands s ss
  kept_stands [] s i = absurd i
  kept_stands (t ∷ ts) s i = at (p t) i (kept_stands ts s)
    where
      at : (b : Bool) → Stands s (cond b (t ∷ filter p ts) (filter p ts)) → (Stands s (filter p ts) → Stands s ts) → Stands s (t ∷ ts)
      at true (inl e) later = inl e
      at true (inr i) later = inr (later i)
      at false i later = inr (later i)

  stays : (ss : List StackArtifact) (s : StackArtifact) → Stands s ss → p s ≡ true → Stands s (filter p ss)
  stays [] s i h = absurd i
  stays (t ∷ ts) s (inl e) h = subst (λ b. Stands s (cond b (t ∷ filter p ts) (filter p ts))) (sym (ap p e ∙ h)) (inl e)
  stays (t ∷ ts) s (inr i) h = at (p t) (stays ts s i h)
    where
      at : (b : Bool) → Stands s (filter p ts) → Stands s (cond b (t ∷ filter p ts) (filter p ts))
      at true i = inr i
      at false i = i

  kept_most : (ss : List StackArtifact) → length (filter p ss) ≤ length ss
  kept_most [] = omega arith
  kept_most (t ∷ ts) = at (p t) (kept_most ts)
    where
      at : (b : Bool) → length (filter p ts) ≤ length ts → length (cond b (t ∷ filter p ts) (filter p ts)) ≤ suc (length ts)
      at true h = omega (arith, h)
      at false h = omega (arith, h)

  kept_fewer : (ss : List StackArtifact) (s : StackArtifact) → Stands s ss → p s ≡ false → suc (length (filter p ss)) ≤ length ss
  kept_fewer [] s i h = absurd i
  kept_fewer (t ∷ ts) s (inl e) h = subst (λ b. suc (length (cond b (t ∷ filter p ts) (filter p ts))) ≤ suc (length ts)) (sym (ap p e ∙ h)) (omega (arith, kept_most ts))
  kept_fewer (t ∷ ts) s (inr i) h = at (p t) (kept_fewer ts s i h)
    where
      at : (b : Bool) → suc (length (filter p ts)) ≤ length ts → suc (length (cond b (t ∷ filter p ts) (filter p ts))) ≤ suc (length ts)
      at true h = omega (arith, h)
      at false h = omega (arith, h)

not_all : (p : List ℕ → Bool) (xs : List (List ℕ)) → list_all p xs ≡ false → (x : List ℕ) × IsIn x xs × (p x ≡ false)
not_all p [] h = cc
not_all p (x ∷ xs) h = at (p x) refl h (not_all p xs)
  where
    at : (b : Bool) → p x ≡ b → (b && list_all p xs) ≡ false → (list_all p xs ≡ false → (y : List ℕ) × IsIn y xs × (p y ≡ false)) → (y : List ℕ) × IsIn y (x ∷ xs) × (p y ≡ false)
    at true e h later = let r = later h in (r.0, inr r.1, r.2)
    at false e h later = (x, inl refl, e)

-- ---- each stands after its dependencies

placed_after : (n : ℕ) (before : List (List ℕ)) (left : List StackArtifact) → StandAfter before (placed n before left)
placed_after zero before left = tt
placed_after (suc n) before left = at (find (is_ready before) left) refl (λ s. placed_after n (s.id ∷ before) (filter (λ r. not (bytes_eq r.id s.id)) left))
  where
    at : (o : Option StackArtifact) → find (is_ready before) left ≡ o → ((s : StackArtifact) → StandAfter (s.id ∷ before) (placed n (s.id ∷ before) (filter (λ r. not (bytes_eq r.id s.id)) left)))
        → StandAfter before (first_then o (λ s. placed n (s.id ∷ before) (filter (λ r. not (bytes_eq r.id s.id)) left)))
    at None h later = tt
    at (Some s) h later = ((found_some (is_ready before) left s h).1, later s)

pub order_keeps : OrderKeepsDependencies
order_keeps ss = placed_after (length ss) [] ss

-- ---- cycles

id_count : (ss : List StackArtifact) → length (ids ss) ≡ length ss
id_count [] = refl
id_count (s ∷ ss) = ap suc (id_count ss)

known_or_none : (ss : List StackArtifact) (id : List ℕ) → IsIn id (ids ss) ⊎ (dependencies_of ss id ≡ [])
known_or_none [] id = inr refl
known_or_none (s ∷ ss) id = at (bytes_eq s.id id) refl (known_or_none ss id)
  where
    at : (b : Bool) → bytes_eq s.id id ≡ b → IsIn id (ids ss) ⊎ (dependencies_of ss id ≡ []) → IsIn id (ids (s ∷ ss)) ⊎ ((if b then s.dependencies else dependencies_of ss id) ≡ [])
    at true e later = inl (inl (bytes_same s.id id e))
    at false e (inl i) = inl (inr i)
    at false e (inr h) = inr h

pub cycles_found : CyclesAreFound
cycles_found ss n id way = ap (λ k. comes_to (dependencies_of ss) k id id) (sym (id_count ss)) ∙ found_within (dependencies_of ss) id (ids ss) (known_or_none ss) n id way

-- ---- without a cycle, none is left out

passes : (p : List ℕ → Bool) (xs : List (List ℕ)) (x : List ℕ) → IsIn x (filter p xs) → p x ≡ true
passes p [] x i = absurd i
passes p (y ∷ ys) x i = at (p y) refl i (passes p ys x)
  where
    at : (b : Bool) → p y ≡ b → IsIn x (cond b (y ∷ filter p ys) (filter p ys)) → (IsIn x (filter p ys) → p x ≡ true) → p x ≡ true
    at true e (inl same) later = ap p (sym same) ∙ e
    at true e (inr i) later = later i
    at false e i later = later i

ids_are : (stacks : List (List ℕ)) (ms : Members) → ids (stack_artifacts stacks ms) ≡ stack_ids ms
ids_are stacks no_members = refl
ids_are stacks (member id a ms) = at (is_type (codes "aws:cloudformation:stack") a) (ids_are stacks ms)
  where
    at : (b : Bool) → ids (stack_artifacts stacks ms) ≡ stack_ids ms → ids (if b then stack_at stacks id a ∷ stack_artifacts stacks ms else stack_artifacts stacks ms) ≡ (if b then id ∷ stack_ids ms else stack_ids ms)
    at true h = ap (λ r. id ∷ r) h
    at false h = h

depends_on : (stacks : List (List ℕ)) (id : List ℕ) (a : Data) (s : StackArtifact) → stack_at stacks id a ≡ s → (d : List ℕ) → IsIn d s.dependencies → is_among d stacks ≡ true
depends_on stacks id a s e d i = passes (λ x. is_among x stacks) (named_in a) d (subst (λ x. IsIn d x.dependencies) (sym e) i)

depends_on_known : (stacks : List (List ℕ)) (ms : Members) (s : StackArtifact) → Stands s (stack_artifacts stacks ms) → (d : List ℕ) → IsIn d s.dependencies → is_among d stacks ≡ true
depends_on_known stacks no_members s i d j = absurd i
depends_on_known stacks (member id a ms) s i d j = at (is_type (codes "aws:cloudformation:stack") a) i (λ i. depends_on_known stacks ms s i d j)
  where
    at : (b : Bool) → Stands s (if b then stack_at stacks id a ∷ stack_artifacts stacks ms else stack_artifacts stacks ms) → (Stands s (stack_artifacts stacks ms) → is_among d stacks ≡ true) → is_among d stacks ≡ true
    at true (inl e) later = depends_on stacks id a s e d j
    at true (inr i) later = later i
    at false i later = later i

module _ (ss : List StackArtifact) (apart : AreApart ss)
    (known : (s : StackArtifact) → Stands s ss → (d : List ℕ) → IsIn d s.dependencies → IsIn d (ids ss))
    (acyclic : (s : StackArtifact) → Stands s ss → comes_back ss s.id ≡ false) where
  -- those that are left are of the list, and each of the list stands before or is left
  record IsRest (before : List (List ℕ)) (left : List StackArtifact) : Type 0 where
    of_all : (s : StackArtifact) → Stands s left → Stands s ss
    covers : (id : List ℕ) → IsIn id (ids ss) → (is_among id before ≡ true) ⊎ IsIn id (ids left)

  no_way_back : (id : List ℕ) → IsIn id (ids ss) → comes_back ss id ≡ false
  no_way_back id i = let r = stack_of id ss i in ap (comes_back ss) (sym r.same) ∙ acyclic r.stack r.there

  module _ (before : List (List ℕ)) (left : List StackArtifact) (rest : IsRest before left) (none_ready : (s : StackArtifact) → Stands s left → is_ready before s ≡ false) where
    -- what is left depends on what is left
    next : (id : List ℕ) → IsIn id (ids left) → (e : List ℕ) × IsIn e (dependencies_of ss id) × IsIn e (ids left)
    next id i =
        let r = stack_of id left i in
        let there = rest.of_all r.stack r.there in
        let w = not_all (λ d. is_among d before) r.stack.dependencies (none_ready r.stack r.there) in
        (w.0, subst (λ ds. IsIn w.0 ds) (sym (dependencies_at r.stack ss apart there) ∙ ap (dependencies_of ss) r.same) w.1, still w.0 w.2 (rest.covers w.0 (known r.stack there w.0 w.1)))
      where
        still : (e : List ℕ) → is_among e before ≡ false → (is_among e before ≡ true) ⊎ IsIn e (ids left) → IsIn e (ids left)
        still e new (inl old) = cc
        still e new (inr i) = i

    in_all : (id : List ℕ) → IsIn id (ids left) → IsIn id (ids ss)
    in_all id i = let r = stack_of id left i in subst (λ n. IsIn n (ids ss)) r.same (id_in r.stack ss (rest.of_all r.stack r.there))

    new_here : (ps : List (List ℕ)) (id : List ℕ) → IsIn id (ids left) → IsPath (dependencies_of ss) ps id → length ps ≤ length ss → is_among id ps ≡ false
    new_here ps id i path h = at (is_among id ps) refl
      where
        at : (b : Bool) → is_among id ps ≡ b → is_among id ps ≡ false
        at true e = let back = path_returns (dependencies_of ss) ps id (length ss) path h (in_when_among id ps e) in let none = no_way_back id (in_all id i) in cc
        at false e = e

    endless : (k : ℕ) (ps : List (List ℕ)) (id : List ℕ) → IsIn id (ids left) → IsPath (dependencies_of ss) ps id → length ps + unseen ps (ids ss) ≤ length ss → unseen ps (ids ss) ≤ k → ⊥
    endless zero ps id i path total h =
        let less = unseen_less id ps (ids ss) (in_all id i) (new_here ps id i path (omega (arith, total))) in omega (arith, less, h)
    endless (suc k) ps id i path total h =
        let less = unseen_less id ps (ids ss) (in_all id i) (new_here ps id i path (omega (arith, total))) in
        let w = next id i in
        endless k (id ∷ ps) w.0 w.2 (w.1, path) (omega (arith, total, less)) (omega (arith, h, less))

    one_is_ready : (id : List ℕ) → IsIn id (ids left) → ⊥
    one_is_ready id i = endless (length ss) [] id i tt (omega (arith, unseen_all (ids ss), id_count ss)) (omega (arith, unseen_all (ids ss), id_count ss))

  abbrev without : StackArtifact → List StackArtifact → List StackArtifact
  without s left = filter (λ r. not (bytes_eq r.id s.id)) left

  still_left : (s : StackArtifact) (left : List StackArtifact) (id : List ℕ) → bytes_eq id s.id ≡ false → IsIn id (ids left) → IsIn id (ids (without s left))
  still_left s left id other i =
      let r = stack_of id left i in
      let stays_there = stays (λ t. not (bytes_eq t.id s.id)) left r.stack r.there (ap (λ n. not (bytes_eq n s.id)) r.same ∙ ap not other) in
      subst (λ n. IsIn n (ids (without s left))) r.same (id_in r.stack (without s left) stays_there)

  rest_after : (before : List (List ℕ)) (left : List StackArtifact) (s : StackArtifact) → IsRest before left → IsRest (s.id ∷ before) (without s left)
  rest_after before left s r = record { of_all = λ t i. r.of_all t (kept_stands (λ u. not (bytes_eq u.id s.id)) left t i); covers = λ id i. at id (bytes_eq id s.id) refl (r.covers id i) }
    where
      at : (id : List ℕ) (b : Bool) → bytes_eq id s.id ≡ b → (is_among id before ≡ true) ⊎ IsIn id (ids left) → ((b || is_among id before) ≡ true) ⊎ IsIn id (ids (without s left))
      at id true e o = inl refl
      at id false e (inl t) = inl t
      at id false e (inr i) = inr (still_left s left id e i)

  fewer_left : (n : ℕ) (left : List StackArtifact) (s : StackArtifact) → Stands s left → length left ≤ suc n → length (without s left) ≤ n
  fewer_left n left s i h = let less = kept_fewer (λ r. not (bytes_eq r.id s.id)) left s i (ap not (same_bytes s.id)) in omega (arith, less, h)

  all_placed : (n : ℕ) (before : List (List ℕ)) (left : List StackArtifact) → IsRest before left → length left ≤ n → (id : List ℕ) → IsIn id (ids left) → IsIn id (ids (placed n before left))
  all_placed zero before [] r h id i = absurd i
  all_placed zero before (s ∷ left) r h id i = absurd (omega (arith, h))
  all_placed (suc n) before left r h id i = at (find (is_ready before) left) refl (λ s there other. all_placed n (s.id ∷ before) (without s left) (rest_after before left s r) (fewer_left n left s there h) id (still_left s left id other i))
    where
      at : (o : Option StackArtifact) → find (is_ready before) left ≡ o
          → ((s : StackArtifact) → Stands s left → bytes_eq id s.id ≡ false → IsIn id (ids (placed n (s.id ∷ before) (without s left))))
          → IsIn id (ids (first_then o (λ s. placed n (s.id ∷ before) (without s left))))
      at None e later = absurd (one_is_ready before left r (found_none (is_ready before) left e) id i)
      at (Some s) e later = here (bytes_eq id s.id) refl
        where
          here : (b : Bool) → bytes_eq id s.id ≡ b → IsIn id (s.id ∷ ids (placed n (s.id ∷ before) (without s left)))
          here true same = inl (sym (bytes_same id s.id same))
          here false other = inr (later s (found_some (is_ready before) left s e).0 other)

  at_first : IsRest [] ss
  at_first = record { of_all = λ s i. i; covers = λ id i. inr i }

none_cyclic : (ss : List StackArtifact) → cyclic ss ≡ None → (s : StackArtifact) → Stands s ss → comes_back ss s.id ≡ false
none_cyclic ss h = found_none (λ s. comes_back ss s.id) ss (at (find (λ s. comes_back ss s.id) ss) h)
  where
    at : (o : Option StackArtifact) → option_map (λ s. s.id) o ≡ None → o ≡ None
    at None h = refl
    at (Some s) h = cc

pub order_is_whole : OrderIsWhole
order_is_whole m apart acyclic id i =
    among_when_in id (ids (in_order (stacks_of m)))
    (all_placed (stacks_of m) apart known (none_cyclic (stacks_of m) acyclic) (length (stacks_of m)) [] (stacks_of m) (at_first (stacks_of m) apart known (none_cyclic (stacks_of m) acyclic)) (omega arith) id (in_when_among id (ids (stacks_of m)) i))
  where
    known : (s : StackArtifact) → Stands s (stacks_of m) → (d : List ℕ) → IsIn d s.dependencies → IsIn d (ids (stacks_of m))
    known s there d j = subst (IsIn d) (sym (ids_are (stack_ids (artifacts m)) (artifacts m))) (in_when_among d (stack_ids (artifacts m)) (depends_on_known (stack_ids (artifacts m)) (artifacts m) s there d j))
