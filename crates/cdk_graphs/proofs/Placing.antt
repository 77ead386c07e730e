-- The numbers that are taken one after another, by counts and a queue, are an order.
use Rattle.std.proofs.Common.{◌≡◌, ◌<◌, ◌≤◌, ◌+◌, ℕ, ◌⊎◌, inl, inr, List, [], ◌∷◌, ◌++◌, length, Bool, true, false, not, Some, refl, sym, ap, ap₂, subst, ◌∙◌, arith}
use Rattle.std.specs.Prelude.{◌&&◌, ◌||◌, nat_eq, nat_lt}
use Rattle.std.specs.List.{slice_get, Contains}
use Rattle.std.proofs.lemmas.Bool.{and_from, and_parts, cases_Bool, eq-eqb, eqb-false, eqb-true, lt-ltb, ltb-false, ltb-true, not-true, not_from_false, or_parts}
use Rattle.std.proofs.lemmas.Bool.Decides.{nat_tests}
use Rattle.std.proofs.lemmas.Option.{slice_get_within}
use Rattle.cdk_graphs.specs.Graph.{Graph, leads, StandsBefore, IsHeld, IsOrder}
use Rattle.cdk_graphs.specs.Queued.{is_next, is_queued, IsQueued, IsReversed, missing, occurrences, Pops, Releases, stands, waits}
use Rattle.cdk_graphs.specs.declared.queue.Queue.{Queue}
use Rattle.cdk_graphs.proofs.Counts.{leads_past}
use Rattle.cdk_graphs.proofs.Members.{below, below_count, below_has, contains_no, without}
use Rattle.cdk_graphs.proofs.Places.{all_stand, get_cases, held_on, missing_split, none_missing, place_of, some_absent, stands_at, stands_before, stands_on, stands_push}

-- ---- the state between two turns

-- an order that may still go on
pub record IsBegun (g : Graph) (order : List ℕ) : Type 0 where
  pub inside : (p n : ℕ) → slice_get order p ≡ Some n → n < length g
  pub once : (p q n : ℕ) → slice_get order p ≡ Some n → slice_get order q ≡ Some n → p ≡ q
  pub behind : (p n m : ℕ) → slice_get order p ≡ Some n → Contains (leads g n) m → StandsBefore order p m
  pub least : (p n m : ℕ) → slice_get order p ≡ Some n → m < n → StandsBefore order p m ⊎ IsHeld g order p m

-- `rest` has each number that isn't taken yet
pub record Places (g : Graph) (turn : ℕ) (order : List ℕ) (q : Queue) : Type 0 where
  pub begun : IsBegun g order
  pub queued : IsQueued g order q
  pub rest : List ℕ
  pub room : length rest + turn ≤ length g
  pub left : (m : ℕ) → m < length g → stands order m ≡ false → Contains rest m

none_begun : (g : Graph) → IsBegun g []
none_begun g = record {
  inside = λ p n e. cc;
  once = λ p q n e f. cc;
  behind = λ p n m e c. cc;
  least = λ p n m e l. cc;
}

pub begins : (g : Graph) (order : List ℕ) (q : Queue) → order ≡ [] → IsQueued g [] q → Places g 0 order q
begins g order q none queued = record {
  begun = subst (IsBegun g) (sym none) (none_begun g);
  queued = subst (λ (xs : List ℕ). IsQueued g xs q) (sym none) queued;
  rest = below (length g);
  room = omega (arith, below_count (length g));
  left = λ m l absent. below_has (length g) m l;
}

-- ---- the number that comes next

pub record IsNext (g : Graph) (order : List ℕ) (n : ℕ) : Type 0 where
  pub within : n < length g
  pub new : stands order n ≡ false
  pub free : missing order (leads g n) ≡ 0

pub next_is : (g : Graph) (order : List ℕ) (n : ℕ) → is_next g order n ≡ true → IsNext g order n
next_is g order n h =
    let parts = and_parts (nat_lt n (length g) && not (stands order n)) (nat_eq (missing order (leads g n)) 0) h in
    let first = and_parts (nat_lt n (length g)) (not (stands order n)) parts.0 in
    record {
      within = ltb-true n (length g) first.0;
      new = not-true (stands order n) first.1;
      free = eqb-true (missing order (leads g n)) 0 parts.1;
    }

-- a number that isn't next stands or is held
pub not_next : (g : Graph) (order : List ℕ) (m : ℕ) → m < length g → is_next g order m ≡ false → StandsBefore order (length order) m ⊎ IsHeld g order (length order) m
not_next g order m l h = elim (cases_Bool (stands order m)) [
  | inl stood ↦ inl (place_of order m stood)
  | inr away ↦ inr (held away)
]
  where
    next : stands order m ≡ false → missing order (leads g m) ≡ 0 → is_next g order m ≡ true
    next away none =
        and_from (nat_lt m (length g) && not (stands order m)) (nat_eq (missing order (leads g m)) 0)
        (and_from (nat_lt m (length g)) (not (stands order m)) (lt-ltb m (length g) l) (not_from_false (stands order m) away))
        (eq-eqb (missing order (leads g m)) 0 none)

    held : stands order m ≡ false → IsHeld g order (length order) m
    held away =
        let a = some_absent order (leads g m) (λ none. let is = next away none in cc) in
        record { by = a.number; leads_there = a.is_one; later = λ s. let is = stands_before order (length order) a.number s in let not = a.absent in cc }

-- ---- ends

closed : (g : Graph) (order : List ℕ) → IsBegun g order → ((m : ℕ) → m < length g → StandsBefore order (length order) m ⊎ IsHeld g order (length order) m) → IsOrder g order
closed g order b complete = record { inside = b.inside; once = b.once; behind = b.behind; least = b.least; complete = complete }

pub stops : (g : Graph) (turn : ℕ) (order : List ℕ) (q : Queue) → Places g turn order q → ((k : ℕ) → is_queued q k ≡ false) → IsOrder g order
stops g turn order q p none = closed g order p.begun (λ m l. not_next g order m l (sym (p.queued.ready m) ∙ none m))

pub ends : (g : Graph) (turn : ℕ) (order : List ℕ) (q : Queue) → Places g turn order q → length g ≤ turn → IsOrder g order
ends g turn order q p h = closed g order p.begun (λ m l. inl (place_of order m (placed m l)))
  where
    no_rest : (xs : List ℕ) (m : ℕ) → length xs + turn ≤ length g → Contains xs m → ⊥
    no_rest [] m room c = contains_no m c
    no_rest (x ∷ xs) m room c = omega (arith, room, h)

    placed : (m : ℕ) → m < length g → stands order m ≡ true
    placed m l = elim (cases_Bool (stands order m)) [
      | inl stood ↦ stood
      | inr away ↦ absurd (no_rest p.rest m p.room (p.left m l away))
    ]

-- ---- one number more

-- a number that stands leads only to numbers that stand
settled : (g : Graph) (order : List ℕ) → IsBegun g order → (k : ℕ) → stands order k ≡ true → missing order (leads g k) ≡ 0
settled g order b k h =
    let at = place_of order k h in
    none_missing order (leads g k) (λ m c. stands_before order at.place m (b.behind at.place k m at.there c))

module _ (g : Graph) (order : List ℕ) (begun : IsBegun g order) (n : ℕ) (next : IsNext g order n) (smaller : (m : ℕ) → m < n → is_next g order m ≡ false) where
  inside_on : (p x : ℕ) → slice_get (order ++ n ∷ []) p ≡ Some x → x < length g
  inside_on p x e = elim (get_cases order n p x e) [
    | inl a ↦ begun.inside p x a
    | inr b ↦ subst (λ (y : ℕ). y < length g) b.1 next.within
  ]

  not_twice : (p x : ℕ) → slice_get order p ≡ Some x → n ≡ x → ⊥
  not_twice p x e same = let twice = ap (stands order) same ∙ stands_at order p x e in let new = next.new in cc

  once_on : (p q x : ℕ) → slice_get (order ++ n ∷ []) p ≡ Some x → slice_get (order ++ n ∷ []) q ≡ Some x → p ≡ q
  once_on p q x e f = elim (get_cases order n p x e) [
    | inl a ↦ elim (get_cases order n q x f) [
      | inl b ↦ begun.once p q x a b
      | inr b ↦ absurd (not_twice p x a b.1)
    ]
    | inr a ↦ elim (get_cases order n q x f) [
      | inl b ↦ absurd (not_twice q x b a.1)
      | inr b ↦ a.0 ∙ sym b.0
    ]
  ]

  behind_here : (m : ℕ) → Contains (leads g n) m → StandsBefore (order ++ n ∷ []) (length order) m
  behind_here m c = stands_on order n (length order) m (place_of order m (all_stand order (leads g n) m next.free c))

  behind_on : (p x m : ℕ) → slice_get (order ++ n ∷ []) p ≡ Some x → Contains (leads g x) m → StandsBefore (order ++ n ∷ []) p m
  behind_on p x m e c = elim (get_cases order n p x e) [
    | inl a ↦ stands_on order n p m (begun.behind p x m a c)
    | inr b ↦
        subst (λ (i : ℕ). StandsBefore (order ++ n ∷ []) i m) (sym b.0)
        (behind_here m (subst (λ (y : ℕ). Contains (leads g y) m) (sym b.1) c))
  ]

  on : (p m : ℕ) → p ≤ length order → StandsBefore order p m ⊎ IsHeld g order p m → StandsBefore (order ++ n ∷ []) p m ⊎ IsHeld g (order ++ n ∷ []) p m
  on p m h (inl s) = inl (stands_on order n p m s)
  on p m h (inr held) = inr (held_on g order n p m h held)

  least_here : (m : ℕ) → m < n → StandsBefore (order ++ n ∷ []) (length order) m ⊎ IsHeld g (order ++ n ∷ []) (length order) m
  least_here m l = let within = next.within in on (length order) m (omega arith) (not_next g order m (omega (arith, l, within)) (smaller m l))

  least_on : (p x m : ℕ) → slice_get (order ++ n ∷ []) p ≡ Some x → m < x → StandsBefore (order ++ n ∷ []) p m ⊎ IsHeld g (order ++ n ∷ []) p m
  least_on p x m e l = elim (get_cases order n p x e) [
    | inl a ↦ (let within = slice_get_within order p x a in on p m (omega (arith, within)) (begun.least p x m a l))
    | inr b ↦
        subst (λ (i : ℕ). StandsBefore (order ++ n ∷ []) i m ⊎ IsHeld g (order ++ n ∷ []) i m) (sym b.0)
        (least_here m (subst (λ (y : ℕ). m < y) (sym b.1) l))
  ]

  pub begun_on : IsBegun g (order ++ n ∷ [])
  begun_on = record { inside = inside_on; once = once_on; behind = behind_on; least = least_on }

-- whether a number is next after `n` is taken, by the test before and by the queue's: `i` tells whether it is `n`, `w` how many of its leads were
-- missing, `o` how many of them are `n`, and `m` how many are missing now
freed : (w m o : ℕ) → m + o ≡ w → (nat_eq w 0 && true) || (nat_lt 0 o && nat_eq w o) ≡ nat_eq m 0
freed w m o h = grind (arith, nat_tests)

unfreed : (b : Bool) (w m o : ℕ) → m + o ≡ w → w ≡ 0 → (b && false) || (nat_lt 0 o && nat_eq w o) ≡ false
unfreed true w m o h none = grind (arith, nat_tests)
unfreed false w m o h none = grind (arith, nat_tests)

next_step : (i l u : Bool) (w m o : ℕ) → m + o ≡ w → (i ≡ true → w ≡ 0) → (l ≡ false → w ≡ 0) → (u ≡ true → w ≡ 0)
    → (((l && not u) && nat_eq w 0) && not i) || (nat_lt 0 o && nat_eq w o) ≡ (l && not (i || u)) && nat_eq m 0
next_step true true u w m o h taken past stood = unfreed (not u && nat_eq w 0) w m o h (taken refl)
next_step true false u w m o h taken past stood = unfreed false w m o h (taken refl)
next_step false true true w m o h taken past stood = unfreed false w m o h (stood refl)
next_step false true false w m o h taken past stood = freed w m o h
next_step false false u w m o h taken past stood = unfreed false w m o h (past refl)

-- the next number is taken
module _ (g : Graph) (turn : ℕ) (order : List ℕ) (q p : Queue) (r : Graph) (n : ℕ) (state : Places g turn order q) (popped : Pops (Some n) q p) (turned : IsReversed g r) where
  pub next : IsNext g order n
  next = next_is g order n (sym (state.queued.ready n) ∙ popped.0)

  waited : (k : ℕ) → missing (order ++ n ∷ []) (leads g k) + occurrences k (leads r n) ≡ waits p k
  waited k =
      let a = missing_split n order (leads g k) next.new in
      let b = popped.3 k ∙ state.queued.waiting k in
      let c = turned.counted n k in
      omega (arith, a, b, c)

  pub enough : (k : ℕ) → occurrences k (leads r n) ≤ waits p k
  enough k = let a = waited k in omega (arith, a)

  module _ (s : Queue) (released : Releases (leads r n) p s) where
    waiting : (k : ℕ) → waits s k ≡ missing (order ++ n ∷ []) (leads g k)
    waiting k =
        let a = released.counted k in
        let b = waited k in
        omega (arith, a, b)

    ready : (k : ℕ) → is_queued s k ≡ is_next g (order ++ n ∷ []) k
    ready k =
        let w = missing order (leads g k) in
        let m = missing (order ++ n ∷ []) (leads g k) in
        let o = occurrences k (leads r n) in
        let was : waits p k ≡ w = popped.3 k ∙ state.queued.waiting k in
        released.queued k
        ∙ ap₂ (λ b x. b || (nat_lt 0 o && nat_eq x o)) (popped.2 k ∙ ap (λ b. b && not (nat_eq n k)) (state.queued.ready k)) was
        ∙ next_step (nat_eq n k) (nat_lt k (length g)) (stands order k) w m o (waited k ∙ was)
        (λ e. ap (λ x. missing order (leads g x)) (sym (eqb-true n k e)) ∙ next.free)
        (λ e. ap (missing order) (leads_past g k (ltb-false k (length g) e)))
        (settled g order state.begun k)
        ∙ sym (ap (λ b. (nat_lt k (length g) && not b) && nat_eq m 0) (stands_push order n k))

    pub steps : Places g (turn + 1) (order ++ n ∷ []) s
    steps =
        let w = without state.rest n (state.left n next.within next.new) in
        let shorter = w.shorter in
        let room = state.room in
        record {
          begun = begun_on g order state.begun n next (λ m l. sym (state.queued.ready m) ∙ popped.1 m l);
          queued = record { waiting = waiting; ready = ready };
          rest = w.rest;
          room = omega (arith, shorter, room);
          left = λ m l away.
              let parts = or_parts (nat_eq n m) (stands order m) (sym (stands_push order n m) ∙ away) in
              w.others m (state.left m l parts.1) (λ e. eqb-false n m parts.0 (sym e));
        }
