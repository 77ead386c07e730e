-- Small graphs with their orders: what the laws ask for is met, and a number that reaches itself is left out.
use Rattle.std.proofs.Common.{◌≡◌, ◌<◌, ℕ, zero, suc, ◌⊎◌, inl, inr, List, [], ◌∷◌, length, Some, refl, sym, subst, arith}
use Rattle.std.specs.List.{slice_get, Contains}
use Rattle.cdk_graphs.specs.Graph.{Graph, HasNoLoop, IsClosed, IsHeld, IsOrder, IsWhole, leads, once, ReachesItself, StandsBefore}
use Rattle.cdk_graphs.proofs.Members.{contains_first, contains_no, first_or_rest}
use Rattle.cdk_graphs.proofs.OrderLaws.{orders_are_whole, whole_orders_have_no_loop}

contains_one : (x y : ℕ) → Contains (x ∷ []) y → y ≡ x
contains_one x y c = elim (first_or_rest x [] y c) [
  | inl e ↦ e
  | inr r ↦ absurd (contains_no y r)
]

-- ---- zero leads to one

abbrev pair : Graph
pair = (1 ∷ []) ∷ [] ∷ []

abbrev pair_order : List ℕ
pair_order = 1 ∷ 0 ∷ []

pair_closed : IsClosed pair
pair_closed zero m c = let e = contains_one 1 m c in omega (arith, e)
pair_closed (suc zero) m c = absurd (contains_no m c)
pair_closed (suc (suc n)) m c = absurd (contains_no m c)

-- one stands before every later place
one_before : (p : ℕ) → 0 < p → StandsBefore pair_order p 1
one_before p h = record { place = 0; before = h; there = refl }

zero_before : (p : ℕ) → 1 < p → StandsBefore pair_order p 0
zero_before p h = record { place = 1; before = h; there = refl }

pair_inside : (p n : ℕ) → slice_get pair_order p ≡ Some n → n < length pair
pair_inside zero n e = let same : 1 ≡ n = cc in omega (arith, same)
pair_inside (suc zero) n e = let same : 0 ≡ n = cc in omega (arith, same)
pair_inside (suc (suc p)) n e = cc

pair_once : (p q n : ℕ) → slice_get pair_order p ≡ Some n → slice_get pair_order q ≡ Some n → p ≡ q
pair_once zero zero n e f = refl
pair_once zero (suc zero) n e f = let differ : ◌≡◌ {A = ℕ} 1 0 = cc in absurd (omega (arith, differ))
pair_once zero (suc (suc q)) n e f = cc
pair_once (suc zero) zero n e f = let differ : ◌≡◌ {A = ℕ} 1 0 = cc in absurd (omega (arith, differ))
pair_once (suc zero) (suc zero) n e f = refl
pair_once (suc zero) (suc (suc q)) n e f = cc
pair_once (suc (suc p)) q n e f = cc

pair_behind : (p n m : ℕ) → slice_get pair_order p ≡ Some n → Contains (leads pair n) m → StandsBefore pair_order p m
pair_behind zero n m e c = let same : n ≡ 1 = cc in absurd (contains_no m (subst (λ (x : ℕ). Contains (leads pair x) m) same c))
pair_behind (suc zero) n m e c =
    let same : n ≡ 0 = cc in
    let one = contains_one 1 m (subst (λ (x : ℕ). Contains (leads pair x) m) same c) in
    subst (StandsBefore pair_order 1) (sym one) (one_before 1 (omega arith))
pair_behind (suc (suc p)) n m e c = cc

pair_least : (p n m : ℕ) → slice_get pair_order p ≡ Some n → m < n → StandsBefore pair_order p m ⊎ IsHeld pair pair_order p m
pair_least zero n m e l =
    let same : 1 ≡ n = cc in
    let first : 0 ≡ m = omega (arith, same, l) in
    inr (subst (IsHeld pair pair_order 0) first record { by = 1; leads_there = contains_first 1 []; later = λ s. let before = s.before in omega (arith, before) })
pair_least (suc zero) n m e l = let same : 0 ≡ n = cc in absurd (omega (arith, same, l))
pair_least (suc (suc p)) n m e l = cc

pair_whole : IsWhole pair pair_order
pair_whole zero l = zero_before 2 (omega arith)
pair_whole (suc zero) l = one_before 2 (omega arith)
pair_whole (suc (suc m)) l = absurd (omega (arith, l))

pair_is_order : IsOrder pair pair_order
pair_is_order = record { inside = pair_inside; once = pair_once; behind = pair_behind; least = pair_least; complete = λ m l. inl (pair_whole m l) }

pair_no_loop : HasNoLoop pair
pair_no_loop = whole_orders_have_no_loop pair pair_order pair_closed pair_is_order pair_whole

pair_whole_again : IsWhole pair pair_order
pair_whole_again = orders_are_whole pair pair_order pair_closed pair_is_order pair_no_loop

-- ---- zero leads to itself, and isn't taken

abbrev looped : Graph
looped = (0 ∷ []) ∷ [] ∷ []

abbrev looped_order : List ℕ
looped_order = 1 ∷ []

looped_loop : ReachesItself looped 0
looped_loop = once 0 0 (contains_first 0 [])

zero_held : (p : ℕ) → IsHeld looped looped_order p 0
zero_held p = record { by = 0; leads_there = contains_first 0 []; later = λ s. away s.place s.there }
  where
    away : (i : ℕ) → slice_get looped_order i ≡ Some 0 → ⊥
    away zero e = let differ : ◌≡◌ {A = ℕ} 1 0 = cc in omega (arith, differ)
    away (suc i) e = cc

looped_inside : (p n : ℕ) → slice_get looped_order p ≡ Some n → n < length looped
looped_inside zero n e = let same : 1 ≡ n = cc in omega (arith, same)
looped_inside (suc p) n e = cc

looped_once : (p q n : ℕ) → slice_get looped_order p ≡ Some n → slice_get looped_order q ≡ Some n → p ≡ q
looped_once zero zero n e f = refl
looped_once zero (suc q) n e f = cc
looped_once (suc p) q n e f = cc

looped_behind : (p n m : ℕ) → slice_get looped_order p ≡ Some n → Contains (leads looped n) m → StandsBefore looped_order p m
looped_behind zero n m e c = let same : n ≡ 1 = cc in absurd (contains_no m (subst (λ (x : ℕ). Contains (leads looped x) m) same c))
looped_behind (suc p) n m e c = cc

looped_least : (p n m : ℕ) → slice_get looped_order p ≡ Some n → m < n → StandsBefore looped_order p m ⊎ IsHeld looped looped_order p m
looped_least zero n m e l =
    let same : 1 ≡ n = cc in
    let first : 0 ≡ m = omega (arith, same, l) in
    inr (subst (IsHeld looped looped_order 0) first (zero_held 0))
looped_least (suc p) n m e l = cc

looped_complete : (m : ℕ) → m < length looped → StandsBefore looped_order 1 m ⊎ IsHeld looped looped_order 1 m
looped_complete zero l = inr (zero_held 1)
looped_complete (suc zero) l = inl record { place = 0; before = omega arith; there = refl }
looped_complete (suc (suc m)) l = absurd (omega (arith, l))

looped_is_order : IsOrder looped looped_order
looped_is_order = record { inside = looped_inside; once = looped_once; behind = looped_behind; least = looped_least; complete = looped_complete }
