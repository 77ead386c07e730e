-- An order has every number of its graph exactly where none reaches itself.
use Rattle.std.proofs.Common.{◌≡◌, ◌<◌, ◌≤◌, ℕ, zero, suc, inl, inr, List, length, Some, subst, arith}
use Rattle.std.specs.List.{slice_get, Contains}
use Rattle.std.proofs.lemmas.Bool.{cases_lt}
use Rattle.cdk_graphs.specs.Graph.{further, Graph, HasNoLoop, IsClosed, IsHeld, IsOrder, leads, once, OrdersAreWhole, Reaches, StandsBefore, WholeOrdersHaveNoLoop}
use Rattle.cdk_graphs.proofs.Counts.{leads_past}
use Rattle.cdk_graphs.proofs.Members.{below, below_has, contains_no, without}

-- ---- where none reaches itself

reached_within : (g : Graph) → IsClosed g → (n m : ℕ) → Reaches g n m → m < length g
reached_within g closed x y (once n m c) = closed n m c
reached_within g closed x y (further n m l c r) = reached_within g closed m l r

-- `left` has each number that can still come: a number that is held is held by one that comes no more
walk : (g : Graph) (order : List ℕ) → IsClosed g → IsOrder g order → HasNoLoop g → (k m : ℕ) (left : List ℕ) → length left ≤ k → ((n : ℕ) → Reaches g m n → Contains left n) → IsHeld g order (length order) m → ⊥
walk g order closed is none zero m left few have held =
    let w = without left held.by (have held.by (once m held.by held.leads_there)) in
    let shorter = w.shorter in
    omega (arith, few, shorter)
walk g order closed is none (suc k) m left few have held =
    let by = held.by in
    let first = once m by held.leads_there in
    let w = without left by (have by first) in
    let shorter = w.shorter in
    elim (is.complete by (closed m by held.leads_there)) [
      | inl stood ↦ held.later stood
      | inr next ↦
          walk g order closed is none k by w.rest (omega (arith, few, shorter))
          (λ n r. w.others n (have n (further m by n held.leads_there r)) (λ e. none by (subst (Reaches g by) e r)))
          next
    ]

pub orders_are_whole : OrdersAreWhole
orders_are_whole g order closed is none m l = elim (is.complete m l) [
  | inl stood ↦ stood
  | inr held ↦
      absurd (walk g order closed is none (length (below (length g))) m (below (length g)) (omega arith)
      (λ n r. below_has (length g) n (reached_within g closed m n r))
      held)
]

-- ---- where every number stands

-- along leads the places fall
falls : (g : Graph) (order : List ℕ) → IsOrder g order → (n m : ℕ) → Reaches g n m → (p : ℕ) → slice_get order p ≡ Some n → StandsBefore order p m
falls g order is x y (once n m c) p e = is.behind p n m e c
falls g order is x y (further n m l c r) p e =
    let middle = is.behind p n m e c in
    let last = falls g order is m l r middle.place middle.there in
    let a = middle.before in
    let b = last.before in
    record { place = last.place; before = omega (arith, a, b); there = last.there }

-- a number that leads somewhere is a number of the graph
leads_within : (g : Graph) (n m : ℕ) → Contains (leads g n) m → n < length g
leads_within g n m c = elim (cases_lt n (length g)) [
  | inl l ↦ l
  | inr past ↦ absurd (contains_no m (subst (λ (xs : List ℕ). Contains xs m) (leads_past g n past) c))
]

leaves_within : (g : Graph) (n m : ℕ) → Reaches g n m → n < length g
leaves_within g x y (once n m c) = leads_within g n m c
leaves_within g x y (further n m l c r) = leads_within g n m c

pub whole_orders_have_no_loop : WholeOrdersHaveNoLoop
whole_orders_have_no_loop g order closed is whole n r =
    let at = whole n (leaves_within g n n r) in
    let earlier = falls g order is n n r at.place at.there in
    let same = is.once at.place earlier.place n at.there earlier.there in
    let before = earlier.before in
    omega (arith, same, before)
