-- A number reaches another exactly where the bounded search comes to it. A way that meets a number twice can be made shorter, so that with each
-- step the list of the numbers that can still be met is shorter than before.
use Rattle.std.proofs.Common.{◌≡◌, ◌≤◌, ℕ, zero, suc, ◌⊎◌, inl, inr, List, length, Bool, true, false, ◌||◌, nat_eq, refl, sym, subst, arith, eq-eqb, eqb-true}
use Rattle.std.specs.List.{Contains, range_with_len}
use Rattle.std.proofs.lemmas.List.FromFn.{length-range_with_len}
use Rattle.cdk_graphs.specs.Graph.{Graph, IsClosed, leads, Reaches, ReachesItself, once, further, Tells}
use Rattle.cdk_graphs.specs.Loops.{comes_to, reaches_itself, LoopsAreFound}
use Rattle.cdk_graphs.proofs.FoundMembers.{same_or_not, or_true, or_left, or_right, one_passes, any_passes, without, below_is_there}

-- ---- what the search comes to is reached

pub comes_there : (g : Graph) (k goal n : ℕ) → comes_to g k goal n ≡ true → Reaches g n goal
comes_there g zero goal n h = cc
comes_there g (suc k) goal n h =
    let next = one_passes (λ m. nat_eq m goal || comes_to g k goal m) (leads g n) h in
    elim (or_true (nat_eq next.member goal) (comes_to g k goal next.member) next.passes) [
      | inl same ↦ once n goal (subst (Contains (leads g n)) (eqb-true next.member goal same) next.is_there)
      | inr later ↦ further n next.member goal next.is_there (comes_there g k goal next.member later)
    ]

-- ---- what is reached is found by the search

-- by one step or more, each to a number of the list
data ReachesWithin (g : Graph) (left : List ℕ) : ℕ → ℕ → Type 0 where
  last : (n m : ℕ) → Contains (leads g n) m → Contains left m → ReachesWithin g left n m
  next : (n m l : ℕ) → Contains (leads g n) m → Contains left m → ReachesWithin g left m l → ReachesWithin g left n l

-- A way to another number than m has no step to m, or it can begin at the last of its steps to m.
from_last_visit : (g : Graph) (left rest : List ℕ) (m : ℕ) → ((y : ℕ) → Contains left y → (y ≡ m → ⊥) → Contains rest y)
    → (n goal : ℕ) → (goal ≡ m → ⊥) → ReachesWithin g left n goal → ReachesWithin g rest n goal ⊎ ReachesWithin g rest m goal
from_last_visit g left rest m others x y other (last n goal c i) = inl (last n goal c (others goal i other))
from_last_visit g left rest m others x y other (next n l goal c i way) = at (from_last_visit g left rest m others l goal other way) (same_or_not l m)
  where
    at : ReachesWithin g rest l goal ⊎ ReachesWithin g rest m goal → (l ≡ m) ⊎ (l ≡ m → ⊥) → ReachesWithin g rest n goal ⊎ ReachesWithin g rest m goal
    at (inl behind) (inl same) = inr (subst (λ (z : ℕ). ReachesWithin g rest z goal) same behind)
    at (inl behind) (inr not_same) = inl (next n l goal c (others l i not_same) behind)
    at (inr from_there) s = inr from_there

first_is_there : (g : Graph) (left : List ℕ) (n goal : ℕ) → ReachesWithin g left n goal → (m : ℕ) × Contains left m
first_is_there g left x y (last n goal c i) = (goal, i)
first_is_there g left x y (next n m goal c i way) = (m, i)

-- the step to m is one of those that the search tries
step_passes : (g : Graph) (k goal n m : ℕ) → Contains (leads g n) m → (m ≡ goal) ⊎ (comes_to g k goal m ≡ true) → comes_to g (suc k) goal n ≡ true
step_passes g k goal n m c (inl same) =
    any_passes (λ d. nat_eq d goal || comes_to g k goal d) (leads g n) m c (or_left (nat_eq m goal) (comes_to g k goal m) (eq-eqb m goal same))
step_passes g k goal n m c (inr later) =
    any_passes (λ d. nat_eq d goal || comes_to g k goal d) (leads g n) m c (or_right (nat_eq m goal) (comes_to g k goal m) later)

is_found : (g : Graph) (k : ℕ) (left : List ℕ) → length left ≤ k → (n goal : ℕ) → ReachesWithin g left n goal → comes_to g k goal n ≡ true
is_found g zero left enough n goal way =
    let first = first_is_there g left n goal way in let w = without left first.0 first.1 in absurd (omega (arith, enough, w.shorter))
is_found g (suc k) left enough x y (last n goal c i) = step_passes g k goal n goal c (inl refl)
is_found g (suc k) left enough x y (next n m goal c i way) = step_passes g k goal n m c (at (same_or_not goal m) (λ other.
    let w = without left m i in
    let fewer : length w.rest ≤ k = omega (arith, enough, w.shorter) in
    elim (from_last_visit g left w.rest m w.others m goal other way) [
      | inl short ↦ is_found g k w.rest fewer m goal short
      | inr short ↦ is_found g k w.rest fewer m goal short
    ]))
  where
    at : (goal ≡ m) ⊎ (goal ≡ m → ⊥) → ((goal ≡ m → ⊥) → comes_to g k goal m ≡ true) → (m ≡ goal) ⊎ (comes_to g k goal m ≡ true)
    at (inl same) f = inl (sym same)
    at (inr other) f = inr (f other)

-- all ways of a closed graph stay within its numbers
stays_within : (g : Graph) → IsClosed g → (n goal : ℕ) → Reaches g n goal → ReachesWithin g (range_with_len 0 (length g)) n goal
stays_within g closed x y (once n m c) = last n m c (below_is_there (length g) m (closed n m c))
stays_within g closed x y (further n m goal c way) = next n m goal c (below_is_there (length g) m (closed n m c)) (stays_within g closed m goal way)

pub reached_is_found : (g : Graph) → IsClosed g → (n goal : ℕ) → Reaches g n goal → comes_to g (length g) goal n ≡ true
reached_is_found g closed n goal way =
    let size : length (range_with_len 0 (length g)) ≡ length g = length-range_with_len 0 (length g) in
    is_found g (length g) (range_with_len 0 (length g)) (omega (arith, size)) n goal (stays_within g closed n goal way)

-- ---- the law

tells_both_ways : (b : Bool) (P : Type 0) → (b ≡ true → P) → (P → b ≡ true) → Tells b P
tells_both_ways true P holds found = holds refl
tells_both_ways false P holds found = λ p. let contrary = found p in cc

pub loops_are_found : LoopsAreFound
loops_are_found g closed n = tells_both_ways (reaches_itself g n) (ReachesItself g n) (comes_there g _ n n) (reached_is_found g closed n n)
