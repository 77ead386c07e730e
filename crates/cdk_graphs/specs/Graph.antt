-- Graphs of numbers (own): what each number leads to, which reach themselves, and the order in which they are taken.
use Rattle.std.specs.Prelude.{◌≡◌, ◌<◌, ◌⊎◌, ℕ, List, [], length, map, slice_get, Contains, Bool, true, false, Some}
use Rattle.std.specs.Option.{unwrap_or}
use Rattle.std.specs.declared.vec.Vec.{Vec}

-- ---- what a number leads to

-- The numbers to which each number of a graph leads, in any order, and as often as it leads there.
abbrev pub Graph : Type 0
Graph = List (List ℕ)

abbrev pub leads : Graph → ℕ → List ℕ
leads g n = unwrap_or (slice_get g n) []

-- only numbers of the graph are led to
abbrev pub IsClosed : Graph → Type 0
IsClosed g = (n m : ℕ) → Contains (leads g n) m → m < length g

-- by one step or more
pub data Reaches (g : Graph) : ℕ → ℕ → Type 0 where
  once : (n m : ℕ) → Contains (leads g n) m → Reaches g n m
  further : (n m l : ℕ) → Contains (leads g n) m → Reaches g m l → Reaches g n l

abbrev pub ReachesItself : Graph → ℕ → Type 0
ReachesItself g n = Reaches g n n

-- ---- loops

-- the truth value tells whether it holds
abbrev pub Tells : Bool → Type 0 → Type 0
Tells true P = P
Tells false P = P → ⊥

-- of each number of the graph, in their order, whether it reaches itself
pub record AreLoops (g : Graph) (bs : List Bool) : Type 0 where
  pub size : length bs ≡ length g
  pub told : (n : ℕ) (b : Bool) → slice_get bs n ≡ Some b → Tells b (ReachesItself g n)

-- ---- orders

-- the number stands in the list before the place p
pub record StandsBefore (order : List ℕ) (p m : ℕ) : Type 0 where
  pub place : ℕ
  pub before : place < p
  pub there : slice_get order place ≡ Some m

-- the number leads to one that doesn't stand before the place p
pub record IsHeld (g : Graph) (order : List ℕ) (p m : ℕ) : Type 0 where
  pub by : ℕ
  pub leads_there : Contains (leads g m) by
  pub later : StandsBefore order p by → ⊥

-- Each number once, behind those that it leads to, and always next the least that may come next. Numbers that lead to a loop
-- are left out.
pub record IsOrder (g : Graph) (order : List ℕ) : Type 0 where
  pub inside : (p n : ℕ) → slice_get order p ≡ Some n → n < length g
  pub once : (p q n : ℕ) → slice_get order p ≡ Some n → slice_get order q ≡ Some n → p ≡ q
  pub behind : (p n m : ℕ) → slice_get order p ≡ Some n → Contains (leads g n) m → StandsBefore order p m
  pub least : (p n m : ℕ) → slice_get order p ≡ Some n → m < n → StandsBefore order p m ⊎ IsHeld g order p m
  pub complete : (m : ℕ) → m < length g → StandsBefore order (length order) m ⊎ IsHeld g order (length order) m

-- ---- laws

abbrev pub HasNoLoop : Graph → Type 0
HasNoLoop g = (n : ℕ) → ReachesItself g n → ⊥

abbrev pub IsWhole : Graph → List ℕ → Type 0
IsWhole g order = (m : ℕ) → m < length g → StandsBefore order (length order) m

abbrev pub OrdersAreWhole : Type 0
OrdersAreWhole = (g : Graph) (order : List ℕ) → IsClosed g → IsOrder g order → HasNoLoop g → IsWhole g order

abbrev pub WholeOrdersHaveNoLoop : Type 0
WholeOrdersHaveNoLoop = (g : Graph) (order : List ℕ) → IsClosed g → IsOrder g order → IsWhole g order → HasNoLoop g

-- ---- graphs in the code

abbrev pub graph_view : {A : Type 0} → List (Vec ℕ A) → Graph
graph_view rows = map (λ r. r.items) rows
