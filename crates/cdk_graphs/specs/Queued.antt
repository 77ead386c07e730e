-- What the code keeps while it puts the numbers of a graph into an order (own).
use Rattle.std.specs.Prelude.{◌≡◌, ℕ, suc, ◌+◌, ◌<◌, ◌&&◌, ◌||◌, List, [], ◌∷◌, Bool, true, false, not, Option, Some, None, length, nat_eq, nat_lt, slice_index, if◌then◌else◌}
use Rattle.std.specs.Ordering.{nat_cmp}
use Rattle.std.specs.BTreeSet.{contains_by}
use Rattle.cdk_graphs.specs.Graph.{Graph, leads}
use Rattle.cdk_graphs.specs.declared.queue.Queue.{Queue}

-- ---- counts

abbrev pub plus_if : Bool → ℕ → ℕ
plus_if b n = if b then suc n else n

-- how often it is one of the numbers
abbrev pub occurrences : ℕ → List ℕ → ℕ
occurrences k [] = 0
occurrences k (x ∷ xs) = plus_if (nat_eq x k) (occurrences k xs)

-- whether it is one of the numbers
abbrev pub stands : List ℕ → ℕ → Bool
stands [] k = false
stands (x ∷ xs) k = nat_eq x k || stands xs k

-- how many of the numbers don't stand in the order yet
abbrev pub missing : List ℕ → List ℕ → ℕ
missing order [] = 0
missing order (x ∷ xs) = plus_if (not (stands order x)) (missing order xs)

-- ---- the graph turned round

-- each number leads to those that led to it, as often as they did
pub record IsReversed (g r : Graph) : Type 0 where
  pub size : length r ≡ length g
  pub counted : (n k : ℕ) → occurrences k (leads r n) ≡ occurrences n (leads g k)

-- ---- the queue

-- how many leads the number waits for
abbrev pub waits : Queue → ℕ → ℕ
waits q k = slice_index q.counts.items k

abbrev pub is_queued : Queue → ℕ → Bool
is_queued q k = contains_by (nat_cmp k) q.ready

-- the least number leaves, if there is one
abbrev pub Pops : Option ℕ → Queue → Queue → Type 0
Pops None old new = (k : ℕ) → is_queued old k ≡ false
Pops (Some n) old new =
    (is_queued old n ≡ true) × ((k : ℕ) → k < n → is_queued old k ≡ false) × ((k : ℕ) → is_queued new k ≡ is_queued old k && not (nat_eq n k)) × ((k : ℕ) → waits new k ≡ waits old k)

-- these numbers wait for one lead less, each time that they occur
pub record Releases (numbers : List ℕ) (old new : Queue) : Type 0 where
  pub counted : (k : ℕ) → waits new k + occurrences k numbers ≡ waits old k
  pub queued : (k : ℕ) → is_queued new k ≡ is_queued old k || (nat_lt 0 (occurrences k numbers) && nat_eq (waits old k) (occurrences k numbers))

-- ---- the state

-- a number of the graph that doesn't stand yet, and leads only to numbers that do
abbrev pub is_next : Graph → List ℕ → ℕ → Bool
is_next g order k = (nat_lt k (length g) && not (stands order k)) && nat_eq (missing order (leads g k)) 0

pub record IsQueued (g : Graph) (order : List ℕ) (q : Queue) : Type 0 where
  pub waiting : (k : ℕ) → waits q k ≡ missing order (leads g k)
  pub ready : (k : ℕ) → is_queued q k ≡ is_next g order k
