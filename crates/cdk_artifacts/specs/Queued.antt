-- What the code keeps while it places the stacks of a manifest.
use Rattle.std.specs.Prelude.{◌≡◌, ℕ, zero, suc, ◌+◌, ◌<◌, ◌&&◌, ◌||◌, List, [], ◌∷◌, Bool, true, false, not, Option, Some, None, bytes_eq, nat_eq, nat_lt, slice_index, if◌then◌else◌}
use Rattle.std.specs.Ordering.{nat_cmp}
use Rattle.std.specs.Cmp.Lexicographic.{slice_cmp}
use Rattle.std.specs.BTreeMap.{get_by}
use Rattle.std.specs.BTreeSet.{contains_by}
use Rattle.std.specs.declared.vec.Vec.{Vec}
use Rattle.cdk_eval.specs.Manifest.{StackArtifact}
use Rattle.cdk_eval.specs.Reach.{is_among}
use Rattle.cdk_artifacts.specs.declared.dependents.Dependents.{Dependents}
use Rattle.cdk_artifacts.specs.declared.queue.Queue.{Queue}

-- ---- counts

abbrev pub plus_if : Bool → ℕ → ℕ
plus_if b n = if b then suc n else n

-- how often it is one of the names
abbrev pub times : List ℕ → List (List ℕ) → ℕ
times n [] = 0
times n (d ∷ ds) = plus_if (bytes_eq d n) (times n ds)

-- how often it is one of the numbers
abbrev pub occurrences : ℕ → List ℕ → ℕ
occurrences k [] = 0
occurrences k (x ∷ xs) = plus_if (nat_eq x k) (occurrences k xs)

-- how many of the names do not stand before
abbrev pub missing : List (List ℕ) → List (List ℕ) → ℕ
missing before [] = 0
missing before (d ∷ ds) = plus_if (not (is_among d before)) (missing before ds)

-- the value of the stack of that number
abbrev pub value_at : {X : Type 0} → X → (StackArtifact → X) → List StackArtifact → ℕ → X
value_at z f [] k = z
value_at z f (s ∷ ss) zero = f s
value_at z f (s ∷ ss) (suc k) = value_at z f ss k

-- ---- what the code's structs stand for

abbrev pub numbers_of : {A : Type 0} → Option (Vec ℕ A) → List ℕ
numbers_of None = []
numbers_of (Some v) = v.items

-- the numbers of the stacks that depend on the name
abbrev pub numbers_at : Dependents → List ℕ → List ℕ
numbers_at d n = numbers_of (get_by (λ k. slice_cmp nat_cmp n k.now) d.numbers)

-- how many dependencies the stack of the number waits for
abbrev pub waits : Queue → ℕ → ℕ
waits q k = slice_index q.counts.items k

abbrev pub is_queued : Queue → ℕ → Bool
is_queued q k = contains_by (nat_cmp k) q.ready

-- the least number leaves, if there is one
abbrev pub Pops : Option ℕ → Queue → Queue → Type 0
Pops None old new = (k : ℕ) → is_queued old k ≡ false
Pops (Some i) old new =
    (is_queued old i ≡ true) × ((k : ℕ) → k < i → is_queued old k ≡ false) × ((k : ℕ) → is_queued new k ≡ is_queued old k && not (nat_eq i k)) × ((k : ℕ) → waits new k ≡ waits old k)

-- the stacks of these numbers wait for one dependency less, each time that they occur
pub record Releases (numbers : List ℕ) (old new : Queue) : Type 0 where
  pub counted : (k : ℕ) → waits new k + occurrences k numbers ≡ waits old k
  pub queued : (k : ℕ) → is_queued new k ≡ is_queued old k || (nat_lt 0 (occurrences k numbers) && nat_eq (waits old k) (occurrences k numbers))

-- ---- the state, after those before are placed

pub record IsQueued (before : List (List ℕ)) (ss : List StackArtifact) (q : Queue) : Type 0 where
  pub waiting : (k : ℕ) → waits q k ≡ value_at 0 (λ s. missing before s.dependencies) ss k
  pub ready : (k : ℕ) → is_queued q k ≡ value_at false (λ s. not (is_among s.id before) && nat_eq (missing before s.dependencies) 0) ss k

-- each name leads to the stacks that depend on it
abbrev pub AreDependents : List StackArtifact → Dependents → Type 0
AreDependents ss d = (n : List ℕ) (k : ℕ) → occurrences k (numbers_at d n) ≡ value_at 0 (λ s. times n s.dependencies) ss k
