-- What the passes over a tree count: a number for each construct, as it fits 64 bits.
use Rattle.std.specs.Prelude.{◌≡◌, ℕ, ◌+◌, ◌<◌, min, List, length, slice_index, Bool, if◌then◌else◌}
use Rattle.cdk_dependencies.specs.Counts.{most}
use Rattle.cdk_tree.specs.Placed.{Placed}

-- of each construct what the function gives for its number
pub record AreCounts (f : ℕ → ℕ) (cs : List Placed) (counts : List ℕ) : Type 0 where
  pub one_each : length counts ≡ length cs
  pub is : (n : ℕ) → n < length cs → slice_index counts n ≡ min (f n) most

-- each count at which the test holds is one more, and the others are as before
pub record CountsOneMore (test : ℕ → Bool) (old new : List ℕ) : Type 0 where
  pub same_length : length new ≡ length old
  pub is : (n : ℕ) → n < length old → slice_index new n ≡ min (slice_index old n + (if test n then 1 else 0)) most
