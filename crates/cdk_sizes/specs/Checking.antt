-- What the check of sizes tells of one construct, of its measure.
use Rattle.std.specs.Prelude.{◌≡◌, ℕ, ◌+◌, List, ◌++◌, nat_lt}
use Rattle.cdk_base.specs.declared.code.Code.{Code}
use Rattle.cdk_base.specs.declared.code.Code.TheVariants.{TooDeep, TooLarge}
use Rattle.cdk_measure.specs.Wholes.{capped}
use Rattle.cdk_sizes.specs.SizeFindings.{greatest_depth, largest_sum}
use Rattle.cdk_measure.specs.declared.measure.Measure.{Measure}
use Rattle.cdk_tree.specs.PlaceFindings.{when}

-- of what has the size and the depth, as they fit 64 bits
pub record IsMeasureOf (m : Measure) (size depth : ℕ) : Type 0 where
  pub sized : m.size ≡ capped size
  pub deep : m.depth ≡ capped depth

-- where the sum before isn't too large yet
abbrev pub codes_of : ℕ → Measure → List Code
codes_of before m = when (nat_lt largest_sum (before + m.size)) TooLarge ++ when (nat_lt greatest_depth m.depth) TooDeep
