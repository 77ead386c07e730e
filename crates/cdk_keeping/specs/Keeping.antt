-- What is kept of lazies while the values of one stack are rendered.
use Rattle.std.specs.Prelude.{◌≡◌, ◌≤◌, ℕ, length, Some}
use Rattle.serde_json.specs.Data.{Data}
use Rattle.cdk_expansion.specs.Expanded.{opened, plain_of}
use Rattle.cdk_expansion.specs.Mentions.{LazyMentions, Mentions, Reaches}
use Rattle.cdk_leaves.specs.Lazies.{IsKept, Results}
use Rattle.cdk_leaves.specs.Ready.{Scope}
use Rattle.cdk_plain.specs.Rendered.{rendered}

-- the JSON is that of the value's plain form, however often lazies are opened, if often enough
abbrev pub IsRendering : Scope → Data → Data → Type 0
IsRendering s d r = (k : ℕ) → length s.order ≤ k → r ≡ rendered s.homes (plain_of k s.tokens s.bodies d)

-- that of the lazy's own plain form
abbrev pub IsLazyRendering : Scope → ℕ → Data → Type 0
IsLazyRendering s n r = (k : ℕ) → length s.order ≤ k → r ≡ rendered s.homes (opened k s.tokens s.bodies n)

abbrev pub AreRenderings : Scope → Results → Type 0
AreRenderings s kept = (n : ℕ) (r : Data) → kept n ≡ Some r → IsLazyRendering s n r

-- ---- lazies that a value reaches

-- by mentioning one, or one that reaches it
pub data ReachesFrom (s : Scope) (d : Data) : ℕ → Type 0 where
  mentioned : (m : ℕ) → Mentions s.tokens d m → ReachesFrom s d m
  reached : (n m : ℕ) → Mentions s.tokens d n → Reaches s.tokens s.bodies n m → ReachesFrom s d m

abbrev pub KeepsReached : Scope → Data → Results → Type 0
KeepsReached s d kept = (m : ℕ) → ReachesFrom s d m → IsKept kept m

-- what is kept of a lazy is kept of all that it mentions
abbrev pub AreClosed : Scope → Results → Type 0
AreClosed s kept = (n m : ℕ) → IsKept kept n → LazyMentions s.tokens s.bodies n m → IsKept kept m

pub record IsSettled (s : Scope) (kept : Results) : Type 0 where
  pub right : AreRenderings s kept
  pub closed : AreClosed s kept
