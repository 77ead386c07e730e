-- The order in which lazies are taken: each behind those that it mentions, the first in walk order where several may come next (own).
use Rattle.std.specs.Prelude.{◌≡◌, ◌<◌, ◌⊎◌, ℕ, List, [], length, slice_get, Contains, true, Some, Result, Ok, Err}
use Rattle.serde_json.specs.Data.{Data}
use Rattle.cdk_expansion.specs.Mentions.{LazyMentions, arguments, keys_in}
use Rattle.cdk_graphs.specs.Graph.{StandsBefore}
use Rattle.cdk_lazies.specs.CycleFindings.{cycle_findings}
use Rattle.cdk_tokens.specs.Token.{Token, find_token}
use Rattle.cdk_tokens.specs.Whole.{MarkedBody}
use Rattle.cdk_tree.specs.Expected.{is_lazy}
use Rattle.cdk_tree.specs.PlaceFindings.{first}
use Rattle.cdk_tree.specs.Placed.{Placed, construct_at}
use Rattle.cdk_tree.specs.declared.role.PassError.{PassError}
use Rattle.cdk_tree.specs.declared.role.PassError.TheVariants as errors

abbrev pub IsLazy : List Placed → ℕ → Type 0
IsLazy cs n = is_lazy (construct_at cs n).body ≡ true

-- the arguments of each token hold only tokens of lower numbers, as marking makes them
abbrev pub AreDownward : List Token → Type 0
AreDownward ts = (n m : ℕ) (t : Token) (d : Data) (k : List ℕ) → slice_get ts n ≡ Some t → Contains (arguments t.form) d → Contains (keys_in d) k → find_token ts k ≡ Some m → m < n

module _ (cs : List Placed) (ts : List Token) (ms : List MarkedBody) where
  -- the lazy mentions one that doesn't stand before the place p
  pub record IsHeld (order : List ℕ) (p m : ℕ) : Type 0 where
    pub by : ℕ
    pub is_lazy : IsLazy cs by
    pub mentioned : LazyMentions ts ms m by
    pub later : StandsBefore order p by → ⊥

  -- lazies, each once, behind the lazies that it mentions, and always next the first in walk order that may come next; all of them
  -- where the tokens' arguments hold lower tokens
  pub record IsLazyOrder (order : List ℕ) : Type 0 where
    pub lazies : (p n : ℕ) → slice_get order p ≡ Some n → IsLazy cs n
    pub once : (p q n : ℕ) → slice_get order p ≡ Some n → slice_get order q ≡ Some n → p ≡ q
    pub behind : (p n m : ℕ) → slice_get order p ≡ Some n → LazyMentions ts ms n m → IsLazy cs m → StandsBefore order p m
    pub least : (p n m : ℕ) → slice_get order p ≡ Some n → m < n → IsLazy cs m → StandsBefore order p m ⊎ IsHeld order p m
    pub whole : AreDownward ts → (m : ℕ) → IsLazy cs m → StandsBefore order (length order) m

  -- the order where nothing reaches itself, or the first lazy or condition that does
  abbrev pub Orders : Result (List ℕ) PassError → Type 0
  Orders (Ok order) = (cycle_findings cs ts ms ≡ []) × IsLazyOrder order
  Orders (Err errors.Memory) = Unit {0}
  Orders (Err (errors.Fault f)) = first (cycle_findings cs ts ms) ≡ Some f
