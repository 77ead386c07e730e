-- What the check of sizes needs of the order of lazies.
use Rattle.std.specs.Prelude.{◌≡◌, ℕ, List, length, slice_get, true, Some}
use Rattle.serde_json.specs.Data.{Data}
use Rattle.cdk_expansion.specs.Mentions.{IsOrder, Mentions}
use Rattle.cdk_graphs.specs.Graph.{StandsBefore}
use Rattle.cdk_tokens.specs.Token.{Token}
use Rattle.cdk_tokens.specs.Whole.{MarkedBody}
use Rattle.cdk_tree.specs.Expected.{is_lazy}
use Rattle.cdk_tree.specs.Placed.{Placed, construct_at}

-- lazies, each behind those that it mentions, and all that are mentioned anywhere
pub record SuitsLazies (cs : List Placed) (ts : List Token) (ms : List MarkedBody) (order : List ℕ) : Type 0 where
  pub lazies : (p n : ℕ) → slice_get order p ≡ Some n → is_lazy (construct_at cs n).body ≡ true
  pub behind : IsOrder ts ms order
  pub all : (d : Data) (m : ℕ) → Mentions ts d m → StandsBefore order (length order) m
