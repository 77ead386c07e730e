-- What rendering needs of an application's tokens and lazies, and the scope that a stack's values are rendered in.
use Rattle.std.specs.Prelude.{◌≡◌, ◌<◌, ℕ, List, length, slice_get, Contains, Some}
use Rattle.serde_json.specs.Data.{Data}
use Rattle.cdk_expansion.specs.Mentions.{IsOrder, Mentions, arguments, keys_in}
use Rattle.cdk_graphs.specs.Graph.{StandsBefore}
use Rattle.cdk_plain.specs.Rendered.{Homes}
use Rattle.cdk_tokens.specs.Token.{Token, find_token}
use Rattle.cdk_tokens.specs.Whole.{MarkedBody}

-- the arguments of each token hold only tokens of lower numbers, as marking makes them
abbrev pub AreLower : List Token → Type 0
AreLower ts = (n m : ℕ) (t : Token) (d : Data) (k : List ℕ) → slice_get ts n ≡ Some t → Contains (arguments t.form) d → Contains (keys_in d) k → find_token ts k ≡ Some m → m < n

-- All lazies that are mentioned stand in the order, each behind those that it mentions: none reaches itself.
pub record IsReady (ts : List Token) (ms : List MarkedBody) (order : List ℕ) : Type 0 where
  pub lower : AreLower ts
  pub behind : IsOrder ts ms order
  pub all : (d : Data) (m : ℕ) → Mentions ts d m → StandsBefore order (length order) m

-- the tokens, the marked values, the spellings in the stack, and the order of lazies
pub record Scope : Type 0 where
  pub tokens : List Token
  pub bodies : List MarkedBody
  pub homes : Homes
  pub order : List ℕ

abbrev pub scope_of : List Token → List MarkedBody → Homes → List ℕ → Scope
scope_of ts ms h order = record { tokens = ts; bodies = ms; homes = h; order = order }
