-- How often lazies have to be opened.
use Rattle.std.specs.Prelude.{◌≡◌, ◌<◌, ◌≤◌, ℕ, List, length, slice_get, Contains, Some}
use Rattle.serde_json.specs.Data.{Data}
use Rattle.cdk_tokens.specs.Token.{Token}
use Rattle.cdk_tokens.specs.Whole.{MarkedBody}
use Rattle.cdk_expansion.specs.Expanded.{opened, plain_of}
use Rattle.cdk_expansion.specs.Mentions.{IsOrder, Mentions, ReachesItself}
use Rattle.cdk_graphs.specs.Graph.{StandsBefore}

-- For a lazy its place in an order suffices, counted from 1.
abbrev pub PlacesSuffice : Type 0
PlacesSuffice = (ts : List Token) (ms : List MarkedBody) (order : List ℕ) → IsOrder ts ms order → (p n k l : ℕ)
    → slice_get order p ≡ Some n → p < k → p < l → opened k ts ms n ≡ opened l ts ms n

-- For a value whose lazies all stand in an order, the length of the order suffices.
abbrev pub OrdersSuffice : Type 0
OrdersSuffice = (ts : List Token) (ms : List MarkedBody) (order : List ℕ) → IsOrder ts ms order → (d : Data)
    → ((m : ℕ) → Mentions ts d m → StandsBefore order (length order) m) → (k l : ℕ) → length order ≤ k → length order ≤ l → plain_of k ts ms d ≡ plain_of l ts ms d

-- Where no lazy reaches itself, and the list has every lazy that is mentioned anywhere, its length suffices.
abbrev pub LaziesSuffice : Type 0
LaziesSuffice = (ts : List Token) (ms : List MarkedBody) (lazies : List ℕ) → ((d : Data) (m : ℕ) → Mentions ts d m → Contains lazies m)
    → ((n : ℕ) → ReachesItself ts ms n → ⊥) → (d : Data) (k l : ℕ) → length lazies ≤ k → length lazies ≤ l → plain_of k ts ms d ≡ plain_of l ts ms d
