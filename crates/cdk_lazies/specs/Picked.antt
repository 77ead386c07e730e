-- The lazies that are picked from an order of the graph's numbers (own).
use Rattle.std.specs.Prelude.{◌≡◌, ◌-◌, ℕ, List, length, nat_le, Option, Some, None, if◌then◌else◌}
use Rattle.std.specs.List.{filter_map}
use Rattle.cdk_graphs.specs.Graph.{Graph, IsOrder}
use Rattle.cdk_tokens.specs.Token.{Token}
use Rattle.cdk_tree.specs.Expected.{is_lazy}
use Rattle.cdk_tree.specs.Placed.{Placed, construct_at}

-- the construct, where it is a lazy
abbrev pub lazy_at : List Placed → ℕ → Option ℕ
lazy_at cs n = if is_lazy (construct_at cs n).body then Some n else None

-- the lazy that has the number in the graph
abbrev pub lazy_of : List Placed → List Token → ℕ → Option ℕ
lazy_of cs ts k = if nat_le (length ts) k then lazy_at cs (k - length ts) else None

abbrev pub lazies_of : List Placed → List Token → List ℕ → List ℕ
lazies_of cs ts ks = filter_map (lazy_of cs ts) ks

-- the lazies of an order of the graph's numbers
pub record ArePicked (g : Graph) (cs : List Placed) (ts : List Token) (lazies : List ℕ) : Type 0 where
  pub numbers : List ℕ
  pub is_order : IsOrder g numbers
  pub picked : lazies ≡ lazies_of cs ts numbers
