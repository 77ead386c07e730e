-- What measuring takes from an application's constructs: how many lazies there are, and the path of each construct.
use Rattle.std.specs.Prelude.{ℕ, List, filter, length}
use Rattle.cdk_tree.specs.Expected.{is_lazy}
use Rattle.cdk_tree.specs.Placed.{Placed, construct_at}

-- lazies are opened at most as often, one inside another, as there are lazies
abbrev pub lazy_count : List Placed → ℕ
lazy_count cs = length (filter (λ c. is_lazy c.body) cs)

abbrev pub path_in : List Placed → ℕ → List ℕ
path_in cs n = (construct_at cs n).path
