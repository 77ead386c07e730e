-- Counts of pairs as they fit 64 bits.
use Rattle.std.specs.Prelude.{ℕ, ◌+◌, ◌^◌, ◌-◌, min, List, [], ◌∷◌}
use Rattle.cdk_dependencies.specs.Pairs.{pairs_of}
use Rattle.cdk_tree.specs.Placed.{Placed}

abbrev pub most : ℕ
most = 2 ^ 64 - 1

-- of the constructs from the number n on
abbrev pub pair_counts_from : List Placed → ℕ → List Placed → List ℕ
pair_counts_from cs n [] = []
pair_counts_from cs n (c ∷ rest) = min (pairs_of cs n) most ∷ pair_counts_from cs (n + 1) rest

-- of all constructs in walk order
abbrev pub pair_counts_of : List Placed → List ℕ
pair_counts_of cs = pair_counts_from cs 0 cs
