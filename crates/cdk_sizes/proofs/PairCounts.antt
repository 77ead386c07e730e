-- The counts of pairs, by the numbers of constructs.
use Rattle.std.proofs.Common.{◌≡◌, ◌<◌, ℕ, zero, suc, ◌+◌, ◌*◌, List, [], ◌∷◌, length, min, Bool, true, false, Some, None, cond, get_or, refl, ap, arith}
use Rattle.cdk_dependencies.specs.Counts.{most, pair_counts_from, pair_counts_of}
use Rattle.cdk_dependencies.specs.Pairs.{pairs_of}
use Rattle.cdk_measure.specs.Wholes.{capped}
use Rattle.cdk_tree.specs.Placed.{Placed}

counts-length : (cs : List Placed) (n : ℕ) (rest : List Placed) → length (pair_counts_from cs n rest) ≡ length rest
counts-length cs n [] = refl
counts-length cs n (c ∷ rest) = ap suc (counts-length cs (n + 1) rest)

pub pair_counts-length : (cs : List Placed) → length (pair_counts_of cs) ≡ length cs
pair_counts-length cs = counts-length cs 0 cs

count_from : (cs : List Placed) (n i m : ℕ) (rest : List Placed) → i < length rest → m ≡ n + i → get_or (pair_counts_from cs n rest) i 0 ≡ min (pairs_of cs m) most
count_from cs n i m [] h e = absurd (omega (arith, h))
count_from cs n zero m (c ∷ rest) h e = let same : n ≡ m = omega (arith, e) in ap (λ k. min (pairs_of cs k) most) same
count_from cs n (suc i) m (c ∷ rest) h e = count_from cs (n + 1) i m rest (omega (arith, h)) (omega (arith, e))

pub pair_count : (cs : List Placed) (n : ℕ) → n < length cs → get_or (pair_counts_of cs) n 0 ≡ min (pairs_of cs n) most
pair_count cs n h = count_from cs 0 n n cs h (omega arith)

-- the number of a construct that there is
pub same_number : (b : Bool) (n m : ℕ) → Some m ≡ cond b (Some n) None → m ≡ n
same_number true n m h = cc
same_number false n m h = cc

-- what pairs count, where sums stop
pairs_within : (m a b : ℕ) → min (min a m + 16 * min b m) m ≡ min (a + 16 * b) m
pairs_within m a b = omega arith

pub capped_pairs : (a b : ℕ) → capped (capped a + 16 * capped b) ≡ capped (a + 16 * b)
capped_pairs a b = pairs_within most a b
