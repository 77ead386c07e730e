-- Values that are too large or too deep once all tokens and lazies are expanded (own limits).
use Rattle.std.specs.Prelude.{ℕ, ◌+◌, ◌*◌, ◌&&◌, List, [], ◌∷◌, ◌++◌, map, nat_lt, nat_le}
use Rattle.std.specs.Option.{option_map_or}
use Rattle.cdk_base.specs.declared.code.Code.{Code}
use Rattle.cdk_base.specs.declared.code.Code.TheVariants.{TooDeep, TooLarge}
use Rattle.cdk_expansion.specs.Conditions.{condition_of}
use Rattle.cdk_expansion.specs.Expanded.{plain_of}
use Rattle.cdk_language.specs.Construct as construct
use Rattle.cdk_language.specs.Construct.{Body}
use Rattle.cdk_plain.specs.Plain.{Plain}
use Rattle.cdk_dependencies.specs.Pairs.{pairs_of}
use Rattle.cdk_value_measures.specs.Constructs.{lazy_count, path_in}
use Rattle.cdk_value_measures.specs.Size.{condition_depth, condition_size, depth, size}
use Rattle.cdk_tokens.specs.Token.{Token}
use Rattle.cdk_tokens.specs.Whole.{MarkedBody, value_at}
use Rattle.cdk_tree.specs.Expected.{target_at}
use Rattle.cdk_tree.specs.PlaceFindings.{when}
use Rattle.cdk_tree.specs.Placed.{Placed, construct_at}
use Rattle.cdk_tree.specs.declared.role.Found.{Found}

-- the greatest sum of sizes of an application, in the order of the walk, and the greatest depth of a value
abbrev pub largest_sum : ℕ
largest_sum = 16000000

abbrev pub greatest_depth : ℕ
greatest_depth = 32

module _ (cs : List Placed) (ts : List Token) (ms : List MarkedBody) where
  -- of the marked value of a construct, where it has one
  abbrev pub of_value : {X : Type 0} → X → (Plain → X) → ℕ → X
  of_value none f n = option_map_or (λ d. f (plain_of (lazy_count cs) ts ms d)) (value_at ms n) none

  -- of the construct n with that body; lazies count only where they are expanded
  abbrev pub size_at : ℕ → Body → ℕ
  size_at n (construct.resource r) = of_value 0 (size (path_in cs)) n + 16 * pairs_of cs n
  size_at n (construct.output o) = of_value 0 (size (path_in cs)) n
  size_at n (construct.condition_body c) = condition_size (path_in cs) (condition_of (lazy_count cs) cs ts ms n c)
  size_at n b = 0

  abbrev pub depth_at : ℕ → Body → ℕ
  depth_at n (construct.resource r) = of_value 0 depth n
  depth_at n (construct.output o) = of_value 0 depth n
  depth_at n (construct.condition_body c) = condition_depth (condition_of (lazy_count cs) cs ts ms n c)
  depth_at n b = 0

  -- at the construct n; `before` is the sum of the sizes before it
  abbrev pub sizes_at : ℕ → ℕ → Body → List Code
  sizes_at before n b =
      when (nat_le before largest_sum && nat_lt largest_sum (before + size_at n b)) TooLarge ++ when (nat_lt greatest_depth (depth_at n b)) TooDeep

  -- of the constructs from the number n on
  abbrev pub size_findings_from : ℕ → ℕ → List Placed → List Found
  size_findings_from before n [] = []
  size_findings_from before n (c ∷ rest) = map (target_at n) (sizes_at before n c.body) ++ size_findings_from (before + size_at n c.body) (n + 1) rest

  -- in walk order, at one construct the lowest number first
  abbrev pub size_findings : List Found
  size_findings = size_findings_from 0 0 cs
