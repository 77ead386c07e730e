-- Small applications: the sizes and depths of what their constructs have, computed by the definitions.
use Rattle.std.proofs.Common.{◌≡◌, ℕ, List, [], ◌∷◌, codes, Option, Some, option_map, option_and_then, refl}
use Rattle.std.specs.Fmt.{digits}
use Rattle.serde_json.specs.Read.{read}
use Rattle.serde_json.proofs.OnLiterals.{serde_json_on_literals}
use Rattle.cdk_base.specs.declared.code.Code.{Code}
use Rattle.cdk_base.specs.declared.code.Code.TheVariants.{TooDeep, TooLarge}
use Rattle.cdk_language.specs.Application.{application_of}
use Rattle.cdk_sizes.specs.SizeFindings.{depth_at, size_at, size_findings, sizes_at}
use Rattle.cdk_tokens.specs.Whole.{marking, tokens_of}
use Rattle.cdk_tree.specs.Expected.{target_at}
use Rattle.cdk_tree.specs.Placed.{Placed, construct_at, constructs_of}
use Rattle.cdk_tree.specs.declared.role.Found.{Found}

abbrev tree : List ℕ → Option (List Placed)
tree s = option_map constructs_of (option_and_then application_of (read s))

-- of the construct of the number
abbrev size_in : ℕ → List ℕ → Option ℕ
size_in n s = option_map (λ cs. size_at cs (tokens_of cs) (marking cs) n (construct_at cs n).body) (tree s)

abbrev depth_in : ℕ → List ℕ → Option ℕ
depth_in n s = option_map (λ cs. depth_at cs (tokens_of cs) (marking cs) n (construct_at cs n).body) (tree s)

abbrev found : List ℕ → Option (List Found)
found s = option_map (λ cs. size_findings cs (tokens_of cs) (marking cs)) (tree s)

-- with the sum of the sizes before it
abbrev codes_in : ℕ → ℕ → List ℕ → Option (List Code)
codes_in before n s = option_map (λ cs. sizes_at cs (tokens_of cs) (marking cs) before n (construct_at cs n).body) (tree s)

-- 16 each for the object, the Join, its array and two texts; 1 each for the key and the delimiter, and 3 for the texts
join_size : size_in 2 (codes "{\"app\":\"2\",\"children\":[{\"children\":[{\"id\":\"R\",\"kind\":\"resource\",\"properties\":{\"P\":{\"Fn::Join\":[\",\",[\"a\",\"bc\"]]}},\"type\":\"T\"}],\"id\":\"S\",\"kind\":\"stack\"}]}") ≡ Some 85
unfolding serde_json_on_literals digits
join_size = refl

-- the object, the Join with its array, and a text
join_depth : depth_in 2 (codes "{\"app\":\"2\",\"children\":[{\"children\":[{\"id\":\"R\",\"kind\":\"resource\",\"properties\":{\"P\":{\"Fn::Join\":[\",\",[\"a\",\"bc\"]]}},\"type\":\"T\"}],\"id\":\"S\",\"kind\":\"stack\"}]}") ≡ Some 3
unfolding serde_json_on_literals digits
join_depth = refl

-- what is no array counts besides: the object, the Select, the Split and its text
select_depth : depth_in 2 (codes "{\"app\":\"2\",\"children\":[{\"children\":[{\"id\":\"R\",\"kind\":\"resource\",\"properties\":{\"P\":{\"Fn::Select\":[0,{\"Fn::Split\":[\",\",\"a,b\"]}]}},\"type\":\"T\"}],\"id\":\"S\",\"kind\":\"stack\"}]}") ≡ Some 4
unfolding serde_json_on_literals digits
select_depth = refl

-- a text of 2 bytes, and a target whose path has 3
concat_size : size_in 2 (codes "{\"app\":\"2\",\"children\":[{\"children\":[{\"id\":\"R\",\"kind\":\"resource\",\"properties\":{\"P\":{\"CDK::Concat\":[\"b-\",{\"Ref\":\"S/Q\"}]}},\"type\":\"T\"},{\"id\":\"Q\",\"kind\":\"resource\",\"properties\":{},\"type\":\"T\"}],\"id\":\"S\",\"kind\":\"stack\"}]}") ≡ Some 70
unfolding serde_json_on_literals digits
concat_size = refl

concat_depth : depth_in 2 (codes "{\"app\":\"2\",\"children\":[{\"children\":[{\"id\":\"R\",\"kind\":\"resource\",\"properties\":{\"P\":{\"CDK::Concat\":[\"b-\",{\"Ref\":\"S/Q\"}]}},\"type\":\"T\"},{\"id\":\"Q\",\"kind\":\"resource\",\"properties\":{},\"type\":\"T\"}],\"id\":\"S\",\"kind\":\"stack\"}]}") ≡ Some 3
unfolding serde_json_on_literals digits
concat_depth = refl

-- the object, two arrays and the text
nested_array_depth : depth_in 2 (codes "{\"app\":\"2\",\"children\":[{\"children\":[{\"id\":\"R\",\"kind\":\"resource\",\"properties\":{\"P\":[[\"x\"]]},\"type\":\"T\"}],\"id\":\"S\",\"kind\":\"stack\"}]}") ≡ Some 4
unfolding serde_json_on_literals digits
nested_array_depth = refl

-- an array in an If is a level of its own
choice_depth : depth_in 2 (codes "{\"app\":\"2\",\"children\":[{\"children\":[{\"id\":\"R\",\"kind\":\"resource\",\"properties\":{\"P\":{\"Fn::If\":[\"S/C\",[\"x\"],\"y\"]}},\"type\":\"T\"},{\"expression\":{\"Fn::Equals\":[\"a\",\"b\"]},\"id\":\"C\",\"kind\":\"condition\"}],\"id\":\"S\",\"kind\":\"stack\"}]}") ≡ Some 4
unfolding serde_json_on_literals digits
choice_depth = refl

-- the Not and the Equals, a pseudo parameter's name of 11 bytes, and a text
condition_size : size_in 2 (codes "{\"app\":\"2\",\"children\":[{\"children\":[{\"expression\":{\"Fn::Not\":[{\"Fn::Equals\":[{\"Ref\":\"AWS::Region\"},\"x\"]}]},\"id\":\"C\",\"kind\":\"condition\"}],\"id\":\"S\",\"kind\":\"stack\"}]}") ≡ Some 76
unfolding serde_json_on_literals digits
condition_size = refl

condition_depth : depth_in 2 (codes "{\"app\":\"2\",\"children\":[{\"children\":[{\"expression\":{\"Fn::Not\":[{\"Fn::Equals\":[{\"Ref\":\"AWS::Region\"},\"x\"]}]},\"id\":\"C\",\"kind\":\"condition\"}],\"id\":\"S\",\"kind\":\"stack\"}]}") ≡ Some 3
unfolding serde_json_on_literals digits
condition_depth = refl

-- a lazy of 19 counts wherever it is expanded
lazy_twice : size_in 2 (codes "{\"app\":\"2\",\"children\":[{\"children\":[{\"id\":\"R\",\"kind\":\"resource\",\"properties\":{\"P\":{\"CDK::Lazy\":\"S/L\"},\"Q\":{\"CDK::Lazy\":\"S/L\"}},\"type\":\"T\"},{\"id\":\"L\",\"kind\":\"lazy\",\"value\":\"abc\"}],\"id\":\"S\",\"kind\":\"stack\"}]}") ≡ Some 56
unfolding serde_json_on_literals digits
lazy_twice = refl

-- and not by itself
lazy_alone : size_in 3 (codes "{\"app\":\"2\",\"children\":[{\"children\":[{\"id\":\"R\",\"kind\":\"resource\",\"properties\":{\"P\":{\"CDK::Lazy\":\"S/L\"},\"Q\":{\"CDK::Lazy\":\"S/L\"}},\"type\":\"T\"},{\"id\":\"L\",\"kind\":\"lazy\",\"value\":\"abc\"}],\"id\":\"S\",\"kind\":\"stack\"}]}") ≡ Some 0
unfolding serde_json_on_literals digits
lazy_alone = refl

-- its own entry and both of its scope's: three pairs beside the empty object
pairs : size_in 5 (codes "{\"app\":\"2\",\"children\":[{\"children\":[{\"id\":\"A\",\"kind\":\"resource\",\"properties\":{},\"type\":\"T\"},{\"id\":\"B\",\"kind\":\"resource\",\"properties\":{},\"type\":\"T\"},{\"children\":[{\"dependsOn\":[\"S/A\"],\"id\":\"C\",\"kind\":\"resource\",\"properties\":{},\"type\":\"T\"}],\"dependsOn\":[\"S/A\",\"S/B\"],\"id\":\"G\",\"kind\":\"group\"}],\"id\":\"S\",\"kind\":\"stack\"}]}") ≡ Some 64
unfolding serde_json_on_literals digits
pairs = refl

-- 32 levels above the text
too_deep : found (codes "{\"app\":\"2\",\"children\":[{\"children\":[{\"id\":\"R\",\"kind\":\"resource\",\"properties\":{\"P\":[[[[[[[[[[[[[[[[[[[[[[[[[[[[[[[\"x\"]]]]]]]]]]]]]]]]]]]]]]]]]]]]]]]},\"type\":\"T\"}],\"id\":\"S\",\"kind\":\"stack\"}]}") ≡ Some (target_at 2 TooDeep ∷ [])
unfolding serde_json_on_literals digits
too_deep = refl

deep_enough : found (codes "{\"app\":\"2\",\"children\":[{\"children\":[{\"id\":\"R\",\"kind\":\"resource\",\"properties\":{\"P\":[[[[[[[[[[[[[[[[[[[[[[[[[[[[[[\"x\"]]]]]]]]]]]]]]]]]]]]]]]]]]]]]]},\"type\":\"T\"}],\"id\":\"S\",\"kind\":\"stack\"}]}") ≡ Some []
unfolding serde_json_on_literals digits
deep_enough = refl

-- the sum passes the limit here, and the value is too deep besides
too_large : codes_in 16000000 2 (codes "{\"app\":\"2\",\"children\":[{\"children\":[{\"id\":\"R\",\"kind\":\"resource\",\"properties\":{\"P\":[[[[[[[[[[[[[[[[[[[[[[[[[[[[[[[\"x\"]]]]]]]]]]]]]]]]]]]]]]]]]]]]]]]},\"type\":\"T\"}],\"id\":\"S\",\"kind\":\"stack\"}]}") ≡ Some (TooLarge ∷ TooDeep ∷ [])
unfolding serde_json_on_literals digits
too_large = refl

-- it has passed it before
large_before : codes_in 16000001 2 (codes "{\"app\":\"2\",\"children\":[{\"children\":[{\"id\":\"R\",\"kind\":\"resource\",\"properties\":{\"P\":{\"Fn::Join\":[\",\",[\"a\",\"bc\"]]}},\"type\":\"T\"}],\"id\":\"S\",\"kind\":\"stack\"}]}") ≡ Some []
unfolding serde_json_on_literals digits
large_before = refl

large_enough : codes_in 15999915 2 (codes "{\"app\":\"2\",\"children\":[{\"children\":[{\"id\":\"R\",\"kind\":\"resource\",\"properties\":{\"P\":{\"Fn::Join\":[\",\",[\"a\",\"bc\"]]}},\"type\":\"T\"}],\"id\":\"S\",\"kind\":\"stack\"}]}") ≡ Some []
unfolding serde_json_on_literals digits
large_enough = refl

one_more : codes_in 15999916 2 (codes "{\"app\":\"2\",\"children\":[{\"children\":[{\"id\":\"R\",\"kind\":\"resource\",\"properties\":{\"P\":{\"Fn::Join\":[\",\",[\"a\",\"bc\"]]}},\"type\":\"T\"}],\"id\":\"S\",\"kind\":\"stack\"}]}") ≡ Some (TooLarge ∷ [])
unfolding serde_json_on_literals digits
one_more = refl
