-- Small documents, and whether the applications that they are are carried.
use Rattle.std.proofs.Common.{◌≡◌, List, ℕ, ◌++◌, codes, Bool, true, false, Option, Some, option_map, option_and_then, refl}
use Rattle.std.specs.Fmt.{digits}
use Rattle.serde_json.specs.Read.{read}
use Rattle.serde_json.proofs.OnLiterals.{serde_json_on_literals}
use Rattle.cdk_language.specs.Application.{application_of}
use Rattle.cdk_carried.specs.Carried.{is_carried}

abbrev carried : List ℕ → Option Bool
carried document = option_map is_carried (option_and_then application_of (read document))

-- an application whose children these are
abbrev with_children : List ℕ → List ℕ
with_children children = codes "{\"app\":\"1\",\"children\":[" ++ children ++ codes "]}"

-- an application of one stack, whose children these are
abbrev in_stack : List ℕ → List ℕ
in_stack children = with_children (codes "{\"kind\":\"stack\",\"id\":\"S\",\"children\":[" ++ children ++ codes "]}")

no_stack : carried (with_children (codes "")) ≡ Some true
unfolding serde_json_on_literals digits
no_stack = refl

one_stack : carried (with_children (codes "{\"kind\":\"group\",\"id\":\"G\",\"children\":[{\"kind\":\"stack\",\"id\":\"S\",\"description\":\"d\",\"children\":[{\"kind\":\"group\",\"id\":\"H\",\"children\":[{\"kind\":\"resource\",\"id\":\"R\",\"type\":\"Own::T\",\"logicalId\":\"Kept\",\"deletionPolicy\":\"Retain\",\"properties\":{\"P\":[true,\"x\",{\"k\":1}]}}]}]}]}")) ≡ Some true
unfolding serde_json_on_literals digits
one_stack = refl

two_stacks : carried (with_children (codes "{\"kind\":\"stack\",\"id\":\"S\"},{\"kind\":\"group\",\"id\":\"G\",\"children\":[{\"kind\":\"stack\",\"id\":\"T\"}]}")) ≡ Some false
unfolding serde_json_on_literals digits
two_stacks = refl

stage : carried (with_children (codes "{\"kind\":\"stage\",\"id\":\"S\"}")) ≡ Some false
unfolding serde_json_on_literals digits
stage = refl

stage_of_a_group : carried (with_children (codes "{\"kind\":\"group\",\"id\":\"G\",\"children\":[{\"kind\":\"stage\",\"id\":\"S\"}]}")) ≡ Some false
unfolding serde_json_on_literals digits
stage_of_a_group = refl

contexts : carried (codes "{\"app\":\"1\",\"context\":{\"k\":1},\"children\":[{\"kind\":\"group\",\"id\":\"G\",\"context\":{\"k\":[2]}}]}") ≡ Some true
unfolding serde_json_on_literals digits
contexts = refl

aspect : carried (codes "{\"app\":\"1\",\"aspects\":[{\"name\":\"n\",\"with\":1}],\"children\":[]}") ≡ Some false
unfolding serde_json_on_literals digits
aspect = refl

aspect_of_a_resource : carried (in_stack (codes "{\"kind\":\"resource\",\"id\":\"R\",\"type\":\"Own::T\",\"aspects\":[{\"name\":\"n\",\"with\":1}]}")) ≡ Some false
unfolding serde_json_on_literals digits
aspect_of_a_resource = refl

depends : carried (with_children (codes "{\"kind\":\"group\",\"id\":\"G\",\"dependsOn\":[\"H\"]}")) ≡ Some false
unfolding serde_json_on_literals digits
depends = refl

empty_heads : carried (codes "{\"app\":\"1\",\"context\":{},\"aspects\":[],\"children\":[{\"kind\":\"group\",\"id\":\"G\",\"dependsOn\":[]}]}") ≡ Some true
unfolding serde_json_on_literals digits
empty_heads = refl

parameter : carried (in_stack (codes "{\"kind\":\"parameter\",\"id\":\"P\",\"type\":\"String\",\"default\":\"d\"}")) ≡ Some true
unfolding serde_json_on_literals digits
parameter = refl

mapping : carried (in_stack (codes "{\"kind\":\"mapping\",\"id\":\"M\",\"mappings\":{\"a\":{\"b\":1}}}")) ≡ Some true
unfolding serde_json_on_literals digits
mapping = refl

condition : carried (in_stack (codes "{\"kind\":\"condition\",\"id\":\"C\",\"expression\":{\"Fn::Equals\":[{\"Ref\":\"S/P\"},\"x\"]}}")) ≡ Some true
unfolding serde_json_on_literals digits
condition = refl

condition_of_a_resource : carried (in_stack (codes "{\"kind\":\"resource\",\"id\":\"R\",\"type\":\"Own::T\",\"condition\":\"S/C\"}")) ≡ Some true
unfolding serde_json_on_literals digits
condition_of_a_resource = refl

lazy : carried (with_children (codes "{\"kind\":\"lazy\",\"id\":\"L\",\"value\":{\"CDK::Lazy\":\"L\"}}")) ≡ Some true
unfolding serde_json_on_literals digits
lazy = refl

output : carried (in_stack (codes "{\"kind\":\"output\",\"id\":\"O\",\"value\":{\"Ref\":\"S/R\"},\"description\":\"d\",\"condition\":\"S/C\"}")) ≡ Some true
unfolding serde_json_on_literals digits
output = refl

exported_output : carried (in_stack (codes "{\"kind\":\"output\",\"id\":\"O\",\"value\":\"v\",\"exportName\":\"e\"}")) ≡ Some false
unfolding serde_json_on_literals digits
exported_output = refl

exported_output_of_a_group : carried (in_stack (codes "{\"kind\":\"group\",\"id\":\"G\",\"children\":[{\"kind\":\"output\",\"id\":\"O\",\"value\":\"v\",\"exportName\":\"e\"}]}")) ≡ Some false
unfolding serde_json_on_literals digits
exported_output_of_a_group = refl

expressions : carried (in_stack (codes "{\"kind\":\"resource\",\"id\":\"R\",\"type\":\"Own::T\",\"properties\":{\"A\":{\"Fn::Join\":[\",\",{\"Fn::Split\":[\"-\",{\"Ref\":\"S/P\"}]}]},\"B\":{\"Fn::If\":[\"S/C\",{\"Fn::GetAtt\":[\"S/Q\",\"Arn\"]},{\"Fn::ImportValue\":\"e\"}]},\"C\":{\"CDK::Concat\":[\"a\",{\"CDK::Context\":[\"k\",\"d\"]},{\"CDK::Lazy\":\"L\"}]},\"D\":{\"Fn::Select\":[0,[{\"Ref\":\"AWS::Region\"}]]}}}")) ≡ Some true
unfolding serde_json_on_literals digits
expressions = refl

-- no depth is refused here
deep : carried (in_stack (codes "{\"kind\":\"resource\",\"id\":\"R\",\"type\":\"Own::T\",\"properties\":{\"P\":[[[[[[[[[[[[[[[[[[[[[[[[[[[[[[[[[[[[[[[[]]]]]]]]]]]]]]]]]]]]]]]]]]]]]]]]]]]]]]]]}}")) ≡ Some true
unfolding serde_json_on_literals digits
deep = refl
