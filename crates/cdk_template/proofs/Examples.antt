-- Small applications: their templates, the markers left in them and their counts, computed by the definitions.
use Rattle.std.proofs.Common.{◌≡◌, ℕ, List, [], ◌∷◌, codes, Option, Some, option_map, option_and_then, refl}
use Rattle.std.specs.Fmt.{digits}
use Rattle.serde_json.specs.Data.{Data}
use Rattle.serde_json.specs.Read.{read}
use Rattle.serde_json.proofs.OnLiterals.{serde_json_on_literals}
use Rattle.cdk_base.specs.declared.code.Code.TheVariants.{MarkerLeft}
use Rattle.cdk_language.specs.Application.{application_of}
use Rattle.cdk_tree.specs.Expected.{is_resource}
use Rattle.cdk_tree.specs.Placed.{Placed, constructs_of}
use Rattle.cdk_template.specs.Counts.{count_at, count_findings, count_of}
use Rattle.cdk_template.specs.Markers.{marker_findings}
use Rattle.cdk_template.specs.Own.{spelling_of}
use Rattle.cdk_template.specs.Template.{template_of}

abbrev tree : List ℕ → Option (List Placed)
tree s = option_map constructs_of (option_and_then application_of (read s))

-- of the stack that is the first child of the root
abbrev made : List ℕ → Option Data
made s = option_map (λ cs. template_of cs (spelling_of cs) 1) (tree s)

bucket : made (codes "{\"app\":\"2\",\"children\":[{\"kind\":\"stack\",\"id\":\"S\",\"description\":\"d\",\"children\":[{\"kind\":\"group\",\"id\":\"G\",\"children\":[{\"kind\":\"resource\",\"id\":\"B\",\"logicalId\":\"Kept\",\"type\":\"AWS::S3::Bucket\",\"deletionPolicy\":\"Retain\",\"updateReplacePolicy\":\"Delete\",\"properties\":{\"b\":[1,true,\"x\"],\"a\":{}}}]}]}]}")
    ≡ read (codes "{\"Description\":\"d\",\"Resources\":{\"Kept\":{\"DeletionPolicy\":\"Retain\",\"Metadata\":{\"aws:cdk:path\":\"S/G/B\"},\"Properties\":{\"a\":{},\"b\":[1,true,\"x\"]},\"Type\":\"AWS::S3::Bucket\",\"UpdateReplacePolicy\":\"Delete\"}}}")
unfolding serde_json_on_literals digits
bucket = refl

-- in the order of their logical names
two_resources : made (codes "{\"app\":\"2\",\"children\":[{\"kind\":\"stack\",\"id\":\"S\",\"description\":\"\",\"children\":[{\"kind\":\"resource\",\"id\":\"R\",\"type\":\"T\",\"properties\":{}},{\"kind\":\"resource\",\"id\":\"Q\",\"type\":\"U\",\"properties\":{\"p\":-1}}]}]}")
    ≡ read (codes "{\"Resources\":{\"Q\":{\"Metadata\":{\"aws:cdk:path\":\"S/Q\"},\"Properties\":{\"p\":-1},\"Type\":\"U\"},\"R\":{\"Metadata\":{\"aws:cdk:path\":\"S/R\"},\"Type\":\"T\"}}}")
unfolding serde_json_on_literals digits
two_resources = refl

nothing : made (codes "{\"app\":\"2\",\"children\":[{\"kind\":\"stack\",\"id\":\"S\",\"children\":[]}]}") ≡ read (codes "{}")
unfolding serde_json_on_literals digits
nothing = refl

-- a parameter, a condition, a mapping, a resource of the condition, and an output
all_kinds : made (codes "{\"app\":\"1\",\"children\":[{\"kind\":\"stack\",\"id\":\"S\",\"children\":[{\"kind\":\"parameter\",\"id\":\"Env\",\"type\":\"String\",\"default\":\"dev\"},{\"kind\":\"condition\",\"id\":\"IsProd\",\"expression\":{\"Fn::Equals\":[{\"Ref\":\"S/Env\"},\"prod\"]}},{\"kind\":\"mapping\",\"id\":\"M\",\"mappings\":{\"eu\":{\"n\":1}}},{\"kind\":\"resource\",\"id\":\"Q\",\"type\":\"Own::T\",\"condition\":\"S/IsProd\",\"properties\":{\"A\":{\"Fn::If\":[\"S/IsProd\",{\"Fn::FindInMap\":[\"S/M\",\"eu\",\"n\"]},{\"Ref\":\"AWS::NoValue\"}]}}},{\"kind\":\"output\",\"id\":\"O\",\"value\":{\"Ref\":\"S/Q\"}}]}]}")
    ≡ read (codes "{\"Conditions\":{\"IsProd\":{\"Fn::Equals\":[{\"Ref\":\"Env\"},\"prod\"]}},\"Mappings\":{\"M\":{\"eu\":{\"n\":1}}},\"Outputs\":{\"O\":{\"Value\":{\"Ref\":\"Q\"}}},\"Parameters\":{\"Env\":{\"Default\":\"dev\",\"Type\":\"String\"}},\"Resources\":{\"Q\":{\"Condition\":\"IsProd\",\"Metadata\":{\"aws:cdk:path\":\"S/Q\"},\"Properties\":{\"A\":{\"Fn::If\":[\"IsProd\",{\"Fn::FindInMap\":[\"M\",\"eu\",\"n\"]},{\"Ref\":\"AWS::NoValue\"}]}},\"Type\":\"Own::T\"}}}")
unfolding serde_json_on_literals digits
all_kinds = refl

-- all that an output may have
output : made (codes "{\"app\":\"1\",\"children\":[{\"kind\":\"stack\",\"id\":\"S\",\"children\":[{\"kind\":\"condition\",\"id\":\"C\",\"expression\":{\"Fn::Equals\":[\"a\",\"b\"]}},{\"kind\":\"output\",\"id\":\"O\",\"value\":1,\"description\":\"d\",\"exportName\":\"e\",\"condition\":\"S/C\"}]}]}")
    ≡ read (codes "{\"Conditions\":{\"C\":{\"Fn::Equals\":[\"a\",\"b\"]}},\"Outputs\":{\"O\":{\"Condition\":\"C\",\"Description\":\"d\",\"Export\":{\"Name\":\"e\"},\"Value\":1}}}")
unfolding serde_json_on_literals digits
output = refl

-- joined texts that make a marker
marker : option_map marker_findings (tree (codes "{\"app\":\"1\",\"children\":[{\"kind\":\"stack\",\"id\":\"S\",\"children\":[{\"kind\":\"resource\",\"id\":\"R\",\"type\":\"T\",\"properties\":{\"P\":{\"Fn::Join\":[\"\",[\"${Tok\",\"en[X.0]}\"]]}}}]}]}"))
    ≡ Some (count_at 1 MarkerLeft ∷ [])
unfolding serde_json_on_literals digits
marker = refl

no_marker : option_map marker_findings (tree (codes "{\"app\":\"1\",\"children\":[{\"kind\":\"stack\",\"id\":\"S\",\"children\":[{\"kind\":\"resource\",\"id\":\"R\",\"type\":\"T\",\"properties\":{\"P\":\"${Token\"}}]}]}")) ≡ Some []
unfolding serde_json_on_literals digits
no_marker = refl

-- resources of another stack don't count
counts : option_map (λ cs. count_of cs 1 is_resource) (tree (codes "{\"app\":\"2\",\"children\":[{\"kind\":\"stack\",\"id\":\"S\",\"children\":[{\"kind\":\"resource\",\"id\":\"R\",\"type\":\"T\",\"properties\":{}},{\"kind\":\"group\",\"id\":\"G\",\"children\":[{\"kind\":\"resource\",\"id\":\"R\",\"type\":\"T\",\"properties\":{}}]}]},{\"kind\":\"stack\",\"id\":\"U\",\"children\":[{\"kind\":\"resource\",\"id\":\"R\",\"type\":\"T\",\"properties\":{}}]}]}"))
    ≡ Some 2
unfolding serde_json_on_literals digits
counts = refl

few : option_map count_findings (tree (codes "{\"app\":\"2\",\"children\":[{\"kind\":\"stack\",\"id\":\"S\",\"children\":[{\"kind\":\"resource\",\"id\":\"R\",\"type\":\"T\",\"properties\":{}}]}]}")) ≡ Some []
unfolding serde_json_on_literals digits
few = refl
