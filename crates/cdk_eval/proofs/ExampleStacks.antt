-- Worked reports of assemblies, by computation.
use Rattle.std.specs.Char.{encode_utf8}
use Rattle.std.specs.Str.{is_utf8, chars}
use Rattle.std.proofs.Common.{refl}
use Rattle.std.specs.Fmt.{digits}
use Rattle.serde_json.proofs.OnLiterals.{serde_json_on_literals}
use Rattle.std.specs.Prelude.{[], ◌∷◌}
use Rattle.cdk_eval.proofs.Shown.{Reports}

-- An attribute in another stack, by an export; the user stands before by name, and after by its dependency.
attribute_across_stacks : Reports
    (("out/manifest.json", "{\"artifacts\":{\"App\":{\"type\":\"aws:cloudformation:stack\",\"properties\":{\"templateFile\":\"App.template.json\"},\"dependencies\":[\"Data\",\"Tree\"]},\"Data\":{\"type\":\"aws:cloudformation:stack\",\"properties\":{\"templateFile\":\"Data.template.json\"}},\"Tree\":{\"type\":\"cdk:tree\",\"properties\":{\"file\":\"tree.json\"}}},\"version\":\"36.0.0\"}") ∷ ("out/Data.template.json", "{\"Resources\":{\"Bucket\":{\"Type\":\"AWS::S3::Bucket\"}},\"Outputs\":{\"ExportsOutputFnGetAttBucketArn436138FE\":{\"Value\":{\"Fn::GetAtt\":[\"Bucket\",\"Arn\"]},\"Export\":{\"Name\":\"Data:ExportsOutputFnGetAttBucketArn436138FE\"}}}}") ∷ ("out/App.template.json", "{\"Resources\":{\"Fn\":{\"Type\":\"AWS::Lambda::Function\",\"Properties\":{\"Bucket\":{\"Fn::ImportValue\":\"Data:ExportsOutputFnGetAttBucketArn436138FE\"}}}}}") ∷ [])
    "{}"
    "stack Data\nresource Bucket\noutput ExportsOutputFnGetAttBucketArn436138FE = \"Data.Bucket.Arn\"\nstack App\nresource Fn\n  \"Bucket\" = \"Data.Bucket.Arn\"\n"
unfolding serde_json_on_literals digits is_utf8 chars encode_utf8
attribute_across_stacks = refl

-- Three faults of properties.
three_faults : Reports
    (("out/manifest.json", "{\"artifacts\":{\"S\":{\"type\":\"aws:cloudformation:stack\",\"properties\":{\"templateFile\":\"S.template.json\"}}},\"version\":\"36.0.0\"}") ∷ ("out/S.template.json", "{\"Mappings\":{\"M\":{}},\"Conditions\":{\"T\":{\"Fn::Equals\":[\"a\",\"a\"]}},\"Resources\":{\"R\":{\"Type\":\"T\",\"Properties\":{\"A\":{\"Fn::Select\":[2,[\"a\",\"b\"]]},\"B\":{\"Fn::FindInMap\":[\"M\",\"x\",\"y\"]},\"C\":{\"Fn::Join\":[\"\",[\"a\",{\"Fn::If\":[\"T\",[\"x\"],\"y\"]}]]}}}}}") ∷ [])
    "{}"
    "stack S\nresource R\n  \"A\" ! NoItem\n  \"B\" ! NoMapping\n  \"C\" ! NotText\n"
unfolding serde_json_on_literals digits is_utf8 chars encode_utf8
three_faults = refl

-- What `AWS::NoValue` leaves.
no_value : Reports
    (("out/manifest.json", "{\"artifacts\":{\"S\":{\"type\":\"aws:cloudformation:stack\",\"properties\":{\"templateFile\":\"S.template.json\"}}},\"version\":\"36.0.0\"}") ∷ ("out/S.template.json", "{\"Resources\":{\"R\":{\"Type\":\"T\",\"Properties\":{\"A\":{\"Ref\":\"AWS::NoValue\"},\"B\":{\"x\":{\"Ref\":\"AWS::NoValue\"},\"y\":1},\"C\":[\"a\",{\"Ref\":\"AWS::NoValue\"}],\"D\":{\"Fn::Join\":[\"\",[\"a\",{\"Ref\":\"AWS::NoValue\"}]]}}}}}") ∷ [])
    "{}"
    "stack S\nresource R\n  \"A\" gone\n  \"B\" = {\"y\":1}\n  \"C\" = [\"a\"]\n  \"D\" = \"a\"\n"
unfolding serde_json_on_literals digits is_utf8 chars encode_utf8
no_value = refl

-- Resources and outputs by their conditions.
presence : Reports
    (("out/manifest.json", "{\"artifacts\":{\"S\":{\"type\":\"aws:cloudformation:stack\",\"properties\":{\"templateFile\":\"S.template.json\"}}},\"version\":\"36.0.0\"}") ∷ ("out/S.template.json", "{\"Conditions\":{\"F\":{\"Fn::Equals\":[\"a\",\"b\"]},\"G\":{\"Fn::Not\":[{\"Condition\":\"F\"}]}},\"Resources\":{\"A\":{\"Type\":\"T\",\"Properties\":{\"K\":1},\"Condition\":\"F\"},\"B\":{\"Type\":\"T\",\"Properties\":{\"K\":1},\"Condition\":\"G\"},\"C\":{\"Type\":\"T\",\"Properties\":{\"K\":1},\"Condition\":\"H\"},\"D\":{\"Type\":\"T\"}},\"Outputs\":{\"A\":{\"Value\":1,\"Condition\":\"F\"},\"B\":{\"Value\":1,\"Condition\":\"G\"},\"C\":{\"Value\":1,\"Condition\":\"H\"},\"D\":{\"Value\":{\"Ref\":\"AWS::NoValue\"}},\"E\":{\"Value\":[]}}}") ∷ [])
    "{}"
    "stack S\nresource A not made\nresource B\n  \"K\" = 1\nresource C ! UnknownName\nresource D\noutput A not made\noutput B = \"1\"\noutput C ! UnknownName\noutput D ! NotText\noutput E ! NotText\n"
unfolding serde_json_on_literals digits is_utf8 chars encode_utf8
presence = refl

-- `Properties` is no intrinsic, whatever its keys.
properties_like_intrinsics : Reports
    (("out/manifest.json", "{\"artifacts\":{\"S\":{\"type\":\"aws:cloudformation:stack\",\"properties\":{\"templateFile\":\"S.template.json\"}}},\"version\":\"36.0.0\"}") ∷ ("out/S.template.json", "{\"Resources\":{\"R\":{\"Type\":\"T\",\"Properties\":{\"Fn::X\":1,\"Ref\":\"R\"}}}}") ∷ [])
    "{}"
    "stack S\nresource R\n  \"Fn::X\" = 1\n  \"Ref\" = \"R\"\n"
unfolding serde_json_on_literals digits is_utf8 chars encode_utf8
properties_like_intrinsics = refl

-- Values from outside.
values_are_used : Reports
    (("out/manifest.json", "{\"artifacts\":{\"S\":{\"type\":\"aws:cloudformation:stack\",\"properties\":{\"templateFile\":\"S.template.json\"}}},\"version\":\"36.0.0\"}") ∷ ("out/S.template.json", "{\"Parameters\":{\"P\":{\"Type\":\"CommaDelimitedList\",\"Default\":\"d\"},\"Q\":{\"Type\":\"String\"}},\"Resources\":{\"R\":{\"Type\":\"T\",\"Properties\":{\"A\":{\"Ref\":\"R\"},\"B\":{\"Fn::GetAtt\":[\"R\",\"Arn\"]},\"C\":{\"Fn::GetAtt\":[\"R\",\"Id\"]},\"D\":{\"Ref\":\"P\"},\"E\":{\"Ref\":\"Q\"},\"F\":{\"Ref\":\"AWS::Region\"},\"G\":{\"Ref\":\"AWS::Partition\"},\"H\":{\"Fn::ImportValue\":\"E\"}}}}}") ∷ [])
    "{\"physical\":{\"S\":{\"R\":{\"Ref\":\"p\",\"GetAtt\":{\"Arn\":\"q\"}}}},\"parameters\":{\"S\":{\"P\":\"x, y\",\"Q\":\"z\"}},\"pseudo\":{\"AWS::Region\":\"eu\"},\"exports\":{\"E\":\"e\"}}"
    "stack S\nresource R\n  \"A\" = \"p\"\n  \"B\" = \"q\"\n  \"C\" = \"S.R.Id\"\n  \"D\" = [\"x\",\"y\"]\n  \"E\" = \"z\"\n  \"F\" = \"eu\"\n  \"G\" = \"aws\"\n  \"H\" = \"e\"\n"
unfolding serde_json_on_literals digits is_utf8 chars encode_utf8
values_are_used = refl

-- A stack doesn't see its own exports.
own_export : Reports
    (("out/manifest.json", "{\"artifacts\":{\"S\":{\"type\":\"aws:cloudformation:stack\",\"properties\":{\"templateFile\":\"S.template.json\"}}},\"version\":\"36.0.0\"}") ∷ ("out/S.template.json", "{\"Resources\":{\"R\":{\"Type\":\"T\",\"Properties\":{\"A\":{\"Fn::ImportValue\":\"E\"}}}},\"Outputs\":{\"O\":{\"Value\":\"o\",\"Export\":{\"Name\":\"E\"}}}}") ∷ [])
    "{}"
    "stack S\nresource R\n  \"A\" ! NoExport\noutput O = \"o\"\n"
unfolding serde_json_on_literals digits is_utf8 chars encode_utf8
own_export = refl

-- A stack doesn't see those of later stacks, and each sees those of earlier ones.
later_export : Reports
    (("out/manifest.json", "{\"artifacts\":{\"A\":{\"type\":\"aws:cloudformation:stack\",\"properties\":{\"templateFile\":\"A.template.json\"}},\"B\":{\"type\":\"aws:cloudformation:stack\",\"properties\":{\"templateFile\":\"B.template.json\"}},\"C\":{\"type\":\"aws:cloudformation:stack\",\"properties\":{\"templateFile\":\"C.template.json\"}}},\"version\":\"36.0.0\"}") ∷ ("out/A.template.json", "{\"Outputs\":{\"O\":{\"Value\":{\"Fn::ImportValue\":\"E\"}}}}") ∷ ("out/B.template.json", "{\"Outputs\":{\"O\":{\"Value\":\"b\",\"Export\":{\"Name\":\"E\"}}}}") ∷ ("out/C.template.json", "{\"Outputs\":{\"O\":{\"Value\":{\"Fn::ImportValue\":\"E\"}}}}") ∷ [])
    "{}"
    "stack A\noutput O ! NoExport\nstack B\noutput O = \"b\"\nstack C\noutput O = \"b\"\n"
unfolding serde_json_on_literals digits is_utf8 chars encode_utf8
later_export = refl

-- The first of two outputs with one export name gives its value; an output without text adds none.
one_export_name_twice : Reports
    (("out/manifest.json", "{\"artifacts\":{\"A\":{\"type\":\"aws:cloudformation:stack\",\"properties\":{\"templateFile\":\"A.template.json\"}},\"B\":{\"type\":\"aws:cloudformation:stack\",\"properties\":{\"templateFile\":\"B.template.json\"}},\"C\":{\"type\":\"aws:cloudformation:stack\",\"properties\":{\"templateFile\":\"C.template.json\"}}},\"version\":\"36.0.0\"}") ∷ ("out/A.template.json", "{\"Outputs\":{\"N\":{\"Value\":[],\"Export\":{\"Name\":\"E\"}},\"O\":{\"Value\":\"o\",\"Export\":{\"Name\":\"E\"}},\"P\":{\"Value\":\"p\",\"Export\":{\"Name\":\"E\"}}}}") ∷ ("out/B.template.json", "{\"Outputs\":{\"Q\":{\"Value\":\"q\",\"Export\":{\"Name\":\"E\"}}}}") ∷ ("out/C.template.json", "{\"Outputs\":{\"O\":{\"Value\":{\"Fn::ImportValue\":\"E\"}}}}") ∷ [])
    "{}"
    "stack A\noutput N ! NotText\noutput O = \"o\"\noutput P = \"p\"\nstack B\noutput Q = \"q\"\nstack C\noutput O = \"o\"\n"
unfolding serde_json_on_literals digits is_utf8 chars encode_utf8
one_export_name_twice = refl

-- An outside export counts where no template has its name as a literal, whether that output is made or not.
outside_exports_of_literal_names : Reports
    (("out/manifest.json", "{\"artifacts\":{\"A\":{\"type\":\"aws:cloudformation:stack\",\"properties\":{\"templateFile\":\"A.template.json\"}},\"B\":{\"type\":\"aws:cloudformation:stack\",\"properties\":{\"templateFile\":\"B.template.json\"}}},\"version\":\"36.0.0\"}") ∷ ("out/A.template.json", "{\"Conditions\":{\"No\":{\"Fn::Equals\":[\"a\",\"b\"]}},\"Outputs\":{\"O\":{\"Value\":\"o\",\"Export\":{\"Name\":\"E\"},\"Condition\":\"No\"},\"P\":{\"Value\":\"p\",\"Export\":{\"Name\":5}}}}") ∷ ("out/B.template.json", "{\"Outputs\":{\"O\":{\"Value\":{\"Fn::ImportValue\":\"E\"}},\"P\":{\"Value\":{\"Fn::ImportValue\":\"F\"}},\"Q\":{\"Value\":{\"Fn::ImportValue\":\"5\"}}}}") ∷ [])
    "{\"exports\":{\"E\":\"e\",\"F\":\"f\",\"5\":\"five\"}}"
    "stack A\noutput O not made\noutput P = \"p\"\nstack B\noutput O ! NoExport\noutput P = \"f\"\noutput Q = \"five\"\n"
unfolding serde_json_on_literals digits is_utf8 chars encode_utf8
outside_exports_of_literal_names = refl

-- A fault of an export's name comes after one of the value.
faults_of_export_names : Reports
    (("out/manifest.json", "{\"artifacts\":{\"S\":{\"type\":\"aws:cloudformation:stack\",\"properties\":{\"templateFile\":\"S.template.json\"}}},\"version\":\"36.0.0\"}") ∷ ("out/S.template.json", "{\"Outputs\":{\"A\":{\"Value\":\"a\",\"Export\":{\"Name\":null}},\"B\":{\"Value\":[],\"Export\":{\"Name\":null}},\"C\":{\"Value\":\"c\",\"Export\":{\"Name\":{\"Ref\":\"AWS::NoValue\"}}},\"D\":{\"Value\":{\"Ref\":\"Nope\"},\"Export\":{\"Name\":{\"Ref\":\"AWS::NoValue\"}}}}}") ∷ [])
    "{}"
    "stack S\noutput A ! BadIntrinsic\noutput B ! NotText\noutput C ! NotText\noutput D ! UnknownName\n"
unfolding serde_json_on_literals digits is_utf8 chars encode_utf8
faults_of_export_names = refl

-- Nested assemblies come after the own stacks, with exports handed on; a stack may have a name of its own.
nested_after_own : Reports
    (("out/manifest.json", "{\"artifacts\":{\"A\":{\"type\":\"cdk:cloud-assembly\",\"properties\":{\"directoryName\":\"n\"}},\"B\":{\"type\":\"aws:cloudformation:stack\",\"properties\":{\"templateFile\":\"B.template.json\",\"stackName\":\"Big\"}}},\"version\":\"36.0.0\"}") ∷ ("out/n/manifest.json", "{\"artifacts\":{\"C\":{\"type\":\"aws:cloudformation:stack\",\"properties\":{\"templateFile\":\"C.template.json\"}}},\"version\":\"36.0.0\"}") ∷ ("out/B.template.json", "{\"Outputs\":{\"O\":{\"Value\":{\"Ref\":\"AWS::StackName\"},\"Export\":{\"Name\":\"E\"}}}}") ∷ ("out/n/C.template.json", "{\"Outputs\":{\"O\":{\"Value\":{\"Fn::ImportValue\":\"E\"}}}}") ∷ [])
    "{}"
    "stack Big\noutput O = \"Big\"\nstack C\noutput O = \"Big\"\n"
unfolding serde_json_on_literals digits is_utf8 chars encode_utf8
nested_after_own = refl
