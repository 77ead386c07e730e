-- Worked texts of reports, by computation.
use Rattle.std.specs.Prelude.{◌≡◌, List, [], ◌∷◌, map, Bool, true, false, unwrap_or, codes, refl}
use Prim.Native.String.{String}
use Rattle.std.specs.Char.{encode_utf8}
use Rattle.std.specs.Fmt.{digits}
use Rattle.std.specs.Str.{is_utf8, chars}
use Rattle.serde_json.specs.Data.{Data, null}
use Rattle.serde_json.specs.Read.{read}
use Rattle.serde_json.proofs.OnLiterals.{serde_json_on_literals}
use Rattle.cdk_eval.specs.declared.fault.EvalFault.TheVariants.{NotText}
use Rattle.cdk_eval.specs.Outcomes.{Fault, Holds, OutputNotMade}
use Rattle.cdk_eval.specs.Stack.{Stack, StackOutcome}
use Rattle.cdk_eval.specs.Assembly.{assembly_outcome}
use Rattle.cdk_eval.specs.ValuesFile.{values_of}
use Rattle.cdk_printing.specs.Lines.{report_text, has_fault}

abbrev json : String → Data
json text = unwrap_or (read (codes text)) null

abbrev stack_of : String × String → Stack
stack_of s = record { name = codes s.0; template = json s.1 }

-- the text of these stacks, by name and template, under a values file, and whether it has a fault
abbrev Prints : List (String × String) → String → String → Bool → Type 0
Prints stacks values text faulty =
    (report_text (assembly_outcome (values_of (json values)) (map stack_of stacks)) ≡ codes text)
    × (has_fault (assembly_outcome (values_of (json values)) (map stack_of stacks)) ≡ faulty)

nothing : Prints [] "{}" "" false
nothing = (refl, refl)

attribute_across_stacks : Prints
    (("Data", "{\"Resources\":{\"Bucket\":{\"Type\":\"AWS::S3::Bucket\"}},\"Outputs\":{\"ExportsOutputFnGetAttBucketArn436138FE\":{\"Value\":{\"Fn::GetAtt\":[\"Bucket\",\"Arn\"]},\"Export\":{\"Name\":\"Data:ExportsOutputFnGetAttBucketArn436138FE\"}}}}") ∷ ("Svc", "{\"Resources\":{\"Fn\":{\"Type\":\"AWS::Lambda::Function\",\"Properties\":{\"Bucket\":{\"Fn::ImportValue\":\"Data:ExportsOutputFnGetAttBucketArn436138FE\"}}}}}") ∷ [])
    "{}"
    "stack Data\nresource Bucket\noutput ExportsOutputFnGetAttBucketArn436138FE = \"Data.Bucket.Arn\"\nstack Svc\nresource Fn\n  \"Bucket\" = \"Data.Bucket.Arn\"\n"
    false
unfolding serde_json_on_literals digits is_utf8 chars encode_utf8
attribute_across_stacks = (refl, refl)

list_across_stacks : Prints
    (("A", "{\"Parameters\":{\"P\":{\"Type\":\"CommaDelimitedList\",\"Default\":\"a, b\"}},\"Outputs\":{\"ExportsOutputRefPB8E10312\":{\"Value\":{\"Fn::Join\":[\"||\",{\"Ref\":\"P\"}]},\"Export\":{\"Name\":\"E\"}}}}") ∷ ("B", "{\"Resources\":{\"R\":{\"Type\":\"Own::T\",\"Properties\":{\"L\":{\"Fn::Split\":[\"||\",{\"Fn::ImportValue\":\"E\"}]}}}}}") ∷ [])
    "{}"
    "stack A\noutput ExportsOutputRefPB8E10312 = \"a||b\"\nstack B\nresource R\n  \"L\" = [\"a\",\"b\"]\n"
    false
unfolding serde_json_on_literals digits is_utf8 chars encode_utf8
list_across_stacks = (refl, refl)

list_with_a_bar : Prints
    (("A", "{\"Parameters\":{\"P\":{\"Type\":\"CommaDelimitedList\",\"Default\":\"a, b\"}},\"Outputs\":{\"ExportsOutputRefPB8E10312\":{\"Value\":{\"Fn::Join\":[\"||\",{\"Ref\":\"P\"}]},\"Export\":{\"Name\":\"E\"}}}}") ∷ ("B", "{\"Resources\":{\"R\":{\"Type\":\"Own::T\",\"Properties\":{\"L\":{\"Fn::Split\":[\"||\",{\"Fn::ImportValue\":\"E\"}]}}}}}") ∷ [])
    "{\"parameters\":{\"A\":{\"P\":\"x|,y\"}}}"
    "stack A\noutput ExportsOutputRefPB8E10312 = \"x|||y\"\nstack B\nresource R\n  \"L\" = [\"x\",\"|y\"]\n"
    false
unfolding serde_json_on_literals digits is_utf8 chars encode_utf8
list_with_a_bar = (refl, refl)

condition_of_itself : Prints
    (("S", "{\"Conditions\":{\"C\":{\"Condition\":\"C\"}},\"Resources\":{\"R\":{\"Type\":\"T\",\"Condition\":\"C\"}}}") ∷ [])
    "{}"
    "stack S\nresource R ! ConditionLoop\n"
    true
unfolding serde_json_on_literals digits is_utf8 chars encode_utf8
condition_of_itself = (refl, refl)

no_value : Prints
    (("S", "{\"Resources\":{\"R\":{\"Type\":\"Own::T\",\"Properties\":{\"A\":{\"Ref\":\"AWS::NoValue\"},\"B\":{\"x\":{\"Ref\":\"AWS::NoValue\"},\"y\":1},\"C\":[\"a\",{\"Ref\":\"AWS::NoValue\"}],\"D\":{\"Fn::Join\":[\"\",[\"a\",{\"Ref\":\"AWS::NoValue\"}]]}}}}}") ∷ [])
    "{}"
    "stack S\nresource R\n  \"A\" gone\n  \"B\" = {\"y\":1}\n  \"C\" = [\"a\"]\n  \"D\" = \"a\"\n"
    false
unfolding serde_json_on_literals digits is_utf8 chars encode_utf8
no_value = (refl, refl)

import_without_export : Prints
    (("Data", "{\"Parameters\":{\"Env\":{\"Type\":\"String\",\"Default\":\"dev\"}},\"Conditions\":{\"IsProd\":{\"Fn::Equals\":[{\"Ref\":\"Env\"},\"prod\"]}},\"Resources\":{\"Bucket\":{\"Type\":\"AWS::S3::Bucket\",\"Condition\":\"IsProd\"}},\"Outputs\":{\"ExportsOutputFnGetAttBucketArn436138FE\":{\"Value\":{\"Fn::GetAtt\":[\"Bucket\",\"Arn\"]},\"Condition\":\"IsProd\",\"Export\":{\"Name\":\"E\"}}}}") ∷ ("Svc", "{\"Parameters\":{\"Flag\":{\"Type\":\"String\",\"Default\":\"no\"}},\"Conditions\":{\"UseIt\":{\"Fn::Equals\":[{\"Ref\":\"Flag\"},\"yes\"]}},\"Resources\":{\"Fn\":{\"Type\":\"AWS::Lambda::Function\",\"Properties\":{\"A\":{\"Fn::If\":[\"UseIt\",{\"Fn::ImportValue\":\"E\"},\"none\"]}}}}}") ∷ [])
    "{\"parameters\":{\"Svc\":{\"Flag\":\"yes\"}}}"
    "stack Data\nresource Bucket not made\noutput ExportsOutputFnGetAttBucketArn436138FE not made\nstack Svc\nresource Fn\n  \"A\" ! NoExport\n"
    true
unfolding serde_json_on_literals digits is_utf8 chars encode_utf8
import_without_export = (refl, refl)

three_faults : Prints
    (("S", "{\"Mappings\":{\"M\":{}},\"Conditions\":{\"T\":{\"Fn::Equals\":[\"a\",\"a\"]}},\"Resources\":{\"R\":{\"Type\":\"Own::T\",\"Properties\":{\"A\":{\"Fn::Select\":[2,[\"a\",\"b\"]]},\"B\":{\"Fn::FindInMap\":[\"M\",\"x\",\"y\"]},\"C\":{\"Fn::Join\":[\"\",[\"a\",{\"Fn::If\":[\"T\",[\"x\"],\"y\"]}]]}}}}}") ∷ [])
    "{}"
    "stack S\nresource R\n  \"A\" ! NoItem\n  \"B\" ! NoMapping\n  \"C\" ! NotText\n"
    true
unfolding serde_json_on_literals digits is_utf8 chars encode_utf8
three_faults = (refl, refl)

unknown_name : Prints
    (("S", "{\"Resources\":{\"R\":{\"Type\":\"T\",\"Properties\":{\"P\":{\"Fn::Sub\":\"${X}\"}}}}}") ∷ [])
    "{}"
    "stack S\nresource R\n  \"P\" ! UnknownName\n"
    true
unfolding serde_json_on_literals digits is_utf8 chars encode_utf8
unknown_name = (refl, refl)

sub_without_a_brace : Prints
    (("S", "{\"Resources\":{\"R\":{\"Type\":\"T\",\"Properties\":{\"P\":{\"Fn::Sub\":\"${\"}}}}}") ∷ [])
    "{}"
    "stack S\nresource R\n  \"P\" ! BadIntrinsic\n"
    true
unfolding serde_json_on_literals digits is_utf8 chars encode_utf8
sub_without_a_brace = (refl, refl)

-- a resource without properties, made by conditions of which one names another twice
doubled_condition : Prints
    (("S", "{\"Conditions\":{\"C0\":{\"Fn::And\":[{\"Condition\":\"C1\"},{\"Condition\":\"C1\"}]},\"C1\":{\"Fn::Equals\":[\"a\",\"a\"]}},\"Resources\":{\"R\":{\"Type\":\"T\",\"Condition\":\"C0\"}}}") ∷ [])
    "{}"
    "stack S\nresource R\n"
    false
unfolding serde_json_on_literals digits is_utf8 chars encode_utf8
doubled_condition = (refl, refl)

-- a fault of an output alone
output_fault : Prints
    (("S", "{\"Outputs\":{\"O\":{\"Value\":[]}}}") ∷ [])
    "{}"
    "stack S\noutput O ! NotText\n"
    true
unfolding serde_json_on_literals digits is_utf8 chars encode_utf8
output_fault = (refl, refl)

-- names that aren't stack or logical names are JSON texts, and so are keys and texts
names_that_forge : Prints
    (("S\nstack T", "{\"Resources\":{\"R-1\":{\"Type\":\"T\"},\"R\\nresource Q\":{\"Type\":\"T\",\"Properties\":{\"K\\n\":\"v\\n\"}}},\"Outputs\":{\"\":{\"Value\":\"t\\n\"}}}") ∷ ("A-1", "{}") ∷ [])
    "{}"
    "stack \"S\\nstack T\"\nresource \"R\\nresource Q\"\n  \"K\\n\" = \"v\\n\"\nresource \"R-1\"\noutput \"\" = \"t\\n\"\nstack A-1\n"
    false
unfolding serde_json_on_literals digits is_utf8 chars encode_utf8
names_that_forge = (refl, refl)

-- properties that a report has of a resource that isn't made are neither printed nor faults
abbrev of_absent : List StackOutcome
of_absent = record {
  name = codes "S";
  resources = record { logical = codes "A"; presence = Holds false; properties = (codes "K", Fault NotText) ∷ [] } ∷ [];
  outputs = (codes "O", OutputNotMade) ∷ [];
} ∷ []

nothing_of_absent : (report_text of_absent ≡ codes "stack S\nresource A not made\noutput O not made\n") × (has_fault of_absent ≡ false)
unfolding serde_json_on_literals digits is_utf8 chars encode_utf8
nothing_of_absent = (refl, refl)
