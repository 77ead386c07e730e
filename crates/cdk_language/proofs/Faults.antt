-- Small documents and what is wrong with them, computed by the definitions. The documents and their faults are this
-- project's own worked examples.
use Rattle.std.proofs.Common.{◌≡◌, ℕ, List, [], ◌∷◌, ◌++◌, codes, Option, Some, option_map, refl}
use Rattle.std.specs.Fmt.{digits}
use Rattle.serde_json.specs.Read.{read}
use Rattle.serde_json.proofs.OnLiterals.{serde_json_on_literals}
use Rattle.cdk_base.specs.declared.code.Code.{Code}
use Rattle.cdk_base.specs.declared.code.Code.TheVariants.{Shape, Number, LiteralMarker}
use Rattle.cdk_language.specs.Findings.{findings, setting_findings}
use Rattle.cdk_language.specs.declared.finding.Finding.{Finding}

abbrev at : Code → List ℕ → Finding
at c p = record { code = c; place = p }

no_children : option_map findings (read (codes "{\"app\":\"1\"}"))
    ≡ Some (at Shape (codes "") ∷ [])
unfolding serde_json_on_literals digits
no_children = refl

unknown_member : option_map findings (read (codes "{\"app\":\"1\",\"children\":[],\"x\":1}"))
    ≡ Some (at Shape (codes "/x") ∷ [])
unfolding serde_json_on_literals digits
unknown_member = refl

empty_application : option_map findings (read (codes "{\"app\":\"1\",\"children\":[]}"))
    ≡ Some ([])
unfolding serde_json_on_literals digits
empty_application = refl

app_3 : option_map findings (read (codes "{\"app\":\"3\",\"children\":[]}"))
    ≡ Some (at Shape (codes "/app") ∷ [])
unfolding serde_json_on_literals digits
app_3 = refl

app_number : option_map findings (read (codes "{\"app\":1,\"children\":[]}"))
    ≡ Some (at Shape (codes "/app") ∷ [])
unfolding serde_json_on_literals digits
app_number = refl

app_missing : option_map findings (read (codes "{\"children\":[]}"))
    ≡ Some (at Shape (codes "") ∷ [])
unfolding serde_json_on_literals digits
app_missing = refl

not_an_object : option_map findings (read (codes "[]"))
    ≡ Some (at Shape (codes "") ∷ [])
unfolding serde_json_on_literals digits
not_an_object = refl

children_object : option_map findings (read (codes "{\"app\":\"1\",\"children\":{}}"))
    ≡ Some (at Shape (codes "/children") ∷ [])
unfolding serde_json_on_literals digits
children_object = refl

fraction : option_map findings (read (codes "{\"app\":\"1\",\"children\":[{\"kind\":\"stack\",\"id\":\"S\",\"children\":[{\"kind\":\"resource\",\"id\":\"R\",\"type\":\"Own::T\",\"properties\":{\"P\":1.5}}]}]}"))
    ≡ Some (at Number (codes "/children/0/children/0/properties/P") ∷ [])
unfolding serde_json_on_literals digits
fraction = refl

minus_zero : option_map findings (read (codes "{\"app\":\"1\",\"context\":{\"a\":-0,\"b\":1.0,\"c\":1E2,\"d\":18446744073709551615},\"children\":[]}"))
    ≡ Some (at Number (codes "/context/a") ∷ at Number (codes "/context/b") ∷ at Number (codes "/context/c") ∷ [])
unfolding serde_json_on_literals digits
minus_zero = refl

run_in_a_concat : option_map findings (read (codes "{\"app\":\"1\",\"children\":[{\"kind\":\"stack\",\"id\":\"S\",\"children\":[{\"kind\":\"resource\",\"id\":\"R\",\"type\":\"Own::T\",\"properties\":{\"P\":{\"CDK::Concat\":[\"${Tok\",\"en[X.0]}\"]}}}]}]}"))
    ≡ Some (at LiteralMarker (codes "/children/0/children/0/properties/P") ∷ [])
unfolding serde_json_on_literals digits
run_in_a_concat = refl

run_of_nested_concats : option_map findings (read (codes "{\"app\":\"1\",\"children\":[{\"kind\":\"stack\",\"id\":\"S\",\"children\":[{\"kind\":\"resource\",\"id\":\"R\",\"type\":\"Own::T\",\"properties\":{\"P\":{\"CDK::Concat\":[\"${Tok\",{\"CDK::Concat\":[]},\"\",{\"CDK::Concat\":[\"en[\",1]}]}}}]}]}"))
    ≡ Some (at LiteralMarker (codes "/children/0/children/0/properties/P") ∷ [])
unfolding serde_json_on_literals digits
run_of_nested_concats = refl

run_cut_by_a_reference : option_map findings (read (codes "{\"app\":\"1\",\"children\":[{\"kind\":\"stack\",\"id\":\"S\",\"children\":[{\"kind\":\"resource\",\"id\":\"R\",\"type\":\"Own::T\",\"properties\":{\"P\":{\"CDK::Concat\":[\"${Tok\",{\"Ref\":\"S/Q\"},\"en[\"]}}}]}]}"))
    ≡ Some ([])
unfolding serde_json_on_literals digits
run_cut_by_a_reference = refl

run_cut_by_a_number : option_map findings (read (codes "{\"app\":\"1\",\"children\":[{\"kind\":\"stack\",\"id\":\"S\",\"children\":[{\"kind\":\"resource\",\"id\":\"R\",\"type\":\"Own::T\",\"properties\":{\"P\":{\"CDK::Concat\":[\"${Tok\",1,\"en[\"]}}}]}]}"))
    ≡ Some ([])
unfolding serde_json_on_literals digits
run_cut_by_a_number = refl

run_in_an_if_in_a_concat : option_map findings (read (codes "{\"app\":\"1\",\"children\":[{\"kind\":\"stack\",\"id\":\"S\",\"children\":[{\"kind\":\"resource\",\"id\":\"R\",\"type\":\"Own::T\",\"properties\":{\"P\":{\"CDK::Concat\":[\"a\",{\"Fn::If\":[\"S/C\",{\"CDK::Concat\":[\"#{Token\",\"[\"]},\"b\"]}]}}}]}]}"))
    ≡ Some (at LiteralMarker (codes "/children/0/children/0/properties/P/CDK::Concat/1/Fn::If/1") ∷ [])
unfolding serde_json_on_literals digits
run_in_an_if_in_a_concat = refl

run_in_both : option_map findings (read (codes "{\"app\":\"1\",\"children\":[{\"kind\":\"stack\",\"id\":\"S\",\"children\":[{\"kind\":\"resource\",\"id\":\"R\",\"type\":\"Own::T\",\"properties\":{\"P\":{\"CDK::Concat\":[\"#{Token[\",1.5]}}}]}]}"))
    ≡ Some (at LiteralMarker (codes "/children/0/children/0/properties/P") ∷ at LiteralMarker (codes "/children/0/children/0/properties/P/CDK::Concat/0") ∷ at Number (codes "/children/0/children/0/properties/P/CDK::Concat/1") ∷ [])
unfolding serde_json_on_literals digits
run_in_both = refl

run_before_a_wrong_piece : option_map findings (read (codes "{\"app\":\"1\",\"children\":[{\"kind\":\"stack\",\"id\":\"S\",\"children\":[{\"kind\":\"resource\",\"id\":\"R\",\"type\":\"Own::T\",\"properties\":{\"P\":{\"CDK::Concat\":[\"${Tok\",\"en[\",[\"x\"]]}}}]}]}"))
    ≡ Some (at LiteralMarker (codes "/children/0/children/0/properties/P") ∷ at Shape (codes "/children/0/children/0/properties/P/CDK::Concat/2") ∷ [])
unfolding serde_json_on_literals digits
run_before_a_wrong_piece = refl

kept_text_in_a_sub : option_map findings (read (codes "{\"app\":\"1\",\"children\":[{\"kind\":\"stack\",\"id\":\"S\",\"children\":[{\"kind\":\"resource\",\"id\":\"R\",\"type\":\"Own::T\",\"properties\":{\"P\":{\"Fn::Sub\":\"${!Token[A.0]}\"}}}]}]}"))
    ≡ Some (at LiteralMarker (codes "/children/0/children/0/properties/P") ∷ [])
unfolding serde_json_on_literals digits
kept_text_in_a_sub = refl

name_in_a_sub : option_map findings (read (codes "{\"app\":\"1\",\"children\":[{\"kind\":\"stack\",\"id\":\"S\",\"children\":[{\"kind\":\"resource\",\"id\":\"R\",\"type\":\"Own::T\",\"properties\":{\"P\":{\"Fn::Sub\":\"${Token[A]}\"}}}]}]}"))
    ≡ Some (at LiteralMarker (codes "/children/0/children/0/properties/P/Fn::Sub") ∷ [])
unfolding serde_json_on_literals digits
name_in_a_sub = refl

name_with_a_dot_in_a_sub : option_map findings (read (codes "{\"app\":\"1\",\"children\":[{\"kind\":\"stack\",\"id\":\"S\",\"children\":[{\"kind\":\"resource\",\"id\":\"R\",\"type\":\"Own::T\",\"properties\":{\"P\":{\"Fn::Sub\":\"${Token[A.0]}\"}}}]}]}"))
    ≡ Some (at Shape (codes "/children/0/children/0/properties/P/Fn::Sub") ∷ at LiteralMarker (codes "/children/0/children/0/properties/P/Fn::Sub") ∷ [])
unfolding serde_json_on_literals digits
name_with_a_dot_in_a_sub = refl

first_dot : option_map findings (read (codes "{\"app\":\"1\",\"children\":[{\"kind\":\"stack\",\"id\":\"S\",\"children\":[{\"kind\":\"resource\",\"id\":\"R\",\"type\":\"Own::T\",\"properties\":{\"P\":{\"Fn::Sub\":\"${X.A.B}-${!keep}-${X}\"}}}]}]}"))
    ≡ Some ([])
unfolding serde_json_on_literals digits
first_dot = refl

wrong_attribute : option_map findings (read (codes "{\"app\":\"1\",\"children\":[{\"kind\":\"stack\",\"id\":\"S\",\"children\":[{\"kind\":\"resource\",\"id\":\"R\",\"type\":\"Own::T\",\"properties\":{\"P\":{\"Fn::Sub\":\"${X.A-B.C}\"}}}]}]}"))
    ≡ Some (at Shape (codes "/children/0/children/0/properties/P/Fn::Sub") ∷ [])
unfolding serde_json_on_literals digits
wrong_attribute = refl

no_brace : option_map findings (read (codes "{\"app\":\"1\",\"children\":[{\"kind\":\"stack\",\"id\":\"S\",\"children\":[{\"kind\":\"resource\",\"id\":\"R\",\"type\":\"Own::T\",\"properties\":{\"P\":{\"Fn::Sub\":[\"a${b\",{}]}}}]}]}"))
    ≡ Some (at Shape (codes "/children/0/children/0/properties/P/Fn::Sub/0") ∷ [])
unfolding serde_json_on_literals digits
no_brace = refl

empty_name : option_map findings (read (codes "{\"app\":\"1\",\"children\":[{\"kind\":\"stack\",\"id\":\"S\",\"children\":[{\"kind\":\"resource\",\"id\":\"R\",\"type\":\"Own::T\",\"properties\":{\"P\":{\"Fn::Sub\":\"${}\"}}}]}]}"))
    ≡ Some (at Shape (codes "/children/0/children/0/properties/P/Fn::Sub") ∷ [])
unfolding serde_json_on_literals digits
empty_name = refl

variable_in_a_run : option_map findings (read (codes "{\"app\":\"1\",\"children\":[{\"kind\":\"stack\",\"id\":\"S\",\"children\":[{\"kind\":\"resource\",\"id\":\"R\",\"type\":\"Own::T\",\"properties\":{\"P\":{\"Fn::Sub\":[\"${!Tok}$${a}${b}${b}\",{\"a\":\"{Token\",\"b\":\"[\"}]}}}]}]}"))
    ≡ Some (at LiteralMarker (codes "/children/0/children/0/properties/P") ∷ [])
unfolding serde_json_on_literals digits
variable_in_a_run = refl

unused_variable : option_map findings (read (codes "{\"app\":\"1\",\"children\":[{\"kind\":\"stack\",\"id\":\"S\",\"children\":[{\"kind\":\"resource\",\"id\":\"R\",\"type\":\"Own::T\",\"properties\":{\"P\":{\"Fn::Sub\":[\"x\",{\"a\":{\"CDK::Concat\":[\"#{Token\",\"[\"]},\"b\":1.5}]}}}]}]}"))
    ≡ Some (at LiteralMarker (codes "/children/0/children/0/properties/P/Fn::Sub/1/a") ∷ at Number (codes "/children/0/children/0/properties/P/Fn::Sub/1/b") ∷ [])
unfolding serde_json_on_literals digits
unused_variable = refl

wrong_name_of_a_variable : option_map findings (read (codes "{\"app\":\"1\",\"children\":[{\"kind\":\"stack\",\"id\":\"S\",\"children\":[{\"kind\":\"resource\",\"id\":\"R\",\"type\":\"Own::T\",\"properties\":{\"P\":{\"Fn::Sub\":[\"x\",{\"a-b\":\"y\",\"Ref\":\"z\"}]}}}]}]}"))
    ≡ Some (at Shape (codes "/children/0/children/0/properties/P/Fn::Sub/1/a-b") ∷ [])
unfolding serde_json_on_literals digits
wrong_name_of_a_variable = refl

sub_of_three : option_map findings (read (codes "{\"app\":\"1\",\"children\":[{\"kind\":\"stack\",\"id\":\"S\",\"children\":[{\"kind\":\"resource\",\"id\":\"R\",\"type\":\"Own::T\",\"properties\":{\"P\":{\"Fn::Sub\":[\"x\",{},1]}}}]}]}"))
    ≡ Some (at Shape (codes "/children/0/children/0/properties/P/Fn::Sub") ∷ [])
unfolding serde_json_on_literals digits
sub_of_three = refl

escapes_in_a_pointer : option_map findings (read (codes "{\"app\":\"1\",\"children\":[{\"kind\":\"stack\",\"id\":\"S\",\"children\":[{\"kind\":\"resource\",\"id\":\"R\",\"type\":\"Own::T\",\"properties\":{\"a~/b\":null}}]}]}"))
    ≡ Some (at Shape (codes "/children/0/children/0/properties/a~0~1b") ∷ [])
unfolding serde_json_on_literals digits
escapes_in_a_pointer = refl

marker_in_a_key : option_map findings (read (codes "{\"app\":\"1\",\"children\":[{\"kind\":\"stack\",\"id\":\"S\",\"children\":[{\"kind\":\"resource\",\"id\":\"R\",\"type\":\"Own::T\",\"properties\":{\"${Token[\":1}}]}]}"))
    ≡ Some (at LiteralMarker (codes "/children/0/children/0/properties/${Token[") ∷ [])
unfolding serde_json_on_literals digits
marker_in_a_key = refl

properties_with_a_form : option_map findings (read (codes "{\"app\":\"1\",\"children\":[{\"kind\":\"stack\",\"id\":\"S\",\"children\":[{\"kind\":\"resource\",\"id\":\"R\",\"type\":\"Own::T\",\"properties\":{\"Ref\":\"x\",\"b\":null}}]}]}"))
    ≡ Some (at Shape (codes "/children/0/children/0/properties/Ref") ∷ at Shape (codes "/children/0/children/0/properties/b") ∷ [])
unfolding serde_json_on_literals digits
properties_with_a_form = refl

form_beside_a_member : option_map findings (read (codes "{\"app\":\"1\",\"children\":[{\"kind\":\"stack\",\"id\":\"S\",\"children\":[{\"kind\":\"resource\",\"id\":\"R\",\"type\":\"Own::T\",\"properties\":{\"P\":{\"Ref\":\"x\",\"y\":null}}}]}]}"))
    ≡ Some (at Shape (codes "/children/0/children/0/properties/P") ∷ [])
unfolding serde_json_on_literals digits
form_beside_a_member = refl

unknown_form : option_map findings (read (codes "{\"app\":\"1\",\"children\":[{\"kind\":\"stack\",\"id\":\"S\",\"children\":[{\"kind\":\"resource\",\"id\":\"R\",\"type\":\"Own::T\",\"properties\":{\"P\":{\"Fn::Base64\":null}}}]}]}"))
    ≡ Some (at Shape (codes "/children/0/children/0/properties/P") ∷ [])
unfolding serde_json_on_literals digits
unknown_form = refl

split_of_nothing : option_map findings (read (codes "{\"app\":\"1\",\"children\":[{\"kind\":\"stack\",\"id\":\"S\",\"children\":[{\"kind\":\"resource\",\"id\":\"R\",\"type\":\"Own::T\",\"properties\":{\"P\":{\"Fn::Split\":[\"\",\"x\"]}}}]}]}"))
    ≡ Some (at Shape (codes "/children/0/children/0/properties/P/Fn::Split/0") ∷ [])
unfolding serde_json_on_literals digits
split_of_nothing = refl

text_in_a_list_place : option_map findings (read (codes "{\"app\":\"1\",\"children\":[{\"kind\":\"stack\",\"id\":\"S\",\"children\":[{\"kind\":\"resource\",\"id\":\"R\",\"type\":\"Own::T\",\"properties\":{\"P\":{\"Fn::Join\":[\",\",\"x\"]}}}]}]}"))
    ≡ Some (at Shape (codes "/children/0/children/0/properties/P/Fn::Join/1") ∷ [])
unfolding serde_json_on_literals digits
text_in_a_list_place = refl

array_in_a_text_place : option_map findings (read (codes "{\"app\":\"1\",\"children\":[{\"kind\":\"stack\",\"id\":\"S\",\"children\":[{\"kind\":\"resource\",\"id\":\"R\",\"type\":\"Own::T\",\"properties\":{\"P\":{\"CDK::Concat\":[[\"x\"]]}}}]}]}"))
    ≡ Some (at Shape (codes "/children/0/children/0/properties/P/CDK::Concat/0") ∷ [])
unfolding serde_json_on_literals digits
array_in_a_text_place = refl

index_below_zero : option_map findings (read (codes "{\"app\":\"1\",\"children\":[{\"kind\":\"stack\",\"id\":\"S\",\"children\":[{\"kind\":\"resource\",\"id\":\"R\",\"type\":\"Own::T\",\"properties\":{\"P\":{\"Fn::Select\":[-1,[]]}}}]}]}"))
    ≡ Some (at Shape (codes "/children/0/children/0/properties/P/Fn::Select/0") ∷ [])
unfolding serde_json_on_literals digits
index_below_zero = refl

index_not_whole : option_map findings (read (codes "{\"app\":\"1\",\"children\":[{\"kind\":\"stack\",\"id\":\"S\",\"children\":[{\"kind\":\"resource\",\"id\":\"R\",\"type\":\"Own::T\",\"properties\":{\"P\":{\"Fn::Select\":[1.5,[]]}}}]}]}"))
    ≡ Some (at Number (codes "/children/0/children/0/properties/P/Fn::Select/0") ∷ [])
unfolding serde_json_on_literals digits
index_not_whole = refl

context_default : option_map findings (read (codes "{\"app\":\"1\",\"children\":[{\"kind\":\"stack\",\"id\":\"S\",\"children\":[{\"kind\":\"resource\",\"id\":\"R\",\"type\":\"Own::T\",\"properties\":{\"P\":{\"CDK::Context\":[\"k\",{\"Fn::x\":1}]}}}]}]}"))
    ≡ Some (at Shape (codes "/children/0/children/0/properties/P/CDK::Context/1/Fn::x") ∷ [])
unfolding serde_json_on_literals digits
context_default = refl

context_arguments : option_map findings (read (codes "{\"app\":\"1\",\"children\":[{\"kind\":\"stack\",\"id\":\"S\",\"children\":[{\"kind\":\"resource\",\"id\":\"R\",\"type\":\"Own::T\",\"properties\":{\"P\":{\"CDK::Context\":[]}}}]}]}"))
    ≡ Some (at Shape (codes "/children/0/children/0/properties/P/CDK::Context") ∷ [])
unfolding serde_json_on_literals digits
context_arguments = refl

priority_too_high : option_map findings (read (codes "{\"app\":\"2\",\"children\":[],\"aspects\":[{\"name\":\"a\",\"with\":{\"Ref\":1},\"priority\":1000001}]}"))
    ≡ Some (at Shape (codes "/aspects/0/priority") ∷ [])
unfolding serde_json_on_literals digits
priority_too_high = refl

priority_highest : option_map findings (read (codes "{\"app\":\"2\",\"children\":[],\"aspects\":[{\"name\":\"a\",\"with\":{\"Ref\":1},\"priority\":1000000}]}"))
    ≡ Some ([])
unfolding serde_json_on_literals digits
priority_highest = refl

priority_not_whole : option_map findings (read (codes "{\"app\":\"2\",\"aspects\":[{\"name\":\"a\",\"with\":{},\"priority\":1.5}],\"children\":[]}"))
    ≡ Some (at Number (codes "/aspects/0/priority") ∷ [])
unfolding serde_json_on_literals digits
priority_not_whole = refl

priority_in_schema_1 : option_map findings (read (codes "{\"app\":\"1\",\"children\":[],\"aspects\":[{\"name\":\"a\",\"with\":{},\"priority\":1}]}"))
    ≡ Some (at Shape (codes "/aspects/0/priority") ∷ [])
unfolding serde_json_on_literals digits
priority_in_schema_1 = refl

entry_without_with : option_map findings (read (codes "{\"app\":\"1\",\"children\":[],\"aspects\":[{\"name\":\"a\"}]}"))
    ≡ Some (at Shape (codes "/aspects/0") ∷ [])
unfolding serde_json_on_literals digits
entry_without_with = refl

logical_in_schema_1 : option_map findings (read (codes "{\"app\":\"1\",\"children\":[{\"kind\":\"stack\",\"id\":\"S\",\"children\":[{\"kind\":\"resource\",\"id\":\"R\",\"type\":\"Own::T\",\"logicalId\":\"A\"}]}]}"))
    ≡ Some (at Shape (codes "/children/0/children/0/logicalId") ∷ [])
unfolding serde_json_on_literals digits
logical_in_schema_1 = refl

logical_in_schema_2 : option_map findings (read (codes "{\"app\":\"2\",\"children\":[{\"kind\":\"stack\",\"id\":\"S\",\"children\":[{\"kind\":\"resource\",\"id\":\"R\",\"type\":\"Own::T\",\"logicalId\":\"A\"}]}]}"))
    ≡ Some ([])
unfolding serde_json_on_literals digits
logical_in_schema_2 = refl

context_with_a_form : option_map findings (read (codes "{\"app\":\"1\",\"children\":[],\"context\":{\"Ref\":1,\"a\":{\"CDK::b\":1}}}"))
    ≡ Some (at Shape (codes "/context/Ref") ∷ at Shape (codes "/context/a/CDK::b") ∷ [])
unfolding serde_json_on_literals digits
context_with_a_form = refl

no_kind : option_map findings (read (codes "{\"app\":\"1\",\"children\":[{\"id\":null}]}"))
    ≡ Some (at Shape (codes "/children/0") ∷ [])
unfolding serde_json_on_literals digits
no_kind = refl

unknown_kind : option_map findings (read (codes "{\"app\":\"1\",\"children\":[{\"kind\":\"x\",\"aspects\":[null,\"${Token[\"],\"zz\":null}]}"))
    ≡ Some (at LiteralMarker (codes "/children/0/aspects/1") ∷ at Shape (codes "/children/0/kind") ∷ [])
unfolding serde_json_on_literals digits
unknown_kind = refl

no_id : option_map findings (read (codes "{\"app\":\"1\",\"children\":[{\"kind\":\"group\",\"children\":[]}]}"))
    ≡ Some (at Shape (codes "/children/0") ∷ [])
unfolding serde_json_on_literals digits
no_id = refl

empty_type : option_map findings (read (codes "{\"app\":\"1\",\"children\":[{\"kind\":\"stack\",\"id\":\"S\",\"children\":[{\"kind\":\"resource\",\"id\":\"R\",\"type\":\"\"}]}]}"))
    ≡ Some (at Shape (codes "/children/0/children/0/type") ∷ [])
unfolding serde_json_on_literals digits
empty_type = refl

no_type : option_map findings (read (codes "{\"app\":\"1\",\"children\":[{\"kind\":\"stack\",\"id\":\"S\",\"children\":[{\"kind\":\"resource\",\"id\":\"R\"}]}]}"))
    ≡ Some (at Shape (codes "/children/0/children/0") ∷ [])
unfolding serde_json_on_literals digits
no_type = refl

description_of_a_group : option_map findings (read (codes "{\"app\":\"1\",\"children\":[{\"kind\":\"group\",\"id\":\"G\",\"children\":[],\"description\":\"x\"}]}"))
    ≡ Some (at Shape (codes "/children/0/description") ∷ [])
unfolding serde_json_on_literals digits
description_of_a_group = refl

lower_key_first : option_map findings (read (codes "{\"app\":\"1\",\"children\":[{\"kind\":\"stack\",\"id\":\"S\",\"children\":[{\"kind\":\"resource\",\"id\":\"R\",\"type\":\"Own::T\",\"properties\":{\"a\":null,\"B\":null}}]}]}"))
    ≡ Some (at Shape (codes "/children/0/children/0/properties/B") ∷ at Shape (codes "/children/0/children/0/properties/a") ∷ [])
unfolding serde_json_on_literals digits
lower_key_first = refl

get_att_in_a_condition : option_map findings (read (codes "{\"app\":\"1\",\"children\":[{\"kind\":\"stack\",\"id\":\"S\",\"children\":[{\"kind\":\"condition\",\"id\":\"C\",\"expression\":{\"Fn::Equals\":[{\"Fn::GetAtt\":5},\"x\"]}}]}]}"))
    ≡ Some (at Shape (codes "/children/0/children/0/expression/Fn::Equals/0") ∷ [])
unfolding serde_json_on_literals digits
get_att_in_a_condition = refl

sub_in_a_condition : option_map findings (read (codes "{\"app\":\"1\",\"children\":[{\"kind\":\"stack\",\"id\":\"S\",\"children\":[{\"kind\":\"condition\",\"id\":\"C\",\"expression\":{\"Fn::Equals\":[{\"Fn::Sub\":\"${S/R.Arn}\"},\"x\"]}}]}]}"))
    ≡ Some (at Shape (codes "/children/0/children/0/expression/Fn::Equals/0/Fn::Sub") ∷ [])
unfolding serde_json_on_literals digits
sub_in_a_condition = refl

no_value_in_a_condition : option_map findings (read (codes "{\"app\":\"1\",\"children\":[{\"kind\":\"stack\",\"id\":\"S\",\"children\":[{\"kind\":\"condition\",\"id\":\"C\",\"expression\":{\"Fn::Not\":[{\"Fn::Equals\":[{\"Ref\":\"AWS::NoValue\"},{\"Ref\":\"AWS::Region\"}]}]}}]}]}"))
    ≡ Some (at Shape (codes "/children/0/children/0/expression/Fn::Not/0/Fn::Equals/0") ∷ [])
unfolding serde_json_on_literals digits
no_value_in_a_condition = refl

one_condition_of_and : option_map findings (read (codes "{\"app\":\"1\",\"children\":[{\"kind\":\"stack\",\"id\":\"S\",\"children\":[{\"kind\":\"condition\",\"id\":\"C\",\"expression\":{\"Fn::And\":[{\"Condition\":\"S/C\"}]}}]}]}"))
    ≡ Some (at Shape (codes "/children/0/children/0/expression/Fn::And") ∷ [])
unfolding serde_json_on_literals digits
one_condition_of_and = refl

text_as_a_condition : option_map findings (read (codes "{\"app\":\"1\",\"children\":[{\"kind\":\"stack\",\"id\":\"S\",\"children\":[{\"kind\":\"condition\",\"id\":\"C\",\"expression\":\"x\"}]}]}"))
    ≡ Some (at Shape (codes "/children/0/children/0/expression") ∷ [])
unfolding serde_json_on_literals digits
text_as_a_condition = refl

mapping_leaf : option_map findings (read (codes "{\"app\":\"1\",\"children\":[{\"kind\":\"stack\",\"id\":\"S\",\"children\":[{\"kind\":\"mapping\",\"id\":\"M\",\"mappings\":{\"a\":{\"b\":[],\"c\":1}}}]}]}"))
    ≡ Some (at Shape (codes "/children/0/children/0/mappings/a/b") ∷ [])
unfolding serde_json_on_literals digits
mapping_leaf = refl

export_name : option_map findings (read (codes "{\"app\":\"1\",\"children\":[{\"kind\":\"stack\",\"id\":\"S\",\"children\":[{\"kind\":\"output\",\"id\":\"O\",\"value\":1,\"exportName\":\"\"}]}]}"))
    ≡ Some (at Shape (codes "/children/0/children/0/exportName") ∷ [])
unfolding serde_json_on_literals digits
export_name = refl

depends_on_a_number : option_map findings (read (codes "{\"app\":\"1\",\"children\":[{\"kind\":\"stack\",\"id\":\"S\",\"children\":[],\"dependsOn\":[\"x\",1]}]}"))
    ≡ Some (at Shape (codes "/children/0/dependsOn/1") ∷ [])
unfolding serde_json_on_literals digits
depends_on_a_number = refl

kind_null : option_map findings (read (codes "{\"app\":\"1\",\"children\":[{\"kind\":null,\"id\":\"x\"}]}"))
    ≡ Some (at Shape (codes "/children/0/kind") ∷ [])
unfolding serde_json_on_literals digits
kind_null = refl

with_null : option_map findings (read (codes "{\"app\":\"1\",\"children\":[],\"aspects\":[{\"name\":\"a\",\"with\":null}]}"))
    ≡ Some (at Shape (codes "/aspects/0/with") ∷ [])
unfolding serde_json_on_literals digits
with_null = refl

context_array : option_map findings (read (codes "{\"app\":\"1\",\"children\":[],\"context\":[]}"))
    ≡ Some (at Shape (codes "/context") ∷ [])
unfolding serde_json_on_literals digits
context_array = refl

context_of_a_lazy : option_map findings (read (codes "{\"app\":\"1\",\"children\":[{\"kind\":\"stack\",\"id\":\"S\",\"children\":[{\"kind\":\"lazy\",\"id\":\"L\",\"value\":1,\"context\":{\"a\":[null,{\"Fn::b\":1}]}}]}]}"))
    ≡ Some (at Shape (codes "/children/0/children/0/context/a/0") ∷ at Shape (codes "/children/0/children/0/context/a/1/Fn::b") ∷ [])
unfolding serde_json_on_literals digits
context_of_a_lazy = refl

policy : option_map findings (read (codes "{\"app\":\"1\",\"children\":[{\"kind\":\"stack\",\"id\":\"S\",\"children\":[{\"kind\":\"resource\",\"id\":\"R\",\"type\":\"Own::T\",\"deletionPolicy\":\"RetainExceptOnCreate\"}]}]}"))
    ≡ Some (at Shape (codes "/children/0/children/0/deletionPolicy") ∷ [])
unfolding serde_json_on_literals digits
policy = refl

parameter : option_map findings (read (codes "{\"app\":\"1\",\"children\":[{\"kind\":\"stack\",\"id\":\"S\",\"children\":[{\"kind\":\"parameter\",\"id\":\"P\",\"type\":\"List<String>\",\"default\":5}]}]}"))
    ≡ Some (at Shape (codes "/children/0/children/0/default") ∷ at Shape (codes "/children/0/children/0/type") ∷ [])
unfolding serde_json_on_literals digits
parameter = refl

output_without_value : option_map findings (read (codes "{\"app\":\"1\",\"children\":[{\"kind\":\"stack\",\"id\":\"S\",\"children\":[{\"kind\":\"output\",\"id\":\"O\"}]}]}"))
    ≡ Some (at Shape (codes "/children/0/children/0") ∷ [])
unfolding serde_json_on_literals digits
output_without_value = refl

long_export_name : option_map findings (read (codes "{\"app\":\"1\",\"children\":[{\"kind\":\"stack\",\"id\":\"S\",\"children\":[{\"kind\":\"output\",\"id\":\"O\",\"value\":1,\"exportName\":\"xxxxxxxxxxxxxxxxxxxxxxxxxxxxxxxxxxxxxxxxxxxxxxxxxxxxxxxxxxxxxxxxxxxxxxxxxxxxxxxxxxxxxxxxxxxxxxxxxxxxxxxxxxxxxxxxxxxxxxxxxxxxxxxxxxxxxxxxxxxxxxxxxxxxxxxxxxxxxxxxxxxxxxxxxxxxxxxxxxxxxxxxxxxxxxxxxxxxxxxxxxxxxxxxxxxxxxxxxxxxxxxxxxxxxxxxxxxxxxxxxxxxxxxxxxxxxxxx\"}]}]}"))
    ≡ Some (at Shape (codes "/children/0/children/0/exportName") ∷ [])
unfolding serde_json_on_literals digits
long_export_name = refl

characters_of_an_export_name : option_map findings (read (codes "{\"app\":\"1\",\"children\":[{\"kind\":\"stack\",\"id\":\"S\",\"children\":[{\"kind\":\"output\",\"id\":\"O\",\"value\":1,\"exportName\":\"ééééééééééééééééééééééééééééééééééééééééééééééééééééééééééééééééééééééééééééééééééééééééééééééééééééééééééééééééééééééééééééééééééééééééééééééééééééééééééééééééééééééééééééééééééééééééééééééééééééééééééééééééééééééééééééééééééééééééééééééééééééééééééééééé\"}]}]}"))
    ≡ Some ([])
unfolding serde_json_on_literals digits
characters_of_an_export_name = refl

id_not_whole : option_map findings (read (codes "{\"app\":\"1\",\"children\":[{\"kind\":\"group\",\"id\":1.5,\"children\":[]}]}"))
    ≡ Some (at Shape (codes "/children/0/id") ∷ at Number (codes "/children/0/id") ∷ [])
unfolding serde_json_on_literals digits
id_not_whole = refl

mapping_row : option_map findings (read (codes "{\"app\":\"1\",\"children\":[{\"kind\":\"stack\",\"id\":\"S\",\"children\":[{\"kind\":\"mapping\",\"id\":\"M\",\"mappings\":{\"a\":1,\"Ref\":{\"Fn::x\":\"y\"}}}]}]}"))
    ≡ Some (at Shape (codes "/children/0/children/0/mappings/a") ∷ [])
unfolding serde_json_on_literals digits
mapping_row = refl

concat_of_no_array : option_map findings (read (codes "{\"app\":\"1\",\"children\":[{\"kind\":\"stack\",\"id\":\"S\",\"children\":[{\"kind\":\"resource\",\"id\":\"R\",\"type\":\"Own::T\",\"properties\":{\"P\":{\"CDK::Concat\":\"x\"}}}]}]}"))
    ≡ Some (at Shape (codes "/children/0/children/0/properties/P/CDK::Concat") ∷ [])
unfolding serde_json_on_literals digits
concat_of_no_array = refl

run_cut_by_a_context : option_map findings (read (codes "{\"app\":\"1\",\"children\":[{\"kind\":\"stack\",\"id\":\"S\",\"children\":[{\"kind\":\"resource\",\"id\":\"R\",\"type\":\"Own::T\",\"properties\":{\"P\":{\"CDK::Concat\":[\"${Tok\",{\"CDK::Context\":[\"k\",\"en[\"]}]}}}]}]}"))
    ≡ Some ([])
unfolding serde_json_on_literals digits
run_cut_by_a_context = refl

run_in_a_used_variable : option_map findings (read (codes "{\"app\":\"1\",\"children\":[{\"kind\":\"stack\",\"id\":\"S\",\"children\":[{\"kind\":\"resource\",\"id\":\"R\",\"type\":\"Own::T\",\"properties\":{\"P\":{\"Fn::Sub\":[\"${a}\",{\"a\":{\"CDK::Concat\":[\"#{Token\",\"[\"]}}]}}}]}]}"))
    ≡ Some (at LiteralMarker (codes "/children/0/children/0/properties/P") ∷ at LiteralMarker (codes "/children/0/children/0/properties/P/Fn::Sub/1/a") ∷ [])
unfolding serde_json_on_literals digits
run_in_a_used_variable = refl

run_after_a_sub_that_is_not_cut : option_map findings (read (codes "{\"app\":\"1\",\"children\":[{\"kind\":\"stack\",\"id\":\"S\",\"children\":[{\"kind\":\"resource\",\"id\":\"R\",\"type\":\"Own::T\",\"properties\":{\"P\":{\"CDK::Concat\":[{\"Fn::Sub\":\"${!Tok}${\"},\"x\"]}}}]}]}"))
    ≡ Some (at Shape (codes "/children/0/children/0/properties/P/CDK::Concat/0/Fn::Sub") ∷ [])
unfolding serde_json_on_literals digits
run_after_a_sub_that_is_not_cut = refl

empty_path_in_a_sub : option_map findings (read (codes "{\"app\":\"1\",\"children\":[{\"kind\":\"stack\",\"id\":\"S\",\"children\":[{\"kind\":\"resource\",\"id\":\"R\",\"type\":\"Own::T\",\"properties\":{\"P\":{\"Fn::Sub\":\"${.A}\"}}}]}]}"))
    ≡ Some (at Shape (codes "/children/0/children/0/properties/P/Fn::Sub") ∷ [])
unfolding serde_json_on_literals digits
empty_path_in_a_sub = refl

empty_attribute_in_a_sub : option_map findings (read (codes "{\"app\":\"1\",\"children\":[{\"kind\":\"stack\",\"id\":\"S\",\"children\":[{\"kind\":\"resource\",\"id\":\"R\",\"type\":\"Own::T\",\"properties\":{\"P\":{\"Fn::Sub\":\"${A.}\"}}}]}]}"))
    ≡ Some (at Shape (codes "/children/0/children/0/properties/P/Fn::Sub") ∷ [])
unfolding serde_json_on_literals digits
empty_attribute_in_a_sub = refl

kept_nothing_in_a_sub : option_map findings (read (codes "{\"app\":\"1\",\"children\":[{\"kind\":\"stack\",\"id\":\"S\",\"children\":[{\"kind\":\"resource\",\"id\":\"R\",\"type\":\"Own::T\",\"properties\":{\"P\":{\"Fn::Sub\":\"${!}\"}}}]}]}"))
    ≡ Some ([])
unfolding serde_json_on_literals digits
kept_nothing_in_a_sub = refl

variables_of_no_object : option_map findings (read (codes "{\"app\":\"1\",\"children\":[{\"kind\":\"stack\",\"id\":\"S\",\"children\":[{\"kind\":\"resource\",\"id\":\"R\",\"type\":\"Own::T\",\"properties\":{\"P\":{\"Fn::Sub\":[\"x\",[]]}}}]}]}"))
    ≡ Some (at Shape (codes "/children/0/children/0/properties/P/Fn::Sub/1") ∷ [])
unfolding serde_json_on_literals digits
variables_of_no_object = refl

import_of_nothing : option_map findings (read (codes "{\"app\":\"1\",\"children\":[{\"kind\":\"stack\",\"id\":\"S\",\"children\":[{\"kind\":\"resource\",\"id\":\"R\",\"type\":\"Own::T\",\"properties\":{\"P\":{\"Fn::ImportValue\":\"\"}}}]}]}"))
    ≡ Some (at Shape (codes "/children/0/children/0/properties/P/Fn::ImportValue") ∷ [])
unfolding serde_json_on_literals digits
import_of_nothing = refl

lazy_of_a_number : option_map findings (read (codes "{\"app\":\"1\",\"children\":[{\"kind\":\"stack\",\"id\":\"S\",\"children\":[{\"kind\":\"resource\",\"id\":\"R\",\"type\":\"Own::T\",\"properties\":{\"P\":{\"CDK::Lazy\":1}}}]}]}"))
    ≡ Some (at Shape (codes "/children/0/children/0/properties/P/CDK::Lazy") ∷ [])
unfolding serde_json_on_literals digits
lazy_of_a_number = refl

map_of_two : option_map findings (read (codes "{\"app\":\"1\",\"children\":[{\"kind\":\"stack\",\"id\":\"S\",\"children\":[{\"kind\":\"resource\",\"id\":\"R\",\"type\":\"Own::T\",\"properties\":{\"P\":{\"Fn::FindInMap\":[\"S/M\",\"x\"]}}}]}]}"))
    ≡ Some (at Shape (codes "/children/0/children/0/properties/P/Fn::FindInMap") ∷ [])
unfolding serde_json_on_literals digits
map_of_two = refl

condition_of_two : option_map findings (read (codes "{\"app\":\"1\",\"children\":[{\"kind\":\"stack\",\"id\":\"S\",\"children\":[{\"kind\":\"resource\",\"id\":\"R\",\"type\":\"Own::T\",\"properties\":{\"P\":{\"Fn::If\":[1,\"x\",null]}}}]}]}"))
    ≡ Some (at Shape (codes "/children/0/children/0/properties/P/Fn::If/0") ∷ at Shape (codes "/children/0/children/0/properties/P/Fn::If/2") ∷ [])
unfolding serde_json_on_literals digits
condition_of_two = refl

attribute : option_map findings (read (codes "{\"app\":\"1\",\"children\":[{\"kind\":\"stack\",\"id\":\"S\",\"children\":[{\"kind\":\"resource\",\"id\":\"R\",\"type\":\"Own::T\",\"properties\":{\"P\":{\"Fn::GetAtt\":[\"S/R\",\"A.b-c\"]}}}]}]}"))
    ≡ Some (at Shape (codes "/children/0/children/0/properties/P/Fn::GetAtt/1") ∷ [])
unfolding serde_json_on_literals digits
attribute = refl

forms_in_a_list_place : option_map findings (read (codes "{\"app\":\"1\",\"children\":[{\"kind\":\"stack\",\"id\":\"S\",\"children\":[{\"kind\":\"resource\",\"id\":\"R\",\"type\":\"Own::T\",\"properties\":{\"P\":{\"Fn::Join\":[\",\",{\"Fn::Split\":[\",\",{\"Ref\":\"x\"}]}]}}}]}]}"))
    ≡ Some ([])
unfolding serde_json_on_literals digits
forms_in_a_list_place = refl

object_in_a_list_place : option_map findings (read (codes "{\"app\":\"1\",\"children\":[{\"kind\":\"stack\",\"id\":\"S\",\"children\":[{\"kind\":\"resource\",\"id\":\"R\",\"type\":\"Own::T\",\"properties\":{\"P\":{\"Fn::Select\":[0,{\"a\":\"b\"}]}}}]}]}"))
    ≡ Some (at Shape (codes "/children/0/children/0/properties/P/Fn::Select/1") ∷ [])
unfolding serde_json_on_literals digits
object_in_a_list_place = refl

equals_of_one : option_map findings (read (codes "{\"app\":\"1\",\"children\":[{\"kind\":\"stack\",\"id\":\"S\",\"children\":[{\"kind\":\"condition\",\"id\":\"C\",\"expression\":{\"Fn::Equals\":[\"x\"]}}]}]}"))
    ≡ Some (at Shape (codes "/children/0/children/0/expression/Fn::Equals") ∷ [])
unfolding serde_json_on_literals digits
equals_of_one = refl

not_of_two : option_map findings (read (codes "{\"app\":\"1\",\"children\":[{\"kind\":\"stack\",\"id\":\"S\",\"children\":[{\"kind\":\"condition\",\"id\":\"C\",\"expression\":{\"Fn::Not\":[{\"Condition\":\"a\"},{\"Condition\":\"b\"}]}}]}]}"))
    ≡ Some (at Shape (codes "/children/0/children/0/expression/Fn::Not") ∷ [])
unfolding serde_json_on_literals digits
not_of_two = refl

or_of_eleven : option_map findings (read (codes "{\"app\":\"1\",\"children\":[{\"kind\":\"stack\",\"id\":\"S\",\"children\":[{\"kind\":\"condition\",\"id\":\"C\",\"expression\":{\"Fn::Or\":[{\"Condition\":\"a\"},{\"Condition\":\"a\"},{\"Condition\":\"a\"},{\"Condition\":\"a\"},{\"Condition\":\"a\"},{\"Condition\":\"a\"},{\"Condition\":\"a\"},{\"Condition\":\"a\"},{\"Condition\":\"a\"},{\"Condition\":\"a\"},{\"Condition\":\"a\"}]}}]}]}"))
    ≡ Some (at Shape (codes "/children/0/children/0/expression/Fn::Or") ∷ [])
unfolding serde_json_on_literals digits
or_of_eleven = refl

or_of_ten : option_map findings (read (codes "{\"app\":\"1\",\"children\":[{\"kind\":\"stack\",\"id\":\"S\",\"children\":[{\"kind\":\"condition\",\"id\":\"C\",\"expression\":{\"Fn::Or\":[{\"Condition\":\"a\"},{\"Condition\":\"a\"},{\"Condition\":\"a\"},{\"Condition\":\"a\"},{\"Condition\":\"a\"},{\"Condition\":\"a\"},{\"Condition\":\"a\"},{\"Condition\":\"a\"},{\"Condition\":\"a\"},{\"Condition\":\"a\"}]}}]}]}"))
    ≡ Some ([])
unfolding serde_json_on_literals digits
or_of_ten = refl

condition_named_by_a_number : option_map findings (read (codes "{\"app\":\"1\",\"children\":[{\"kind\":\"stack\",\"id\":\"S\",\"children\":[{\"kind\":\"condition\",\"id\":\"C\",\"expression\":{\"Condition\":1}}]}]}"))
    ≡ Some (at Shape (codes "/children/0/children/0/expression/Condition") ∷ [])
unfolding serde_json_on_literals digits
condition_named_by_a_number = refl

ref_as_a_condition : option_map findings (read (codes "{\"app\":\"1\",\"children\":[{\"kind\":\"stack\",\"id\":\"S\",\"children\":[{\"kind\":\"condition\",\"id\":\"C\",\"expression\":{\"Ref\":\"x\"}}]}]}"))
    ≡ Some (at Shape (codes "/children/0/children/0/expression") ∷ [])
unfolding serde_json_on_literals digits
ref_as_a_condition = refl

barred_in_a_list : option_map findings (read (codes "{\"app\":\"1\",\"children\":[{\"kind\":\"stack\",\"id\":\"S\",\"children\":[{\"kind\":\"condition\",\"id\":\"C\",\"expression\":{\"Fn::Equals\":[{\"Fn::Join\":[\"\",[\"a\",{\"b\":{\"CDK::Lazy\":\"x\"}}]]},\"x\"]}}]}]}"))
    ≡ Some (at Shape (codes "/children/0/children/0/expression/Fn::Equals/0/Fn::Join/1/1/b") ∷ [])
unfolding serde_json_on_literals digits
barred_in_a_list = refl

pseudo_parameter_in_a_sub_of_a_condition : option_map findings (read (codes "{\"app\":\"1\",\"children\":[{\"kind\":\"stack\",\"id\":\"S\",\"children\":[{\"kind\":\"condition\",\"id\":\"C\",\"expression\":{\"Fn::Equals\":[{\"Fn::Sub\":\"${AWS::Region}${AWS::NoValue}\"},\"x\"]}}]}]}"))
    ≡ Some (at Shape (codes "/children/0/children/0/expression/Fn::Equals/0/Fn::Sub") ∷ [])
unfolding serde_json_on_literals digits
pseudo_parameter_in_a_sub_of_a_condition = refl

list_in_an_operand : option_map findings (read (codes "{\"app\":\"1\",\"children\":[{\"kind\":\"stack\",\"id\":\"S\",\"children\":[{\"kind\":\"condition\",\"id\":\"C\",\"expression\":{\"Fn::Equals\":[\"x\",[\"y\"]]}}]}]}"))
    ≡ Some (at Shape (codes "/children/0/children/0/expression/Fn::Equals/1") ∷ [])
unfolding serde_json_on_literals digits
list_in_an_operand = refl

children_of_a_resource : option_map findings (read (codes "{\"app\":\"1\",\"children\":[{\"kind\":\"stack\",\"id\":\"S\",\"children\":[{\"kind\":\"resource\",\"id\":\"R\",\"type\":\"Own::T\",\"children\":[null]}]}]}"))
    ≡ Some (at Shape (codes "/children/0/children/0/children") ∷ [])
unfolding serde_json_on_literals digits
children_of_a_resource = refl

settings_in_order : setting_findings (record { key = codes "a"; value = codes "${Token[" } ∷ record { key = codes "#{Token["; value = [] } ∷ record { key = codes "b"; value = codes "${Token" } ∷ [])
    ≡ at LiteralMarker (codes "=a") ∷ at LiteralMarker (codes "=#{Token[") ∷ []
settings_in_order = refl
