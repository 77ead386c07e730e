-- Worked truths of the condition `C`, by computation.
use Rattle.std.specs.Char.{encode_utf8}
use Rattle.std.specs.Str.{is_utf8, chars}
use Rattle.std.proofs.Common.{refl}
use Rattle.std.specs.Fmt.{digits}
use Rattle.serde_json.proofs.OnLiterals.{serde_json_on_literals}
use Rattle.cdk_eval.proofs.Shown.{Tells}

-- the five forms

equal : Tells "{\"Parameters\":{\"P\":{\"Type\":\"String\",\"Default\":\"dev\"},\"L\":{\"Type\":\"CommaDelimitedList\",\"Default\":\"a\"}},\"Resources\":{\"R\":{\"Type\":\"T\"}},\"Mappings\":{\"M\":{\"x\":{\"y\":\"leaf\"}}},\"Conditions\":{\"C\":{\"Fn::Equals\":[1,\"1\"]}}}" "true"
unfolding serde_json_on_literals digits is_utf8 chars encode_utf8
equal = refl

not_equal : Tells "{\"Parameters\":{\"P\":{\"Type\":\"String\",\"Default\":\"dev\"},\"L\":{\"Type\":\"CommaDelimitedList\",\"Default\":\"a\"}},\"Resources\":{\"R\":{\"Type\":\"T\"}},\"Mappings\":{\"M\":{\"x\":{\"y\":\"leaf\"}}},\"Conditions\":{\"C\":{\"Fn::Equals\":[true,\"True\"]}}}" "false"
unfolding serde_json_on_literals digits is_utf8 chars encode_utf8
not_equal = refl

equal_without_text : Tells "{\"Parameters\":{\"P\":{\"Type\":\"String\",\"Default\":\"dev\"},\"L\":{\"Type\":\"CommaDelimitedList\",\"Default\":\"a\"}},\"Resources\":{\"R\":{\"Type\":\"T\"}},\"Mappings\":{\"M\":{\"x\":{\"y\":\"leaf\"}}},\"Conditions\":{\"C\":{\"Fn::Equals\":[\"a\",[]]}}}" "NotText"
unfolding serde_json_on_literals digits is_utf8 chars encode_utf8
equal_without_text = refl

equal_of_one : Tells "{\"Parameters\":{\"P\":{\"Type\":\"String\",\"Default\":\"dev\"},\"L\":{\"Type\":\"CommaDelimitedList\",\"Default\":\"a\"}},\"Resources\":{\"R\":{\"Type\":\"T\"}},\"Mappings\":{\"M\":{\"x\":{\"y\":\"leaf\"}}},\"Conditions\":{\"C\":{\"Fn::Equals\":[\"a\"]}}}" "BadIntrinsic"
unfolding serde_json_on_literals digits is_utf8 chars encode_utf8
equal_of_one = refl

and_of_two : Tells "{\"Parameters\":{\"P\":{\"Type\":\"String\",\"Default\":\"dev\"},\"L\":{\"Type\":\"CommaDelimitedList\",\"Default\":\"a\"}},\"Resources\":{\"R\":{\"Type\":\"T\"}},\"Mappings\":{\"M\":{\"x\":{\"y\":\"leaf\"}}},\"Conditions\":{\"C\":{\"Fn::And\":[{\"Fn::Equals\":[\"a\",\"a\"]},{\"Fn::Equals\":[\"a\",\"b\"]}]}}}" "false"
unfolding serde_json_on_literals digits is_utf8 chars encode_utf8
and_of_two = refl

or_of_two : Tells "{\"Parameters\":{\"P\":{\"Type\":\"String\",\"Default\":\"dev\"},\"L\":{\"Type\":\"CommaDelimitedList\",\"Default\":\"a\"}},\"Resources\":{\"R\":{\"Type\":\"T\"}},\"Mappings\":{\"M\":{\"x\":{\"y\":\"leaf\"}}},\"Conditions\":{\"C\":{\"Fn::Or\":[{\"Fn::Equals\":[\"a\",\"b\"]},{\"Fn::Equals\":[\"a\",\"a\"]}]}}}" "true"
unfolding serde_json_on_literals digits is_utf8 chars encode_utf8
or_of_two = refl

or_of_one : Tells "{\"Parameters\":{\"P\":{\"Type\":\"String\",\"Default\":\"dev\"},\"L\":{\"Type\":\"CommaDelimitedList\",\"Default\":\"a\"}},\"Resources\":{\"R\":{\"Type\":\"T\"}},\"Mappings\":{\"M\":{\"x\":{\"y\":\"leaf\"}}},\"Conditions\":{\"C\":{\"Fn::Or\":[{\"Fn::Equals\":[\"a\",\"a\"]}]}}}" "BadIntrinsic"
unfolding serde_json_on_literals digits is_utf8 chars encode_utf8
or_of_one = refl

and_of_ten : Tells "{\"Parameters\":{\"P\":{\"Type\":\"String\",\"Default\":\"dev\"},\"L\":{\"Type\":\"CommaDelimitedList\",\"Default\":\"a\"}},\"Resources\":{\"R\":{\"Type\":\"T\"}},\"Mappings\":{\"M\":{\"x\":{\"y\":\"leaf\"}}},\"Conditions\":{\"C\":{\"Fn::And\":[{\"Fn::Equals\":[\"a\",\"a\"]},{\"Fn::Equals\":[\"a\",\"a\"]},{\"Fn::Equals\":[\"a\",\"a\"]},{\"Fn::Equals\":[\"a\",\"a\"]},{\"Fn::Equals\":[\"a\",\"a\"]},{\"Fn::Equals\":[\"a\",\"a\"]},{\"Fn::Equals\":[\"a\",\"a\"]},{\"Fn::Equals\":[\"a\",\"a\"]},{\"Fn::Equals\":[\"a\",\"a\"]},{\"Fn::Equals\":[\"a\",\"a\"]}]}}}" "true"
unfolding serde_json_on_literals digits is_utf8 chars encode_utf8
and_of_ten = refl

and_of_eleven : Tells "{\"Parameters\":{\"P\":{\"Type\":\"String\",\"Default\":\"dev\"},\"L\":{\"Type\":\"CommaDelimitedList\",\"Default\":\"a\"}},\"Resources\":{\"R\":{\"Type\":\"T\"}},\"Mappings\":{\"M\":{\"x\":{\"y\":\"leaf\"}}},\"Conditions\":{\"C\":{\"Fn::And\":[{\"Fn::Equals\":[\"a\",\"a\"]},{\"Fn::Equals\":[\"a\",\"a\"]},{\"Fn::Equals\":[\"a\",\"a\"]},{\"Fn::Equals\":[\"a\",\"a\"]},{\"Fn::Equals\":[\"a\",\"a\"]},{\"Fn::Equals\":[\"a\",\"a\"]},{\"Fn::Equals\":[\"a\",\"a\"]},{\"Fn::Equals\":[\"a\",\"a\"]},{\"Fn::Equals\":[\"a\",\"a\"]},{\"Fn::Equals\":[\"a\",\"a\"]},{\"Fn::Equals\":[\"a\",\"a\"]}]}}}" "BadIntrinsic"
unfolding serde_json_on_literals digits is_utf8 chars encode_utf8
and_of_eleven = refl

not_of_one : Tells "{\"Parameters\":{\"P\":{\"Type\":\"String\",\"Default\":\"dev\"},\"L\":{\"Type\":\"CommaDelimitedList\",\"Default\":\"a\"}},\"Resources\":{\"R\":{\"Type\":\"T\"}},\"Mappings\":{\"M\":{\"x\":{\"y\":\"leaf\"}}},\"Conditions\":{\"C\":{\"Fn::Not\":[{\"Fn::Equals\":[\"a\",\"b\"]}]}}}" "true"
unfolding serde_json_on_literals digits is_utf8 chars encode_utf8
not_of_one = refl

not_of_two : Tells "{\"Parameters\":{\"P\":{\"Type\":\"String\",\"Default\":\"dev\"},\"L\":{\"Type\":\"CommaDelimitedList\",\"Default\":\"a\"}},\"Resources\":{\"R\":{\"Type\":\"T\"}},\"Mappings\":{\"M\":{\"x\":{\"y\":\"leaf\"}}},\"Conditions\":{\"C\":{\"Fn::Not\":[{\"Fn::Equals\":[\"a\",\"b\"]},{\"Fn::Equals\":[\"a\",\"b\"]}]}}}" "BadIntrinsic"
unfolding serde_json_on_literals digits is_utf8 chars encode_utf8
not_of_two = refl

named_condition : Tells "{\"Parameters\":{\"P\":{\"Type\":\"String\",\"Default\":\"dev\"},\"L\":{\"Type\":\"CommaDelimitedList\",\"Default\":\"a\"}},\"Resources\":{\"R\":{\"Type\":\"T\"}},\"Mappings\":{\"M\":{\"x\":{\"y\":\"leaf\"}}},\"Conditions\":{\"C\":{\"Condition\":\"D\"},\"D\":{\"Fn::Equals\":[\"a\",\"b\"]}}}" "false"
unfolding serde_json_on_literals digits is_utf8 chars encode_utf8
named_condition = refl

named_unknown : Tells "{\"Parameters\":{\"P\":{\"Type\":\"String\",\"Default\":\"dev\"},\"L\":{\"Type\":\"CommaDelimitedList\",\"Default\":\"a\"}},\"Resources\":{\"R\":{\"Type\":\"T\"}},\"Mappings\":{\"M\":{\"x\":{\"y\":\"leaf\"}}},\"Conditions\":{\"C\":{\"Condition\":\"D\"}}}" "UnknownName"
unfolding serde_json_on_literals digits is_utf8 chars encode_utf8
named_unknown = refl

named_by_no_text : Tells "{\"Parameters\":{\"P\":{\"Type\":\"String\",\"Default\":\"dev\"},\"L\":{\"Type\":\"CommaDelimitedList\",\"Default\":\"a\"}},\"Resources\":{\"R\":{\"Type\":\"T\"}},\"Mappings\":{\"M\":{\"x\":{\"y\":\"leaf\"}}},\"Conditions\":{\"C\":{\"Condition\":1}}}" "BadIntrinsic"
unfolding serde_json_on_literals digits is_utf8 chars encode_utf8
named_by_no_text = refl

no_form : Tells "{\"Parameters\":{\"P\":{\"Type\":\"String\",\"Default\":\"dev\"},\"L\":{\"Type\":\"CommaDelimitedList\",\"Default\":\"a\"}},\"Resources\":{\"R\":{\"Type\":\"T\"}},\"Mappings\":{\"M\":{\"x\":{\"y\":\"leaf\"}}},\"Conditions\":{\"C\":{\"Ref\":\"P\"}}}" "BadIntrinsic"
unfolding serde_json_on_literals digits is_utf8 chars encode_utf8
no_form = refl

two_keys : Tells "{\"Parameters\":{\"P\":{\"Type\":\"String\",\"Default\":\"dev\"},\"L\":{\"Type\":\"CommaDelimitedList\",\"Default\":\"a\"}},\"Resources\":{\"R\":{\"Type\":\"T\"}},\"Mappings\":{\"M\":{\"x\":{\"y\":\"leaf\"}}},\"Conditions\":{\"C\":{\"Condition\":\"D\",\"K\":1},\"D\":{\"Fn::Equals\":[\"a\",\"a\"]}}}" "BadIntrinsic"
unfolding serde_json_on_literals digits is_utf8 chars encode_utf8
two_keys = refl

-- all parts are evaluated, from the left

and_goes_on_after_false : Tells "{\"Parameters\":{\"P\":{\"Type\":\"String\",\"Default\":\"dev\"},\"L\":{\"Type\":\"CommaDelimitedList\",\"Default\":\"a\"}},\"Resources\":{\"R\":{\"Type\":\"T\"}},\"Mappings\":{\"M\":{\"x\":{\"y\":\"leaf\"}}},\"Conditions\":{\"C\":{\"Fn::And\":[{\"Fn::Equals\":[\"a\",\"b\"]},{\"Fn::Equals\":[\"a\",{\"Ref\":\"Nope\"}]}]}}}" "UnknownName"
unfolding serde_json_on_literals digits is_utf8 chars encode_utf8
and_goes_on_after_false = refl

first_part_faults : Tells "{\"Parameters\":{\"P\":{\"Type\":\"String\",\"Default\":\"dev\"},\"L\":{\"Type\":\"CommaDelimitedList\",\"Default\":\"a\"}},\"Resources\":{\"R\":{\"Type\":\"T\"}},\"Mappings\":{\"M\":{\"x\":{\"y\":\"leaf\"}}},\"Conditions\":{\"C\":{\"Fn::Or\":[{\"Fn::Equals\":[\"a\",[]]},{\"Fn::Equals\":[\"a\",null]}]}}}" "NotText"
unfolding serde_json_on_literals digits is_utf8 chars encode_utf8
first_part_faults = refl

operands_before_texts : Tells "{\"Parameters\":{\"P\":{\"Type\":\"String\",\"Default\":\"dev\"},\"L\":{\"Type\":\"CommaDelimitedList\",\"Default\":\"a\"}},\"Resources\":{\"R\":{\"Type\":\"T\"}},\"Mappings\":{\"M\":{\"x\":{\"y\":\"leaf\"}}},\"Conditions\":{\"C\":{\"Fn::Equals\":[[],{\"Ref\":\"Nope\"}]}}}" "UnknownName"
unfolding serde_json_on_literals digits is_utf8 chars encode_utf8
operands_before_texts = refl

-- operands

operand_parameter : Tells "{\"Parameters\":{\"P\":{\"Type\":\"String\",\"Default\":\"dev\"},\"L\":{\"Type\":\"CommaDelimitedList\",\"Default\":\"a\"}},\"Resources\":{\"R\":{\"Type\":\"T\"}},\"Mappings\":{\"M\":{\"x\":{\"y\":\"leaf\"}}},\"Conditions\":{\"C\":{\"Fn::Equals\":[{\"Ref\":\"P\"},\"dev\"]}}}" "true"
unfolding serde_json_on_literals digits is_utf8 chars encode_utf8
operand_parameter = refl

operand_stack_name : Tells "{\"Parameters\":{\"P\":{\"Type\":\"String\",\"Default\":\"dev\"},\"L\":{\"Type\":\"CommaDelimitedList\",\"Default\":\"a\"}},\"Resources\":{\"R\":{\"Type\":\"T\"}},\"Mappings\":{\"M\":{\"x\":{\"y\":\"leaf\"}}},\"Conditions\":{\"C\":{\"Fn::Equals\":[{\"Ref\":\"AWS::StackName\"},\"S\"]}}}" "true"
unfolding serde_json_on_literals digits is_utf8 chars encode_utf8
operand_stack_name = refl

operand_leaf : Tells "{\"Parameters\":{\"P\":{\"Type\":\"String\",\"Default\":\"dev\"},\"L\":{\"Type\":\"CommaDelimitedList\",\"Default\":\"a\"}},\"Resources\":{\"R\":{\"Type\":\"T\"}},\"Mappings\":{\"M\":{\"x\":{\"y\":\"leaf\"}}},\"Conditions\":{\"C\":{\"Fn::Equals\":[{\"Fn::FindInMap\":[\"M\",\"x\",\"y\"]},\"leaf\"]}}}" "true"
unfolding serde_json_on_literals digits is_utf8 chars encode_utf8
operand_leaf = refl

operand_gone : Tells "{\"Parameters\":{\"P\":{\"Type\":\"String\",\"Default\":\"dev\"},\"L\":{\"Type\":\"CommaDelimitedList\",\"Default\":\"a\"}},\"Resources\":{\"R\":{\"Type\":\"T\"}},\"Mappings\":{\"M\":{\"x\":{\"y\":\"leaf\"}}},\"Conditions\":{\"C\":{\"Fn::Equals\":[{\"Ref\":\"AWS::NoValue\"},\"a\"]}}}" "NotText"
unfolding serde_json_on_literals digits is_utf8 chars encode_utf8
operand_gone = refl

operand_gone_before_a_fault : Tells "{\"Parameters\":{\"P\":{\"Type\":\"String\",\"Default\":\"dev\"},\"L\":{\"Type\":\"CommaDelimitedList\",\"Default\":\"a\"}},\"Resources\":{\"R\":{\"Type\":\"T\"}},\"Mappings\":{\"M\":{\"x\":{\"y\":\"leaf\"}}},\"Conditions\":{\"C\":{\"Fn::Equals\":[{\"Ref\":\"AWS::NoValue\"},{\"Ref\":\"Nope\"}]}}}" "UnknownName"
unfolding serde_json_on_literals digits is_utf8 chars encode_utf8
operand_gone_before_a_fault = refl

operand_gone_item : Tells "{\"Parameters\":{\"P\":{\"Type\":\"String\",\"Default\":\"dev\"},\"L\":{\"Type\":\"CommaDelimitedList\",\"Default\":\"a\"}},\"Resources\":{\"R\":{\"Type\":\"T\"}},\"Mappings\":{\"M\":{\"x\":{\"y\":\"leaf\"}}},\"Conditions\":{\"C\":{\"Fn::Equals\":[{\"Fn::Join\":[\"\",[\"a\",{\"Ref\":\"AWS::NoValue\"}]]},\"a\"]}}}" "true"
unfolding serde_json_on_literals digits is_utf8 chars encode_utf8
operand_gone_item = refl

operand_resource : Tells "{\"Parameters\":{\"P\":{\"Type\":\"String\",\"Default\":\"dev\"},\"L\":{\"Type\":\"CommaDelimitedList\",\"Default\":\"a\"}},\"Resources\":{\"R\":{\"Type\":\"T\"}},\"Mappings\":{\"M\":{\"x\":{\"y\":\"leaf\"}}},\"Conditions\":{\"C\":{\"Fn::Equals\":[{\"Ref\":\"R\"},\"a\"]}}}" "BadIntrinsic"
unfolding serde_json_on_literals digits is_utf8 chars encode_utf8
operand_resource = refl

operand_unknown : Tells "{\"Parameters\":{\"P\":{\"Type\":\"String\",\"Default\":\"dev\"},\"L\":{\"Type\":\"CommaDelimitedList\",\"Default\":\"a\"}},\"Resources\":{\"R\":{\"Type\":\"T\"}},\"Mappings\":{\"M\":{\"x\":{\"y\":\"leaf\"}}},\"Conditions\":{\"C\":{\"Fn::Equals\":[{\"Ref\":\"Nope\"},\"a\"]}}}" "UnknownName"
unfolding serde_json_on_literals digits is_utf8 chars encode_utf8
operand_unknown = refl

operand_attribute : Tells "{\"Parameters\":{\"P\":{\"Type\":\"String\",\"Default\":\"dev\"},\"L\":{\"Type\":\"CommaDelimitedList\",\"Default\":\"a\"}},\"Resources\":{\"R\":{\"Type\":\"T\"}},\"Mappings\":{\"M\":{\"x\":{\"y\":\"leaf\"}}},\"Conditions\":{\"C\":{\"Fn::Equals\":[{\"Fn::GetAtt\":[\"Nope\",\"A\"]},\"a\"]}}}" "BadIntrinsic"
unfolding serde_json_on_literals digits is_utf8 chars encode_utf8
operand_attribute = refl

operand_import_at_its_turn : Tells "{\"Parameters\":{\"P\":{\"Type\":\"String\",\"Default\":\"dev\"},\"L\":{\"Type\":\"CommaDelimitedList\",\"Default\":\"a\"}},\"Resources\":{\"R\":{\"Type\":\"T\"}},\"Mappings\":{\"M\":{\"x\":{\"y\":\"leaf\"}}},\"Conditions\":{\"C\":{\"Fn::Equals\":[{\"Fn::ImportValue\":{\"Ref\":\"Nope\"}},\"a\"]}}}" "BadIntrinsic"
unfolding serde_json_on_literals digits is_utf8 chars encode_utf8
operand_import_at_its_turn = refl

operand_if : Tells "{\"Parameters\":{\"P\":{\"Type\":\"String\",\"Default\":\"dev\"},\"L\":{\"Type\":\"CommaDelimitedList\",\"Default\":\"a\"}},\"Resources\":{\"R\":{\"Type\":\"T\"}},\"Mappings\":{\"M\":{\"x\":{\"y\":\"leaf\"}}},\"Conditions\":{\"C\":{\"Fn::Equals\":[{\"Fn::If\":[\"C\",\"a\",\"b\"]},\"a\"]}}}" "BadIntrinsic"
unfolding serde_json_on_literals digits is_utf8 chars encode_utf8
operand_if = refl

operand_if_at_its_turn : Tells "{\"Parameters\":{\"P\":{\"Type\":\"String\",\"Default\":\"dev\"},\"L\":{\"Type\":\"CommaDelimitedList\",\"Default\":\"a\"}},\"Resources\":{\"R\":{\"Type\":\"T\"}},\"Mappings\":{\"M\":{\"x\":{\"y\":\"leaf\"}}},\"Conditions\":{\"C\":{\"Fn::Equals\":[{\"Ref\":\"Nope\"},{\"Fn::If\":[\"C\",\"a\",\"b\"]}]}}}" "UnknownName"
unfolding serde_json_on_literals digits is_utf8 chars encode_utf8
operand_if_at_its_turn = refl

operand_sub_first_part : Tells "{\"Parameters\":{\"P\":{\"Type\":\"String\",\"Default\":\"dev\"},\"L\":{\"Type\":\"CommaDelimitedList\",\"Default\":\"a\"}},\"Resources\":{\"R\":{\"Type\":\"T\"}},\"Mappings\":{\"M\":{\"x\":{\"y\":\"leaf\"}}},\"Conditions\":{\"C\":{\"Fn::Equals\":[{\"Fn::Sub\":\"${Nope}${R.A}\"},\"a\"]}}}" "UnknownName"
unfolding serde_json_on_literals digits is_utf8 chars encode_utf8
operand_sub_first_part = refl

operand_sub_attribute : Tells "{\"Parameters\":{\"P\":{\"Type\":\"String\",\"Default\":\"dev\"},\"L\":{\"Type\":\"CommaDelimitedList\",\"Default\":\"a\"}},\"Resources\":{\"R\":{\"Type\":\"T\"}},\"Mappings\":{\"M\":{\"x\":{\"y\":\"leaf\"}}},\"Conditions\":{\"C\":{\"Fn::Equals\":[{\"Fn::Sub\":\"${R.A}${Nope}\"},\"a\"]}}}" "BadIntrinsic"
unfolding serde_json_on_literals digits is_utf8 chars encode_utf8
operand_sub_attribute = refl

operand_sub_resource : Tells "{\"Parameters\":{\"P\":{\"Type\":\"String\",\"Default\":\"dev\"},\"L\":{\"Type\":\"CommaDelimitedList\",\"Default\":\"a\"}},\"Resources\":{\"R\":{\"Type\":\"T\"}},\"Mappings\":{\"M\":{\"x\":{\"y\":\"leaf\"}}},\"Conditions\":{\"C\":{\"Fn::Equals\":[{\"Fn::Sub\":\"${P}${R}\"},\"a\"]}}}" "BadIntrinsic"
unfolding serde_json_on_literals digits is_utf8 chars encode_utf8
operand_sub_resource = refl

operand_sub_parameter : Tells "{\"Parameters\":{\"P\":{\"Type\":\"String\",\"Default\":\"dev\"},\"L\":{\"Type\":\"CommaDelimitedList\",\"Default\":\"a\"}},\"Resources\":{\"R\":{\"Type\":\"T\"}},\"Mappings\":{\"M\":{\"x\":{\"y\":\"leaf\"}}},\"Conditions\":{\"C\":{\"Fn::Equals\":[{\"Fn::Sub\":\"${P}\"},\"dev\"]}}}" "true"
unfolding serde_json_on_literals digits is_utf8 chars encode_utf8
operand_sub_parameter = refl

-- loops

loop_of_one : Tells "{\"Parameters\":{\"P\":{\"Type\":\"String\",\"Default\":\"dev\"},\"L\":{\"Type\":\"CommaDelimitedList\",\"Default\":\"a\"}},\"Resources\":{\"R\":{\"Type\":\"T\"}},\"Mappings\":{\"M\":{\"x\":{\"y\":\"leaf\"}}},\"Conditions\":{\"C\":{\"Condition\":\"C\"}}}" "ConditionLoop"
unfolding serde_json_on_literals digits is_utf8 chars encode_utf8
loop_of_one = refl

loop_of_two : Tells "{\"Parameters\":{\"P\":{\"Type\":\"String\",\"Default\":\"dev\"},\"L\":{\"Type\":\"CommaDelimitedList\",\"Default\":\"a\"}},\"Resources\":{\"R\":{\"Type\":\"T\"}},\"Mappings\":{\"M\":{\"x\":{\"y\":\"leaf\"}}},\"Conditions\":{\"C\":{\"Fn::Not\":[{\"Condition\":\"D\"}]},\"D\":{\"Fn::Or\":[{\"Fn::Equals\":[\"a\",\"a\"]},{\"Condition\":\"C\"}]}}}" "ConditionLoop"
unfolding serde_json_on_literals digits is_utf8 chars encode_utf8
loop_of_two = refl

loop_before_other_faults : Tells "{\"Parameters\":{\"P\":{\"Type\":\"String\",\"Default\":\"dev\"},\"L\":{\"Type\":\"CommaDelimitedList\",\"Default\":\"a\"}},\"Resources\":{\"R\":{\"Type\":\"T\"}},\"Mappings\":{\"M\":{\"x\":{\"y\":\"leaf\"}}},\"Conditions\":{\"C\":{\"Fn::And\":[{\"Fn::Equals\":[\"a\",[]]},{\"Condition\":\"C\"}]}}}" "ConditionLoop"
unfolding serde_json_on_literals digits is_utf8 chars encode_utf8
loop_before_other_faults = refl

leads_to_a_loop : Tells "{\"Parameters\":{\"P\":{\"Type\":\"String\",\"Default\":\"dev\"},\"L\":{\"Type\":\"CommaDelimitedList\",\"Default\":\"a\"}},\"Resources\":{\"R\":{\"Type\":\"T\"}},\"Mappings\":{\"M\":{\"x\":{\"y\":\"leaf\"}}},\"Conditions\":{\"C\":{\"Condition\":\"D\"},\"D\":{\"Condition\":\"D\"}}}" "ConditionLoop"
unfolding serde_json_on_literals digits is_utf8 chars encode_utf8
leads_to_a_loop = refl

leads_to_a_loop_after_a_fault : Tells "{\"Parameters\":{\"P\":{\"Type\":\"String\",\"Default\":\"dev\"},\"L\":{\"Type\":\"CommaDelimitedList\",\"Default\":\"a\"}},\"Resources\":{\"R\":{\"Type\":\"T\"}},\"Mappings\":{\"M\":{\"x\":{\"y\":\"leaf\"}}},\"Conditions\":{\"C\":{\"Fn::And\":[{\"Condition\":\"Nope\"},{\"Condition\":\"D\"}]},\"D\":{\"Condition\":\"D\"}}}" "UnknownName"
unfolding serde_json_on_literals digits is_utf8 chars encode_utf8
leads_to_a_loop_after_a_fault = refl

no_loop_in_a_wrong_form : Tells "{\"Parameters\":{\"P\":{\"Type\":\"String\",\"Default\":\"dev\"},\"L\":{\"Type\":\"CommaDelimitedList\",\"Default\":\"a\"}},\"Resources\":{\"R\":{\"Type\":\"T\"}},\"Mappings\":{\"M\":{\"x\":{\"y\":\"leaf\"}}},\"Conditions\":{\"C\":{\"Fn::And\":[{\"Condition\":\"C\"}]}}}" "BadIntrinsic"
unfolding serde_json_on_literals digits is_utf8 chars encode_utf8
no_loop_in_a_wrong_form = refl

no_loop_in_an_operand : Tells "{\"Parameters\":{\"P\":{\"Type\":\"String\",\"Default\":\"dev\"},\"L\":{\"Type\":\"CommaDelimitedList\",\"Default\":\"a\"}},\"Resources\":{\"R\":{\"Type\":\"T\"}},\"Mappings\":{\"M\":{\"x\":{\"y\":\"leaf\"}}},\"Conditions\":{\"C\":{\"Fn::Equals\":[\"a\",{\"Condition\":\"C\"}]}}}" "NotText"
unfolding serde_json_on_literals digits is_utf8 chars encode_utf8
no_loop_in_an_operand = refl

no_loop_twice_named : Tells "{\"Parameters\":{\"P\":{\"Type\":\"String\",\"Default\":\"dev\"},\"L\":{\"Type\":\"CommaDelimitedList\",\"Default\":\"a\"}},\"Resources\":{\"R\":{\"Type\":\"T\"}},\"Mappings\":{\"M\":{\"x\":{\"y\":\"leaf\"}}},\"Conditions\":{\"A\":{\"Fn::Equals\":[\"a\",\"a\"]},\"B\":{\"Fn::And\":[{\"Condition\":\"A\"},{\"Condition\":\"A\"}]},\"C\":{\"Fn::And\":[{\"Condition\":\"B\"},{\"Condition\":\"B\"}]}}}" "true"
unfolding serde_json_on_literals digits is_utf8 chars encode_utf8
no_loop_twice_named = refl

chain_of_all : Tells "{\"Parameters\":{\"P\":{\"Type\":\"String\",\"Default\":\"dev\"},\"L\":{\"Type\":\"CommaDelimitedList\",\"Default\":\"a\"}},\"Resources\":{\"R\":{\"Type\":\"T\"}},\"Mappings\":{\"M\":{\"x\":{\"y\":\"leaf\"}}},\"Conditions\":{\"A\":{\"Condition\":\"Nope\"},\"B\":{\"Condition\":\"A\"},\"C\":{\"Condition\":\"B\"}}}" "UnknownName"
unfolding serde_json_on_literals digits is_utf8 chars encode_utf8
chain_of_all = refl
