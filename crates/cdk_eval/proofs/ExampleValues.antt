-- Worked outcomes of values, by computation.
use Rattle.std.specs.Char.{encode_utf8}
use Rattle.std.specs.Str.{is_utf8, chars}
use Rattle.std.proofs.Common.{refl}
use Rattle.std.specs.Fmt.{digits}
use Rattle.serde_json.proofs.OnLiterals.{serde_json_on_literals}
use Rattle.cdk_eval.proofs.Shown.{Gives}

-- literals

null_is_bad : Gives "null" "BadIntrinsic"
unfolding serde_json_on_literals digits is_utf8 chars encode_utf8
null_is_bad = refl

greatest_whole : Gives "18446744073709551615" "18446744073709551615"
unfolding serde_json_on_literals digits is_utf8 chars encode_utf8
greatest_whole = refl

past_the_greatest : Gives "18446744073709551616" "BadIntrinsic"
unfolding serde_json_on_literals digits is_utf8 chars encode_utf8
past_the_greatest = refl

least_whole : Gives "-9223372036854775808" "-9223372036854775808"
unfolding serde_json_on_literals digits is_utf8 chars encode_utf8
least_whole = refl

half_is_bad : Gives "[1.5]" "BadIntrinsic"
unfolding serde_json_on_literals digits is_utf8 chars encode_utf8
half_is_bad = refl

condition_key_is_plain : Gives "{\"Condition\":\"x\"}" "{\"Condition\":\"x\"}"
unfolding serde_json_on_literals digits is_utf8 chars encode_utf8
condition_key_is_plain = refl

-- left to right, keys in byte order, and the first fault

first_item_faults : Gives "[null,{\"Ref\":\"Nope\"}]" "BadIntrinsic"
unfolding serde_json_on_literals digits is_utf8 chars encode_utf8
first_item_faults = refl

first_key_faults : Gives "{\"b\":null,\"a\":{\"Ref\":\"Nope\"}}" "UnknownName"
unfolding serde_json_on_literals digits is_utf8 chars encode_utf8
first_key_faults = refl

-- gone parts are dropped

gone_itself : Gives "{\"Ref\":\"AWS::NoValue\"}" "gone"
unfolding serde_json_on_literals digits is_utf8 chars encode_utf8
gone_itself = refl

gone_item : Gives "[\"a\",{\"Ref\":\"AWS::NoValue\"}]" "[\"a\"]"
unfolding serde_json_on_literals digits is_utf8 chars encode_utf8
gone_item = refl

gone_member : Gives "{\"x\":{\"Ref\":\"AWS::NoValue\"},\"y\":1}" "{\"y\":1}"
unfolding serde_json_on_literals digits is_utf8 chars encode_utf8
gone_member = refl

gone_join_item : Gives "{\"Fn::Join\":[\"-\",[\"a\",{\"Ref\":\"AWS::NoValue\"},\"b\"]]}" "\"a-b\""
unfolding serde_json_on_literals digits is_utf8 chars encode_utf8
gone_join_item = refl

gone_select_item : Gives "{\"Fn::Select\":[1,[\"a\",{\"Ref\":\"AWS::NoValue\"},\"b\"]]}" "\"b\""
unfolding serde_json_on_literals digits is_utf8 chars encode_utf8
gone_select_item = refl

gone_list : Gives "{\"Fn::Join\":[\"-\",{\"Ref\":\"AWS::NoValue\"}]}" "NotText"
unfolding serde_json_on_literals digits is_utf8 chars encode_utf8
gone_list = refl

-- forms

two_keys : Gives "{\"Fn::Join\":[\"\",[]],\"K\":1}" "BadIntrinsic"
unfolding serde_json_on_literals digits is_utf8 chars encode_utf8
two_keys = refl

no_such_form : Gives "{\"Fn::Base64\":\"x\"}" "BadIntrinsic"
unfolding serde_json_on_literals digits is_utf8 chars encode_utf8
no_such_form = refl

condition_form_in_a_value : Gives "{\"Fn::Equals\":[\"a\",\"a\"]}" "BadIntrinsic"
unfolding serde_json_on_literals digits is_utf8 chars encode_utf8
condition_form_in_a_value = refl

form_before_arguments : Gives "{\"Fn::Join\":[1,{\"Ref\":\"Nope\"}]}" "BadIntrinsic"
unfolding serde_json_on_literals digits is_utf8 chars encode_utf8
form_before_arguments = refl

-- Ref

ref_parameter : Gives "{\"Ref\":\"P\"}" "\"dev\""
unfolding serde_json_on_literals digits is_utf8 chars encode_utf8
ref_parameter = refl

ref_number_parameter : Gives "{\"Ref\":\"N\"}" "\"5\""
unfolding serde_json_on_literals digits is_utf8 chars encode_utf8
ref_number_parameter = refl

ref_list_parameter : Gives "{\"Ref\":\"L\"}" "[\"a\",\"b\",\"c\"]"
unfolding serde_json_on_literals digits is_utf8 chars encode_utf8
ref_list_parameter = refl

ref_empty_list_parameter : Gives "{\"Ref\":\"E\"}" "[\"\"]"
unfolding serde_json_on_literals digits is_utf8 chars encode_utf8
ref_empty_list_parameter = refl

ref_parameter_without_value : Gives "{\"Ref\":\"Q\"}" "NoParameter"
unfolding serde_json_on_literals digits is_utf8 chars encode_utf8
ref_parameter_without_value = refl

ref_parameter_before_resource : Gives "{\"Ref\":\"Both\"}" "\"par\""
unfolding serde_json_on_literals digits is_utf8 chars encode_utf8
ref_parameter_before_resource = refl

ref_resource : Gives "{\"Ref\":\"R\"}" "\"S.R\""
unfolding serde_json_on_literals digits is_utf8 chars encode_utf8
ref_resource = refl

ref_resource_not_made : Gives "{\"Ref\":\"Off\"}" "NotMade"
unfolding serde_json_on_literals digits is_utf8 chars encode_utf8
ref_resource_not_made = refl

ref_resource_of_lost_condition : Gives "{\"Ref\":\"Lost\"}" "UnknownName"
unfolding serde_json_on_literals digits is_utf8 chars encode_utf8
ref_resource_of_lost_condition = refl

ref_unknown : Gives "{\"Ref\":\"Nope\"}" "UnknownName"
unfolding serde_json_on_literals digits is_utf8 chars encode_utf8
ref_unknown = refl

ref_of_a_number : Gives "{\"Ref\":1}" "BadIntrinsic"
unfolding serde_json_on_literals digits is_utf8 chars encode_utf8
ref_of_a_number = refl

ref_region : Gives "{\"Ref\":\"AWS::Region\"}" "\"us-east-1\""
unfolding serde_json_on_literals digits is_utf8 chars encode_utf8
ref_region = refl

ref_account : Gives "{\"Ref\":\"AWS::AccountId\"}" "\"111111111111\""
unfolding serde_json_on_literals digits is_utf8 chars encode_utf8
ref_account = refl

ref_partition : Gives "{\"Ref\":\"AWS::Partition\"}" "\"aws\""
unfolding serde_json_on_literals digits is_utf8 chars encode_utf8
ref_partition = refl

ref_url_suffix : Gives "{\"Ref\":\"AWS::URLSuffix\"}" "\"amazonaws.com\""
unfolding serde_json_on_literals digits is_utf8 chars encode_utf8
ref_url_suffix = refl

ref_stack_name : Gives "{\"Ref\":\"AWS::StackName\"}" "\"S\""
unfolding serde_json_on_literals digits is_utf8 chars encode_utf8
ref_stack_name = refl

ref_stack_id : Gives "{\"Ref\":\"AWS::StackId\"}" "\"stack/S\""
unfolding serde_json_on_literals digits is_utf8 chars encode_utf8
ref_stack_id = refl

ref_no_pseudo_parameter : Gives "{\"Ref\":\"AWS::Nope\"}" "UnknownName"
unfolding serde_json_on_literals digits is_utf8 chars encode_utf8
ref_no_pseudo_parameter = refl

-- Fn::GetAtt

att_of_resource : Gives "{\"Fn::GetAtt\":[\"R\",\"Arn\"]}" "\"S.R.Arn\""
unfolding serde_json_on_literals digits is_utf8 chars encode_utf8
att_of_resource = refl

att_of_empty_name : Gives "{\"Fn::GetAtt\":[\"R\",\"\"]}" "\"S.R.\""
unfolding serde_json_on_literals digits is_utf8 chars encode_utf8
att_of_empty_name = refl

att_not_made : Gives "{\"Fn::GetAtt\":[\"Off\",\"Arn\"]}" "NotMade"
unfolding serde_json_on_literals digits is_utf8 chars encode_utf8
att_not_made = refl

att_of_parameter : Gives "{\"Fn::GetAtt\":[\"P\",\"Arn\"]}" "UnknownName"
unfolding serde_json_on_literals digits is_utf8 chars encode_utf8
att_of_parameter = refl

att_in_one_text : Gives "{\"Fn::GetAtt\":\"R.Arn\"}" "BadIntrinsic"
unfolding serde_json_on_literals digits is_utf8 chars encode_utf8
att_in_one_text = refl

-- Fn::Join

join_between : Gives "{\"Fn::Join\":[\", \",[\"a\",2,true]]}" "\"a, 2, true\""
unfolding serde_json_on_literals digits is_utf8 chars encode_utf8
join_between = refl

join_of_nothing : Gives "{\"Fn::Join\":[\", \",[]]}" "\"\""
unfolding serde_json_on_literals digits is_utf8 chars encode_utf8
join_of_nothing = refl

join_of_list_parameter : Gives "{\"Fn::Join\":[\"|\",{\"Ref\":\"L\"}]}" "\"a|b|c\""
unfolding serde_json_on_literals digits is_utf8 chars encode_utf8
join_of_list_parameter = refl

join_of_a_text : Gives "{\"Fn::Join\":[\"\",\"a\"]}" "NotText"
unfolding serde_json_on_literals digits is_utf8 chars encode_utf8
join_of_a_text = refl

join_item_without_text : Gives "{\"Fn::Join\":[\"\",[\"a\",[]]]}" "NotText"
unfolding serde_json_on_literals digits is_utf8 chars encode_utf8
join_item_without_text = refl

join_evaluates_before_texts : Gives "{\"Fn::Join\":[\"\",[[],{\"Ref\":\"Nope\"}]]}" "UnknownName"
unfolding serde_json_on_literals digits is_utf8 chars encode_utf8
join_evaluates_before_texts = refl

join_of_three : Gives "{\"Fn::Join\":[\"\",[],[]]}" "BadIntrinsic"
unfolding serde_json_on_literals digits is_utf8 chars encode_utf8
join_of_three = refl

-- Fn::Select

select_by_number : Gives "{\"Fn::Select\":[2,[\"a\",\"b\",\"c\"]]}" "\"c\""
unfolding serde_json_on_literals digits is_utf8 chars encode_utf8
select_by_number = refl

select_by_text : Gives "{\"Fn::Select\":[\"1\",[\"a\",\"b\"]]}" "\"b\""
unfolding serde_json_on_literals digits is_utf8 chars encode_utf8
select_by_text = refl

select_leading_zero : Gives "{\"Fn::Select\":[\"01\",[\"a\",\"b\"]]}" "BadIntrinsic"
unfolding serde_json_on_literals digits is_utf8 chars encode_utf8
select_leading_zero = refl

select_empty_index : Gives "{\"Fn::Select\":[\"\",[\"a\",\"b\"]]}" "BadIntrinsic"
unfolding serde_json_on_literals digits is_utf8 chars encode_utf8
select_empty_index = refl

select_greatest_index : Gives "{\"Fn::Select\":[\"18446744073709551615\",[\"a\"]]}" "NoItem"
unfolding serde_json_on_literals digits is_utf8 chars encode_utf8
select_greatest_index = refl

select_past_64_bits : Gives "{\"Fn::Select\":[\"18446744073709551616\",[\"a\"]]}" "BadIntrinsic"
unfolding serde_json_on_literals digits is_utf8 chars encode_utf8
select_past_64_bits = refl

select_below_zero : Gives "{\"Fn::Select\":[-1,[\"a\"]]}" "BadIntrinsic"
unfolding serde_json_on_literals digits is_utf8 chars encode_utf8
select_below_zero = refl

select_past_the_end : Gives "{\"Fn::Select\":[2,[\"a\",\"b\"]]}" "NoItem"
unfolding serde_json_on_literals digits is_utf8 chars encode_utf8
select_past_the_end = refl

select_of_a_text : Gives "{\"Fn::Select\":[0,\"a\"]}" "NotText"
unfolding serde_json_on_literals digits is_utf8 chars encode_utf8
select_of_a_text = refl

select_of_split : Gives "{\"Fn::Select\":[1,{\"Fn::Split\":[\",\",\"x,yy,z\"]}]}" "\"yy\""
unfolding serde_json_on_literals digits is_utf8 chars encode_utf8
select_of_split = refl

-- Fn::Split

split_from_the_left : Gives "{\"Fn::Split\":[\"aa\",\"aaaba\"]}" "[\"\",\"aba\"]"
unfolding serde_json_on_literals digits is_utf8 chars encode_utf8
split_from_the_left = refl

split_at_the_ends : Gives "{\"Fn::Split\":[\",\",\",b,,c,\"]}" "[\"\",\"b\",\"\",\"c\",\"\"]"
unfolding serde_json_on_literals digits is_utf8 chars encode_utf8
split_at_the_ends = refl

split_without_delimiter : Gives "{\"Fn::Split\":[\",\",12]}" "[\"12\"]"
unfolding serde_json_on_literals digits is_utf8 chars encode_utf8
split_without_delimiter = refl

split_at_nothing : Gives "{\"Fn::Split\":[\"\",\"ab\"]}" "BadIntrinsic"
unfolding serde_json_on_literals digits is_utf8 chars encode_utf8
split_at_nothing = refl

split_of_a_list : Gives "{\"Fn::Split\":[\",\",{\"Ref\":\"L\"}]}" "NotText"
unfolding serde_json_on_literals digits is_utf8 chars encode_utf8
split_of_a_list = refl

-- Fn::Sub

sub_of_all_kinds : Gives "{\"Fn::Sub\":[\"a${X}-${!Y}-${R.Arn}-${AWS::NoValue}.${P}\",{\"X\":5}]}" "\"a5-${Y}-S.R.Arn-.dev\""
unfolding serde_json_on_literals digits is_utf8 chars encode_utf8
sub_of_all_kinds = refl

sub_cut_at_first_stop : Gives "{\"Fn::Sub\":\"${R.A.B}\"}" "\"S.R.A.B\""
unfolding serde_json_on_literals digits is_utf8 chars encode_utf8
sub_cut_at_first_stop = refl

sub_attribute_before_own_name : Gives "{\"Fn::Sub\":[\"${R.A}${R}\",{\"R.A\":\"v\",\"R\":\"w\"}]}" "\"S.R.Aw\""
unfolding serde_json_on_literals digits is_utf8 chars encode_utf8
sub_attribute_before_own_name = refl

sub_of_an_empty_mark : Gives "{\"Fn::Sub\":\"${!}\"}" "\"${}\""
unfolding serde_json_on_literals digits is_utf8 chars encode_utf8
sub_of_an_empty_mark = refl

sub_of_an_empty_name : Gives "{\"Fn::Sub\":[\"${}\",{\"\":\"v\"}]}" "\"v\""
unfolding serde_json_on_literals digits is_utf8 chars encode_utf8
sub_of_an_empty_name = refl

sub_unused_names : Gives "{\"Fn::Sub\":[\"a\",{\"X\":null}]}" "\"a\""
unfolding serde_json_on_literals digits is_utf8 chars encode_utf8
sub_unused_names = refl

sub_names_like_intrinsics : Gives "{\"Fn::Sub\":[\"${Ref}\",{\"Ref\":\"q\"}]}" "\"q\""
unfolding serde_json_on_literals digits is_utf8 chars encode_utf8
sub_names_like_intrinsics = refl

sub_without_end : Gives "{\"Fn::Sub\":\"${Nope}${R\"}" "BadIntrinsic"
unfolding serde_json_on_literals digits is_utf8 chars encode_utf8
sub_without_end = refl

sub_dollar_alone : Gives "{\"Fn::Sub\":\"$R $${R}\"}" "\"$R $S.R\""
unfolding serde_json_on_literals digits is_utf8 chars encode_utf8
sub_dollar_alone = refl

sub_without_names : Gives "{\"Fn::Sub\":[\"a\"]}" "BadIntrinsic"
unfolding serde_json_on_literals digits is_utf8 chars encode_utf8
sub_without_names = refl

sub_of_names_in_a_list : Gives "{\"Fn::Sub\":[\"a\",[]]}" "BadIntrinsic"
unfolding serde_json_on_literals digits is_utf8 chars encode_utf8
sub_of_names_in_a_list = refl

sub_evaluates_before_texts : Gives "{\"Fn::Sub\":[\"${X}${Nope}\",{\"X\":[]}]}" "UnknownName"
unfolding serde_json_on_literals digits is_utf8 chars encode_utf8
sub_evaluates_before_texts = refl

sub_part_without_text : Gives "{\"Fn::Sub\":\"${L}\"}" "NotText"
unfolding serde_json_on_literals digits is_utf8 chars encode_utf8
sub_part_without_text = refl

sub_pseudo_attribute : Gives "{\"Fn::Sub\":\"${AWS::StackName.A}\"}" "UnknownName"
unfolding serde_json_on_literals digits is_utf8 chars encode_utf8
sub_pseudo_attribute = refl

-- Fn::If

if_takes_the_first : Gives "{\"Fn::If\":[\"Yes\",\"a\",null]}" "\"a\""
unfolding serde_json_on_literals digits is_utf8 chars encode_utf8
if_takes_the_first = refl

if_takes_the_second : Gives "{\"Fn::If\":[\"No\",null,\"b\"]}" "\"b\""
unfolding serde_json_on_literals digits is_utf8 chars encode_utf8
if_takes_the_second = refl

if_taken_branch_faults : Gives "{\"Fn::If\":[\"No\",\"a\",null]}" "BadIntrinsic"
unfolding serde_json_on_literals digits is_utf8 chars encode_utf8
if_taken_branch_faults = refl

if_of_no_condition : Gives "{\"Fn::If\":[\"Nope\",\"a\",\"b\"]}" "UnknownName"
unfolding serde_json_on_literals digits is_utf8 chars encode_utf8
if_of_no_condition = refl

if_of_a_loop : Gives "{\"Fn::If\":[\"Loop\",\"a\",\"b\"]}" "ConditionLoop"
unfolding serde_json_on_literals digits is_utf8 chars encode_utf8
if_of_a_loop = refl

if_of_no_text : Gives "{\"Fn::If\":[true,\"a\",\"b\"]}" "BadIntrinsic"
unfolding serde_json_on_literals digits is_utf8 chars encode_utf8
if_of_no_text = refl

if_of_two : Gives "{\"Fn::If\":[\"Yes\",\"a\"]}" "BadIntrinsic"
unfolding serde_json_on_literals digits is_utf8 chars encode_utf8
if_of_two = refl

if_to_gone : Gives "[\"x\",{\"Fn::If\":[\"Yes\",{\"Ref\":\"AWS::NoValue\"},\"b\"]}]" "[\"x\"]"
unfolding serde_json_on_literals digits is_utf8 chars encode_utf8
if_to_gone = refl

-- Fn::FindInMap

map_leaf : Gives "{\"Fn::FindInMap\":[\"M\",\"x\",\"n\"]}" "7"
unfolding serde_json_on_literals digits is_utf8 chars encode_utf8
map_leaf = refl

map_by_references : Gives "{\"Fn::FindInMap\":[\"M\",{\"Fn::Select\":[0,[\"x\"]]},{\"Fn::Join\":[\"\",[\"y\"]]}]}" "\"leaf\""
unfolding serde_json_on_literals digits is_utf8 chars encode_utf8
map_by_references = refl

map_unknown : Gives "{\"Fn::FindInMap\":[\"Nope\",\"x\",\"y\"]}" "NoMapping"
unfolding serde_json_on_literals digits is_utf8 chars encode_utf8
map_unknown = refl

map_unknown_key : Gives "{\"Fn::FindInMap\":[\"M\",\"y\",\"y\"]}" "NoMapping"
unfolding serde_json_on_literals digits is_utf8 chars encode_utf8
map_unknown_key = refl

map_unknown_second_key : Gives "{\"Fn::FindInMap\":[\"M\",\"x\",\"x\"]}" "NoMapping"
unfolding serde_json_on_literals digits is_utf8 chars encode_utf8
map_unknown_second_key = refl

map_leaf_is_never_evaluated : Gives "{\"Fn::FindInMap\":[\"M\",\"x\",\"ref\"]}" "BadIntrinsic"
unfolding serde_json_on_literals digits is_utf8 chars encode_utf8
map_leaf_is_never_evaluated = refl

map_leaf_is_half : Gives "{\"Fn::FindInMap\":[\"M\",\"x\",\"half\"]}" "BadIntrinsic"
unfolding serde_json_on_literals digits is_utf8 chars encode_utf8
map_leaf_is_half = refl

map_text_before_mapping : Gives "{\"Fn::FindInMap\":[\"Nope\",[],\"y\"]}" "NotText"
unfolding serde_json_on_literals digits is_utf8 chars encode_utf8
map_text_before_mapping = refl

map_evaluates_before_texts : Gives "{\"Fn::FindInMap\":[[],\"x\",{\"Ref\":\"Nope\"}]}" "UnknownName"
unfolding serde_json_on_literals digits is_utf8 chars encode_utf8
map_evaluates_before_texts = refl

map_of_four : Gives "{\"Fn::FindInMap\":[\"M\",\"x\",\"y\",{}]}" "BadIntrinsic"
unfolding serde_json_on_literals digits is_utf8 chars encode_utf8
map_of_four = refl

-- Fn::ImportValue, under the one export `E` of the text `out`

import_text : Gives "{\"Fn::ImportValue\":\"E\"}" "\"out\""
unfolding serde_json_on_literals digits is_utf8 chars encode_utf8
import_text = refl

import_evaluates_its_name : Gives "{\"Fn::ImportValue\":{\"Fn::Join\":[\"\",[\"E\"]]}}" "\"out\""
unfolding serde_json_on_literals digits is_utf8 chars encode_utf8
import_evaluates_its_name = refl

import_of_nothing : Gives "{\"Fn::ImportValue\":\"F\"}" "NoExport"
unfolding serde_json_on_literals digits is_utf8 chars encode_utf8
import_of_nothing = refl

import_of_a_list : Gives "{\"Fn::ImportValue\":[\"E\"]}" "NotText"
unfolding serde_json_on_literals digits is_utf8 chars encode_utf8
import_of_a_list = refl
