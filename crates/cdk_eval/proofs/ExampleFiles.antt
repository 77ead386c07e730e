-- Worked readings of files: the first that misses its form, and where. By computation.
use Rattle.std.specs.Char.{encode_utf8}
use Rattle.std.specs.Str.{is_utf8, chars}
use Rattle.std.proofs.Common.{◌≡◌, refl}
use Rattle.std.specs.Fmt.{digits}
use Rattle.serde_json.proofs.OnLiterals.{serde_json_on_literals}
use Rattle.std.specs.Prelude.{[], ◌∷◌}
use Rattle.std.proofs.Common.{None}
use Rattle.std.specs.Prelude.{codes}
use Rattle.serde_json.specs.Data.{Data}
use Rattle.cdk_eval.specs.Manifest.{stacks_of, cyclic, in_order, ids, AreApart}
use Rattle.cdk_eval.proofs.Shown.{Reports, json}

-- A manifest that is no JSON.
manifest_cut_short : Reports
    (("out/manifest.json", "{") ∷ [])
    "{}"
    "AsmNotJson out/manifest.json "
unfolding serde_json_on_literals digits is_utf8 chars encode_utf8
manifest_cut_short = refl

-- A missing member is told of its object.
manifest_without_artifacts : Reports
    (("out/manifest.json", "{}") ∷ [])
    "{}"
    "AsmShape out/manifest.json "
unfolding serde_json_on_literals digits is_utf8 chars encode_utf8
manifest_without_artifacts = refl

-- A cycle by dependencies: its least artifact id.
manifest_with_a_cycle : Reports
    (("out/manifest.json", "{\"artifacts\":{\"A\":{\"type\":\"aws:cloudformation:stack\",\"properties\":{\"templateFile\":\"A.template.json\"},\"dependencies\":[\"B\"]},\"B\":{\"type\":\"aws:cloudformation:stack\",\"properties\":{\"templateFile\":\"B.template.json\"},\"dependencies\":[\"C\",\"A\"]},\"C\":{\"type\":\"aws:cloudformation:stack\",\"properties\":{\"templateFile\":\"C.template.json\"},\"dependencies\":[\"A\",\"X\"]},\"D\":{\"type\":\"aws:cloudformation:stack\",\"properties\":{\"templateFile\":\"D.template.json\"},\"dependencies\":[\"A\"]}},\"version\":\"36.0.0\"}") ∷ [])
    "{}"
    "AsmCycle out/manifest.json A"
unfolding serde_json_on_literals digits is_utf8 chars encode_utf8
manifest_with_a_cycle = refl

-- What only leads to a cycle doesn't reach itself.
stack_on_itself : Reports
    (("out/manifest.json", "{\"artifacts\":{\"A\":{\"type\":\"aws:cloudformation:stack\",\"properties\":{\"templateFile\":\"A.template.json\"},\"dependencies\":[\"B\"]},\"B\":{\"type\":\"aws:cloudformation:stack\",\"properties\":{\"templateFile\":\"B.template.json\"},\"dependencies\":[\"B\"]}},\"version\":\"36.0.0\"}") ∷ [])
    "{}"
    "AsmCycle out/manifest.json B"
unfolding serde_json_on_literals digits is_utf8 chars encode_utf8
stack_on_itself = refl

-- A file name with a `/`, told before the cycle.
file_name_with_a_step : Reports
    (("out/manifest.json", "{\"artifacts\":{\"A\":{\"type\":\"aws:cloudformation:stack\",\"properties\":{\"templateFile\":\"A.template.json\"},\"dependencies\":[\"A\"]},\"S\":{\"type\":\"aws:cloudformation:stack\",\"properties\":{\"templateFile\":\"../x\"}}},\"version\":\"36.0.0\"}") ∷ [])
    "{}"
    "AsmShape out/manifest.json /artifacts/S/properties/templateFile"
unfolding serde_json_on_literals digits is_utf8 chars encode_utf8
file_name_with_a_step = refl

-- An artifact of no type is no stack.
wrong_type : Reports
    (("out/manifest.json", "{\"artifacts\":{\"A\":{\"type\":1,\"properties\":2}},\"version\":\"36.0.0\"}") ∷ [])
    "{}"
    "AsmShape out/manifest.json /artifacts/A/type"
unfolding serde_json_on_literals digits is_utf8 chars encode_utf8
wrong_type = refl

-- A stack without properties.
stack_without_properties : Reports
    (("out/manifest.json", "{\"artifacts\":{\"A\":{\"type\":\"aws:cloudformation:stack\"}},\"version\":\"36.0.0\"}") ∷ [])
    "{}"
    "AsmShape out/manifest.json /artifacts/A"
unfolding serde_json_on_literals digits is_utf8 chars encode_utf8
stack_without_properties = refl

-- A missing member stands before a wrong one in the same object.
stack_without_file : Reports
    (("out/manifest.json", "{\"artifacts\":{\"A\":{\"type\":\"aws:cloudformation:stack\",\"properties\":{\"stackName\":1}}},\"version\":\"36.0.0\"}") ∷ [])
    "{}"
    "AsmShape out/manifest.json /artifacts/A/properties"
unfolding serde_json_on_literals digits is_utf8 chars encode_utf8
stack_without_file = refl

-- A wrong item of a list is told at itself.
wrong_dependency : Reports
    (("out/manifest.json", "{\"artifacts\":{\"A\":{\"type\":\"aws:cloudformation:stack\",\"properties\":{\"templateFile\":\"A.template.json\"},\"dependencies\":[\"B\",1]}},\"version\":\"36.0.0\"}") ∷ [])
    "{}"
    "AsmShape out/manifest.json /artifacts/A/dependencies/1"
unfolding serde_json_on_literals digits is_utf8 chars encode_utf8
wrong_dependency = refl

-- Keys are escaped in pointers.
escaped_pointer : Reports
    (("out/manifest.json", "{\"artifacts\":{\"~/\":{\"type\":\"aws:cloudformation:stack\",\"properties\":{\"templateFile\":\"A.template.json\"},\"dependencies\":1}},\"version\":\"36.0.0\"}") ∷ [])
    "{}"
    "AsmShape out/manifest.json /artifacts/~0~1/dependencies"
unfolding serde_json_on_literals digits is_utf8 chars encode_utf8
escaped_pointer = refl

-- An artifact without a type.
artifact_without_type : Reports
    (("out/manifest.json", "{\"artifacts\":{\"A\":{\"properties\":{}}},\"version\":\"36.0.0\"}") ∷ [])
    "{}"
    "AsmShape out/manifest.json /artifacts/A"
unfolding serde_json_on_literals digits is_utf8 chars encode_utf8
artifact_without_type = refl

-- An empty file name.
empty_file_name : Reports
    (("out/manifest.json", "{\"artifacts\":{\"A\":{\"type\":\"aws:cloudformation:stack\",\"properties\":{\"templateFile\":\"\"}}},\"version\":\"36.0.0\"}") ∷ [])
    "{}"
    "AsmShape out/manifest.json /artifacts/A/properties/templateFile"
unfolding serde_json_on_literals digits is_utf8 chars encode_utf8
empty_file_name = refl

-- A stack's name is a text.
wrong_stack_name : Reports
    (("out/manifest.json", "{\"artifacts\":{\"A\":{\"type\":\"aws:cloudformation:stack\",\"properties\":{\"templateFile\":\"A.template.json\",\"stackName\":1}}},\"version\":\"36.0.0\"}") ∷ [])
    "{}"
    "AsmShape out/manifest.json /artifacts/A/properties/stackName"
unfolding serde_json_on_literals digits is_utf8 chars encode_utf8
wrong_stack_name = refl

-- The directory itself.
directory_itself : Reports
    (("out/manifest.json", "{\"artifacts\":{\"A\":{\"type\":\"cdk:cloud-assembly\",\"properties\":{\"directoryName\":\".\"}}},\"version\":\"36.0.0\"}") ∷ [])
    "{}"
    "AsmShape out/manifest.json /artifacts/A/properties/directoryName"
unfolding serde_json_on_literals digits is_utf8 chars encode_utf8
directory_itself = refl

-- A directory above.
directory_above : Reports
    (("out/manifest.json", "{\"artifacts\":{\"A\":{\"type\":\"cdk:cloud-assembly\",\"properties\":{\"directoryName\":\"..\"}}},\"version\":\"36.0.0\"}") ∷ [])
    "{}"
    "AsmShape out/manifest.json /artifacts/A/properties/directoryName"
unfolding serde_json_on_literals digits is_utf8 chars encode_utf8
directory_above = refl

-- A file that isn't there.
missing_template : Reports
    (("out/manifest.json", "{\"artifacts\":{\"S\":{\"type\":\"aws:cloudformation:stack\",\"properties\":{\"templateFile\":\"S.template.json\"}}},\"version\":\"36.0.0\"}") ∷ [])
    "{}"
    "absent out/S.template.json"
unfolding serde_json_on_literals digits is_utf8 chars encode_utf8
missing_template = refl

-- A wrong member of a template.
wrong_member_of_a_template : Reports
    (("out/manifest.json", "{\"artifacts\":{\"S\":{\"type\":\"aws:cloudformation:stack\",\"properties\":{\"templateFile\":\"S.template.json\"}}},\"version\":\"36.0.0\"}") ∷ ("out/S.template.json", "{\"Outputs\":{\"O\":{\"Value\":1}},\"Resources\":{\"R\":{\"Properties\":[],\"Type\":1}}}") ∷ [])
    "{}"
    "AsmShape out/S.template.json /Resources/R/Properties"
unfolding serde_json_on_literals digits is_utf8 chars encode_utf8
wrong_member_of_a_template = refl

-- A null is no object; an export needs a name.
null_in_a_template : Reports
    (("out/manifest.json", "{\"artifacts\":{\"S\":{\"type\":\"aws:cloudformation:stack\",\"properties\":{\"templateFile\":\"S.template.json\"}}},\"version\":\"36.0.0\"}") ∷ ("out/S.template.json", "{\"Conditions\":null,\"Outputs\":{\"O\":{\"Export\":{}}}}") ∷ [])
    "{}"
    "AsmShape out/S.template.json /Conditions"
unfolding serde_json_on_literals digits is_utf8 chars encode_utf8
null_in_a_template = refl

-- A condition is an object.
condition_of_a_text : Reports
    (("out/manifest.json", "{\"artifacts\":{\"S\":{\"type\":\"aws:cloudformation:stack\",\"properties\":{\"templateFile\":\"S.template.json\"}}},\"version\":\"36.0.0\"}") ∷ ("out/S.template.json", "{\"Conditions\":{\"C\":\"x\"}}") ∷ [])
    "{}"
    "AsmShape out/S.template.json /Conditions/C"
unfolding serde_json_on_literals digits is_utf8 chars encode_utf8
condition_of_a_text = refl

-- A missing type of a resource.
resource_without_type : Reports
    (("out/manifest.json", "{\"artifacts\":{\"S\":{\"type\":\"aws:cloudformation:stack\",\"properties\":{\"templateFile\":\"S.template.json\"}}},\"version\":\"36.0.0\"}") ∷ ("out/S.template.json", "{\"Resources\":{\"R\":{\"Properties\":1}}}") ∷ [])
    "{}"
    "AsmShape out/S.template.json /Resources/R"
unfolding serde_json_on_literals digits is_utf8 chars encode_utf8
resource_without_type = refl

-- A resource's condition is a name.
wrong_condition_of_a_resource : Reports
    (("out/manifest.json", "{\"artifacts\":{\"S\":{\"type\":\"aws:cloudformation:stack\",\"properties\":{\"templateFile\":\"S.template.json\"}}},\"version\":\"36.0.0\"}") ∷ ("out/S.template.json", "{\"Resources\":{\"R\":{\"Type\":\"T\",\"Condition\":{\"Fn::Equals\":[1,1]}}}}") ∷ [])
    "{}"
    "AsmShape out/S.template.json /Resources/R/Condition"
unfolding serde_json_on_literals digits is_utf8 chars encode_utf8
wrong_condition_of_a_resource = refl

-- An output's condition is a name.
wrong_condition_of_an_output : Reports
    (("out/manifest.json", "{\"artifacts\":{\"S\":{\"type\":\"aws:cloudformation:stack\",\"properties\":{\"templateFile\":\"S.template.json\"}}},\"version\":\"36.0.0\"}") ∷ ("out/S.template.json", "{\"Outputs\":{\"O\":{\"Value\":1,\"Condition\":true}}}") ∷ [])
    "{}"
    "AsmShape out/S.template.json /Outputs/O/Condition"
unfolding serde_json_on_literals digits is_utf8 chars encode_utf8
wrong_condition_of_an_output = refl

-- A missing type of a parameter.
parameter_without_type : Reports
    (("out/manifest.json", "{\"artifacts\":{\"S\":{\"type\":\"aws:cloudformation:stack\",\"properties\":{\"templateFile\":\"S.template.json\"}}},\"version\":\"36.0.0\"}") ∷ ("out/S.template.json", "{\"Parameters\":{\"P\":{\"Default\":\"x\"}}}") ∷ [])
    "{}"
    "AsmShape out/S.template.json /Parameters/P"
unfolding serde_json_on_literals digits is_utf8 chars encode_utf8
parameter_without_type = refl

-- Other members are passed over.
passed_over : Reports
    (("out/manifest.json", "{\"artifacts\":{\"S\":{\"type\":\"aws:cloudformation:stack\",\"properties\":{\"templateFile\":\"S.template.json\"}}},\"version\":\"36.0.0\"}") ∷ ("out/S.template.json", "{\"Metadata\":1,\"Transform\":null,\"Outputs\":{},\"Resources\":{\"R\":{\"Type\":\"T\",\"DependsOn\":7}}}") ∷ [])
    "{}"
    "stack S\nresource R\n"
unfolding serde_json_on_literals digits is_utf8 chars encode_utf8
passed_over = refl

-- A missing value of an output.
output_without_value : Reports
    (("out/manifest.json", "{\"artifacts\":{\"S\":{\"type\":\"aws:cloudformation:stack\",\"properties\":{\"templateFile\":\"S.template.json\"}}},\"version\":\"36.0.0\"}") ∷ ("out/S.template.json", "{\"Outputs\":{\"O\":{\"Export\":{}}}}") ∷ [])
    "{}"
    "AsmShape out/S.template.json /Outputs/O"
unfolding serde_json_on_literals digits is_utf8 chars encode_utf8
output_without_value = refl

-- A missing name of an export.
export_without_name : Reports
    (("out/manifest.json", "{\"artifacts\":{\"S\":{\"type\":\"aws:cloudformation:stack\",\"properties\":{\"templateFile\":\"S.template.json\"}}},\"version\":\"36.0.0\"}") ∷ ("out/S.template.json", "{\"Outputs\":{\"O\":{\"Export\":{},\"Value\":null}}}") ∷ [])
    "{}"
    "AsmShape out/S.template.json /Outputs/O/Export"
unfolding serde_json_on_literals digits is_utf8 chars encode_utf8
export_without_name = refl

-- A default that is no whole number.
default_is_half : Reports
    (("out/manifest.json", "{\"artifacts\":{\"S\":{\"type\":\"aws:cloudformation:stack\",\"properties\":{\"templateFile\":\"S.template.json\"}}},\"version\":\"36.0.0\"}") ∷ ("out/S.template.json", "{\"Parameters\":{\"P\":{\"Default\":1.5,\"Type\":\"\"}}}") ∷ [])
    "{}"
    "AsmShape out/S.template.json /Parameters/P/Default"
unfolding serde_json_on_literals digits is_utf8 chars encode_utf8
default_is_half = refl

-- An entry of a mapping is an object.
mapping_of_a_text : Reports
    (("out/manifest.json", "{\"artifacts\":{\"S\":{\"type\":\"aws:cloudformation:stack\",\"properties\":{\"templateFile\":\"S.template.json\"}}},\"version\":\"36.0.0\"}") ∷ ("out/S.template.json", "{\"Mappings\":{\"M\":{\"x\":\"y\"}}}") ∷ [])
    "{}"
    "AsmShape out/S.template.json /Mappings/M/x"
unfolding serde_json_on_literals digits is_utf8 chars encode_utf8
mapping_of_a_text = refl

-- Own templates are read before nested assemblies.
first_file_decides : Reports
    (("out/manifest.json", "{\"artifacts\":{\"A\":{\"type\":\"cdk:cloud-assembly\",\"properties\":{\"directoryName\":\"n\"}},\"B\":{\"type\":\"aws:cloudformation:stack\",\"properties\":{\"templateFile\":\"B.template.json\"}}},\"version\":\"36.0.0\"}") ∷ ("out/n/manifest.json", "[") ∷ ("out/B.template.json", "[]") ∷ [])
    "{}"
    "AsmShape out/B.template.json "
unfolding serde_json_on_literals digits is_utf8 chars encode_utf8
first_file_decides = refl

-- The eleventh level is refused in the manifest of the tenth.
eleven_levels : Reports
    (("out/manifest.json", "{\"artifacts\":{\"A\":{\"type\":\"cdk:cloud-assembly\",\"properties\":{\"directoryName\":\"n\"}}},\"version\":\"36.0.0\"}") ∷ ("out/n/manifest.json", "{\"artifacts\":{\"A\":{\"type\":\"cdk:cloud-assembly\",\"properties\":{\"directoryName\":\"n\"}}},\"version\":\"36.0.0\"}") ∷ ("out/n/n/manifest.json", "{\"artifacts\":{\"A\":{\"type\":\"cdk:cloud-assembly\",\"properties\":{\"directoryName\":\"n\"}}},\"version\":\"36.0.0\"}") ∷ ("out/n/n/n/manifest.json", "{\"artifacts\":{\"A\":{\"type\":\"cdk:cloud-assembly\",\"properties\":{\"directoryName\":\"n\"}}},\"version\":\"36.0.0\"}") ∷ ("out/n/n/n/n/manifest.json", "{\"artifacts\":{\"A\":{\"type\":\"cdk:cloud-assembly\",\"properties\":{\"directoryName\":\"n\"}}},\"version\":\"36.0.0\"}") ∷ ("out/n/n/n/n/n/manifest.json", "{\"artifacts\":{\"A\":{\"type\":\"cdk:cloud-assembly\",\"properties\":{\"directoryName\":\"n\"}}},\"version\":\"36.0.0\"}") ∷ ("out/n/n/n/n/n/n/manifest.json", "{\"artifacts\":{\"A\":{\"type\":\"cdk:cloud-assembly\",\"properties\":{\"directoryName\":\"n\"}}},\"version\":\"36.0.0\"}") ∷ ("out/n/n/n/n/n/n/n/manifest.json", "{\"artifacts\":{\"A\":{\"type\":\"cdk:cloud-assembly\",\"properties\":{\"directoryName\":\"n\"}}},\"version\":\"36.0.0\"}") ∷ ("out/n/n/n/n/n/n/n/n/manifest.json", "{\"artifacts\":{\"A\":{\"type\":\"cdk:cloud-assembly\",\"properties\":{\"directoryName\":\"n\"}}},\"version\":\"36.0.0\"}") ∷ ("out/n/n/n/n/n/n/n/n/n/manifest.json", "{\"artifacts\":{\"A\":{\"type\":\"cdk:cloud-assembly\",\"properties\":{\"directoryName\":\"n\"}}},\"version\":\"36.0.0\"}") ∷ ("out/n/n/n/n/n/n/n/n/n/n/manifest.json", "{\"artifacts\":{\"A\":{\"type\":\"cdk:cloud-assembly\",\"properties\":{\"directoryName\":\"n\"}}},\"version\":\"36.0.0\"}") ∷ [])
    "{}"
    "AsmShape out/n/n/n/n/n/n/n/n/n/n/manifest.json /artifacts/A/properties/directoryName"
unfolding serde_json_on_literals digits is_utf8 chars encode_utf8
eleven_levels = refl

-- Ten levels are read.
ten_levels : Reports
    (("out/manifest.json", "{\"artifacts\":{\"A\":{\"type\":\"cdk:cloud-assembly\",\"properties\":{\"directoryName\":\"n\"}}},\"version\":\"36.0.0\"}") ∷ ("out/n/manifest.json", "{\"artifacts\":{\"A\":{\"type\":\"cdk:cloud-assembly\",\"properties\":{\"directoryName\":\"n\"}}},\"version\":\"36.0.0\"}") ∷ ("out/n/n/manifest.json", "{\"artifacts\":{\"A\":{\"type\":\"cdk:cloud-assembly\",\"properties\":{\"directoryName\":\"n\"}}},\"version\":\"36.0.0\"}") ∷ ("out/n/n/n/manifest.json", "{\"artifacts\":{\"A\":{\"type\":\"cdk:cloud-assembly\",\"properties\":{\"directoryName\":\"n\"}}},\"version\":\"36.0.0\"}") ∷ ("out/n/n/n/n/manifest.json", "{\"artifacts\":{\"A\":{\"type\":\"cdk:cloud-assembly\",\"properties\":{\"directoryName\":\"n\"}}},\"version\":\"36.0.0\"}") ∷ ("out/n/n/n/n/n/manifest.json", "{\"artifacts\":{\"A\":{\"type\":\"cdk:cloud-assembly\",\"properties\":{\"directoryName\":\"n\"}}},\"version\":\"36.0.0\"}") ∷ ("out/n/n/n/n/n/n/manifest.json", "{\"artifacts\":{\"A\":{\"type\":\"cdk:cloud-assembly\",\"properties\":{\"directoryName\":\"n\"}}},\"version\":\"36.0.0\"}") ∷ ("out/n/n/n/n/n/n/n/manifest.json", "{\"artifacts\":{\"A\":{\"type\":\"cdk:cloud-assembly\",\"properties\":{\"directoryName\":\"n\"}}},\"version\":\"36.0.0\"}") ∷ ("out/n/n/n/n/n/n/n/n/manifest.json", "{\"artifacts\":{\"A\":{\"type\":\"cdk:cloud-assembly\",\"properties\":{\"directoryName\":\"n\"}}},\"version\":\"36.0.0\"}") ∷ ("out/n/n/n/n/n/n/n/n/n/manifest.json", "{\"artifacts\":{\"A\":{\"type\":\"cdk:cloud-assembly\",\"properties\":{\"directoryName\":\"n\"}}},\"version\":\"36.0.0\"}") ∷ ("out/n/n/n/n/n/n/n/n/n/n/manifest.json", "{\"artifacts\":{\"S\":{\"type\":\"aws:cloudformation:stack\",\"properties\":{\"templateFile\":\"S.template.json\"}}},\"version\":\"36.0.0\"}") ∷ ("out/n/n/n/n/n/n/n/n/n/n/S.template.json", "{\"Resources\":{\"R\":{\"Type\":\"T\"}}}") ∷ [])
    "{}"
    "stack S\nresource R\n"
unfolding serde_json_on_literals digits is_utf8 chars encode_utf8
ten_levels = refl

-- Values that are no JSON.
values_cut_short : Reports
    (("out/manifest.json", "{\"artifacts\":{\"S\":{\"type\":\"aws:cloudformation:stack\",\"properties\":{\"templateFile\":\"S.template.json\"}}},\"version\":\"36.0.0\"}") ∷ ("out/S.template.json", "{}") ∷ [])
    "{"
    "ValuesNotJson "
unfolding serde_json_on_literals digits is_utf8 chars encode_utf8
values_cut_short = refl

-- Values that are no object.
values_are_a_list : Reports
    (("out/manifest.json", "{\"artifacts\":{\"S\":{\"type\":\"aws:cloudformation:stack\",\"properties\":{\"templateFile\":\"S.template.json\"}}},\"version\":\"36.0.0\"}") ∷ ("out/S.template.json", "{}") ∷ [])
    "[]"
    "ValuesShape "
unfolding serde_json_on_literals digits is_utf8 chars encode_utf8
values_are_a_list = refl

-- An unknown member.
unknown_member : Reports
    (("out/manifest.json", "{\"artifacts\":{\"S\":{\"type\":\"aws:cloudformation:stack\",\"properties\":{\"templateFile\":\"S.template.json\"}}},\"version\":\"36.0.0\"}") ∷ ("out/S.template.json", "{}") ∷ [])
    "{\"physical\":{},\"zone\":1}"
    "ValuesShape /zone"
unfolding serde_json_on_literals digits is_utf8 chars encode_utf8
unknown_member = refl

-- A misspelt member of a resource.
unknown_physical_member : Reports
    (("out/manifest.json", "{\"artifacts\":{\"S\":{\"type\":\"aws:cloudformation:stack\",\"properties\":{\"templateFile\":\"S.template.json\"}}},\"version\":\"36.0.0\"}") ∷ ("out/S.template.json", "{}") ∷ [])
    "{\"physical\":{\"S\":{\"R\":{\"Getatt\":{}}}}}"
    "ValuesShape /physical/S/R/Getatt"
unfolding serde_json_on_literals digits is_utf8 chars encode_utf8
unknown_physical_member = refl

-- A pseudo parameter that has no value from outside.
stack_name_as_pseudo : Reports
    (("out/manifest.json", "{\"artifacts\":{\"S\":{\"type\":\"aws:cloudformation:stack\",\"properties\":{\"templateFile\":\"S.template.json\"}}},\"version\":\"36.0.0\"}") ∷ ("out/S.template.json", "{}") ∷ [])
    "{\"pseudo\":{\"AWS::StackName\":\"x\"}}"
    "ValuesShape /pseudo/AWS::StackName"
unfolding serde_json_on_literals digits is_utf8 chars encode_utf8
stack_name_as_pseudo = refl

-- A text that is a number, before a later unknown member.
attribute_of_a_number : Reports
    (("out/manifest.json", "{\"artifacts\":{\"S\":{\"type\":\"aws:cloudformation:stack\",\"properties\":{\"templateFile\":\"S.template.json\"}}},\"version\":\"36.0.0\"}") ∷ ("out/S.template.json", "{}") ∷ [])
    "{\"a\":1,\"physical\":{\"S\":{\"R\":{\"GetAtt\":{\"Arn\":1}}}}}"
    "ValuesShape /a"
unfolding serde_json_on_literals digits is_utf8 chars encode_utf8
attribute_of_a_number = refl

-- Keys in byte order.
first_wrong_by_bytes : Reports
    (("out/manifest.json", "{\"artifacts\":{\"S\":{\"type\":\"aws:cloudformation:stack\",\"properties\":{\"templateFile\":\"S.template.json\"}}},\"version\":\"36.0.0\"}") ∷ ("out/S.template.json", "{}") ∷ [])
    "{\"parameters\":{\"S\":{\"P\":1}},\"exports\":{\"E\":null}}"
    "ValuesShape /exports/E"
unfolding serde_json_on_literals digits is_utf8 chars encode_utf8
first_wrong_by_bytes = refl

-- ---- a manifest that meets the premises of the law on orders

abbrev manifest : Data
manifest = json "{\"artifacts\":{\"A\":{\"type\":\"aws:cloudformation:stack\",\"properties\":{\"templateFile\":\"A.template.json\"},\"dependencies\":[\"C\"]},\"B\":{\"type\":\"aws:cloudformation:stack\",\"properties\":{\"templateFile\":\"B.template.json\"},\"dependencies\":[\"D\",\"Tree\"]},\"C\":{\"type\":\"aws:cloudformation:stack\",\"properties\":{\"templateFile\":\"C.template.json\"}},\"D\":{\"type\":\"aws:cloudformation:stack\",\"properties\":{\"templateFile\":\"D.template.json\"},\"dependencies\":[\"A\"]}},\"version\":\"36.0.0\"}"

apart : AreApart (stacks_of manifest)
unfolding serde_json_on_literals digits is_utf8 chars encode_utf8
apart = (refl, (refl, (refl, (refl, tt))))

no_cycle_there : cyclic (stacks_of manifest) ≡ None
unfolding serde_json_on_literals digits is_utf8 chars encode_utf8
no_cycle_there = refl

in_this_order : ids (in_order (stacks_of manifest)) ≡ codes "C" ∷ codes "A" ∷ codes "D" ∷ codes "B" ∷ []
unfolding serde_json_on_literals digits is_utf8 chars encode_utf8
in_this_order = refl
