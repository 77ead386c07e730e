-- What the constructs of a tree are to the expressions that mention them, and how the expressions of one stack spell its constructs
-- (AWS CDK's constructs; what references give is CloudFormation's).
use Rattle.std.specs.Prelude.{ℕ, List, [], length, slice_get, Option, Some, None, unwrap_or, option_and_then}
use Rattle.std.specs.Option.{option_map_or}
use Rattle.serde_json.specs.Data.{object}
use Rattle.cdk_expansion.specs.Conditions.{condition_plain}
use Rattle.cdk_expansion.specs.Own.{own_of}
use Rattle.cdk_language.specs.Condition.{Condition}
use Rattle.cdk_language.specs.Construct as language
use Rattle.cdk_language.specs.Construct.{Body}
use Rattle.cdk_language.specs.Expression.{Expression}
use Rattle.cdk_language.specs.declared.construct.ParameterForm.{ParameterForm}
use Rattle.cdk_language.specs.declared.construct.ParameterForm.TheVariants as forms
use Rattle.cdk_meaning.specs.Constructs as meaning
use Rattle.cdk_meaning.specs.Constructs.{Element, parameter_of, resource_of, condition_of, mapping_of, other_element, Constructs}
use Rattle.cdk_meaning.specs.StackTemplate.{Parts, homes_of}
use Rattle.cdk_plain.specs.Plain as plain
use Rattle.cdk_plain.specs.Plain.{Plain}
use Rattle.cdk_plain.specs.Rendered.{Homes, Local}
use Rattle.cdk_stacks.specs.Names.{logical_name, stack_name}
use Rattle.cdk_contexts.specs.Expressions.{operands_of}
use Rattle.cdk_tree.specs.Expected.{is_condition, is_mapping, is_parameter, is_resource}
use Rattle.cdk_tree.specs.Placed.{Placed, construct_at, find_path}
use Rattle.cdk_elements.specs.Kinds.{of_kind}

-- ---- plain forms

-- The plain form of an expression of the construct `at`. Where no lazy reaches itself, opening lazies as often as there are
-- constructs is often enough.
abbrev pub own_value : List Placed → ℕ → Expression → Plain
own_value cs at e = own_of (length cs) cs at e

-- of the operand n of the condition; one that isn't there is an empty text
abbrev pub own_operand : List Placed → ℕ → Condition → ℕ → Plain
own_operand cs at c n = option_map_or (own_value cs at) (slice_get (operands_of c) n) (plain.text [])

-- the plain form of the condition that the construct `at` is
abbrev pub own_condition : List Placed → ℕ → Condition → plain.Condition
own_condition cs at c = condition_plain cs (own_operand cs at c) 0 c

-- ---- what constructs are to those that mention them

abbrev pub form_of : ParameterForm → meaning.ParameterForm
form_of forms.Text = meaning.text_form
form_of forms.Number = meaning.number_form
form_of forms.List = meaning.list_form

abbrev pub element_of : List Placed → ℕ → Body → Element
element_of cs n (language.resource r) = resource_of (option_and_then (find_path cs) r.condition)
element_of cs n (language.parameter p) = parameter_of (form_of p.form) p.default
element_of cs n (language.condition_body c) = condition_of (own_condition cs n c)
element_of cs n (language.mapping m) = mapping_of (object m)
element_of cs n b = other_element

-- the name of a stack, or of the one around a construct
abbrev pub name_of : List Placed → ℕ → List ℕ
name_of cs stack = unwrap_or (stack_name cs stack) []

abbrev pub name_around : List Placed → Option ℕ → List ℕ
name_around cs None = []
name_around cs (Some stack) = name_of cs stack

abbrev pub logical_of : List Placed → ℕ → List ℕ
logical_of cs n = unwrap_or (logical_name cs n) []

abbrev pub constructs_in : List Placed → Constructs
constructs_in cs = record {
  element = λ n. element_of cs n (construct_at cs n).body;
  stack = λ n. name_around cs (construct_at cs n).stack;
  logical = logical_of cs;
}

-- the constructs that the names of a stack's template stand for
abbrev pub parts_of : List Placed → ℕ → Parts
parts_of cs stack = record {
  parameters = of_kind cs stack is_parameter;
  resources = of_kind cs stack is_resource;
  conditions = of_kind cs stack is_condition;
  mappings = of_kind cs stack is_mapping;
}

-- ---- spellings

-- In the one stack every construct is spelled by its logical name.
abbrev pub own_homes : List Placed → Homes
own_homes cs = homes_of (constructs_in cs) (λ n. Local (logical_of cs n)) (λ n a. Local (logical_of cs n))
