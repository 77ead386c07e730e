-- The laws at a small application: a context that is an object, and a stack with a parameter, a mapping, a condition of two parts and a
-- resource; without settings, and with one in place of the context.
use Rattle.std.proofs.Common.{◌≡◌, ◌≤◌, ℕ, List, [], ◌∷◌, codes, length, pos, true, Some, None, refl, arith}
use Rattle.std.specs.Fmt.{digits}
use Rattle.std.specs.Str.{is_utf8, chars}
use Rattle.serde_json.proofs.OnLiterals.{serde_json_on_literals}
use Rattle.serde_json.specs.Data.{unsigned, Data, boolean, number, string, array, object, Items, no_items, item, Members, no_members, member, depth}
use Rattle.cdk_base.specs.Json.{parsed}
use Rattle.cdk_base.specs.Pretty.{IsCanonical}
use Rattle.cdk_base.specs.declared.Setting.{Setting}
use Rattle.cdk_premises.proofs.CleanTrees.{trees_are_clean}
use Rattle.cdk_elements.specs.Elements.{own_condition, own_homes}
use Rattle.cdk_expansion.specs.Laws.{IsSound}
use Rattle.cdk_expansion.specs.Own.{own_of}
use Rattle.cdk_premises.specs.Formed.{TreeIsFormed}
use Rattle.cdk_premises.proofs.FitConditions.{conditions_are_canonical, conditions_are_well}
use Rattle.cdk_premises.proofs.FitForms.{forms_are_canonical, forms_are_well, properties_are_objects}
use Rattle.cdk_premises.proofs.FitMappings.{mappings_are_well}
use Rattle.cdk_premises.proofs.FormedTrees.{trees_are_formed, trees_stay_formed}
use Rattle.cdk_language.specs.Application.{application_of, with_settings}
use Rattle.cdk_language.specs.Condition as condition
use Rattle.cdk_language.specs.Condition.{Condition}
use Rattle.cdk_language.specs.Construct as construct
use Rattle.cdk_language.specs.Construct.{Application, Body, Construct, Constructs, Head, ResourceBody}
use Rattle.cdk_language.specs.Expression as expression
use Rattle.cdk_language.specs.Expression.{Expression, Expressions, Fields}
use Rattle.cdk_language.specs.Findings.{findings, setting_findings}
use Rattle.cdk_language.specs.declared.construct.ParameterForm.TheVariants as forms
use Rattle.cdk_meaning.specs.Canonical.{HasOrderedOperands, IsOrdered}
use Rattle.cdk_meaning.specs.StackTemplate.{IsMapping}
use Rattle.cdk_plain.specs.Plain as plain
use Rattle.cdk_plain.specs.Plain.{IsWell, IsWellCondition, Plain}
use Rattle.cdk_plain.specs.Rendered.{rendered, rendered_condition}
use Rattle.cdk_contexts.specs.Contexts.{context_findings}
use Rattle.cdk_tokens.specs.Whole.{tokens_of}
use Rattle.cdk_tree.specs.Expected.{target_findings}
use Rattle.cdk_tree.specs.Placed.{Placed, constructs_of}

abbrev bytes : List ℕ
bytes = codes "{\"app\":\"2\",\"context\":{\"tags\":{\"b\":\"x\",\"a\":1}},\"children\":[{\"kind\":\"stack\",\"id\":\"S\",\"children\":[{\"kind\":\"parameter\",\"id\":\"P\",\"type\":\"String\"},{\"kind\":\"mapping\",\"id\":\"M\",\"mappings\":{\"r\":{\"y\":true,\"x\":1}}},{\"kind\":\"condition\",\"id\":\"C\",\"expression\":{\"Fn::And\":[{\"Fn::Equals\":[{\"Ref\":\"S/P\"},\"a\"]},{\"Fn::Not\":[{\"Fn::Equals\":[{\"Fn::FindInMap\":[\"S/M\",\"r\",\"x\"]},1]}]}]}},{\"kind\":\"resource\",\"id\":\"R\",\"type\":\"Own::T\",\"properties\":{\"A\":{\"CDK::Context\":[\"tags\"]},\"B\":{\"Fn::Select\":[1,{\"Fn::Split\":[\",\",{\"Ref\":\"S/P\"}]}]}}}]}]}"

-- ---- what the bytes are read as; the keys of each object ascend

abbrev one : Data
one = number (unsigned 1)

abbrev pair : Data → Data → Data
pair d e = array (item d (item e no_items))

abbrev lone : List ℕ → Data → Data
lone k d = object (member k d no_members)

abbrev kind_then : List ℕ → Members → Members
kind_then k ms = member (codes "kind") (string k) ms

abbrev reference : Data
reference = lone (codes "Ref") (string (codes "S/P"))

abbrev parameter_data : Data
parameter_data = object (member (codes "id") (string (codes "P")) (kind_then (codes "parameter") (member (codes "type") (string (codes "String")) no_members)))

abbrev rows : Members
rows = member (codes "r") (object (member (codes "x") one (member (codes "y") (boolean true) no_members))) no_members

abbrev mapping_data : Data
mapping_data = object (member (codes "id") (string (codes "M")) (kind_then (codes "mapping") (member (codes "mappings") (object rows) no_members)))

abbrev first_part : Data
first_part = lone (codes "Fn::Equals") (pair reference (string (codes "a")))

abbrev looked_up : Data
looked_up = lone (codes "Fn::FindInMap") (array (item (string (codes "S/M")) (item (string (codes "r")) (item (string (codes "x")) no_items))))

abbrev second_part : Data
second_part = lone (codes "Fn::Not") (array (item (lone (codes "Fn::Equals") (pair looked_up one)) no_items))

abbrev condition_data : Data
condition_data = object (member (codes "expression") (lone (codes "Fn::And") (pair first_part second_part)) (member (codes "id") (string (codes "C")) (kind_then (codes "condition") no_members)))

abbrev selected : Data
selected = lone (codes "Fn::Select") (pair one (lone (codes "Fn::Split") (pair (string (codes ",")) reference)))

abbrev properties_data : Data
properties_data = object (member (codes "A") (lone (codes "CDK::Context") (array (item (string (codes "tags")) no_items))) (member (codes "B") selected no_members))

abbrev resource_data : Data
resource_data = object (member (codes "id") (string (codes "R")) (kind_then (codes "resource") (member (codes "properties") properties_data (member (codes "type") (string (codes "Own::T")) no_members))))

abbrev elements : Items
elements = item parameter_data (item mapping_data (item condition_data (item resource_data no_items)))

abbrev stack_data : Data
stack_data = object (member (codes "children") (array elements) (member (codes "id") (string (codes "S")) (kind_then (codes "stack") no_members)))

abbrev context : Members
context = member (codes "tags") (object (member (codes "a") one (member (codes "b") (string (codes "x")) no_members))) no_members

abbrev document : Data
document = object (member (codes "app") (string (codes "2")) (member (codes "children") (array (item stack_data no_items)) (member (codes "context") (object context) no_members)))

document_is : parsed bytes ≡ Some document
unfolding serde_json_on_literals digits is_utf8 chars
document_is = refl

nothing_found : findings document ≡ []
nothing_found = refl

-- ---- its application

abbrev head : List ℕ → Members → Head
head i ms = record { id = i; context = ms; aspects = []; depends = []; logical = None }

abbrev leaf : List ℕ → Body → Construct
leaf i b = construct.construct (head i no_members) b construct.no_constructs

abbrev parameter_ref : Expression
parameter_ref = expression.ref (codes "S/P")

abbrev both : Condition
both =
    condition.all_of (condition.condition (condition.equals parameter_ref (expression.text (codes "a")))
    (condition.condition (condition.negated (condition.equals (expression.find_in_map (codes "S/M") (expression.text (codes "r")) (expression.text (codes "x"))) (expression.whole (pos 1)))) condition.no_conditions))

abbrev properties : Expression
properties =
    expression.object (expression.field (codes "A") (expression.context (codes "tags") None)
    (expression.field (codes "B") (expression.select 1 (expression.split (codes ",") parameter_ref)) expression.no_fields))

abbrev resource : ResourceBody
resource = record { resource_type = codes "Own::T"; properties = properties; condition = None; deletion = None; replace = None }

abbrev children : Constructs
children =
    construct.child (leaf (codes "P") (construct.parameter (record { form = forms.Text; default = None; description = None })))
    (construct.child (leaf (codes "M") (construct.mapping rows))
    (construct.child (leaf (codes "C") (construct.condition_body both))
    (construct.child (leaf (codes "R") (construct.resource resource)) construct.no_constructs)))

abbrev application : Application
application =
    construct.construct (head [] context) construct.root (construct.child (construct.construct (head (codes "S") no_members) (construct.stack None) children) construct.no_constructs)

application_is : application_of document ≡ Some application
application_is = refl

-- ---- reading

abbrev placed : List Placed
placed = constructs_of application

formed : TreeIsFormed placed
formed = trees_are_formed bytes document application document_is nothing_found application_is

abbrev settings : List Setting
settings = record { key = codes "tags"; value = codes "none" } ∷ []

no_setting_found : setting_findings settings ≡ []
no_setting_found = refl

still_formed : TreeIsFormed (constructs_of (with_settings application settings))
still_formed = trees_stay_formed bytes document application settings document_is nothing_found application_is no_setting_found

right_targets : target_findings placed ≡ []
right_targets = refl

right_contexts : context_findings placed ≡ []
right_contexts = refl

sound : IsSound placed
sound =
    let five : length (tokens_of placed) ≡ 5 = refl in
    record { clean = trees_are_clean bytes document application document_is nothing_found application_is; targets = right_targets; contexts = right_contexts; few = omega (arith, five) }

-- ---- the resource

abbrev resource_form : Plain
resource_form =
    plain.object_of (plain.field (codes "A") (plain.object_of (plain.field (codes "a") (plain.whole (pos 1)) (plain.field (codes "b") (plain.text (codes "x")) plain.no_fields)))
    (plain.field (codes "B") (plain.select 1 (plain.split (codes ",") (plain.ref 2))) plain.no_fields))

form_is : own_of 0 placed 5 properties ≡ resource_form
form_is = refl

form_is_well : IsWell resource_form × IsOrdered resource_form
form_is_well = let six : length placed ≡ 6 = refl in forms_are_well placed sound formed 0 5 properties (omega (arith, six)) refl

form_is_canonical : IsCanonical (rendered (own_homes placed) resource_form)
form_is_canonical = let six : length placed ≡ 6 = refl in forms_are_canonical placed sound formed 0 5 properties (omega (arith, six)) refl (own_homes placed)

form_is_object : (ms : Members) × (rendered (own_homes placed) resource_form ≡ object ms)
form_is_object = let six : length placed ≡ 6 = refl in (properties_are_objects placed formed 0 5 resource (omega (arith, six)) refl).1 (own_homes placed)

-- ---- the condition and the mapping

abbrev condition_form : plain.Condition
condition_form =
    plain.all_of (plain.condition (plain.equals (plain.ref 2) (plain.text (codes "a")))
    (plain.condition (plain.negation (plain.equals (plain.find_in_map 3 (plain.text (codes "r")) (plain.text (codes "x"))) (plain.whole (pos 1)))) plain.no_conditions))

condition_is : own_condition placed 4 both ≡ condition_form
condition_is = refl

condition_is_well : IsWellCondition condition_form × HasOrderedOperands condition_form
condition_is_well = let six : length placed ≡ 6 = refl in conditions_are_well placed sound formed 4 both (omega (arith, six)) refl

condition_is_canonical : IsCanonical (rendered_condition (own_homes placed) condition_form)
condition_is_canonical = let six : length placed ≡ 6 = refl in conditions_are_canonical placed sound formed 4 both (omega (arith, six)) refl (own_homes placed)

mapping_is_well : IsMapping (object rows) × IsCanonical (object rows) × (depth (object rows) ≤ 2)
mapping_is_well = let six : length placed ≡ 6 = refl in mappings_are_well placed formed 3 rows (omega (arith, six)) refl
