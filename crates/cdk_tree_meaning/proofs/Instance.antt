-- The law at a small application: a stack with a parameter, a condition on it, a resource that is made under the condition, one that
-- chooses by it, and an output whose lazy names the second.
use Rattle.std.proofs.Common.{◌≡◌, ℕ, List, [], codes, length, map, true, false, Some, None, refl, arith}
use Rattle.std.specs.Fmt.{digits}
use Rattle.std.specs.Str.{is_utf8, chars}
use Rattle.serde_json.proofs.OnLiterals.{serde_json_on_literals}
use Rattle.serde_json.specs.Data.{Data, string, array, object, Items, no_items, item, Members, no_members, member}
use Rattle.cdk_base.specs.Json.{parsed}
use Rattle.cdk_premises.proofs.CleanTrees.{trees_are_clean}
use Rattle.cdk_elements.specs.Elements.{own_value}
use Rattle.cdk_elements.specs.Kinds.{stacks_of}
use Rattle.cdk_elements.specs.OneStack.{AreOneStack}
use Rattle.cdk_eval.specs.Assembly.{assembly_outcome}
use Rattle.cdk_eval.specs.Values.{Values, no_values}
use Rattle.cdk_expansion.specs.Laws.{IsSound}
use Rattle.cdk_premises.proofs.FormedTrees.{trees_are_formed}
use Rattle.cdk_language.specs.Application.{application_of}
use Rattle.cdk_language.specs.Condition as condition
use Rattle.cdk_language.specs.Construct as language
use Rattle.cdk_language.specs.Construct.{Application, Body, Constructs, Head}
use Rattle.cdk_language.specs.Expression as expression
use Rattle.cdk_language.specs.Expression.{Expression}
use Rattle.cdk_language.specs.Findings.{findings}
use Rattle.cdk_language.specs.declared.construct.ParameterForm.TheVariants as forms
use Rattle.cdk_lazies.specs.CycleFindings.{cycle_findings}
use Rattle.cdk_meaning.specs.Meaning.{meaning}
use Rattle.cdk_meaning.specs.ReportKept.{IsOutputTold, IsResourceTold, MeansText}
use Rattle.cdk_meaning.specs.Source.{Meaning, Means}
use Rattle.cdk_premises.specs.MentionsLaws.{ConditionsAreFree}
use Rattle.cdk_premises.proofs.PlainApplications.{applications_are_rooted, operands_are_read_plain}
use Rattle.cdk_plain.specs.Plain.{no_fields}
use Rattle.cdk_sizes.specs.SizeFindings.{size_findings}
use Rattle.cdk_stacks.specs.Claims.{name_findings}
use Rattle.cdk_tokens.specs.Whole.{marking, tokens_of}
use Rattle.cdk_tree.specs.Placed.{Placed, constructs_of}
use Rattle.cdk_tree_meaning.specs.Checked.{AreChecked}
use Rattle.cdk_tree_meaning.specs.Law.{evaluated}
use Rattle.cdk_tree_meaning.specs.TreeMeaning.{IsStackTold, presence_in, source_in}
use Rattle.cdk_tree_meaning.proofs.Told.{tree_agrees}

-- ---- what is read

abbrev bytes : List ℕ
bytes = codes "{\"app\":\"2\",\"children\":[{\"kind\":\"stack\",\"id\":\"S\",\"children\":[{\"kind\":\"parameter\",\"id\":\"P\",\"type\":\"String\",\"default\":\"on\"},{\"kind\":\"condition\",\"id\":\"C\",\"expression\":{\"Fn::Equals\":[{\"Ref\":\"S/P\"},\"on\"]}},{\"kind\":\"resource\",\"id\":\"A\",\"type\":\"T\",\"condition\":\"S/C\"},{\"kind\":\"resource\",\"id\":\"B\",\"type\":\"T\",\"properties\":{\"V\":{\"Fn::If\":[\"S/C\",{\"Ref\":\"S/A\"},\"none\"]}}},{\"kind\":\"output\",\"id\":\"O\",\"value\":{\"CDK::Lazy\":\"S/L\"}},{\"kind\":\"lazy\",\"id\":\"L\",\"value\":{\"Ref\":\"S/B\"}}]}]}"

abbrev one : Data → Data
one d = array (item d no_items)

abbrev two : Data → Data → Data
two d e = array (item d (item e no_items))

abbrev lone : List ℕ → Data → Data
lone k d = object (member k d no_members)

abbrev ref_of : List ℕ → Data
ref_of t = lone (codes "Ref") (string t)

-- the members of a construct in byte order: some before `id` and `kind`, some behind
abbrev named : List ℕ → List ℕ → Members → Members
named id kind ms = member (codes "id") (string id) (member (codes "kind") (string kind) ms)

abbrev typed : List ℕ → Members
typed t = member (codes "type") (string t) no_members

abbrev properties : Data
properties = lone (codes "V") (lone (codes "Fn::If") (array (item (string (codes "S/C")) (item (ref_of (codes "S/A")) (item (string (codes "none")) no_items)))))

abbrev in_stack : Items
in_stack =
    item (object (member (codes "default") (string (codes "on")) (named (codes "P") (codes "parameter") (typed (codes "String")))))
    (item (object (member (codes "expression") (lone (codes "Fn::Equals") (two (ref_of (codes "S/P")) (string (codes "on")))) (named (codes "C") (codes "condition") no_members)))
    (item (object (member (codes "condition") (string (codes "S/C")) (named (codes "A") (codes "resource") (typed (codes "T")))))
    (item (object (named (codes "B") (codes "resource") (member (codes "properties") properties (typed (codes "T")))))
    (item (object (named (codes "O") (codes "output") (member (codes "value") (lone (codes "CDK::Lazy") (string (codes "S/L"))) no_members)))
    (item (object (named (codes "L") (codes "lazy") (member (codes "value") (ref_of (codes "S/B")) no_members)))
    no_items)))))

abbrev document : Data
document = object (member (codes "app") (string (codes "2")) (member (codes "children") (one (object (member (codes "children") (array in_stack) (named (codes "S") (codes "stack") no_members)))) no_members))

document_is : parsed bytes ≡ Some document
unfolding serde_json_on_literals digits is_utf8 chars
document_is = refl

nothing_found : findings document ≡ []
nothing_found = refl

-- ---- its application

abbrev head : List ℕ → Head
head id = record { id = id; context = no_members; aspects = []; depends = []; logical = None }

abbrev alone : List ℕ → Body → Constructs → Constructs
alone id b cs = language.child (language.construct (head id) b language.no_constructs) cs

abbrev value : Expression
value = expression.object (expression.field (codes "V") (expression.choice (codes "S/C") (expression.ref (codes "S/A")) (expression.text (codes "none"))) expression.no_fields)

abbrev output : Body
output = language.output (record { value = expression.lazy (codes "S/L"); description = None; export = None; condition = None })

abbrev elements : Constructs
elements =
    alone (codes "P") (language.parameter (record { form = forms.Text; default = Some (codes "on"); description = None }))
    (alone (codes "C") (language.condition_body (condition.equals (expression.ref (codes "S/P")) (expression.text (codes "on"))))
    (alone (codes "A") (language.resource (record { resource_type = codes "T"; properties = expression.object expression.no_fields; condition = Some (codes "S/C"); deletion = None; replace = None }))
    (alone (codes "B") (language.resource (record { resource_type = codes "T"; properties = value; condition = None; deletion = None; replace = None }))
    (alone (codes "O") output
    (alone (codes "L") (language.lazy (expression.ref (codes "S/B")))
    language.no_constructs)))))

abbrev application : Application
application = language.construct (head []) language.root (language.child (language.construct (head (codes "S")) (language.stack None) elements) language.no_constructs)

application_is : application_of document ≡ Some application
application_is = refl

abbrev placed : List Placed
placed = constructs_of application

-- ---- it is checked

few_tokens : length (tokens_of placed) ≡ 5
few_tokens = refl

sound : IsSound placed
sound = record { clean = trees_are_clean bytes document application document_is nothing_found application_is; targets = refl; contexts = refl; few = omega (arith, few_tokens) }

of_one_stack : AreOneStack placed
of_one_stack = record {
  alone = refl;
  staged = (refl, (refl, (refl, (refl, (refl, (refl, (refl, (refl, tt))))))));
  few = let size : length (stacks_of placed) ≡ 1 = refl in omega (arith, size);
}

no_cycle : cycle_findings placed (tokens_of placed) (marking placed) ≡ []
unfolding digits
no_cycle = refl

small : size_findings placed (tokens_of placed) (marking placed) ≡ []
unfolding digits
small = refl

well_named : name_findings placed ≡ []
well_named = refl

checked : AreChecked placed
checked = record {
  application = application;
  rooted = (applications_are_rooted document application [] application_is).0;
  walked = refl;
  one = of_one_stack;
  places = refl;
  sound = sound;
  formed = trees_are_formed bytes document application document_is nothing_found application_is;
  operands = (operands_are_read_plain bytes document application [] document_is nothing_found application_is).0;
  cycles = no_cycle;
  sizes = small;
  named = well_named;
}

-- ---- what it means

-- the parameter's default, and another text
abbrev off : Values
off = record { physical = λ s l. None; attribute = λ s l a. None; parameter = λ s l. Some (codes "off"); pseudo = λ n. None; export = λ e. None }

made : presence_in no_values placed 1 (Some (codes "S/C")) ≡ Some true
made = refl

not_made : presence_in off placed 1 (Some (codes "S/C")) ≡ Some false
not_made = refl

-- the value of the property of the second resource
abbrev chosen : Values → Meaning
chosen v = meaning (source_in v placed 1) (own_value placed 5 (expression.choice (codes "S/C") (expression.ref (codes "S/A")) (expression.text (codes "none"))))

first_chosen : chosen no_values ≡ Means (string (codes "S.A"))
first_chosen = refl

second_chosen : chosen off ≡ Means (string (codes "none"))
second_chosen = refl

-- ---- what its stack comes to

module _ (free : ConditionsAreFree) where
  stack_told : IsStackTold off placed (assembly_outcome off (map (evaluated placed) (stacks_of placed))) 1
  stack_told = (tree_agrees free off placed checked).each.0

  resource_told : IsResourceTold (source_in off placed 1) (Some false) no_fields (codes "A") stack_told.own.resources
  resource_told = stack_told.resources.0

  output_told : IsOutputTold (MeansText (codes "S.B")) (codes "O") stack_told.own.outputs
  output_told = stack_told.outputs.0
