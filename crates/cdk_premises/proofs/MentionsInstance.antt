-- The laws at a small application: a stack with a parameter, a mapping, two conditions, of which one names the other, two resources,
-- of which one is made under a condition and the other mentions all of these, an output and a lazy.
use Rattle.std.proofs.Common.{◌≡◌, ℕ, List, [], ◌∷◌, codes, length, false, Some, None, refl, arith, inl}
use Rattle.std.specs.Fmt.{digits}
use Rattle.std.specs.Str.{is_utf8, chars}
use Rattle.serde_json.proofs.OnLiterals.{serde_json_on_literals}
use Rattle.serde_json.specs.Data.{Data, string, array, object, Items, no_items, item, Members, no_members, member}
use Rattle.cdk_base.specs.Json.{parsed}
use Rattle.cdk_premises.proofs.CleanTrees.{trees_are_clean}
use Rattle.cdk_elements.specs.Elements.{constructs_in, logical_of, own_homes, parts_of}
use Rattle.cdk_elements.specs.Kinds.{stacks_of}
use Rattle.cdk_elements.specs.OneStack.{AreOneStack}
use Rattle.cdk_expansion.specs.Laws.{IsSound}
use Rattle.cdk_graphs.specs.Loops.{LoopsAreFound}
use Rattle.cdk_language.specs.Application.{application_of}
use Rattle.cdk_language.specs.Condition as condition
use Rattle.cdk_language.specs.Construct as language
use Rattle.cdk_language.specs.Construct.{Application, Body, Construct, Constructs, Head}
use Rattle.cdk_language.specs.Expression as expression
use Rattle.cdk_language.specs.Expression.{Expression, Expressions}
use Rattle.cdk_language.specs.Findings.{findings}
use Rattle.cdk_language.specs.declared.construct.ParameterForm.TheVariants as forms
use Rattle.cdk_lazies.specs.CycleFindings.{cycle_findings}
use Rattle.cdk_meaning.specs.AssemblyKept.{MentionIsThere}
use Rattle.cdk_meaning.specs.Constructs.{condition_at}
use Rattle.cdk_meaning.specs.Mentions.{Mention, to_attribute, to_condition, to_mapping, to_target}
use Rattle.cdk_meaning.specs.Names.{Each, IsIn}
use Rattle.cdk_meaning.specs.Source.{Source}
use Rattle.cdk_meaning.specs.StackTemplate.{IsOperandMention}
use Rattle.cdk_meaning.specs.Truth.{reaches}
use Rattle.cdk_plain.specs.Rendered.{Local}
use Rattle.cdk_tokens.specs.Whole.{marking, tokens_of}
use Rattle.cdk_tree.specs.Placed.{Placed, construct_at, constructs_of}
use Rattle.cdk_premises.specs.MentionsLaws.{IsGuarded}
use Rattle.cdk_premises.specs.OneTree.{IsOneTree}
use Rattle.cdk_premises.specs.Operands.{OperandsArePlain}
use Rattle.cdk_premises.proofs.ConditionNames.{conditions_are_closed}
use Rattle.cdk_premises.proofs.ConditionWays.{conditions_are_free}
use Rattle.cdk_premises.proofs.ElementStacks.{elements_stand_in_the_stack}
use Rattle.cdk_premises.proofs.GuardTargets.{guards_are_conditions}
use Rattle.cdk_premises.proofs.OperandMentions.{operands_mention_theirs}
use Rattle.cdk_premises.proofs.PlainApplications.{applications_are_rooted, operands_are_read_plain}
use Rattle.cdk_premises.proofs.ValueMentions.{values_mention_theirs}

-- ---- what is read

abbrev bytes : List ℕ
bytes = codes "{\"app\":\"2\",\"children\":[{\"kind\":\"stack\",\"id\":\"S\",\"children\":[{\"kind\":\"parameter\",\"id\":\"P\",\"type\":\"String\"},{\"kind\":\"mapping\",\"id\":\"M\",\"mappings\":{\"x\":{\"y\":\"z\"}}},{\"kind\":\"condition\",\"id\":\"C\",\"expression\":{\"Fn::Equals\":[{\"Ref\":\"S/P\"},{\"Fn::FindInMap\":[\"S/M\",\"x\",\"y\"]}]}},{\"kind\":\"condition\",\"id\":\"D\",\"expression\":{\"Fn::Not\":[{\"Condition\":\"S/C\"}]}},{\"kind\":\"resource\",\"id\":\"A\",\"type\":\"T\",\"condition\":\"S/D\"},{\"kind\":\"resource\",\"id\":\"B\",\"type\":\"T\",\"properties\":{\"V\":{\"Fn::If\":[\"S/C\",{\"Ref\":\"S/P\"},{\"Fn::Join\":[\"-\",[{\"Ref\":\"S/A\"},{\"Fn::GetAtt\":[\"S/A\",\"Arn\"]},{\"Fn::FindInMap\":[\"S/M\",\"x\",\"y\"]}]]}]}}},{\"kind\":\"output\",\"id\":\"O\",\"value\":{\"CDK::Lazy\":\"S/L\"}},{\"kind\":\"lazy\",\"id\":\"L\",\"value\":{\"Ref\":\"S/B\"}}]}]}"

abbrev one : Data → Data
one d = array (item d no_items)

abbrev two : Data → Data → Data
two d e = array (item d (item e no_items))

abbrev three : Data → Data → Data → Data
three d e f = array (item d (item e (item f no_items)))

abbrev lone : List ℕ → Data → Data
lone k d = object (member k d no_members)

abbrev ref_of : List ℕ → Data
ref_of t = lone (codes "Ref") (string t)

abbrev found : Data
found = lone (codes "Fn::FindInMap") (three (string (codes "S/M")) (string (codes "x")) (string (codes "y")))

-- the members of a construct in byte order: some before `id` and `kind`, some behind
abbrev named : List ℕ → List ℕ → Members → Members
named id kind ms = member (codes "id") (string id) (member (codes "kind") (string kind) ms)

abbrev valued : List ℕ → List ℕ → Data → Data
valued id kind d = object (named id kind (member (codes "value") d no_members))

abbrev typed : List ℕ → Members
typed t = member (codes "type") (string t) no_members

abbrev tested : List ℕ → Data → Data
tested id d = object (member (codes "expression") d (named id (codes "condition") no_members))

abbrev properties : Data
properties = lone (codes "V") (lone (codes "Fn::If") (three (string (codes "S/C")) (ref_of (codes "S/P"))
    (lone (codes "Fn::Join") (two (string (codes "-")) (three (ref_of (codes "S/A")) (lone (codes "Fn::GetAtt") (two (string (codes "S/A")) (string (codes "Arn")))) found)))))

abbrev in_stack : Items
in_stack =
    item (object (named (codes "P") (codes "parameter") (typed (codes "String"))))
    (item (object (named (codes "M") (codes "mapping") (member (codes "mappings") (lone (codes "x") (lone (codes "y") (string (codes "z")))) no_members)))
    (item (tested (codes "C") (lone (codes "Fn::Equals") (two (ref_of (codes "S/P")) found)))
    (item (tested (codes "D") (lone (codes "Fn::Not") (one (lone (codes "Condition") (string (codes "S/C"))))))
    (item (object (member (codes "condition") (string (codes "S/D")) (named (codes "A") (codes "resource") (typed (codes "T")))))
    (item (object (named (codes "B") (codes "resource") (member (codes "properties") properties (typed (codes "T")))))
    (item (valued (codes "O") (codes "output") (lone (codes "CDK::Lazy") (string (codes "S/L"))))
    (item (valued (codes "L") (codes "lazy") (ref_of (codes "S/B")))
    no_items)))))))

abbrev document : Data
document = object (member (codes "app") (string (codes "2")) (member (codes "children") (one (object (member (codes "children") (array in_stack) (named (codes "S") (codes "stack") no_members)))) no_members))

document_is : parsed bytes ≡ Some document
unfolding serde_json_on_literals digits is_utf8 chars
document_is = refl

nothing_found : findings document ≡ []
nothing_found = refl

-- ---- its application

abbrev head : List ℕ → Head
head id = record { id = id; context = no_members; aspects = []; depends = []; logical = None }

abbrev alone : List ℕ → Body → Constructs → Constructs
alone id b cs = language.child (language.construct (head id) b language.no_constructs) cs

abbrev found_key : Expression
found_key = expression.find_in_map (codes "S/M") (expression.text (codes "x")) (expression.text (codes "y"))

abbrev more : Expression → Expressions → Expressions
more e es = expression.expression e es

abbrev value : Expression
value = expression.object (expression.field (codes "V") (expression.choice (codes "S/C") (expression.ref (codes "S/P"))
    (expression.join (codes "-") (expression.list (more (expression.ref (codes "S/A")) (more (expression.get_att (codes "S/A") (codes "Arn")) (more found_key expression.no_expressions)))))) expression.no_fields)

abbrev plain_resource : Body
plain_resource = language.resource (record { resource_type = codes "T"; properties = expression.object expression.no_fields; condition = Some (codes "S/D"); deletion = None; replace = None })

abbrev full_resource : Body
full_resource = language.resource (record { resource_type = codes "T"; properties = value; condition = None; deletion = None; replace = None })

abbrev elements : Constructs
elements =
    alone (codes "P") (language.parameter (record { form = forms.Text; default = None; description = None }))
    (alone (codes "M") (language.mapping (member (codes "x") (lone (codes "y") (string (codes "z"))) no_members))
    (alone (codes "C") (language.condition_body (condition.equals (expression.ref (codes "S/P")) found_key))
    (alone (codes "D") (language.condition_body (condition.negated (condition.named (codes "S/C"))))
    (alone (codes "A") plain_resource
    (alone (codes "B") full_resource
    (alone (codes "O") (language.output (record { value = expression.lazy (codes "S/L"); description = None; export = None; condition = None }))
    (alone (codes "L") (language.lazy (expression.ref (codes "S/B")))
    language.no_constructs)))))))

abbrev application : Application
application = language.construct (head []) language.root (language.child (language.construct (head (codes "S")) (language.stack None) elements) language.no_constructs)

application_is : application_of document ≡ Some application
application_is = refl

abbrev placed : List Placed
placed = constructs_of application

-- ---- the premises

few_tokens : length (tokens_of placed) ≡ 10
few_tokens = refl

sound : IsSound placed
sound = record { clean = trees_are_clean bytes document application document_is nothing_found application_is; targets = refl; contexts = refl; few = omega (arith, few_tokens) }

one_stack : stacks_of placed ≡ 1 ∷ []
one_stack = refl

of_one_stack : AreOneStack placed
of_one_stack = record {
  alone = refl;
  staged = (refl, (refl, (refl, (refl, (refl, (refl, (refl, (refl, (refl, (refl, tt))))))))));
  few = let size : length (stacks_of placed) ≡ 1 = refl in omega (arith, size);
}

tree : IsOneTree placed 1
tree = record {
  application = application;
  rooted = (applications_are_rooted document application [] application_is).0;
  walked = refl;
  one = of_one_stack;
  placed = refl;
  sound = sound;
  there = inl refl;
}

plain_operands : OperandsArePlain placed
plain_operands = (operands_are_read_plain bytes document application [] document_is nothing_found application_is).0

no_cycle : cycle_findings placed (tokens_of placed) (marking placed) ≡ []
unfolding digits
no_cycle = refl

-- ---- the laws

parts : parts_of placed 1 ≡ record { parameters = 2 ∷ []; resources = 6 ∷ 7 ∷ []; conditions = 4 ∷ 5 ∷ []; mappings = 3 ∷ [] }
parts = refl

stands : ((construct_at placed 7).stack ≡ Some 1) × ((constructs_in placed).stack 7 ≡ codes "S")
stands = let size : length placed ≡ 10 = refl in elements_stand_in_the_stack placed 1 tree 7 (omega (arith, size)) refl

module _ (most : ℕ) (src : Source) where
  abbrev IsThere : Mention → Type 0
  IsThere m = MentionIsThere (constructs_in placed) most src [] [] (parts_of placed 1) (λ n. Local (logical_of placed n)) (λ n a. Local (logical_of placed n)) m

  value_there : Each IsThere (to_condition 4 ∷ to_target 2 ∷ to_target 6 ∷ to_attribute 6 (codes "Arn") ∷ to_mapping 3 ∷ [])
  value_there = let size : length placed ≡ 10 = refl in values_mention_theirs placed 1 tree most src [] refl 0 7 value (omega (arith, size)) refl

  -- once the lazy is opened
  lazy_there : Each IsThere (to_target 7 ∷ [])
  lazy_there = let size : length placed ≡ 10 = refl in values_mention_theirs placed 1 tree most src [] refl 1 8 (expression.lazy (codes "S/L")) (omega (arith, size)) refl

-- the condition 4 names none, and 5 names it
closed : Each (λ (ns : List ℕ). Each (λ d. IsIn d (4 ∷ 5 ∷ [])) ns) ([] ∷ (4 ∷ []) ∷ [])
closed = conditions_are_closed placed 1 tree

operands : Each (λ (ms : List Mention). Each (IsOperandMention (constructs_in placed) (parts_of placed 1) (own_homes placed)) ms) ((to_target 2 ∷ to_mapping 3 ∷ []) ∷ [] ∷ [])
operands = operands_mention_theirs placed 1 tree plain_operands

free : LoopsAreFound → Each (λ c. reaches (condition_at (constructs_in placed)) 2 c c ≡ false) (4 ∷ 5 ∷ [])
free law = conditions_are_free law placed 1 tree no_cycle

guarded : IsGuarded placed 1 (Some (codes "S/D"))
guarded = let size : length placed ≡ 10 = refl in guards_are_conditions placed 1 tree 6 (omega (arith, size))
