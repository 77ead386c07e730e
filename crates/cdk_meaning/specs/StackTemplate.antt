-- When a template is built of a stack's constructs, and that its names then stand for what they mean (CloudFormation's template
-- anatomy).
use Rattle.std.specs.Prelude.{◌≡◌, ◌≤◌, ℕ, List, ◌++◌, length, map, Bool, true, false, ◌==◌, Option, Some, None, option_map, is_some, codes, ⊤}
use Rattle.std.specs.List.{list_any}
use Rattle.serde_json.specs.Data.{Data, string, object, Members, no_members, member}
use Rattle.serde_json.specs.Find.{get}
use Rattle.cdk_base.specs.Json.{text_of}
use Rattle.cdk_eval.specs.Values.{Values}
use Rattle.cdk_eval.specs.Template.{outcome}
use Rattle.cdk_eval.specs.Sections.{section, scope}
use Rattle.cdk_plain.specs.Plain.{Plain, IsWell, IsWellCondition}
use Rattle.cdk_meaning.specs.Mentions.{Mention, to_target, to_attribute, to_condition, to_mapping, to_import, mentions, operand_mentions, names_in}
use Rattle.cdk_meaning.specs.Meaning.{means_text, cut_at, meaning}
use Rattle.cdk_meaning.specs.Source.{Meaning, Source}
use Rattle.cdk_meaning.specs.Truth.{reaches}
use Rattle.cdk_meaning.specs.Agreement.{Agrees}
use Rattle.cdk_plain.specs.Rendered.{Home, Local, Import, ImportList, Homes, list_delimiter, rendered, rendered_condition}
use Rattle.cdk_meaning.specs.Names.{AreDistinct, IsIn, Each}
use Rattle.cdk_meaning.specs.Sections.{IsSection}
use Rattle.cdk_meaning.specs.Constructs.{ParameterForm, text_form, number_form, list_form, Element, parameter_of, resource_of, mapping_of, Constructs, condition_at, source_of}

-- The constructs of one stack that names of its template stand for.
pub record Parts : Type 0 where
  pub parameters : List ℕ
  pub resources : List ℕ
  pub conditions : List ℕ
  pub mappings : List ℕ

-- ---- entries

abbrev pub form_text : ParameterForm → List ℕ
form_text text_form = codes "String"
form_text number_form = codes "Number"
form_text list_form = codes "CommaDelimitedList"

abbrev pub IsParameterEntry : Element → Data → Type 0
IsParameterEntry (parameter_of f d) e = (get (codes "Type") e ≡ Some (string (form_text f))) × (get (codes "Default") e ≡ option_map string d)
IsParameterEntry _ e = ⊥

-- the condition is one of the stack's, by its name
abbrev pub IsGuardIn : List ℕ → Option ℕ → Type 0
IsGuardIn conditions None = ⊤
IsGuardIn conditions (Some c) = IsIn c conditions

abbrev pub IsResourceEntry : (ℕ → List ℕ) → List ℕ → Element → Data → Type 0
IsResourceEntry logical conditions (resource_of guard) e = (get (codes "Condition") e ≡ option_map (λ c. string (logical c)) guard) × IsGuardIn conditions guard
IsResourceEntry logical conditions _ e = ⊥

abbrev pub EachMember : (Data → Type 0) → Members → Type 0
EachMember P no_members = ⊤
EachMember P (member k d ms) = P d × EachMember P ms

-- a text, a whole number or a truth value
abbrev pub IsLeaf : Data → Type 0
IsLeaf d = is_some (text_of d) ≡ true

abbrev pub IsRow : Data → Type 0
IsRow (object ms) = EachMember IsLeaf ms
IsRow _ = ⊥

abbrev pub IsMapping : Data → Type 0
IsMapping (object ms) = EachMember IsRow ms
IsMapping _ = ⊥

abbrev pub IsMappingEntry : Element → Data → Type 0
IsMappingEntry (mapping_of d) e = (e ≡ d) × IsMapping d
IsMappingEntry _ e = ⊥

-- ---- the template

-- How a stack's expressions spell what they mention: conditions and mappings always by their logical names.
abbrev pub homes_of : Constructs → (ℕ → Home) → (ℕ → List ℕ → Home) → Homes
homes_of cs target attribute = record { target = target; attribute = attribute; condition = cs.logical; mapping = cs.logical }

-- what an operand of a condition may mention: the stack's parameters and mappings
abbrev pub IsOperandMention : Constructs → Parts → Homes → Mention → Type 0
IsOperandMention cs p h (to_target n) = IsIn n p.parameters × (h.target n ≡ Local (cs.logical n))
IsOperandMention cs p h (to_attribute n a) = ⊥
IsOperandMention cs p h (to_condition c) = ⊥
IsOperandMention cs p h (to_mapping m) = IsIn m p.mappings
IsOperandMention cs p h (to_import e) = ⊥

-- no pseudo parameter's name
abbrev pub has_colon : List ℕ → Bool
has_colon n = list_any (λ c. c == 58) n

-- The template has the constructs of the stack: its sections have their entries, by logical names that differ; its conditions name one
-- another and none reaches itself; and their operands mention the stack's parameters and mappings alone.
pub record IsTemplateOf (cs : Constructs) (p : Parts) (h : Homes) (entry : ℕ → Data) (stack : List ℕ) (template : Data) : Type 0 where
  -- the sections
  pub parameters_stand : IsSection (λ n. cs.logical n) entry p.parameters (section (codes "Parameters") template)
  pub resources_stand : IsSection (λ n. cs.logical n) entry p.resources (section (codes "Resources") template)
  pub conditions_stand : IsSection (λ n. cs.logical n) (λ n. rendered_condition h (condition_at cs n)) p.conditions (section (codes "Conditions") template)
  pub mappings_stand : IsSection (λ n. cs.logical n) entry p.mappings (section (codes "Mappings") template)
  -- the entries
  pub parameters : Each (λ n. IsParameterEntry (cs.element n) (entry n)) p.parameters
  pub resources : Each (λ n. IsResourceEntry (λ c. cs.logical c) p.conditions (cs.element n) (entry n)) p.resources
  pub mappings : Each (λ n. IsMappingEntry (cs.element n) (entry n)) p.mappings
  -- the names
  pub targets_apart : AreDistinct (map (λ n. cs.logical n) (p.parameters ++ p.resources))
  pub conditions_apart : AreDistinct (map (λ n. cs.logical n) p.conditions)
  pub names : Each (λ n. has_colon (cs.logical n) ≡ false) (p.parameters ++ p.resources)
  pub placed : Each (λ n. cs.stack n ≡ stack) (p.parameters ++ (p.resources ++ p.conditions))
  -- the conditions
  pub closed : Each (λ c. Each (λ d. IsIn d p.conditions) (names_in (condition_at cs c))) p.conditions
  pub well : Each (λ c. IsWellCondition (condition_at cs c)) p.conditions
  pub operands : Each (λ c. Each (IsOperandMention cs p h) (operand_mentions (condition_at cs c))) p.conditions
  pub free : Each (λ c. reaches (condition_at cs) (length p.conditions) c c ≡ false) p.conditions

-- ---- what an expression mentions

-- of the stack, by its logical name; or of another stack, by an export that holds what it means
abbrev pub TargetStands : Constructs → List ℕ → (List ℕ → Option (List ℕ)) → ℕ → Home → Meaning → Type 0
TargetStands cs ns exports n (Local k) m = (k ≡ cs.logical n) × IsIn n ns
TargetStands cs ns exports n (Import e) m = means_text (exports e) ≡ m
TargetStands cs ns exports n (ImportList e) m = cut_at list_delimiter (exports e) ≡ m

abbrev pub MentionStands : Source → Constructs → Parts → Homes → (List ℕ → Option (List ℕ)) → Mention → Type 0
MentionStands src cs p h exports (to_target n) = TargetStands cs (p.parameters ++ p.resources) exports n (h.target n) (src.target n)
MentionStands src cs p h exports (to_attribute n a) = TargetStands cs p.resources exports n (h.attribute n a) (src.attribute n a)
MentionStands src cs p h exports (to_condition c) = IsIn c p.conditions
MentionStands src cs p h exports (to_mapping m) = IsIn m p.mappings
MentionStands src cs p h exports (to_import e) = exports e ≡ src.outside e

-- In the template of a stack's constructs, under any values and exports, a rendered expression has the outcome that it means.
abbrev pub StacksKeepMeaning : Type 0
StacksKeepMeaning =
    (v : Values) (cs : Constructs) (p : Parts) (target : ℕ → Home) (attribute : ℕ → List ℕ → Home) (entry : ℕ → Data) (stack : List ℕ) (template : Data)
    → IsTemplateOf cs p (homes_of cs target attribute) entry stack template
    → (exports : List ℕ → Option (List ℕ)) (most : ℕ) → length p.conditions ≤ most
    → (e : Plain) → IsWell e → Each (MentionStands (source_of v cs most stack) cs p (homes_of cs target attribute) exports) (mentions e)
    → Agrees (outcome (scope v stack template exports) (rendered (homes_of cs target attribute) e)) (meaning (source_of v cs most stack) e)
