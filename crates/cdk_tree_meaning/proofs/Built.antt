-- The template of a stack is built of the stack's constructs.
use Rattle.std.proofs.Common.{◌≡◌, ◌<◌, ℕ, List, ◌++◌, length, Bool, true, false, Some, refl, sym, ap, ◌∙◌, subst, true≢false}
use Rattle.serde_json.specs.Data.{Data, Members}
use Rattle.cdk_elements.specs.Elements.{constructs_in, element_of, logical_of, name_of, own_homes, parts_of}
use Rattle.cdk_elements.specs.Kinds.{of_kind, stacks_of}
use Rattle.cdk_premises.proofs.FitConditions.{conditions_are_well}
use Rattle.cdk_language.specs.Construct as language
use Rattle.cdk_language.specs.Construct.{Body}
use Rattle.cdk_meaning.specs.Constructs.{condition_at, condition_in}
use Rattle.cdk_meaning.specs.Names.{Each, IsIn}
use Rattle.cdk_meaning.specs.Sections.{IsSection}
use Rattle.cdk_meaning.specs.StackTemplate.{IsMappingEntry, IsParameterEntry, IsResourceEntry, IsTemplateOf, Parts, has_colon}
use Rattle.cdk_meaning.proofs.NameLists.{each_at}
use Rattle.cdk_premises.specs.MentionsLaws.{ConditionsAreFree}
use Rattle.cdk_premises.specs.OneTree.{IsOneTree}
use Rattle.cdk_premises.proofs.ConditionNames.{conditions_are_closed}
use Rattle.cdk_premises.proofs.ElementStacks.{elements_stand_in_the_stack}
use Rattle.cdk_premises.proofs.GuardTargets.{guards_are_conditions}
use Rattle.cdk_premises.proofs.Lists.{each_append}
use Rattle.cdk_premises.proofs.OperandMentions.{operands_mention_theirs}
use Rattle.cdk_plain.specs.Plain.{IsWellCondition}
use Rattle.cdk_plain.specs.Rendered.{rendered_condition}
use Rattle.cdk_stacks.specs.Names.{logical_name}
use Rattle.cdk_stacks.proofs.NameLaws.{elements_have_logical_names}
use Rattle.cdk_template.specs.Own.{spelling_of}
use Rattle.cdk_template.specs.Template.{entry_of, section_of, template_of}
use Rattle.cdk_template.proofs.NumberLemmas.{AreElements, names_apart}
use Rattle.cdk_template.proofs.SectionLemmas.{conditions_are_elements, is_section, mappings_are_elements, own_conditions, own_mappings, own_parameters, own_resources, parameters_are_elements, resources_are_elements, targets_apart}
use Rattle.cdk_tree.specs.Expected.{is_condition, is_mapping, is_parameter, is_resource}
use Rattle.cdk_tree.specs.PlaceFindings.{is_element}
use Rattle.cdk_tree.specs.Placed.{Placed, construct_at}
use Rattle.cdk_tree_meaning.specs.Checked.{AreChecked}
use Rattle.cdk_tree_meaning.proofs.Entries.{condition_stands, mapping_stands, parameter_stands, resource_stands}
use Rattle.cdk_tree_meaning.proofs.NameTests.{named_without_colon}
use Rattle.cdk_tree_meaning.proofs.Trees.{each_of_kind, one_tree}

abbrev pub entry_at : List Placed → ℕ → Data
entry_at cs n = entry_of (spelling_of cs) n (construct_at cs n)

-- a section by entries that are equal
section_alike : (name : ℕ → List ℕ) (f g : ℕ → Data) (ns : List ℕ) (ms : Members) → Each (λ n. f n ≡ g n) ns → IsSection name f ns ms → IsSection name g ns ms
section_alike name f g ns ms same s = record { found = λ n i. s.found n i ∙ ap Some (each_at (λ n. f n ≡ g n) n ns same i); lacks = s.lacks; counted = s.counted }

module _ (conditions_are_free : ConditionsAreFree) (cs : List Placed) (c : AreChecked cs) (stack : ℕ) (there : IsIn stack (stacks_of cs)) where
  abbrev parts : Parts
  parts = parts_of cs stack

  abbrev name : ℕ → List ℕ
  name n = logical_of cs n

  tree : IsOneTree cs stack
  tree = one_tree cs stack c there

  -- ---- one construct

  no_colon : (n : ℕ) → n < length cs → is_element (construct_at cs n).body ≡ true → has_colon (name n) ≡ false
  no_colon n within is = named_without_colon (logical_name cs n) (elements_have_logical_names cs n c.named within is)

  stands_here : (n : ℕ) → n < length cs → is_element (construct_at cs n).body ≡ true → (constructs_in cs).stack n ≡ name_of cs stack
  stands_here n within is = (elements_stand_in_the_stack cs stack tree n within is).1

  condition_is_well : (n : ℕ) (b : Body) → n < length cs → (construct_at cs n).body ≡ b → is_condition b ≡ true → IsWellCondition (condition_in n (element_of cs n b))
  condition_is_well n (language.condition_body d) within e is = (conditions_are_well cs c.sound c.formed n d within e).0
  condition_is_well n b within e is = absurd (true≢false (sym is))

  -- ---- those of a kind

  each_element : (kind : Body → Bool) → AreElements kind → (P : ℕ → Type 0) → ((n : ℕ) → n < length cs → is_element (construct_at cs n).body ≡ true → P n) → Each P (of_kind cs stack kind)
  each_element kind are P f = each_of_kind cs stack kind P (λ n within is. f n within (are (construct_at cs n).body is))

  -- by their names
  section_by_names : (kind : Body → Bool) → AreElements kind → IsSection name (entry_at cs) (of_kind cs stack kind) (section_of cs (spelling_of cs) stack kind)
  section_by_names kind are = is_section cs stack kind are c.named

  -- conditions, as they are rendered
  abbrev condition_json : ℕ → Data
  condition_json n = rendered_condition (own_homes cs) (condition_at (constructs_in cs) n)

  conditions_stand : IsSection name condition_json parts.conditions (section_of cs (spelling_of cs) stack is_condition)
  conditions_stand =
      section_alike name (entry_at cs) condition_json parts.conditions (section_of cs (spelling_of cs) stack is_condition)
      (each_of_kind cs stack is_condition (λ n. entry_at cs n ≡ condition_json n) (λ n within is. condition_stands cs n (construct_at cs n).path (construct_at cs n).body is))
      (section_by_names is_condition conditions_are_elements)

  parameters_are : Each (λ n. IsParameterEntry ((constructs_in cs).element n) (entry_at cs n)) parts.parameters
  parameters_are = each_of_kind cs stack is_parameter (λ n. IsParameterEntry ((constructs_in cs).element n) (entry_at cs n)) (λ n within is. parameter_stands cs n (construct_at cs n).path (construct_at cs n).body is)

  resources_are : Each (λ n. IsResourceEntry (λ d. (constructs_in cs).logical d) parts.conditions ((constructs_in cs).element n) (entry_at cs n)) parts.resources
  resources_are =
      each_of_kind cs stack is_resource (λ n. IsResourceEntry (λ d. (constructs_in cs).logical d) parts.conditions ((constructs_in cs).element n) (entry_at cs n))
      (λ n within is. resource_stands cs stack n (construct_at cs n).path (construct_at cs n).body is (guards_are_conditions cs stack tree n within))

  mappings_are : Each (λ n. IsMappingEntry ((constructs_in cs).element n) (entry_at cs n)) parts.mappings
  mappings_are = each_of_kind cs stack is_mapping (λ n. IsMappingEntry ((constructs_in cs).element n) (entry_at cs n)) (λ n within is. mapping_stands cs n (construct_at cs n).path (construct_at cs n).body is (c.formed n within))

  conditions_well : Each (λ n. IsWellCondition (condition_at (constructs_in cs) n)) parts.conditions
  conditions_well = each_of_kind cs stack is_condition (λ n. IsWellCondition (condition_at (constructs_in cs) n)) (λ n within is. condition_is_well n (construct_at cs n).body within refl is)

  abbrev HasNoColon : ℕ → Type 0
  HasNoColon n = has_colon (name n) ≡ false

  abbrev StandsHere : ℕ → Type 0
  StandsHere n = (constructs_in cs).stack n ≡ name_of cs stack

  -- ---- all of them

  pub template_is_built : IsTemplateOf (constructs_in cs) parts (own_homes cs) (entry_at cs) (name_of cs stack) (template_of cs (spelling_of cs) stack)
  template_is_built = record {
    parameters_stand = subst (IsSection name (entry_at cs) parts.parameters) (sym (own_parameters cs stack)) (section_by_names is_parameter parameters_are_elements);
    resources_stand = subst (IsSection name (entry_at cs) parts.resources) (sym (own_resources cs stack)) (section_by_names is_resource resources_are_elements);
    conditions_stand = subst (IsSection name condition_json parts.conditions) (sym (own_conditions cs stack)) conditions_stand;
    mappings_stand = subst (IsSection name (entry_at cs) parts.mappings) (sym (own_mappings cs stack)) (section_by_names is_mapping mappings_are_elements);
    parameters = parameters_are;
    resources = resources_are;
    mappings = mappings_are;
    targets_apart = targets_apart cs stack c.named;
    conditions_apart = names_apart cs stack is_condition conditions_are_elements c.named;
    names = each_append HasNoColon parts.parameters parts.resources (each_element is_parameter parameters_are_elements HasNoColon no_colon) (each_element is_resource resources_are_elements HasNoColon no_colon);
    placed = each_append StandsHere parts.parameters (parts.resources ++ parts.conditions) (each_element is_parameter parameters_are_elements StandsHere stands_here)
        (each_append StandsHere parts.resources parts.conditions (each_element is_resource resources_are_elements StandsHere stands_here) (each_element is_condition conditions_are_elements StandsHere stands_here));
    closed = conditions_are_closed cs stack tree;
    well = conditions_well;
    operands = operands_mention_theirs cs stack tree c.operands;
    free = conditions_are_free cs stack tree c.cycles;
  }
