-- The sections of a template are the stack's constructs of each kind.
use Rattle.std.proofs.Common.{◌≡◌, ℕ, List, [], ◌++◌, map, Bool, true, false, Option, Some, None, Ordering, Less, Equal, Greater, nat_cmp, is_eq, codes, refl, sym, ap, ◌∙◌, true≢false}
use Rattle.std.specs.Prelude.{option_map, option_and_then, unwrap_or}
use Rattle.std.specs.Ordering.{match_ordering}
use Rattle.std.specs.Cmp.Lexicographic.{slice_cmp}
use Rattle.serde_json.specs.Data.{Data, string, object, Members, no_members, member}
use Rattle.serde_json.specs.Find.{as_object, get, get_member}
use Rattle.cdk_elements.specs.Elements.{logical_of}
use Rattle.cdk_elements.specs.Kinds.{is_output, of_kind}
use Rattle.cdk_eval.specs.Sections.{section}
use Rattle.cdk_language.specs.Construct as language
use Rattle.cdk_language.specs.Construct.{Body, OutputBody, ParameterBody, ResourceBody}
use Rattle.cdk_meaning.specs.Names.{AreDistinct}
use Rattle.cdk_meaning.specs.Sections.{IsSection}
use Rattle.cdk_meaning.proofs.Sections.{sections_hold}
use Rattle.cdk_stacks.specs.Claims.{name_findings}
use Rattle.cdk_template.specs.Own.{spelling_of}
use Rattle.cdk_template.specs.Template.{Spelling, entry_of, output_entry, resource_entry, section_of, template_of, with_generated}
use Rattle.cdk_entries.specs.Entries.{description_of, export_name, form_name, parameter_entry, path_metadata, policy_name}
use Rattle.cdk_entries.specs.Members.{if_given, members_of, non_empty, unless_empty, unless_none}
use Rattle.cdk_template.proofs.MemberLemmas.{conditions_in, described_in, mappings_in, outputs_in, parameters_in, resources_in}
use Rattle.cdk_template.proofs.NumberLemmas.{AreElements, both_names_apart, names_apart}
use Rattle.cdk_tree.specs.Expected.{is_condition, is_mapping, is_parameter, is_resource}
use Rattle.cdk_tree.specs.Placed.{Placed, construct_at}

-- ---- a member among others

-- another key is passed over
pub passed : (k l : List ℕ) (d : Data) (ms : Members) → is_eq (slice_cmp nat_cmp k l) ≡ false → get_member k (member l d ms) ≡ get_member k ms
passed k l d ms h = at (slice_cmp nat_cmp k l) h
  where
    at : (o : Ordering) → is_eq o ≡ false → match_ordering o (get_member k ms) (Some d) (get_member k ms) ≡ get_member k ms
    at Less h = refl
    at Equal h = absurd (true≢false h)
    at Greater h = refl

pub passed_given : (k l : List ℕ) (o : Option Data) (ms : Members) → is_eq (slice_cmp nat_cmp k l) ≡ false → get_member k (if_given l o ms) ≡ get_member k ms
passed_given k l None ms h = refl
passed_given k l (Some d) ms h = passed k l d ms h

abbrev members_in : Option Data → Members
members_in o = unwrap_or (option_and_then as_object o) no_members

-- an object that is left out where it is empty
found_given : (k : List ℕ) (ms rest : Members) → slice_cmp nat_cmp k k ≡ Equal → get_member k rest ≡ None → members_in (get_member k (if_given k (unless_empty ms) rest)) ≡ ms
found_given k no_members rest same none = ap members_in none
found_given k (member l d ms) rest same none =
    ap (λ o. members_in (match_ordering o (get_member k rest) (Some (object (member l d ms))) (get_member k rest))) same

-- ---- the sections of a template, whatever its spelling

module _ (c d m o p r : Option Data) where
  to_mappings : (k : List ℕ) → is_eq (slice_cmp nat_cmp k (codes "Conditions")) ≡ false → is_eq (slice_cmp nat_cmp k (codes "Description")) ≡ false → get_member k (conditions_in c d m o p r) ≡ get_member k (mappings_in c d m o p r)
  to_mappings k a b = passed_given k (codes "Conditions") c (described_in c d m o p r) a ∙ passed_given k (codes "Description") d (mappings_in c d m o p r) b

  to_outputs : (k : List ℕ) → is_eq (slice_cmp nat_cmp k (codes "Conditions")) ≡ false → is_eq (slice_cmp nat_cmp k (codes "Description")) ≡ false → is_eq (slice_cmp nat_cmp k (codes "Mappings")) ≡ false
      → get_member k (conditions_in c d m o p r) ≡ get_member k (outputs_in c d m o p r)
  to_outputs k a b e = to_mappings k a b ∙ passed_given k (codes "Mappings") m (outputs_in c d m o p r) e

  to_parameters : get_member (codes "Parameters") (conditions_in c d m o p r) ≡ get_member (codes "Parameters") (parameters_in c d m o p r)
  to_parameters = to_outputs (codes "Parameters") refl refl refl ∙ passed_given (codes "Parameters") (codes "Outputs") o (parameters_in c d m o p r) refl

  to_resources : get_member (codes "Resources") (conditions_in c d m o p r) ≡ get_member (codes "Resources") (resources_in c d m o p r)
  to_resources =
      to_outputs (codes "Resources") refl refl refl ∙ passed_given (codes "Resources") (codes "Outputs") o (parameters_in c d m o p r) refl ∙ passed_given (codes "Resources") (codes "Parameters") p (resources_in c d m o p r) refl

  none_after_parameters : get_member (codes "Parameters") (resources_in c d m o p r) ≡ None
  none_after_parameters = passed_given (codes "Parameters") (codes "Resources") r no_members refl

  none_after_outputs : get_member (codes "Outputs") (parameters_in c d m o p r) ≡ None
  none_after_outputs = passed_given (codes "Outputs") (codes "Parameters") p (resources_in c d m o p r) refl ∙ passed_given (codes "Outputs") (codes "Resources") r no_members refl

  none_after_mappings : get_member (codes "Mappings") (outputs_in c d m o p r) ≡ None
  none_after_mappings =
      passed_given (codes "Mappings") (codes "Outputs") o (parameters_in c d m o p r) refl ∙ passed_given (codes "Mappings") (codes "Parameters") p (resources_in c d m o p r) refl ∙ passed_given (codes "Mappings") (codes "Resources") r no_members refl

  none_after_conditions : get_member (codes "Conditions") (described_in c d m o p r) ≡ None
  none_after_conditions =
      passed_given (codes "Conditions") (codes "Description") d (mappings_in c d m o p r) refl ∙ passed_given (codes "Conditions") (codes "Mappings") m (outputs_in c d m o p r) refl
      ∙ passed_given (codes "Conditions") (codes "Outputs") o (parameters_in c d m o p r) refl ∙ passed_given (codes "Conditions") (codes "Parameters") p (resources_in c d m o p r) refl
      ∙ passed_given (codes "Conditions") (codes "Resources") r no_members refl

module _ (cs : List Placed) (s : Spelling) (stack : ℕ) where
  abbrev c_in : Option Data
  c_in = unless_empty (section_of cs s stack is_condition)

  abbrev d_in : Option Data
  d_in = non_empty (description_of (construct_at cs stack).body)

  abbrev m_in : Option Data
  m_in = unless_empty (section_of cs s stack is_mapping)

  abbrev o_in : Option Data
  o_in = unless_empty (with_generated s.generated (section_of cs s stack is_output))

  abbrev p_in : Option Data
  p_in = unless_empty (section_of cs s stack is_parameter)

  abbrev r_in : Option Data
  r_in = unless_empty (section_of cs s stack is_resource)

  pub resources_are : section (codes "Resources") (template_of cs s stack) ≡ section_of cs s stack is_resource
  resources_are = ap members_in (to_resources c_in d_in m_in o_in p_in r_in) ∙ found_given (codes "Resources") (section_of cs s stack is_resource) no_members refl refl

  pub parameters_are : section (codes "Parameters") (template_of cs s stack) ≡ section_of cs s stack is_parameter
  parameters_are =
      ap members_in (to_parameters c_in d_in m_in o_in p_in r_in)
      ∙ found_given (codes "Parameters") (section_of cs s stack is_parameter) (resources_in c_in d_in m_in o_in p_in r_in) refl (none_after_parameters c_in d_in m_in o_in p_in r_in)

  pub outputs_are : section (codes "Outputs") (template_of cs s stack) ≡ with_generated s.generated (section_of cs s stack is_output)
  outputs_are =
      ap members_in (to_outputs c_in d_in m_in o_in p_in r_in (codes "Outputs") refl refl refl)
      ∙ found_given (codes "Outputs") (with_generated s.generated (section_of cs s stack is_output)) (parameters_in c_in d_in m_in o_in p_in r_in) refl (none_after_outputs c_in d_in m_in o_in p_in r_in)

  pub mappings_are : section (codes "Mappings") (template_of cs s stack) ≡ section_of cs s stack is_mapping
  mappings_are =
      ap members_in (to_mappings c_in d_in m_in o_in p_in r_in (codes "Mappings") refl refl)
      ∙ found_given (codes "Mappings") (section_of cs s stack is_mapping) (outputs_in c_in d_in m_in o_in p_in r_in) refl (none_after_mappings c_in d_in m_in o_in p_in r_in)

  pub conditions_are : section (codes "Conditions") (template_of cs s stack) ≡ section_of cs s stack is_condition
  conditions_are = found_given (codes "Conditions") (section_of cs s stack is_condition) (described_in c_in d_in m_in o_in p_in r_in) refl (none_after_conditions c_in d_in m_in o_in p_in r_in)

-- ---- of the one stack

pub own_resources : (cs : List Placed) (stack : ℕ) → section (codes "Resources") (template_of cs (spelling_of cs) stack) ≡ section_of cs (spelling_of cs) stack is_resource
own_resources cs stack = resources_are cs (spelling_of cs) stack

pub own_parameters : (cs : List Placed) (stack : ℕ) → section (codes "Parameters") (template_of cs (spelling_of cs) stack) ≡ section_of cs (spelling_of cs) stack is_parameter
own_parameters cs stack = parameters_are cs (spelling_of cs) stack

pub own_conditions : (cs : List Placed) (stack : ℕ) → section (codes "Conditions") (template_of cs (spelling_of cs) stack) ≡ section_of cs (spelling_of cs) stack is_condition
own_conditions cs stack = conditions_are cs (spelling_of cs) stack

pub own_mappings : (cs : List Placed) (stack : ℕ) → section (codes "Mappings") (template_of cs (spelling_of cs) stack) ≡ section_of cs (spelling_of cs) stack is_mapping
own_mappings cs stack = mappings_are cs (spelling_of cs) stack

pub own_outputs : (cs : List Placed) (stack : ℕ) → section (codes "Outputs") (template_of cs (spelling_of cs) stack) ≡ section_of cs (spelling_of cs) stack is_output
own_outputs cs stack = outputs_are cs (spelling_of cs) stack

-- ---- the names differ, so each construct of a kind is found by its name

pub resources_are_elements : AreElements is_resource
resources_are_elements (language.resource r) h = refl
resources_are_elements b h = absurd (true≢false (sym h))

pub parameters_are_elements : AreElements is_parameter
parameters_are_elements (language.parameter p) h = refl
parameters_are_elements b h = absurd (true≢false (sym h))

pub conditions_are_elements : AreElements is_condition
conditions_are_elements (language.condition_body c) h = refl
conditions_are_elements b h = absurd (true≢false (sym h))

pub mappings_are_elements : AreElements is_mapping
mappings_are_elements (language.mapping m) h = refl
mappings_are_elements b h = absurd (true≢false (sym h))

pub outputs_are_elements : AreElements is_output
outputs_are_elements (language.output o) h = refl
outputs_are_elements b h = absurd (true≢false (sym h))

no_parameter_is_a_resource : (b : Body) → is_parameter b ≡ true → is_resource b ≡ true → ⊥
no_parameter_is_a_resource (language.parameter p) h g = absurd (true≢false (sym g))
no_parameter_is_a_resource b h g = absurd (true≢false (sym h))

-- what `Ref` may name
pub targets_apart : (cs : List Placed) (stack : ℕ) → name_findings cs ≡ [] → AreDistinct (map (logical_of cs) (of_kind cs stack is_parameter ++ of_kind cs stack is_resource))
targets_apart cs stack h = both_names_apart cs stack is_parameter is_resource parameters_are_elements resources_are_elements no_parameter_is_a_resource h

pub is_section : (cs : List Placed) (stack : ℕ) (kind : Body → Bool) → AreElements kind → name_findings cs ≡ []
    → IsSection (λ n. logical_of cs n) (λ n. entry_of (spelling_of cs) n (construct_at cs n)) (of_kind cs stack kind) (section_of cs (spelling_of cs) stack kind)
is_section cs stack kind are h =
    (sections_hold (λ n. logical_of cs n) (λ n. entry_of (spelling_of cs) n (construct_at cs n)) (of_kind cs stack kind) (names_apart cs stack kind are h)).from_the_first

-- ---- an entry's own members

module _ (s : Spelling) (n : ℕ) (path : List ℕ) (r : ResourceBody) where
  abbrev last_members : Members
  last_members = if_given (codes "UpdateReplacePolicy") (option_map (λ p. string (policy_name p)) r.replace) no_members

  abbrev typed_members : Members
  typed_members = member (codes "Type") (string r.resource_type) last_members

  abbrev owned_members : Members
  owned_members = if_given (codes "Properties") (unless_empty (members_of (s.value n r.properties))) typed_members

  abbrev told_members : Members
  told_members = member (codes "Metadata") (path_metadata path) owned_members

  abbrev waiting_members : Members
  waiting_members = if_given (codes "DependsOn") (unless_none (s.depends_on n)) told_members

  abbrev kept_members : Members
  kept_members = if_given (codes "DeletionPolicy") (option_map (λ p. string (policy_name p)) r.deletion) waiting_members

  after_type : (k : List ℕ) → is_eq (slice_cmp nat_cmp k (codes "Type")) ≡ false → is_eq (slice_cmp nat_cmp k (codes "UpdateReplacePolicy")) ≡ false → get_member k typed_members ≡ None
  after_type k a b = passed k (codes "Type") (string r.resource_type) last_members a ∙ passed_given k (codes "UpdateReplacePolicy") (option_map (λ p. string (policy_name p)) r.replace) no_members b

  to_properties : (k : List ℕ) → is_eq (slice_cmp nat_cmp k (codes "DeletionPolicy")) ≡ false → is_eq (slice_cmp nat_cmp k (codes "DependsOn")) ≡ false → is_eq (slice_cmp nat_cmp k (codes "Metadata")) ≡ false
      → get_member k kept_members ≡ get_member k owned_members
  to_properties k a b e =
      passed_given k (codes "DeletionPolicy") (option_map (λ p. string (policy_name p)) r.deletion) waiting_members a ∙ passed_given k (codes "DependsOn") (unless_none (s.depends_on n)) told_members b
      ∙ passed k (codes "Metadata") (path_metadata path) owned_members e

  pub own_properties : section (codes "Properties") (resource_entry s n path r) ≡ members_of (s.value n r.properties)
  own_properties =
      ap members_in (passed_given (codes "Properties") (codes "Condition") (option_map (λ t. string (s.named t)) r.condition) kept_members refl ∙ to_properties (codes "Properties") refl refl refl)
      ∙ found_given (codes "Properties") (members_of (s.value n r.properties)) typed_members refl (after_type (codes "Properties") refl refl)

  pub no_condition : r.condition ≡ None → get (codes "Condition") (resource_entry s n path r) ≡ None
  no_condition h =
      ap (λ c. get_member (codes "Condition") (if_given (codes "Condition") (option_map (λ t. string (s.named t)) c) kept_members)) h
      ∙ to_properties (codes "Condition") refl refl refl
      ∙ passed_given (codes "Condition") (codes "Properties") (unless_empty (members_of (s.value n r.properties))) typed_members refl
      ∙ after_type (codes "Condition") refl refl

  pub its_condition : get (codes "Condition") (resource_entry s n path r) ≡ option_map (λ t. string (s.named t)) r.condition
  its_condition = at r.condition
    where
      without : get_member (codes "Condition") kept_members ≡ None
      without =
          to_properties (codes "Condition") refl refl refl ∙ passed_given (codes "Condition") (codes "Properties") (unless_empty (members_of (s.value n r.properties))) typed_members refl
          ∙ after_type (codes "Condition") refl refl

      at : (o : Option (List ℕ)) → get_member (codes "Condition") (if_given (codes "Condition") (option_map (λ t. string (s.named t)) o) kept_members) ≡ option_map (λ t. string (s.named t)) o
      at None = without
      at (Some t) = refl

-- ---- a parameter's

module _ (p : ParameterBody) where
  abbrev typed_member : Members
  typed_member = member (codes "Type") (string (form_name p.form)) no_members

  abbrev described : Members
  described = if_given (codes "Description") (option_map string p.description) typed_member

  pub its_type : get (codes "Type") (parameter_entry p) ≡ Some (string (form_name p.form))
  its_type = passed_given (codes "Type") (codes "Default") (option_map string p.default) described refl ∙ passed_given (codes "Type") (codes "Description") (option_map string p.description) typed_member refl

  pub its_default : get (codes "Default") (parameter_entry p) ≡ option_map string p.default
  its_default = at p.default
    where
      at : (o : Option (List ℕ)) → get_member (codes "Default") (if_given (codes "Default") (option_map string o) described) ≡ option_map string o
      at None = passed_given (codes "Default") (codes "Description") (option_map string p.description) typed_member refl ∙ passed (codes "Default") (codes "Type") (string (form_name p.form)) no_members refl
      at (Some t) = refl

-- ---- an output's

module _ (s : Spelling) (n : ℕ) (o : OutputBody) where
  abbrev valued : Members
  valued = member (codes "Value") (s.value n o.value) no_members

  abbrev exported : Members
  exported = if_given (codes "Export") (option_map export_name o.export) valued

  abbrev outlined : Members
  outlined = if_given (codes "Description") (option_map string o.description) exported

  pub its_value : get (codes "Value") (output_entry s n o) ≡ Some (s.value n o.value)
  its_value =
      passed_given (codes "Value") (codes "Condition") (option_map (λ t. string (s.named t)) o.condition) outlined refl ∙ passed_given (codes "Value") (codes "Description") (option_map string o.description) exported refl
      ∙ passed_given (codes "Value") (codes "Export") (option_map export_name o.export) valued refl

  pub output_condition : get (codes "Condition") (output_entry s n o) ≡ option_map (λ t. string (s.named t)) o.condition
  output_condition = at o.condition
    where
      without : get_member (codes "Condition") outlined ≡ None
      without =
          passed_given (codes "Condition") (codes "Description") (option_map string o.description) exported refl ∙ passed_given (codes "Condition") (codes "Export") (option_map export_name o.export) valued refl
          ∙ passed (codes "Condition") (codes "Value") (s.value n o.value) no_members refl

      at : (x : Option (List ℕ)) → get_member (codes "Condition") (if_given (codes "Condition") (option_map (λ t. string (s.named t)) x) outlined) ≡ option_map (λ t. string (s.named t)) x
      at None = without
      at (Some t) = refl

  pub its_export : get (codes "Export") (output_entry s n o) ≡ option_map export_name o.export
  its_export =
      passed_given (codes "Export") (codes "Condition") (option_map (λ t. string (s.named t)) o.condition) outlined refl ∙ passed_given (codes "Export") (codes "Description") (option_map string o.description) exported refl ∙ at o.export
    where
      at : (x : Option (List ℕ)) → get_member (codes "Export") (if_given (codes "Export") (option_map export_name x) valued) ≡ option_map export_name x
      at None = passed (codes "Export") (codes "Value") (s.value n o.value) no_members refl
      at (Some t) = refl
