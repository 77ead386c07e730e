-- The template of a stack, of its constructs in walk order (CloudFormation's template anatomy; the metadata's path is AWS CDK's).
use Rattle.std.specs.Prelude.{ℕ, List, [], ◌∷◌, Bool, option_map, codes}
use Rattle.serde_json.specs.Data.{Data, string, object, Members, no_members, member, put}
use Rattle.cdk_elements.specs.Kinds.{is_output, of_kind}
use Rattle.cdk_entries.specs.Entries.{description_of, export_name, fixed_entry, path_metadata, policy_name}
use Rattle.cdk_entries.specs.Members.{if_given, members_of, non_empty, unless_empty, unless_none}
use Rattle.cdk_language.specs.Condition.{Condition}
use Rattle.cdk_language.specs.Construct as language
use Rattle.cdk_language.specs.Construct.{Body, ResourceBody, OutputBody}
use Rattle.cdk_language.specs.Expression.{Expression}
use Rattle.cdk_meaning.specs.Sections.{filled}
use Rattle.cdk_tree.specs.Expected.{is_resource, is_parameter, is_condition, is_mapping}
use Rattle.cdk_tree.specs.Placed.{Placed, construct_at}

-- How a stack's constructs are spelled in its template, by their numbers in the tree.
pub record Spelling : Type 0 where
  -- the logical name of an element
  pub logical : ℕ → List ℕ
  -- the value of an expression of a construct, and of a condition
  pub value : ℕ → Expression → Data
  pub condition : ℕ → Condition → Data
  -- the logical names that a resource waits for
  pub depends_on : ℕ → List (List ℕ)
  -- the logical name of a condition at a path
  pub named : List ℕ → List ℕ
  -- outputs that no construct of the application is, by their logical names
  pub generated : List (List ℕ × Data)

-- ---- entries: keys in byte order

abbrev pub resource_entry : Spelling → ℕ → List ℕ → ResourceBody → Data
resource_entry s n path r =
    object (if_given (codes "Condition") (option_map (λ t. string (s.named t)) r.condition)
    (if_given (codes "DeletionPolicy") (option_map (λ p. string (policy_name p)) r.deletion)
    (if_given (codes "DependsOn") (unless_none (s.depends_on n))
    (member (codes "Metadata") (path_metadata path)
    (if_given (codes "Properties") (unless_empty (members_of (s.value n r.properties)))
    (member (codes "Type") (string r.resource_type)
    (if_given (codes "UpdateReplacePolicy") (option_map (λ p. string (policy_name p)) r.replace)
    no_members)))))))

abbrev pub output_entry : Spelling → ℕ → OutputBody → Data
output_entry s n o =
    object (if_given (codes "Condition") (option_map (λ t. string (s.named t)) o.condition)
    (if_given (codes "Description") (option_map string o.description)
    (if_given (codes "Export") (option_map export_name o.export)
    (member (codes "Value") (s.value n o.value)
    no_members))))

-- what stands in a template for a construct of a path
abbrev pub entry_in : Spelling → ℕ → List ℕ → Body → Data
entry_in s n path (language.resource r) = resource_entry s n path r
entry_in s n path (language.condition_body c) = s.condition n c
entry_in s n path (language.output o) = output_entry s n o
entry_in s n path b = fixed_entry b

abbrev pub entry_of : Spelling → ℕ → Placed → Data
entry_of s n c = entry_in s n c.path c.body

-- ---- the template

abbrev pub with_generated : List (List ℕ × Data) → Members → Members
with_generated [] ms = ms
with_generated (o ∷ os) ms = with_generated os (put o.0 o.1 ms)

-- the entries of a kind, by their logical names
abbrev pub section_of : List Placed → Spelling → ℕ → (Body → Bool) → Members
section_of cs s stack kind = filled s.logical (λ n. entry_of s n (construct_at cs n)) (of_kind cs stack kind) no_members

-- each section where it isn't empty
abbrev pub template_of : List Placed → Spelling → ℕ → Data
template_of cs s stack =
    object (if_given (codes "Conditions") (unless_empty (section_of cs s stack is_condition))
    (if_given (codes "Description") (non_empty (description_of (construct_at cs stack).body))
    (if_given (codes "Mappings") (unless_empty (section_of cs s stack is_mapping))
    (if_given (codes "Outputs") (unless_empty (with_generated s.generated (section_of cs s stack is_output)))
    (if_given (codes "Parameters") (unless_empty (section_of cs s stack is_parameter))
    (if_given (codes "Resources") (unless_empty (section_of cs s stack is_resource))
    no_members))))))
