-- Members that are put in where they are given, and a section filled while constructs are looked at (own).
use Rattle.std.specs.Prelude.{ℕ, ◌&&◌, List, Bool, codes, if◌then◌else◌}
use Rattle.serde_json.specs.Data.{Members, put}
use Rattle.cdk_elements.specs.Kinds.{is_in, is_output}
use Rattle.cdk_language.specs.Construct.{Body}
use Rattle.cdk_tree.specs.Expected.{is_condition, is_mapping, is_parameter, is_resource}
use Rattle.cdk_tree.specs.Placed.{Placed, construct_at}
use Rattle.cdk_template.specs.Template.{Spelling, entry_of, section_of}
use Rattle.cdk_entries.specs.Members.{put_given, unless_empty}
use Rattle.cdk_template.specs.declared.section.Section.{Section}
use Rattle.cdk_template.specs.declared.section.Section.TheVariants as sections

-- ---- sections

abbrev pub section_key : Section → List ℕ
section_key sections.Conditions = codes "Conditions"
section_key sections.Mappings = codes "Mappings"
section_key sections.Outputs = codes "Outputs"
section_key sections.Parameters = codes "Parameters"
section_key sections.Resources = codes "Resources"

-- the kind of construct that a section holds
abbrev pub has_kind : Section → Body → Bool
has_kind sections.Conditions = is_condition
has_kind sections.Mappings = is_mapping
has_kind sections.Outputs = is_output
has_kind sections.Parameters = is_parameter
has_kind sections.Resources = is_resource

-- with the entry of a construct, where it is of the stack and the kind
abbrev pub with_entry : List Placed → Spelling → ℕ → (Body → Bool) → ℕ → Members → Members
with_entry cs s stack kind n ms = if is_in stack (construct_at cs n).stack && kind (construct_at cs n).body then put (s.logical n) (entry_of s n (construct_at cs n)) ms else ms

-- with a stack's section, where it isn't empty
abbrev pub with_section : List Placed → Spelling → ℕ → Section → Members → Members
with_section cs s stack section ms = put_given (section_key section) (unless_empty (section_of cs s stack (has_kind section))) ms
