-- What follows for templates where names are right and each value can be read back, and where no marker is left (own).
use Rattle.std.specs.Prelude.{◌≡◌, ◌<◌, ◌≤◌, ℕ, List, [], length, None, true, ⊤}
use Rattle.serde_json.specs.Data.{Data, object, Members, depth}
use Rattle.cdk_base.specs.Marker.{IsMarkerFree}
use Rattle.cdk_base.specs.Pretty.{IsCanonical}
use Rattle.cdk_eval.specs.Form.{first_miss}
use Rattle.cdk_eval.specs.declared.role.Role.TheVariants.{Template}
use Rattle.cdk_language.specs.Construct as language
use Rattle.cdk_language.specs.Construct.{Body}
use Rattle.cdk_meaning.specs.StackTemplate.{EachMember}
use Rattle.cdk_stacks.specs.Claims.{name_findings}
use Rattle.cdk_template.specs.Markers.{marker_findings}
use Rattle.cdk_template.specs.Own.{spelling_of}
use Rattle.cdk_template.specs.Template.{Spelling, template_of}
use Rattle.cdk_entries.specs.Members.{members_of}
use Rattle.cdk_tree.specs.Placed.{Placed, construct_at, is_stack}

-- ---- values

-- it can be read back, and has at most so many levels
pub record IsWholeValue (most : ℕ) (d : Data) : Type 0 where
  pub canonical : IsCanonical d
  pub shallow : depth d ≤ most

abbrev pub IsObject : Data → Type 0
IsObject d = d ≡ object (members_of d)

pub record IsWholeObject (most : ℕ) (d : Data) : Type 0 where
  pub whole : IsWholeValue most d
  pub formed : IsObject d

-- two levels of keys, with a literal at each pair
pub record IsWholeMapping (ms : Members) : Type 0 where
  pub whole : IsWholeValue 3 (object ms)
  pub rows : EachMember IsObject ms

-- Rendered properties have at most 94 levels, and any other rendered value at most 96.
abbrev pub HasWholeValue : Spelling → ℕ → Body → Type 0
HasWholeValue s n (language.resource r) = IsWholeObject 94 (s.value n r.properties)
HasWholeValue s n (language.output o) = IsWholeValue 96 (s.value n o.value)
HasWholeValue s n (language.condition_body c) = IsWholeObject 96 (s.condition n c)
HasWholeValue s n (language.mapping ms) = IsWholeMapping ms
HasWholeValue s n b = ⊤

pub record HasWholeValues (cs : List Placed) : Type 0 where
  pub each : (n : ℕ) → n < length cs → HasWholeValue (spelling_of cs) n (construct_at cs n).body

-- ---- templates

-- 127 levels are what a JSON text may have.
pub record IsWholeTemplate (d : Data) : Type 0 where
  pub canonical : IsCanonical d
  pub shallow : depth d ≤ 127
  pub formed : first_miss Template d ≡ None

abbrev pub TemplatesAreWhole : Type 0
TemplatesAreWhole = (cs : List Placed) (stack : ℕ) → HasWholeValues cs → name_findings cs ≡ []
    → is_stack (construct_at cs stack).body ≡ true → IsWholeTemplate (template_of cs (spelling_of cs) stack)

-- no text and no key of it has the beginning of a marker
abbrev pub TemplatesAreUnmarked : Type 0
TemplatesAreUnmarked = (cs : List Placed) (stack : ℕ) → marker_findings cs ≡ [] → is_stack (construct_at cs stack).body ≡ true → IsMarkerFree (template_of cs (spelling_of cs) stack)
