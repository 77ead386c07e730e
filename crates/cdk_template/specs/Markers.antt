-- Templates in which the beginning of a marker is left (own, after AWS CDK's check of unresolved tokens).
use Rattle.std.specs.Prelude.{◌≡◌, ℕ, List, [], ◌∷◌, ◌++◌, map, Bool, true, false, Result, Ok, Err}
use Rattle.serde_json.specs.View.{view}
use Rattle.serde_json.specs.declared.value.Value.{Value}
use Rattle.cdk_base.specs.Marker.{holds_marker}
use Rattle.cdk_base.specs.declared.code.Code.TheVariants.{MarkerLeft}
use Rattle.cdk_elements.specs.Kinds.{stacks_of}
use Rattle.cdk_tree.specs.PlaceFindings.{when}
use Rattle.cdk_tree.specs.Placed.{Placed}
use Rattle.cdk_tree.specs.declared.role.Found.{Found}
use Rattle.cdk_tree.specs.declared.role.PassError.{PassError}
use Rattle.cdk_tree.specs.declared.role.PassError.TheVariants as errors
use Rattle.cdk_template.specs.Counts.{count_at}
use Rattle.cdk_template.specs.Own.{spelling_of}
use Rattle.cdk_template.specs.Template.{template_of}

-- a text or a key of the stack's template holds the beginning of a marker
abbrev pub has_marker_left : List Placed → ℕ → Bool
has_marker_left cs stack = holds_marker (template_of cs (spelling_of cs) stack)

abbrev pub marker_findings_of : List Placed → List ℕ → List Found
marker_findings_of cs [] = []
marker_findings_of cs (stack ∷ stacks) = map (count_at stack) (when (has_marker_left cs stack) MarkerLeft) ++ marker_findings_of cs stacks

-- of the stacks in walk order
abbrev pub marker_findings : List Placed → List Found
marker_findings cs = marker_findings_of cs (stacks_of cs)

-- the stack's template, in which no marker is left, or the fault that one is
abbrev pub IsTemplate : Result Value PassError → List Placed → ℕ → Type 0
IsTemplate (Ok v) cs stack = (view v ≡ template_of cs (spelling_of cs) stack) × (has_marker_left cs stack ≡ false)
IsTemplate (Err errors.Memory) cs stack = Unit {0}
IsTemplate (Err (errors.Fault f)) cs stack = (f ≡ record { code = MarkerLeft; at = stack }) × (has_marker_left cs stack ≡ true)
