-- What is wrong with an application, pass after pass, and the first of it (own).
use Rattle.std.specs.Prelude.{ℕ, nat_lt, if◌then◌else◌, List, [], ◌∷◌, length, Option, Some, None, option_map}
use Rattle.std.specs.Option.{option_or}
use Rattle.serde_json.specs.Data.{Data}
use Rattle.cdk_base.specs.Json.{parsed}
use Rattle.cdk_base.specs.declared.Setting.{Setting}
use Rattle.cdk_base.specs.declared.code.Code.TheVariants.{TooLong, NotJson, Shape}
use Rattle.cdk_carried.specs.Carried.{is_carried}
use Rattle.cdk_language.specs.Application.{application_of, with_settings}
use Rattle.cdk_language.specs.Construct.{Application}
use Rattle.cdk_language.specs.Findings as document
use Rattle.cdk_language.specs.Findings.{setting_findings}
use Rattle.cdk_language.specs.declared.finding.Finding.{Finding}
use Rattle.cdk_lazies.specs.CycleFindings.{cycle_findings}
use Rattle.cdk_passes.specs.Faults.{first_of, here, told}
use Rattle.cdk_sizes.specs.SizeFindings.{size_findings}
use Rattle.cdk_stacks.specs.Claims.{name_findings}
use Rattle.cdk_template.specs.Counts.{count_findings}
use Rattle.cdk_template.specs.Markers.{marker_findings}
use Rattle.cdk_contexts.specs.Contexts.{context_findings}
use Rattle.cdk_tokens.specs.Whole.{marking, tokens_of}
use Rattle.cdk_tree.specs.Expected.{target_findings}
use Rattle.cdk_tree.specs.PlaceFindings.{place_findings}
use Rattle.cdk_tree.specs.Placed.{Placed, constructs_of}
use Rattle.cdk_values.specs.Findings.{value_findings}

-- an application that is of no form that is carried yet
abbrev pub carried_findings : Application → List Finding
carried_findings a = if is_carried a then [] else here Shape ∷ []

-- ---- over constructs with whose ids and places nothing is wrong, from some pass on

-- how much templates hold, and markers in them
abbrev pub template_passes : List Placed → List (List Finding)
template_passes cs = told cs (count_findings cs) ∷ told cs (marker_findings cs) ∷ []

-- marked values, the sizes of what is expanded, and names
abbrev pub value_passes : List Placed → List (List Finding)
value_passes cs =
    told cs (value_findings (tokens_of cs) (marking cs) cs)
    ∷ told cs (size_findings cs (tokens_of cs) (marking cs))
    ∷ told cs (name_findings cs)
    ∷ template_passes cs

-- lazies and conditions that reach themselves
abbrev pub marked_passes : List Placed → List (List Finding)
marked_passes cs = told cs (cycle_findings cs (tokens_of cs) (marking cs)) ∷ value_passes cs

-- targets, contexts, and all of these
abbrev pub tree_passes : List Placed → List (List Finding)
tree_passes cs = told cs (target_findings cs) ∷ told cs (context_findings cs) ∷ marked_passes cs

abbrev pub passes : Application → List (List Finding)
passes a = carried_findings a ∷ place_findings (constructs_of a) ∷ tree_passes (constructs_of a)

-- ---- the first

abbrev pub application_fault : Option Application → Option Finding
application_fault None = None
application_fault (Some a) = first_of (passes a)

-- the application with settings laid over its context
abbrev pub laid : List Setting → Option Application → Option Application
laid settings a = option_map (λ b. with_settings b settings) a

-- a document's own findings stand before those of the settings, and these before those of the application
abbrev pub document_fault : List Setting → Option Data → Option Finding
document_fault settings None = Some (here NotJson)
document_fault settings (Some d) = option_or (document.first (document.findings d)) (option_or (document.first (setting_findings settings)) (application_fault (laid settings (application_of d))))

-- the first fault of an application's bytes, of which there may be 16,777,216, with settings
abbrev pub first_fault : List ℕ → List Setting → Option Finding
first_fault bytes settings = if nat_lt 16777216 (length bytes) then Some (here TooLong) else document_fault settings (parsed bytes)
