-- The lines that are printed of a report, and whether it has a fault (own).
use Rattle.std.specs.Prelude.{ℕ, List, [], ◌∷◌, ◌++◌, Bool, true, false, ◌||◌, if◌then◌else◌, codes}
use Rattle.json.specs.Print.{quoted}
use Rattle.serde_json.specs.Written.{compact_text}
use Rattle.cdk_names.specs.Forms.{is_logical, is_stack_name}
use Rattle.cdk_eval.specs.declared.fault.EvalFault.{EvalFault}
use Rattle.cdk_eval.specs.Faults.{eval_fault_name}
use Rattle.cdk_eval.specs.Outcomes.{Outcome, Value, Gone, Fault, Truth, Holds, Untold, OutputOutcome, OutputText, OutputNotMade, OutputFault}
use Rattle.cdk_eval.specs.Stack.{ResourceOutcome, StackOutcome, properties_of}

-- ---- names and ends of lines

-- a name as it stands where its form leaves it no way to forge a line, else its JSON text
abbrev pub name_text : Bool → List ℕ → List ℕ
name_text is_plain n = if is_plain then n else quoted n

abbrev pub fault_end : EvalFault → List ℕ
fault_end f = codes " ! " ++ eval_fault_name f

abbrev pub outcome_end : Outcome → List ℕ
outcome_end (Value d) = codes " = " ++ compact_text d
outcome_end Gone = codes " gone"
outcome_end (Fault f) = fault_end f

-- nothing of a resource that is made
abbrev pub presence_end : Truth → List ℕ
presence_end (Holds true) = []
presence_end (Holds false) = codes " not made"
presence_end (Untold f) = fault_end f

abbrev pub output_end : OutputOutcome → List ℕ
output_end (OutputText t) = codes " = " ++ quoted t
output_end OutputNotMade = codes " not made"
output_end (OutputFault f) = fault_end f

-- ---- lines

-- a key may hold any character, so it is a JSON text
abbrev pub property_line : List ℕ × Outcome → List ℕ
property_line p = codes "  " ++ (quoted p.0 ++ (outcome_end p.1 ++ codes "\n"))

abbrev pub property_lines : List (List ℕ × Outcome) → List ℕ
property_lines [] = []
property_lines (p ∷ ps) = property_line p ++ property_lines ps

abbrev pub resource_line : ResourceOutcome → List ℕ
resource_line r = codes "resource " ++ (name_text (is_logical r.logical) r.logical ++ (presence_end r.presence ++ codes "\n"))

-- the properties of a made one alone
abbrev pub resource_text : ResourceOutcome → List ℕ
resource_text r = resource_line r ++ property_lines (properties_of r.presence r.properties)

abbrev pub resource_texts : List ResourceOutcome → List ℕ
resource_texts [] = []
resource_texts (r ∷ rs) = resource_text r ++ resource_texts rs

abbrev pub output_line : List ℕ × OutputOutcome → List ℕ
output_line o = codes "output " ++ (name_text (is_logical o.0) o.0 ++ (output_end o.1 ++ codes "\n"))

abbrev pub output_lines : List (List ℕ × OutputOutcome) → List ℕ
output_lines [] = []
output_lines (o ∷ os) = output_line o ++ output_lines os

abbrev pub stack_line : List ℕ → List ℕ
stack_line n = codes "stack " ++ (name_text (is_stack_name n) n ++ codes "\n")

abbrev pub stack_text : StackOutcome → List ℕ
stack_text s = stack_line s.name ++ (resource_texts s.resources ++ output_lines s.outputs)

-- the whole text, in the report's order
abbrev pub report_text : List StackOutcome → List ℕ
report_text [] = []
report_text (s ∷ ss) = stack_text s ++ report_text ss

-- ---- faults

abbrev pub is_fault : Outcome → Bool
is_fault (Value d) = false
is_fault Gone = false
is_fault (Fault f) = true

abbrev pub is_untold : Truth → Bool
is_untold (Holds b) = false
is_untold (Untold f) = true

abbrev pub is_output_fault : OutputOutcome → Bool
is_output_fault (OutputText t) = false
is_output_fault OutputNotMade = false
is_output_fault (OutputFault f) = true

abbrev pub properties_have_fault : List (List ℕ × Outcome) → Bool
properties_have_fault [] = false
properties_have_fault (p ∷ ps) = is_fault p.1 || properties_have_fault ps

-- of its presence or of a property that is printed
abbrev pub resource_has_fault : ResourceOutcome → Bool
resource_has_fault r = is_untold r.presence || properties_have_fault (properties_of r.presence r.properties)

abbrev pub resources_have_fault : List ResourceOutcome → Bool
resources_have_fault [] = false
resources_have_fault (r ∷ rs) = resource_has_fault r || resources_have_fault rs

abbrev pub outputs_have_fault : List (List ℕ × OutputOutcome) → Bool
outputs_have_fault [] = false
outputs_have_fault (o ∷ os) = is_output_fault o.1 || outputs_have_fault os

abbrev pub stack_has_fault : StackOutcome → Bool
stack_has_fault s = resources_have_fault s.resources || outputs_have_fault s.outputs

-- a line of the text ends in a fault
abbrev pub has_fault : List StackOutcome → Bool
has_fault [] = false
has_fault (s ∷ ss) = stack_has_fault s || has_fault ss
