-- Outcomes and refusals as texts, for the worked examples.
use Rattle.std.specs.Prelude.{◌≡◌, ℕ, List, [], ◌∷◌, ◌++◌, flat_map, true, false, Option, Some, None, unwrap_or, Result, Ok, Err, if◌then◌else◌, bytes_eq, codes}
use Prim.Native.String.{String}
use Rattle.json.specs.Print.{quoted}
use Rattle.serde_json.specs.Data.{Data, null}
use Rattle.serde_json.specs.Read.{read}
use Rattle.serde_json.specs.Written.{compact_text}
use Rattle.cdk_eval.specs.Faults.{eval_fault_name}
use Rattle.cdk_eval.specs.Values.{Values, no_values}
use Rattle.cdk_eval.specs.Outcomes.{Outcome, Value, Gone, Fault, Truth, Holds, Untold, OutputOutcome, OutputText, OutputNotMade, OutputFault}
use Rattle.cdk_eval.specs.Template.{outcome}
use Rattle.cdk_eval.specs.Sections.{scope, condition_truth}
use Rattle.cdk_eval.specs.Stack.{ResourceOutcome, StackOutcome, Stack}
use Rattle.cdk_eval.specs.Assembly.{assembly_outcome}
use Rattle.cdk_eval.specs.Reading.{Misread, Absent, TooLong, NotJson, Misshapen, Cycle, FileFault, values_read, reading}

abbrev pub json : String → Data
json text = unwrap_or (read (codes text)) null

-- ---- a value in a stack `S` of this template, under one export

abbrev pub the_template : String
the_template = "{\"Parameters\":{\"P\":{\"Type\":\"String\",\"Default\":\"dev\"},\"L\":{\"Type\":\"CommaDelimitedList\",\"Default\":\" a, b ,c\"},\"E\":{\"Type\":\"List<Number>\",\"Default\":\"\"},\"N\":{\"Type\":\"Number\",\"Default\":5},\"Q\":{\"Type\":\"String\"},\"AWS::Region\":{\"Type\":\"String\",\"Default\":\"par\"},\"Both\":{\"Type\":\"String\",\"Default\":\"par\"}},\"Mappings\":{\"M\":{\"x\":{\"y\":\"leaf\",\"n\":7,\"ref\":{\"Ref\":\"P\"},\"half\":1.5}}},\"Conditions\":{\"Yes\":{\"Fn::Equals\":[\"a\",\"a\"]},\"No\":{\"Fn::Equals\":[\"a\",\"b\"]},\"Loop\":{\"Condition\":\"Loop\"}},\"Resources\":{\"R\":{\"Type\":\"T\"},\"Off\":{\"Type\":\"T\",\"Condition\":\"No\"},\"Lost\":{\"Type\":\"T\",\"Condition\":\"Nope\"},\"Both\":{\"Type\":\"T\"}}}"

abbrev pub one_export : List ℕ → Option (List ℕ)
one_export e = if bytes_eq e (codes "E") then Some (codes "out") else None

abbrev pub shown : Outcome → List ℕ
shown (Value d) = compact_text d
shown Gone = codes "gone"
shown (Fault f) = eval_fault_name f

abbrev pub Gives : String → String → Type 0
Gives value expected = shown (outcome (scope no_values (codes "S") (json the_template) one_export) (json value)) ≡ codes expected

-- ---- a condition `C` of a template

abbrev pub shown_truth : Truth → List ℕ
shown_truth (Holds true) = codes "true"
shown_truth (Holds false) = codes "false"
shown_truth (Untold f) = eval_fault_name f

abbrev pub Tells : String → String → Type 0
Tells template expected = shown_truth (condition_truth no_values (codes "S") (json template) (codes "C")) ≡ codes expected

-- ---- an assembly in the directory `out`, by its files

abbrev pub line_end : Outcome → List ℕ
line_end (Value d) = codes " = " ++ compact_text d
line_end Gone = codes " gone"
line_end (Fault f) = codes " ! " ++ eval_fault_name f

abbrev pub truth_end : Truth → List ℕ
truth_end (Holds true) = []
truth_end (Holds false) = codes " not made"
truth_end (Untold f) = codes " ! " ++ eval_fault_name f

abbrev pub output_end : OutputOutcome → List ℕ
output_end (OutputText t) = codes " = " ++ quoted t
output_end OutputNotMade = codes " not made"
output_end (OutputFault f) = codes " ! " ++ eval_fault_name f

abbrev pub line : List ℕ → List ℕ
line s = s ++ codes "\n"

abbrev pub resource_lines : ResourceOutcome → List ℕ
resource_lines r = line (codes "resource " ++ (r.logical ++ truth_end r.presence)) ++ flat_map (λ p. line (codes "  " ++ (quoted p.0 ++ line_end p.1))) r.properties

abbrev pub stack_lines : StackOutcome → List ℕ
stack_lines s = line (codes "stack " ++ s.name) ++ (flat_map resource_lines s.resources ++ flat_map (λ o. line (codes "output " ++ (o.0 ++ output_end o.1))) s.outputs)

abbrev pub files_of : List (String × String) → List ℕ → Option (List ℕ)
files_of [] path = None
files_of (f ∷ fs) path = if bytes_eq (codes f.0) path then Some (codes f.1) else files_of fs path

abbrev pub kind_text : List ℕ → Misread → List ℕ
kind_text file Absent = codes "absent " ++ file
kind_text file TooLong = codes "AsmTooLong " ++ (file ++ codes " ")
kind_text file NotJson = codes "AsmNotJson " ++ (file ++ codes " ")
kind_text file (Misshapen pointer) = codes "AsmShape " ++ (file ++ (codes " " ++ pointer))
kind_text file (Cycle id) = codes "AsmCycle " ++ (file ++ (codes " " ++ id))

abbrev pub values_kind_text : Misread → List ℕ
values_kind_text (Misshapen pointer) = codes "ValuesShape " ++ pointer
values_kind_text NotJson = codes "ValuesNotJson "
values_kind_text _ = []

abbrev pub stacks_text : Values → Result (List Stack) FileFault → List ℕ
stacks_text v (Err f) = kind_text f.file f.kind
stacks_text v (Ok ss) = flat_map stack_lines (assembly_outcome v ss)

abbrev pub report_text : Result Values Misread → Result (List Stack) FileFault → List ℕ
report_text (Err k) stacks = values_kind_text k
report_text (Ok v) stacks = stacks_text v stacks

abbrev pub Reports : List (String × String) → String → String → Type 0
Reports files values expected = report_text (values_read None (codes values)) (reading (files_of files) (codes "out")) ≡ codes expected
