-- What shows each answer of `eval`: what the files hold, counts, kept names, streams and lines (own).
use Rattle.std.specs.Prelude.{◌≡◌, ◌⊎◌, ℕ, ⊤, Bool, true, false, if◌then◌else◌, List, Option, IfSome, Result, Ok, Err, codes}
use Rattle.std.specs.Ordering.{nat_cmp}
use Rattle.std.specs.Cmp.Lexicographic.{slice_cmp}
use Rattle.std.specs.FinMap.{FinMap, get, remove}
use Rattle.cdk_eval.specs.declared.assembly.AsmError.{AsmError}
use Rattle.cdk_eval.specs.declared.assembly.AsmError.TheVariants as refusals
use Rattle.cdk_eval.specs.Reading.{Misread, Absent, TooLong, NotJson, Misshapen, Cycle}
use Rattle.cdk_eval.specs.declared.values.Values.{Values as RustValues}
use Rattle.cdk_eval.specs.Stack.{StackOutcome}
use Rattle.cdk_eval.specs.Values.{Values}
use Rattle.cdk_eval.specs.Views.{values_view}
use Rattle.cdk_outside.specs.Outside.{Contents, Rose, with_bytes, AppendsPart}
use Rattle.cdk_printing.specs.Lines.{report_text, has_fault}
use Rattle.cdk_write.specs.Lines.{read_line, write_line, memory_line, Says}
use Rattle.cdk_words.specs.declared.status.Status.{Status}
use Rattle.cdk_words.specs.declared.status.Status.TheVariants.{Done, EvalFaults, ReadFault, WriteFault, NoMemory, BadInput}
use Rattle.cdk_tool.specs.declared.inputs.Source.{Source}
use Rattle.cdk_tool.specs.declared.inputs.Source.TheVariants as sources
use Rattle.cdk_tool.specs.declared.inputs.Defect.{Defect}
use Rattle.cdk_tool.specs.declared.inputs.Defect.TheVariants as defects
use Rattle.cdk_tool.specs.declared.inputs.Unusable.{Unusable}
use Rattle.cdk_tool.specs.declared.inputs.Unusable.TheVariants.{Unread, Bad, NoRoom}
use Rattle.cdk_tool.specs.Evaluation.{Input, OfAssembly, OfValues, InputFault, ComesTo, evaluated, is_told, bad_input_line}

-- ---- what the types of the code stand for

abbrev pub input_of : Source → Input
input_of sources.Assembly = OfAssembly
input_of sources.Values = OfValues

abbrev pub misread_of : Defect → Misread
misread_of defects.TooLong = TooLong
misread_of defects.NotJson = NotJson
misread_of (defects.Shape pointer) = Misshapen pointer
misread_of (defects.Cycle artifact) = Cycle artifact

abbrev pub input_fault : Input → List ℕ → Misread → InputFault
input_fault input file kind = record { input = input; fault = record { file = file; kind = kind } }

-- an assembly's refusal as one of an input
abbrev pub unusable_of : AsmError → Unusable
unusable_of (refusals.ReadFault file) = Unread file
unusable_of (refusals.TooLong file) = Bad sources.Assembly file defects.TooLong
unusable_of (refusals.NotJson file) = Bad sources.Assembly file defects.NotJson
unusable_of (refusals.Shape file pointer) = Bad sources.Assembly file (defects.Shape pointer)
unusable_of (refusals.Cycle file artifact) = Bad sources.Assembly file (defects.Cycle artifact)
unusable_of refusals.Memory = NoRoom

-- the value, or another that may always stand for it
abbrev pub IsOr : {A : Type 0} → A → A → A → Type 0
IsOr other value x = (x ≡ other) ⊎ (x ≡ value)

-- the values that are read of a file's text, or what is wrong with it, or want of memory
abbrev pub IsValuesOf : Result RustValues Unusable → List ℕ → Result Values Misread → Type 0
IsValuesOf (Ok v) file reading = reading ≡ Ok (values_view v)
IsValuesOf (Err (Bad sources.Values f defect)) file reading = (f ≡ file) × (reading ≡ Err (misread_of defect))
IsValuesOf (Err NoRoom) file reading = ⊤
IsValuesOf (Err _) file reading = ⊥

-- ---- what a reading of inputs answers

abbrev pub Files : Type 0
Files = FinMap (slice_cmp nat_cmp) (List ℕ)

-- That a file can't be read says that it is the next to be read: with that file taken out, the reading finds it absent.
abbrev pub SaysOf : {T A : Type 0} → (T → A) → Result T Unusable → (Files → Result A InputFault) → Files → Type 0
SaysOf view (Ok t) reading m = reading m ≡ Ok (view t)
SaysOf view (Err (Unread file)) reading m = (input : Input) × (reading (remove m file) ≡ Err (input_fault input file Absent))
SaysOf view (Err (Bad source file defect)) reading m = reading m ≡ Err (input_fault (input_of source) file (misread_of defect))
SaysOf view (Err NoRoom) reading m = ⊤

-- that, where the files are told
abbrev pub ReadsInput : {T A : Type 0} → (T → A) → Result T Unusable → Contents → (Files → Result A InputFault) → Type 0
ReadsInput view result files reading = IfSome files (SaysOf view result reading)

-- a file that can't be read raises the count of failed reads, and the kept name is its own
abbrev pub ReadsNoted : {T : Type 0} → Result T Unusable → ℕ → ℕ → Option (List ℕ) → Type 0
ReadsNoted (Err (Unread file)) before now failed = (Rose before now) × IfSome failed (λ n. n ≡ file)
ReadsNoted _ before now failed = ⊤

-- ---- the causes of the answers

-- The inputs can be used, the whole report is printed, and this tells whether a part of it is a fault.
abbrev pub IsReported : Bool → Contents → List ℕ → List ℕ → Option (List ℕ) → Option (List ℕ) → Type 0
IsReported faulty files directory values old_out out =
    (text : List ℕ) × (out ≡ with_bytes text old_out)
    × IfSome files (λ m. (report : List StackOutcome) × (evaluated (get m) directory values ≡ Ok report) × (has_fault report ≡ faulty) × (text ≡ report_text report))

-- The inputs can be used, and the printing of the report stopped at a write that failed: a part of it stands, from its beginning.
abbrev pub IsPartlyReported : Contents → List ℕ → List ℕ → Option (List ℕ) → Option (List ℕ) → Type 0
IsPartlyReported files directory values old_out out =
    (text : List ℕ) × (AppendsPart old_out out text)
    × IfSome files (λ m. (report : List StackOutcome) × (evaluated (get m) directory values ≡ Ok report) × (text ≡ report_text report))

-- A file can't be used, and the line tells which, why and where. An absent file is none of these.
abbrev pub IsBadInput : Contents → List ℕ → List ℕ → Option (List ℕ) → Option (List ℕ) → ℕ → ℕ → Type 0
IsBadInput files directory values old new before now =
    (f : InputFault) × (is_told f.fault.kind ≡ true) × ComesTo files directory values (Err f) × Says old new before now (bad_input_line f)

-- A read has failed, and the line names its file: the next to be read, since with it taken out it is found absent.
abbrev pub IsUnread : Contents → List ℕ → List ℕ → ℕ → ℕ → Option (List ℕ) → Option (List ℕ) → Option (List ℕ) → ℕ → ℕ → Type 0
IsUnread files directory values reads_before reads failed old new before now =
    (file : List ℕ) × (Rose reads_before reads) × IfSome failed (λ n. n ≡ file)
    × IfSome files (λ m. (input : Input) × (evaluated (get (remove m file)) directory values ≡ Err (input_fault input file Absent)))
    × Says old new before now (read_line file)

-- a refusal's status and line; want of memory may stand for each
abbrev pub IsToldUnusable : Unusable → Status → Option (List ℕ) → Option (List ℕ) → ℕ → ℕ → Type 0
IsToldUnusable unusable NoMemory old new before now = Says old new before now memory_line
IsToldUnusable (Unread file) ReadFault old new before now = Says old new before now (read_line file)
IsToldUnusable (Bad source file defect) BadInput old new before now = Says old new before now (bad_input_line (input_fault (input_of source) file (misread_of defect)))
IsToldUnusable _ _ old new before now = ⊥

-- ---- printing

abbrev pub reported_status : Bool → Status
reported_status faulty = if faulty then EvalFaults else Done

-- the answers after which the whole report stands
abbrev pub is_reported : Status → Bool
is_reported Done = true
is_reported EvalFaults = true
is_reported _ = false

-- the text stands whole and the status is this one, or a write failed, a part of the text stands, and the line tells it
abbrev pub IsPrinted : List ℕ → Status → Status → Option (List ℕ) → Option (List ℕ) → ℕ → ℕ → Option (List ℕ) → Option (List ℕ) → ℕ → ℕ → Type 0
IsPrinted text status result old_out out old_out_faults out_faults old_err err old_faults faults =
    ((result ≡ status) × (out ≡ with_bytes text old_out) × (err ≡ old_err))
    ⊎ ((result ≡ WriteFault) × AppendsPart old_out out text × Rose old_out_faults out_faults × Says old_err err old_faults faults (write_line (codes "-")))

-- that of the report's text and status, or want of memory with nothing printed
abbrev pub IsShown : List StackOutcome → Status → Option (List ℕ) → Option (List ℕ) → ℕ → ℕ → Option (List ℕ) → Option (List ℕ) → ℕ → ℕ → Type 0
IsShown report result old_out out old_out_faults out_faults old_err err old_faults faults =
    ((result ≡ NoMemory) × (out ≡ old_out) × Says old_err err old_faults faults memory_line)
    ⊎ IsPrinted (report_text report) (reported_status (has_fault report)) result old_out out old_out_faults out_faults old_err err old_faults faults
