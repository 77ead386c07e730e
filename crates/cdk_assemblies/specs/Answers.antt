-- What the reading of an assembly answers, of files whose contents may be told (own).
use Rattle.std.specs.Prelude.{◌≡◌, ℕ, List, [], ◌∷◌, ◌++◌, map, Bool, codes, Option, Some, IfSome, Result, Ok, Err, ⊤}
use Rattle.std.specs.Ordering.{nat_cmp}
use Rattle.std.specs.Cmp.Lexicographic.{slice_cmp}
use Rattle.std.specs.FinMap.{FinMap, get, remove}
use Rattle.serde_json.specs.Data.{Data}
use Rattle.cdk_artifacts.specs.Files.{file_of}
use Rattle.cdk_outside.specs.declared.traits.ReadError.{ReadError}
use Rattle.cdk_outside.specs.declared.traits.ReadError.TheVariants as read_errors
use Rattle.cdk_outside.specs.Outside.{Contents, Rose}
use Rattle.cdk_eval.specs.declared.assembly.AsmError.{AsmError}
use Rattle.cdk_eval.specs.declared.assembly.AsmError.TheVariants as refusals
use Rattle.cdk_eval.specs.declared.role.Role.{Role}
use Rattle.cdk_eval.specs.declared.role.Role.TheVariants.{Template, Manifest}
use Rattle.cdk_eval.specs.Manifest.{stacks_of, cyclic, in_order}
use Rattle.cdk_eval.specs.Reading.{Misread, Absent, TooLong, NotJson, Misshapen, Cycle, FileFault, ok_then, collected, at_file, path_in, no_cycle, document_at, assembly_at}
use Rattle.cdk_eval.specs.Stack.{Stack}

-- files by the bytes of their names
abbrev pub Files : Type 0
Files = FinMap (slice_cmp nat_cmp) (List ℕ)

-- the most bytes that a file may have
abbrev pub most_bytes : ℕ
most_bytes = 268435456

abbrev pub fault : List ℕ → Misread → FileFault
fault file kind = record { file = file; kind = kind }

-- What a refusal says of a reading of files. That a file can't be read says that it is the next to be read: with that
-- file taken out, the reading finds it absent. Want of memory says nothing.
abbrev pub Fails : {A : Type 0} → AsmError → (Files → Result A FileFault) → Files → Type 0
Fails (refusals.ReadFault file) reading m = reading (remove m file) ≡ Err (fault file Absent)
Fails (refusals.TooLong file) reading m = reading m ≡ Err (fault file TooLong)
Fails (refusals.NotJson file) reading m = reading m ≡ Err (fault file NotJson)
Fails (refusals.Shape file pointer) reading m = reading m ≡ Err (fault file (Misshapen pointer))
Fails (refusals.Cycle file artifact) reading m = reading m ≡ Err (fault file (Cycle artifact))
Fails refusals.Memory reading m = ⊤

-- What an answer says of a reading, where the files' contents are told. `view` is what the answer's value stands for.
abbrev pub Reads : {T A : Type 0} → (T → A) → Result T AsmError → Contents → (Files → Result A FileFault) → Type 0
Reads view (Ok t) files reading = IfSome files (λ m. reading m ≡ Ok (view t))
Reads view (Err e) files reading = IfSome files (Fails e reading)

-- A file that can't be read raises the count of failed reads and leaves its own name or none. All else leaves the name
-- as it was; want of memory says nothing.
abbrev pub FaultNoted : {T : Type 0} → Result T AsmError → ℕ → ℕ → Option (List ℕ) → Option (List ℕ) → Type 0
FaultNoted (Ok _) before now old new = new ≡ old
FaultNoted (Err (refusals.ReadFault file)) before now old new = (Rose before now) × (IfSome new (λ n. n ≡ file))
FaultNoted (Err refusals.Memory) before now old new = ⊤
FaultNoted (Err _) before now old new = new ≡ old

-- ---- the parts

-- the document at a path of the files
abbrev pub document_in : Role → List ℕ → Files → Result Data FileFault
document_in role path m = document_at (Some most_bytes) (get m) role path

-- names and files of a manifest's stacks
abbrev pub files_in_order : Data → List (List ℕ × List ℕ)
files_in_order d = map file_of (in_order (stacks_of d))

-- stacks put before those of a reading
abbrev pub onto : List Stack → Result (List Stack) FileFault → Result (List Stack) FileFault
onto before reading = ok_then reading (λ ss. Ok (before ++ ss))

-- a list of stacks is read one part after another, behind those that are there
abbrev pub each_onto : {A : Type 0} → (A → Files → Result (List Stack) FileFault) → List Stack → List A → Files → Result (List Stack) FileFault
each_onto f before xs m = onto before (collected (λ x. f x m) xs)

-- the stack of a name and its template's file
abbrev pub stack_at : List ℕ → List ℕ × List ℕ → Files → Result (List Stack) FileFault
stack_at dir s m = ok_then (document_in Template (path_in dir s.1) m) (λ t. Ok (record { name = s.0; template = t } ∷ []))

abbrev pub assembly_in : ℕ → List ℕ → Files → Result (List Stack) FileFault
assembly_in levels dir m = assembly_at (Some most_bytes) (get m) levels dir

-- the nested assembly of a directory's name
abbrev pub nested_in : ℕ → List ℕ → List ℕ → Files → Result (List Stack) FileFault
nested_in levels dir name m = assembly_in levels (path_in dir name) m

-- the stacks that are found in a manifest, or the cycle
abbrev pub order_at : List ℕ → Data → Result (List (List ℕ × List ℕ)) FileFault
order_at path d = ok_then (at_file path (no_cycle (cyclic (stacks_of d)))) (λ _. Ok (files_in_order d))

-- a manifest's own stacks, behind those that are there
abbrev pub ordered_onto : List ℕ → List ℕ → Data → List Stack → Files → Result (List Stack) FileFault
ordered_onto dir path d before m = ok_then (order_at path d) (λ ss. each_onto (stack_at dir) before ss m)

-- a manifest with its own stacks, behind those that are there
abbrev pub own_onto : Bool → List ℕ → List Stack → Files → Result (Data × List Stack) FileFault
own_onto may_nest dir before m =
    ok_then {B = Data × List Stack} (document_in (Manifest may_nest) (path_in dir (codes "manifest.json")) m) (λ d.
    ok_then {B = Data × List Stack} (ordered_onto dir (path_in dir (codes "manifest.json")) d before m) (λ ss. Ok (d, ss)))

-- the answer to a read that gives no bytes
abbrev pub Refuses : AsmError → ReadError → List ℕ → Type 0
Refuses (refusals.ReadFault file) read_errors.Failed path = file ≡ path
Refuses (refusals.TooLong file) read_errors.TooLong path = file ≡ path
Refuses refusals.Memory _ path = ⊤
Refuses _ _ path = ⊥

-- what an answer says of a reading that looks at no file
abbrev pub Gives : {T A : Type 0} → (T → A) → Result T AsmError → Result A FileFault → Type 0
Gives view (Ok t) reading = reading ≡ Ok (view t)
Gives view (Err (refusals.NotJson file)) reading = reading ≡ Err (fault file NotJson)
Gives view (Err (refusals.Shape file pointer)) reading = reading ≡ Err (fault file (Misshapen pointer))
Gives view (Err (refusals.Cycle file artifact)) reading = reading ≡ Err (fault file (Cycle artifact))
Gives view (Err refusals.Memory) reading = ⊤
Gives view (Err _) reading = ⊥
