-- What `eval DIR VALUES` comes to, by what the files hold (own; the assembly is CDK's cloud assembly).
use Rattle.std.specs.Prelude.{◌≡◌, ℕ, Bool, true, false, List, [], ◌++◌, Option, Some, IfSome, Result, Ok, Err, codes}
use Rattle.std.specs.FinMap.{get}
use Rattle.cdk_eval.specs.declared.role.Role.TheVariants.{ValuesFile}
use Rattle.cdk_eval.specs.Assembly.{assembly_outcome}
use Rattle.cdk_eval.specs.Reading.{Misread, Absent, TooLong, NotJson, Misshapen, Cycle, FileFault, ok_then, document_at, read_within}
use Rattle.cdk_eval.specs.Stack.{StackOutcome}
use Rattle.cdk_eval.specs.Values.{Values}
use Rattle.cdk_eval.specs.ValuesFile.{values_of}
use Rattle.cdk_outside.specs.Outside.{Contents}
use Rattle.cdk_write.specs.Lines.{input_line}

-- what a file is read for
pub data Input : Type 0 where
  OfAssembly : Input
  OfValues : Input

-- a file that can't be used
pub record InputFault : Type 0 where
  pub input : Input
  pub fault : FileFault

abbrev pub as_input : {A : Type 0} → Input → Result A FileFault → Result A InputFault
as_input input (Ok a) = Ok a
as_input input (Err fault) = Err (record { input = input; fault = fault })

-- the values of a file of at most 16,777,216 bytes
abbrev pub values_at : (List ℕ → Option (List ℕ)) → List ℕ → Result Values FileFault
values_at files path = ok_then (document_at (Some 16777216) files ValuesFile path) (λ d. Ok (values_of d))

-- The assembly is read first, each of its files having at most 268,435,456 bytes, then the values; the first file that can't be used decides.
abbrev pub evaluated : (List ℕ → Option (List ℕ)) → List ℕ → List ℕ → Result (List StackOutcome) InputFault
evaluated files directory values =
    ok_then (as_input OfAssembly (read_within (Some 268435456) files directory)) (λ stacks.
    ok_then (as_input OfValues (values_at files values)) (λ given.
    Ok (assembly_outcome given stacks)))

-- where the files are told, this is what they come to
abbrev pub ComesTo : Contents → List ℕ → List ℕ → Result (List StackOutcome) InputFault → Type 0
ComesTo files directory values answer = IfSome files (λ m. evaluated (get m) directory values ≡ answer)

-- ---- what is said of a file that can't be used

abbrev pub input_name : Input → List ℕ
input_name OfAssembly = codes "Asm"
input_name OfValues = codes "Values"

abbrev pub misread_name : Misread → List ℕ
misread_name Absent = []
misread_name TooLong = codes "TooLong"
misread_name NotJson = codes "NotJson"
misread_name (Misshapen pointer) = codes "Shape"
misread_name (Cycle id) = codes "Cycle"

-- the pointer, or of a cycle the artifact id
abbrev pub misread_place : Misread → List ℕ
misread_place Absent = []
misread_place TooLong = []
misread_place NotJson = []
misread_place (Misshapen pointer) = pointer
misread_place (Cycle id) = id

-- an absent file is a failed read, and not told here
abbrev pub is_told : Misread → Bool
is_told Absent = false
is_told _ = true

abbrev pub bad_input_line : InputFault → List ℕ
bad_input_line f = input_line (input_name f.input ++ misread_name f.fault.kind) f.fault.file (misread_place f.fault.kind)
