-- What the calls answer, beside the readings of the definition.
use Rattle.std.specs.Prelude.{◌≡◌, List, Result, Ok, Err, ⊤}
use Rattle.cdk_eval.specs.declared.assembly.Assembly.{Assembly}
use Rattle.cdk_eval.specs.declared.assembly.AsmError.{AsmError}
use Rattle.cdk_eval.specs.declared.assembly.AsmError.TheVariants as refusals
use Rattle.cdk_eval.specs.declared.values.Values.{Values as RustValues}
use Rattle.cdk_eval.specs.declared.values.ValuesError.{ValuesError}
use Rattle.cdk_eval.specs.declared.values.ValuesError.TheVariants as errors
use Rattle.cdk_eval.specs.Reading.{Misread, Misshapen, NotJson, FileFault}
use Rattle.cdk_eval.specs.Stack.{Stack}
use Rattle.cdk_eval.specs.Values.{Values}
use Rattle.cdk_eval.specs.Views.{assembly_view, values_view}

-- the values of the reading, or its refusal, or want of memory
abbrev pub ReadsValues : Result RustValues ValuesError → Result Values Misread → Type 0
ReadsValues (Ok v) reading = reading ≡ Ok (values_view v)
ReadsValues (Err errors.NotJson) reading = reading ≡ Err NotJson
ReadsValues (Err (errors.Shape pointer)) reading = reading ≡ Err (Misshapen pointer)
ReadsValues (Err errors.Memory) reading = ⊤

-- the stacks that are given, or the first template's miss, or want of memory
abbrev pub GivesAssembly : Result Assembly AsmError → Result (List Stack) FileFault → Type 0
GivesAssembly (Ok a) reading = reading ≡ Ok (assembly_view a)
GivesAssembly (Err (refusals.Shape file pointer)) reading = reading ≡ Err (record { file = file; kind = Misshapen pointer })
GivesAssembly (Err refusals.Memory) reading = ⊤
GivesAssembly (Err _) reading = ⊥
