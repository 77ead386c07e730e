-- From what the readings of inputs say to what an evaluation of them says.
use Rattle.std.proofs.Common.{◌≡◌, ℕ, List, Some, None, Result, Ok, Err, IfOk, IfErr, sym, subst, ap, ◌∙◌, inl, inr, refl, cond}
use Rattle.std.specs.FinMap.{get, remove}
use Rattle.std.proofs.lemmas.Slice.Eq.{bytes_eq-Decides}
use Rattle.cdk_assemblies.specs.Answers.{Reads}
use Rattle.cdk_assemblies.proofs.Readings.{assembly_stable, get_removed}
use Rattle.cdk_eval.specs.declared.assembly.AsmError.{AsmError}
use Rattle.cdk_eval.specs.declared.assembly.AsmError.TheVariants as refusals
use Rattle.cdk_eval.specs.declared.assembly.Assembly.{Assembly}
use Rattle.cdk_eval.specs.declared.report.Report.{Report}
use Rattle.cdk_eval.specs.declared.values.Values.{Values as RustValues}
use Rattle.cdk_eval.specs.Assembly.{assembly_outcome}
use Rattle.cdk_eval.specs.declared.role.Role.TheVariants.{ValuesFile}
use Rattle.cdk_eval.specs.Reading.{Absent, ok_then, at_file, contents, read_within}
use Rattle.cdk_eval.specs.Stack.{Stack, StackOutcome}
use Rattle.cdk_eval.specs.Values.{Values}
use Rattle.cdk_eval.specs.ValuesFile.{values_of}
use Rattle.cdk_eval.specs.Views.{assembly_view, values_view, report_view}
use Rattle.cdk_outside.specs.Outside.{Contents}
use Rattle.cdk_tool.specs.declared.inputs.Unusable.{Unusable}
use Rattle.cdk_tool.specs.declared.inputs.Unusable.TheVariants.{Unread, Bad, NoRoom}
use Rattle.cdk_tool.specs.Evaluation.{Input, OfAssembly, OfValues, InputFault, as_input, values_at, evaluated}
use Rattle.cdk_tool.specs.EvalCauses.{Files, input_fault, unusable_of, IsOr, ReadsInput}

abbrev assembly_at : List ℕ → Files → Result (List Stack) InputFault
assembly_at directory m = as_input OfAssembly (read_within (Some 268435456) (get m) directory)

abbrev values_in : List ℕ → Files → Result Values InputFault
values_in path m = as_input OfValues (values_at (get m) path)

abbrev evaluation : List ℕ → List ℕ → Files → Result (List StackOutcome) InputFault
evaluation directory values m = evaluated (get m) directory values

-- ---- a refusal of the assembly

refused_at : (error : AsmError) (directory : List ℕ) (m : Files) → Reads assembly_view (Err error) (Some m) (λ n. read_within (Some 268435456) (get n) directory) → ReadsInput assembly_view (Err (unusable_of error)) (Some m) (assembly_at directory)
refused_at (refusals.ReadFault file) directory m is = (OfAssembly, ap (as_input OfAssembly) is)
refused_at (refusals.TooLong file) directory m is = ap (as_input OfAssembly) is
refused_at (refusals.NotJson file) directory m is = ap (as_input OfAssembly) is
refused_at (refusals.Shape file pointer) directory m is = ap (as_input OfAssembly) is
refused_at (refusals.Cycle file artifact) directory m is = ap (as_input OfAssembly) is
refused_at refusals.Memory directory m is = tt

pub assembly_refused : (error : AsmError) (u : Unusable) (directory : List ℕ) (c : Contents) → u ≡ unusable_of error → Reads assembly_view (Err error) c (λ n. read_within (Some 268435456) (get n) directory) → ReadsInput assembly_view (Err u) c (assembly_at directory)
assembly_refused error u directory None same is = tt
assembly_refused error u directory (Some m) same is =
    let P : Unusable → Type 0 = λ x. ReadsInput assembly_view (Err x) (Some m) (assembly_at directory) in
    subst P (sym same) (refused_at error directory m is)

-- ---- values that can't be read

-- a file that is taken out is absent
values_absent : (path : List ℕ) (m : Files) → values_in path (remove m path) ≡ Err (input_fault OfValues path Absent)
values_absent path m =
    let none : get (remove m path) path ≡ None = get_removed m path path ∙ ap (λ b. cond b None (get m path)) ((bytes_eq-Decides path path).1 refl) in
    ap (λ o. as_input OfValues (ok_then (at_file path (contents (Some 16777216) (get (remove m path)) ValuesFile o)) (λ d. Ok (values_of d)))) none

unread_at : (u : Unusable) (path : List ℕ) (m : Files) → IsOr NoRoom (Unread path) u → ReadsInput values_view (Err u) (Some m) (values_in path)
unread_at u path m (inl none) =
    let P : Unusable → Type 0 = λ x. ReadsInput values_view (Err x) (Some m) (values_in path) in
    subst P (sym none) tt
unread_at u path m (inr some) =
    let P : Unusable → Type 0 = λ x. ReadsInput values_view (Err x) (Some m) (values_in path) in
    subst P (sym some) (OfValues, values_absent path m)

pub values_unread : (u : Unusable) (path : List ℕ) (c : Contents) → IsOr NoRoom (Unread path) u → ReadsInput values_view (Err u) c (values_in path)
values_unread u path None is = tt
values_unread u path (Some m) is = unread_at u path m is

-- ---- an evaluation that is refused

then_values : (ss : List Stack) (directory values : List ℕ) (m : Files) → assembly_at directory m ≡ Ok ss → evaluation directory values m ≡ ok_then (values_in values m) (λ given. Ok (assembly_outcome given ss))
then_values ss directory values m is = ap (λ r. ok_then r (λ stacks. ok_then (values_in values m) (λ given. Ok (assembly_outcome given stacks)))) is

-- with the file taken out that the values stand in, either the assembly is read as before, or it finds that file absent
unread_values : (ss : List Stack) (file directory values : List ℕ) (m : Files) (input : Input) → assembly_at directory m ≡ Ok ss → values_in values (remove m file) ≡ Err (input_fault input file Absent)
    → (input : Input) × (evaluation directory values (remove m file) ≡ Err (input_fault input file Absent))
unread_values ss file directory values m input is absent = elim (assembly_stable 10 directory m file) [
  | inl same ↦ (input, then_values ss directory values (remove m file) (ap (as_input OfAssembly) same ∙ is) ∙ ap (λ r. ok_then r (λ given. Ok (assembly_outcome given ss))) absent)
  | inr gone ↦ (OfAssembly, ap (λ r. ok_then (as_input OfAssembly r) (λ stacks. ok_then (values_in values (remove m file)) (λ given. Ok (assembly_outcome given stacks)))) gone)
]

second_at : (u : Unusable) (ss : List Stack) (directory values : List ℕ) (m : Files) → assembly_at directory m ≡ Ok ss → ReadsInput values_view (Err u) (Some m) (values_in values) → ReadsInput report_view (Err u) (Some m) (evaluation directory values)
second_at (Unread file) ss directory values m is absent = unread_values ss file directory values m absent.0 is absent.1
second_at (Bad source file defect) ss directory values m is bad = then_values ss directory values m is ∙ ap (λ r. ok_then r (λ given. Ok (assembly_outcome given ss))) bad
second_at NoRoom ss directory values m is none = tt

-- since the values are
pub without_values : (u : Unusable) (a : Assembly) (directory values : List ℕ) (c d : Contents) → d ≡ c → ReadsInput assembly_view (Ok a) c (assembly_at directory) → ReadsInput values_view (Err u) d (values_in values) → ReadsInput report_view (Err u) c (evaluation directory values)
without_values u a directory values c d same is second =
    let P : Contents → Type 0 = λ o. ReadsInput values_view (Err u) o (values_in values) in
    both c is (subst P same second)
  where
    both : (o : Contents) → ReadsInput assembly_view (Ok a) o (assembly_at directory) → ReadsInput values_view (Err u) o (values_in values) → ReadsInput report_view (Err u) o (evaluation directory values)
    both None x y = tt
    both (Some m) x y = second_at u (assembly_view a) directory values m x y

-- ---- an evaluation

pub reported : (r : Result Report Unusable) (a : Assembly) (v : RustValues) (directory values : List ℕ) (c d : Contents) → d ≡ c → ReadsInput assembly_view (Ok a) c (assembly_at directory) → ReadsInput values_view (Ok v) d (values_in values)
    → IfOk r (λ report. report_view report ≡ assembly_outcome (values_view v) (assembly_view a)) → IfErr r (λ u. u ≡ NoRoom) → ReadsInput report_view r c (evaluation directory values)
reported r a v directory values c d same is given whole refused =
    let P : Contents → Type 0 = λ o. ReadsInput values_view (Ok v) o (values_in values) in
    both r c is (subst P same given) whole refused
  where
    both : (x : Result Report Unusable) (o : Contents) → ReadsInput assembly_view (Ok a) o (assembly_at directory) → ReadsInput values_view (Ok v) o (values_in values)
        → IfOk x (λ report. report_view report ≡ assembly_outcome (values_view v) (assembly_view a)) → IfErr x (λ u. u ≡ NoRoom) → ReadsInput report_view x o (evaluation directory values)
    both x None f g w e = tt
    both (Ok report) (Some m) f g w e = then_values (assembly_view a) directory values m f ∙ ap (λ y. ok_then y (λ given. Ok (assembly_outcome given (assembly_view a)))) g ∙ ap Ok (sym w)
    both (Err u) (Some m) f g w e =
        let P : Unusable → Type 0 = λ x. ReadsInput report_view (Err x) (Some m) (evaluation directory values) in
        subst P (sym e) tt
