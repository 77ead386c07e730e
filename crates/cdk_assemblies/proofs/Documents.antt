-- What a read that gave no bytes says of the document.
use Rattle.std.proofs.Common.{◌≡◌, ℕ, ◌<◌, List, length, false, nat_le, Some, None, IfSome, Err, cond, refl, sym, ap, ◌∙◌, subst, arith}
use Rattle.std.proofs.lemmas.Bool.Decides.{nat_tests}
use Rattle.std.specs.FinMap.{get, remove}
use Rattle.cdk_base.specs.Json.{parsed}
use Rattle.cdk_outside.specs.declared.traits.ReadError.{ReadError}
use Rattle.cdk_outside.specs.declared.traits.ReadError.TheVariants as read_errors
use Rattle.cdk_outside.specs.Outside.{Contents, HoldsOver}
use Rattle.cdk_eval.specs.declared.assembly.AsmError.{AsmError}
use Rattle.cdk_eval.specs.declared.assembly.AsmError.TheVariants as refusals
use Rattle.cdk_eval.specs.declared.role.Role.{Role}
use Rattle.cdk_eval.specs.Reading.{Absent, TooLong, in_form, at_file, contents}
use Rattle.cdk_assemblies.specs.Answers.{Files, most_bytes, fault, Fails, Refuses, document_in}
use Rattle.cdk_assemblies.proofs.Readings.{document_absent}

over : (limit n : ℕ) → limit < n → nat_le n limit ≡ false
over limit n lt = grind (arith, nat_tests)

too_long : (role : Role) (path bytes : List ℕ) (m : Files) → get m path ≡ Some bytes → most_bytes < length bytes → document_in role path m ≡ Err (fault path TooLong)
too_long role path bytes m holds lt =
    ap (λ o. at_file path (contents (Some most_bytes) (get m) role o)) holds ∙ ap (λ b. at_file path (cond b (in_form role (parsed bytes)) (Err TooLong))) (over most_bytes (length bytes) lt)

refused_at : (e : AsmError) (error : ReadError) (role : Role) (path : List ℕ) (m : Files) → Refuses e error path → (error ≡ read_errors.TooLong → (bytes : List ℕ) × (get m path ≡ Some bytes) × (most_bytes < length bytes)) → Fails e (document_in role path) m
refused_at (refusals.ReadFault file) read_errors.Failed role path m at over_long =
    let P : List ℕ → Type 0 = λ f. document_in role path (remove m f) ≡ Err (fault f Absent) in
    subst P (sym at) (document_absent role path m)
refused_at (refusals.ReadFault file) read_errors.TooLong role path m at over_long = absurd at
refused_at (refusals.ReadFault file) read_errors.Memory role path m at over_long = absurd at
refused_at (refusals.TooLong file) read_errors.TooLong role path m at over_long =
    let held = over_long refl in
    too_long role path held.0 m held.1 held.2 ∙ ap (λ f. Err (fault f TooLong)) (sym at)
refused_at (refusals.TooLong file) read_errors.Failed role path m at over_long = absurd at
refused_at (refusals.TooLong file) read_errors.Memory role path m at over_long = absurd at
refused_at (refusals.NotJson file) error role path m at over_long = absurd at
refused_at (refusals.Shape file pointer) error role path m at over_long = absurd at
refused_at (refusals.Cycle file artifact) error role path m at over_long = absurd at
refused_at refusals.Memory error role path m at over_long = tt

pub refused : (e : AsmError) (error : ReadError) (role : Role) (path : List ℕ) (c : Contents) → Refuses e error path → (error ≡ read_errors.TooLong → HoldsOver c path most_bytes) → IfSome c (Fails e (document_in role path))
refused e error role path None at over_long = tt
refused e error role path (Some m) at over_long = refused_at e error role path m at over_long
