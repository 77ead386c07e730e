-- From what is said of an input that can't be used to the cause of the answer.
use Rattle.std.proofs.Common.{◌≡◌, ℕ, List, true, Option, Some, None, Result, Err, subst, refl}
use Rattle.std.specs.FinMap.{get}
use Rattle.cdk_eval.specs.Stack.{StackOutcome}
use Rattle.cdk_eval.specs.Views.{report_view}
use Rattle.cdk_outside.specs.Outside.{Contents}
use Rattle.cdk_tool.specs.declared.inputs.Defect.{Defect}
use Rattle.cdk_tool.specs.declared.inputs.Defect.TheVariants as defects
use Rattle.cdk_tool.specs.declared.inputs.Unusable.{Unusable}
use Rattle.cdk_tool.specs.declared.inputs.Unusable.TheVariants.{Unread, Bad, NoRoom}
use Rattle.cdk_words.specs.declared.status.Status.{Status}
use Rattle.cdk_words.specs.declared.status.Status.TheVariants.{BadInput}
use Rattle.cdk_tool.specs.Evaluation.{InputFault, ComesTo, evaluated, is_told}
use Rattle.cdk_tool.specs.EvalCauses.{Files, input_of, misread_of, input_fault, ReadsInput, IsBadInput, IsToldUnusable}

abbrev evaluation : List ℕ → List ℕ → Files → Result (List StackOutcome) InputFault
evaluation directory values m = evaluated (get m) directory values

-- ---- inputs that can't be used

told_defect : (d : Defect) → is_told (misread_of d) ≡ true
told_defect defects.TooLong = refl
told_defect defects.NotJson = refl
told_defect (defects.Shape pointer) = refl
told_defect (defects.Cycle artifact) = refl

bad_at : (u : Unusable) (directory values : List ℕ) (c : Contents) (old new : Option (List ℕ)) (before now : ℕ)
    → ReadsInput report_view (Err u) c (evaluation directory values) → IsToldUnusable u BadInput old new before now → IsBadInput c directory values old new before now
bad_at (Unread file) directory values c old new before now read told = absurd told
bad_at (Bad source file defect) directory values c old new before now read told =
    (input_fault (input_of source) file (misread_of defect), told_defect defect, held c read, told)
  where
    held : (o : Contents) → ReadsInput report_view (Err (Bad source file defect)) o (evaluation directory values) → ComesTo o directory values (Err (input_fault (input_of source) file (misread_of defect)))
    held None x = tt
    held (Some m) x = x
bad_at NoRoom directory values c old new before now read told = absurd told

pub bad_input : (u : Unusable) (result : Status) (directory values : List ℕ) (c : Contents) (old new : Option (List ℕ)) (before now : ℕ)
    → result ≡ BadInput → ReadsInput report_view (Err u) c (evaluation directory values) → IsToldUnusable u result old new before now → IsBadInput c directory values old new before now
bad_input u result directory values c old new before now is read told =
    let P : Status → Type 0 = λ s. IsToldUnusable u s old new before now in
    bad_at u directory values c old new before now read (subst P is told)
