-- From what the parts of the command say to the causes of its answers.
use Rattle.std.proofs.Common.{◌≡◌, ℕ, List, Option, Some, None, sym, subst}
use Rattle.cdk_base.specs.declared.Setting.{Setting}
use Rattle.cdk_base.specs.declared.code.Code.TheVariants.{TooLong}
use Rattle.cdk_base.specs.declared.fault.Fault.{Fault}
use Rattle.cdk_base.specs.declared.fault.Fault.TheVariants.{Memory, App, Refused}
use Rattle.cdk_outside.specs.Outside.{Contents, Directories, Holds, HoldsOver}
use Rattle.cdk_passes.specs.Faults.{IsFaultOf, here}
use Rattle.cdk_write.specs.Lines.{write_line, Says}
use Rattle.cdk_write.specs.Steps.{WriteStep, step_path, StoppedAt}
use Rattle.cdk_language.specs.declared.finding.Finding.{Finding}
use Rattle.cdk_synthesis.specs.Assembly.{assembly_of}
use Rattle.cdk_synthesis.specs.Passes.{first_fault}
use Rattle.cdk_tool.specs.Assembly.{steps_of}
use Rattle.cdk_tool.specs.Causes.{HasFault, IsCause, IsUnsynthesised, IsCut, IsToldFault, IsToldRefusal, IsAppFault}
use Rattle.cdk_tool.specs.declared.top.Refusal.{Refusal}
use Rattle.cdk_tool.specs.declared.top.Refusal.TheVariants.{Unread, Faulty, NoRoom}
use Rattle.cdk_words.specs.declared.status.Status.{Status}
use Rattle.cdk_words.specs.declared.status.Status.TheVariants.{AppFault}
use Rattle.cdk_write.proofs.StandingLemmas.{stands_at}
use Rattle.cdk_tool.proofs.AssemblyLemmas.{long_fault}
use Rattle.cdk_tool.proofs.ManifestLemmas.{manifest_stands, early_files, first_directories}

-- a fault of the bytes that are held
pub held_fault : (files : Contents) (name bytes : List ℕ) (settings : List Setting) (fault : Fault) → Holds files name bytes → IsFaultOf (first_fault bytes settings) fault → HasFault files name settings fault
held_fault None name bytes settings fault held is = tt
held_fault (Some m) name bytes settings fault held is = (bytes, held, is)

-- what the refusal of the bytes that are held shows
pub held_cause : (refusal : Refusal) (files : Contents) (name bytes : List ℕ) (settings : List Setting) (before now : ℕ) (failed : Option (List ℕ)) → Holds files name bytes → IsUnsynthesised bytes settings refusal → IsCause refusal files name settings before now failed
held_cause Unread files name bytes settings before now failed held is = absurd is
held_cause (Faulty fault) files name bytes settings before now failed held is = held_fault files name bytes settings fault held is
held_cause NoRoom files name bytes settings before now failed held is = tt

-- a file over the limit is too long
pub over_fault : (files : Contents) (name : List ℕ) (settings : List Setting) (fault : Fault) → HoldsOver files name 16777216 → IsFaultOf (Some (here TooLong)) fault → HasFault files name settings fault
over_fault None name settings fault held is = tt
over_fault (Some m) name settings fault held is =
    (held.0, held.1, let P : Option Finding → Type 0 = λ f. IsFaultOf f fault in subst P (sym (long_fault held.0 settings held.2)) is)

told_fault : (fault : Fault) (files : Contents) (app : List ℕ) (settings : List Setting) (old new : Option (List ℕ)) (before now : ℕ) → HasFault files app settings fault → IsToldFault fault AppFault old new before now → IsAppFault files app settings old new before now
told_fault Memory files app settings old new before now has told = absurd told
told_fault (App code place) files app settings old new before now has told = (code, place, has, told)
told_fault (Refused place name text) files app settings old new before now has told = absurd told

told_app : (refusal : Refusal) (files : Contents) (app : List ℕ) (settings : List Setting) (old new : Option (List ℕ)) (before now r s : ℕ) (failed : Option (List ℕ)) → IsCause refusal files app settings r s failed → IsToldRefusal refusal AppFault app old new before now → IsAppFault files app settings old new before now
told_app Unread files app settings old new before now r s failed cause told = absurd told
told_app (Faulty fault) files app settings old new before now r s failed cause told = told_fault fault files app settings old new before now cause told
told_app NoRoom files app settings old new before now r s failed cause told = absurd told

-- a refusal that is told as a fault is one
pub told_refusal : (refusal : Refusal) (status : Status) (files : Contents) (app : List ℕ) (settings : List Setting) (old new : Option (List ℕ)) (before now r s : ℕ) (failed : Option (List ℕ)) → status ≡ AppFault → IsCause refusal files app settings r s failed → IsToldRefusal refusal status app old new before now → IsAppFault files app settings old new before now
told_refusal refusal status files app settings old new before now r s failed is cause told =
    let P : Status → Type 0 = λ x. IsToldRefusal refusal x app old new before now in
    told_app refusal files app settings old new before now r s failed cause (subst P is told)

-- the writing of an application without fault that stopped
pub cut_is : (app directory bytes : List ℕ) (settings : List Setting) (steps : List WriteStep) (old read new : Contents) (old_dirs read_dirs dirs : Directories) (failed old_err err : Option (List ℕ)) (old_faults faults : ℕ)
    → Holds old app bytes → first_fault bytes settings ≡ None → steps ≡ steps_of directory (assembly_of bytes settings) → read ≡ old → read_dirs ≡ old_dirs
    → (k : ℕ) × (stop : StoppedAt steps k read new read_dirs dirs failed) × Says old_err err old_faults faults (write_line (step_path stop.step))
    → IsCut app directory settings old new old_dirs dirs failed old_err err old_faults faults
cut_is app directory bytes settings steps old read new old_dirs read_dirs dirs failed old_err err old_faults faults held none is same same_dirs cut =
    let P : List WriteStep → Type 0 = λ ss. (k : ℕ) × (stop : StoppedAt ss k read new read_dirs dirs failed) × Says old_err err old_faults faults (write_line (step_path stop.step)) in
    let Q : Contents → Type 0 = λ files. (k : ℕ) × (stop : StoppedAt (steps_of directory (assembly_of bytes settings)) k files new read_dirs dirs failed) × Says old_err err old_faults faults (write_line (step_path stop.step)) in
    let R : Directories → Type 0 = λ ds. (k : ℕ) × (stop : StoppedAt (steps_of directory (assembly_of bytes settings)) k old new ds dirs failed) × Says old_err err old_faults faults (write_line (step_path stop.step)) in
    let all = subst R same_dirs (subst Q same (subst P is cut)) in
    record {
      bytes = bytes;
      held = held;
      faultless = none;
      step = all.0;
      stopped = all.1;
      line = all.2;
      stands = stands_at _ all.0 old new old_dirs dirs failed all.1;
      manifest = manifest_stands directory bytes settings all.0 old new old_dirs dirs failed none all.1;
      early = early_files directory (assembly_of bytes settings) all.0 old new old_dirs dirs failed all.1;
      at_once = first_directories directory (assembly_of bytes settings) all.0 old new old_dirs dirs failed all.1;
    }
