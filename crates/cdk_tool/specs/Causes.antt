-- What shows each answer of `synth`: counts, kept names, files, directories and lines (own).
use Rattle.std.specs.Prelude.{◌≡◌, ◌⊎◌, ◌<◌, ℕ, ⊤, List, [], ◌∷◌, length, take, Option, Some, None, IfSome, codes}
use Rattle.std.specs.FinMap.{get}
use Rattle.cdk_base.specs.declared.Setting.{Setting}
use Rattle.cdk_base.specs.declared.code.Code.{Code}
use Rattle.cdk_base.specs.declared.fault.Fault.{Fault}
use Rattle.cdk_base.specs.declared.fault.Fault.TheVariants.{App}
use Rattle.cdk_outside.specs.Outside.{Contents, Directories, Holds, Rose}
use Rattle.cdk_passes.specs.Faults.{IsFaultOf}
use Rattle.cdk_write.specs.Lines.{read_line, write_line, error_line, memory_line, Says}
use Rattle.cdk_write.specs.Standing.{StandsAt}
use Rattle.cdk_write.specs.Steps.{path_in, step_path, files_after_all, directories_after_all, StoppedAt}
use Rattle.cdk_synthesis.specs.Assembly.{assembly_of}
use Rattle.cdk_synthesis.specs.Passes.{first_fault}
use Rattle.cdk_synthesis.specs.declared.files.File.{File}
use Rattle.cdk_tool.specs.Assembly.{steps_of}
use Rattle.cdk_tool.specs.declared.top.Refusal.{Refusal}
use Rattle.cdk_tool.specs.declared.top.Refusal.TheVariants.{Unread, Faulty, NoRoom}
use Rattle.cdk_words.specs.declared.status.Status.{Status}
use Rattle.cdk_words.specs.declared.status.Status.TheVariants.{AppFault, ReadFault, NoMemory}

-- the application, where told, has this fault first with these settings
abbrev pub HasFault : Contents → List ℕ → List Setting → Fault → Type 0
HasFault files app settings fault = IfSome files (λ m. (bytes : List ℕ) × (get m app ≡ Some bytes) × IsFaultOf (first_fault bytes settings) fault)

-- what a refusal before the first write shows: a read that failed, a fault, or nothing where memory is wanting
abbrev pub IsCause : Refusal → Contents → List ℕ → List Setting → ℕ → ℕ → Option (List ℕ) → Type 0
IsCause Unread files app settings before now failed = (Rose before now) × IfSome failed (λ n. n ≡ app)
IsCause (Faulty fault) files app settings before now failed = HasFault files app settings fault
IsCause NoRoom files app settings before now failed = ⊤

-- what the refusal of an application's bytes shows: its fault, or nothing where memory is wanting
abbrev pub IsUnsynthesised : List ℕ → List Setting → Refusal → Type 0
IsUnsynthesised bytes settings Unread = ⊥
IsUnsynthesised bytes settings (Faulty fault) = IsFaultOf (first_fault bytes settings) fault
IsUnsynthesised bytes settings NoRoom = ⊤

-- The files of the application, without fault with these settings, are written whole: those of before, the manifest taken out and the assembly's
-- set, and the directories of before with the assembly's.
abbrev pub IsDone : List ℕ → List ℕ → List Setting → Contents → Contents → Directories → Directories → Type 0
IsDone app directory settings old new old_directories directories =
    (bytes : List ℕ) × Holds old app bytes × (first_fault bytes settings ≡ None)
    × (new ≡ files_after_all (steps_of directory (assembly_of bytes settings)) old)
    × (directories ≡ directories_after_all (steps_of directory (assembly_of bytes settings)) old_directories)

-- the bytes of the assembly's last file, its manifest
abbrev pub manifest_bytes : List File → List ℕ
manifest_bytes [] = []
manifest_bytes (f ∷ []) = f.bytes
manifest_bytes (f ∷ g ∷ fs) = manifest_bytes (g ∷ fs)

-- The manifest is absent, as before, or a proper prefix of the new one: a reader never takes a part of an assembly for the whole.
abbrev pub IsNoManifest : Option (List ℕ) → Option (List ℕ) → List ℕ → Type 0
IsNoManifest before now bytes = (now ≡ None) ⊎ ((now ≡ before) ⊎ ((n : ℕ) × (n < length bytes) × (now ≡ Some (take n bytes))))

abbrev pub ManifestStands : List ℕ → List File → Contents → Contents → Type 0
ManifestStands directory files old new =
    IfSome old (λ m. IfSome new (λ n. IsNoManifest (get m (path_in directory (codes "manifest.json"))) (get n (path_in directory (codes "manifest.json"))) (manifest_bytes files)))

-- The application has no fault with these settings, and its writing stopped at a step whose path the line names. The steps are the making of the
-- directory, the removal of the manifest, and the files in order: so from the third step on, the files before the last
-- one that was tried are whole.
pub record IsCut (app directory : List ℕ) (settings : List Setting) (old new : Contents) (old_directories directories : Directories) (failed : Option (List ℕ)) (old_err err : Option (List ℕ)) (old_faults faults : ℕ) : Type 0 where
  pub bytes : List ℕ
  pub held : Holds old app bytes
  pub faultless : first_fault bytes settings ≡ None
  pub step : ℕ
  pub stopped : StoppedAt (steps_of directory (assembly_of bytes settings)) step old new old_directories directories failed
  pub line : Says old_err err old_faults faults (write_line (step_path stopped.step))
  -- where files are told, name by name
  pub stands : StandsAt (steps_of directory (assembly_of bytes settings)) step old new
  pub manifest : ManifestStands directory (assembly_of bytes settings) old new
  -- a failure of the first two steps leaves all files as they were, and of the first the directories too
  pub early : step < 2 → new ≡ old
  pub at_once : step ≡ 0 → directories ≡ old_directories

-- a fault's status and line; want of memory may stand for each
abbrev pub IsToldFault : Fault → Status → Option (List ℕ) → Option (List ℕ) → ℕ → ℕ → Type 0
IsToldFault fault NoMemory old new before now = Says old new before now memory_line
IsToldFault (App code place) AppFault old new before now = Says old new before now (error_line code place)
IsToldFault _ _ old new before now = ⊥

-- a refusal's status and line
abbrev pub IsToldRefusal : Refusal → Status → List ℕ → Option (List ℕ) → Option (List ℕ) → ℕ → ℕ → Type 0
IsToldRefusal (Faulty fault) status app old new before now = IsToldFault fault status old new before now
IsToldRefusal refusal NoMemory app old new before now = Says old new before now memory_line
IsToldRefusal Unread ReadFault app old new before now = Says old new before now (read_line app)
IsToldRefusal _ _ app old new before now = ⊥

-- the application, where told, has this fault first with these settings, and the line names it and its place
abbrev pub IsAppFault : Contents → List ℕ → List Setting → Option (List ℕ) → Option (List ℕ) → ℕ → ℕ → Type 0
IsAppFault files app settings old new before now =
    (code : Code) × (place : List ℕ) × HasFault files app settings (App code place) × Says old new before now (error_line code place)

-- a read of the application has failed, and the line names it
abbrev pub IsReadFault : List ℕ → ℕ → ℕ → Option (List ℕ) → Option (List ℕ) → Option (List ℕ) → ℕ → ℕ → Type 0
IsReadFault app reads_before reads failed old new before now =
    (Rose reads_before reads) × IfSome failed (λ n. n ≡ app) × Says old new before now (read_line app)
