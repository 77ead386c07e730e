-- Writing as a list of steps, each one call, and what stands where the writing stops (own).
use Rattle.std.specs.Prelude.{◌≡◌, ℕ, List, [], ◌∷◌, ◌++◌, Option, Some, IfSome, slice_get, take}
use Rattle.cdk_outside.specs.Outside.{Contents, Directories, with_file, without_file, with_directory, LeavesPart}
use Rattle.cdk_write.specs.declared.step.Action.{Action}
use Rattle.cdk_write.specs.declared.step.Action.TheVariants as action
use Rattle.cdk_write.specs.declared.step.Step.{Step}

-- the path of a name in a directory
abbrev pub path_in : List ℕ → List ℕ → List ℕ
path_in directory name = directory ++ 47 ∷ name

-- One call that writing makes: a directory that is made, a file that is taken out, a file that is put.
pub data WriteStep : Type 0 where
  make_directory : List ℕ → WriteStep
  remove : List ℕ → WriteStep
  put : List ℕ → List ℕ → WriteStep

abbrev pub step_path : WriteStep → List ℕ
step_path (make_directory path) = path
step_path (remove path) = path
step_path (put path bytes) = path

abbrev pub step_of : Action → List ℕ → WriteStep
step_of action.MakeDirectory path = make_directory path
step_of action.Remove path = remove path
step_of (action.Put bytes) path = put path bytes.now

-- what a step of the program stands for
abbrev pub step_view : Step → WriteStep
step_view s = step_of s.action s.path

-- the files after a step that is done whole
abbrev pub files_after : WriteStep → Contents → Contents
files_after (make_directory path) files = files
files_after (remove path) files = without_file path files
files_after (put path bytes) files = with_file path bytes files

-- the directories after a step that is done whole
abbrev pub directories_after : WriteStep → Directories → Directories
directories_after (make_directory path) directories = with_directory path directories
directories_after (remove path) directories = directories
directories_after (put path bytes) directories = directories

abbrev pub files_after_all : List WriteStep → Contents → Contents
files_after_all [] files = files
files_after_all (s ∷ ss) files = files_after_all ss (files_after s files)

abbrev pub directories_after_all : List WriteStep → Directories → Directories
directories_after_all [] directories = directories
directories_after_all (s ∷ ss) directories = directories_after_all ss (directories_after s directories)

-- What a step leaves whose call has failed: a file that is put is as before, or has a proper prefix of its bytes; all else is as before.
abbrev pub LeavesPartOf : WriteStep → Contents → Contents → Type 0
LeavesPartOf (make_directory path) old new = new ≡ old
LeavesPartOf (remove path) old new = new ≡ old
LeavesPartOf (put path bytes) old new = LeavesPart old new path bytes

-- The writing has stopped: the first k steps are whole, and the call of the next has failed, whose path is the failed call's name where told.
pub record StoppedAt (steps : List WriteStep) (k : ℕ) (old new : Contents) (old_directories directories : Directories) (failed : Option (List ℕ)) : Type 0 where
  pub step : WriteStep
  pub is : slice_get steps k ≡ Some step
  pub part : LeavesPartOf step (files_after_all (take k steps) old) new
  pub directories_are : directories ≡ directories_after_all (take k steps) old_directories
  pub name : IfSome failed (λ n. n ≡ step_path step)
