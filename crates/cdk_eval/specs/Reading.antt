-- The stacks of an assembly that is read from files, in evaluation order (CDK's cloud assembly; order and refusals are
-- own): an assembly's own stacks, then its nested assemblies by artifact id.
use Rattle.std.specs.Prelude.{ℕ, zero, suc, List, [], ◌∷◌, ◌++◌, length, Bool, true, false, Option, Some, None, Result, Ok, Err, nat_le, if◌then◌else◌, codes}
use Rattle.serde_json.specs.Data.{Data}
use Rattle.cdk_base.specs.Json.{parsed}
use Rattle.cdk_eval.specs.declared.role.Role.{Role}
use Rattle.cdk_eval.specs.declared.role.Role.TheVariants.{ValuesFile, Template, Manifest}
use Rattle.cdk_eval.specs.Form.{first_miss}
use Rattle.cdk_eval.specs.Manifest.{StackArtifact, artifacts, stacks_of, nested_directories, cyclic, in_order}
use Rattle.cdk_eval.specs.Stack.{Stack}
use Rattle.cdk_eval.specs.Values.{Values}
use Rattle.cdk_eval.specs.ValuesFile.{values_of}

-- why a file can't be used
pub data Misread : Type 0 where
  Absent : Misread
  TooLong : Misread
  NotJson : Misread
  -- at that pointer
  Misshapen : List ℕ → Misread
  -- the least artifact id that reaches itself by its dependencies
  Cycle : List ℕ → Misread

pub record FileFault : Type 0 where
  pub file : List ℕ
  pub kind : Misread

abbrev pub ok_then : {A B F : Type 0} → Result A F → (A → Result B F) → Result B F
ok_then (Ok a) f = f a
ok_then (Err e) f = Err e

-- what each gives, one after another, or the first fault
abbrev pub collected : {A B F : Type 0} → (A → Result (List B) F) → List A → Result (List B) F
collected f [] = Ok []
collected f (x ∷ xs) = ok_then (f x) (λ bs. ok_then (collected f xs) (λ cs. Ok (bs ++ cs)))

-- ---- one document

abbrev pub formed : Data → Option (List ℕ) → Result Data Misread
formed d None = Ok d
formed d (Some pointer) = Err (Misshapen pointer)

abbrev pub in_form : Role → Option Data → Result Data Misread
in_form role None = Err NotJson
in_form role (Some d) = formed d (first_miss role d)

-- a limit of bytes, where there is one
abbrev pub is_within : Option ℕ → ℕ → Bool
is_within None n = true
is_within (Some limit) n = nat_le n limit

-- the value of a text that has the form
abbrev pub document : Option ℕ → Role → List ℕ → Result Data Misread
document limit role text = if is_within limit (length text) then in_form role (parsed text) else Err TooLong

-- the values that the text of a values file gives
abbrev pub values_read : Option ℕ → List ℕ → Result Values Misread
values_read limit text = ok_then (document limit ValuesFile text) (λ d. Ok (values_of d))

-- ---- the files

abbrev pub at_file : {A : Type 0} → List ℕ → Result A Misread → Result A FileFault
at_file path (Ok a) = Ok a
at_file path (Err k) = Err (record { file = path; kind = k })

abbrev pub path_in : List ℕ → List ℕ → List ℕ
path_in dir name = dir ++ (codes "/" ++ name)

abbrev pub no_cycle : Option (List ℕ) → Result (List StackArtifact) Misread
no_cycle None = Ok []
no_cycle (Some id) = Err (Cycle id)

-- the most levels of nested assemblies below the root
abbrev pub most_levels : ℕ
most_levels = 10

-- with a limit of bytes of a file, and what the files hold by their paths
module _ (limit : Option ℕ) (files : List ℕ → Option (List ℕ)) where
  abbrev pub contents : Role → Option (List ℕ) → Result Data Misread
  contents role None = Err Absent
  contents role (Some text) = document limit role text

  abbrev pub document_at : Role → List ℕ → Result Data FileFault
  document_at role path = at_file path (contents role (files path))

  abbrev pub stack_in : List ℕ → StackArtifact → Result (List Stack) FileFault
  stack_in dir s = ok_then (document_at Template (path_in dir s.file)) (λ t. Ok (record { name = s.name; template = t } ∷ []))

  abbrev pub manifest_in : Bool → List ℕ → Result Data FileFault
  manifest_in may_nest dir =
      ok_then (document_at (Manifest may_nest) (path_in dir (codes "manifest.json"))) (λ m.
      ok_then (at_file (path_in dir (codes "manifest.json")) (no_cycle (cyclic (stacks_of m)))) (λ _.
      Ok m))

  -- the manifest, the own stacks' templates in order, then the nested assemblies
  abbrev pub assembly_with : (List ℕ → Result (List Stack) FileFault) → Bool → List ℕ → Result (List Stack) FileFault
  assembly_with nested may_nest dir =
      ok_then (manifest_in may_nest dir) (λ m.
      ok_then (collected (stack_in dir) (in_order (stacks_of m))) (λ own.
      ok_then (collected (λ d. nested (path_in dir d)) (nested_directories (artifacts m))) (λ below.
      Ok (own ++ below))))

  -- with at most so many levels of nested assemblies
  abbrev pub assembly_at : ℕ → List ℕ → Result (List Stack) FileFault
  assembly_at zero dir = assembly_with (λ d. Ok []) false dir
  assembly_at (suc n) dir = assembly_with (assembly_at n) true dir

  abbrev pub read_within : List ℕ → Result (List Stack) FileFault
  read_within dir = assembly_at most_levels dir

-- the reading, where files may have any length
abbrev pub reading : (List ℕ → Option (List ℕ)) → List ℕ → Result (List Stack) FileFault
reading files dir = read_within None files dir

-- stacks that are given with their templates: the first that misses its form is told by its name
abbrev pub given_stacks : List Stack → Result (List Stack) FileFault
given_stacks ss = collected (λ s. at_file s.name (ok_then (in_form Template (Some s.template)) (λ t. Ok (s ∷ [])))) ss
