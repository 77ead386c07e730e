-- The name and the template's file of a stack, by which the stacks that are placed are told.
use Rattle.std.specs.Prelude.{ℕ, List}
use Rattle.cdk_eval.specs.Manifest.{StackArtifact}
use Rattle.cdk_artifacts.specs.declared.placed.StackFile.{StackFile}

-- a name and a file
abbrev pub file_view : StackFile → List ℕ × List ℕ
file_view s = (s.name.now, s.file.now)

abbrev pub file_of : StackArtifact → List ℕ × List ℕ
file_of s = (s.name, s.file)
