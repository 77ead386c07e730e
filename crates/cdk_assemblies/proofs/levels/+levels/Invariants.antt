use Rattle.std.proofs.Common.{◌≡◌, ◌≤◌, ◌+◌, ◌*◌, map, take, Ok, IfSome}
use Rattle.cdk_eval.specs.Views.{stack_view}
use Rattle.cdk_assemblies.specs.Answers.{each_onto, nested_in}
use Rattle.cdk_assemblies.proofs.levels.+levels.Given as goal

abbrev pub decreases-read_level : goal.decreases-read_level
decreases-read_level g l = 2 * l.levels

abbrev pub decreases-read_nested : goal.decreases-read_nested
decreases-read_nested g l = 2 * l.levels + 1

abbrev pub invariant-read_nested-loop-directory : goal.invariant-read_nested-loop-directory
invariant-read_nested-loop-directory g l = record {
  reads : IfSome (g.F.Files.files l.initial.files) (λ m. each_onto (nested_in l.levels l.dir) (map stack_view l.initial.into) (map (λ d. d.now) (take l.directory-index l.directories)) m ≡ Ok (map stack_view l.into));
  noted : g.F.Files.failed_read l.files ≡ g.F.Files.failed_read l.initial.files;
  never_falls : g.F.Files.read_faults l.initial.files ≤ g.F.Files.read_faults l.files;
  files : g.F.Files.files l.files ≡ g.F.Files.files l.initial.files;
  directories : g.F.Files.directories l.files ≡ g.F.Files.directories l.initial.files;
  write_faults : g.F.Files.write_faults l.files ≡ g.F.Files.write_faults l.initial.files;
  failed_write : g.F.Files.failed_write l.files ≡ g.F.Files.failed_write l.initial.files;
}
