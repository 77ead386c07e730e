use Rattle.std.proofs.Common.{◌≡◌, ◌≤◌, map, take, Ok, IfSome}
use Rattle.cdk_artifacts.specs.Files.{file_view}
use Rattle.cdk_eval.specs.Views.{stack_view}
use Rattle.cdk_assemblies.specs.Answers.{each_onto, stack_at}
use Rattle.cdk_assemblies.proofs.stacks.read_stacks.Given as goal

abbrev pub invariant-loop-stack : goal.invariant-loop-stack
invariant-loop-stack g l = record {
  reads : IfSome (g.F.Files.files l.initial.files) (λ m. each_onto (stack_at l.dir) (map stack_view l.initial.into) (map file_view (take l.stack-index l.stacks)) m ≡ Ok (map stack_view l.into));
  noted : g.F.Files.failed_read l.files ≡ g.F.Files.failed_read l.initial.files;
  never_falls : g.F.Files.read_faults l.initial.files ≤ g.F.Files.read_faults l.files;
  files : g.F.Files.files l.files ≡ g.F.Files.files l.initial.files;
  directories : g.F.Files.directories l.files ≡ g.F.Files.directories l.initial.files;
  write_faults : g.F.Files.write_faults l.files ≡ g.F.Files.write_faults l.initial.files;
  failed_write : g.F.Files.failed_write l.files ≡ g.F.Files.failed_write l.initial.files;
}
