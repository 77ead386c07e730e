use Rattle.std.proofs.Common.{◌≡◌, ◌≤◌, take, map}
use Rattle.cdk_write.specs.Steps.{step_view, files_after_all, directories_after_all}
use Rattle.cdk_write.proofs.writing.write_steps.Given as goal

abbrev pub invariant-loop-k : goal.invariant-loop-k
invariant-loop-k g l = record {
  files : g.F.Files.files l.files ≡ files_after_all (take l.k (map step_view l.steps)) (g.F.Files.files l.initial.files);
  directories : g.F.Files.directories l.files ≡ directories_after_all (take l.k (map step_view l.steps)) (g.F.Files.directories l.initial.files);
  never_falls : g.F.Files.write_faults l.initial.files ≤ g.F.Files.write_faults l.files;
  kept_name : g.F.Files.failed_write l.files ≡ g.F.Files.failed_write l.initial.files;
  read_faults : g.F.Files.read_faults l.files ≡ g.F.Files.read_faults l.initial.files;
  failed_read : g.F.Files.failed_read l.files ≡ g.F.Files.failed_read l.initial.files;
}
