use Rattle.std.proofs.Common.{map, [], ◌∙◌, arith, rules}
use Rattle.cdk_artifacts.specs.declared.placed.StackFile.{StackFile}
use Rattle.cdk_artifacts.specs.Files.{file_view}
use Rattle.cdk_eval.specs.Views.{stack_view}
use Rattle.cdk_assemblies.specs.Answers.{stack_at}
use Rattle.cdk_assemblies.proofs.Readings.{stack_stable}
use Rattle.cdk_assemblies.proofs.Steps.{each_gives, each_fails, refusing}
use Rattle.cdk_assemblies.proofs.stacks.read_stacks.Goals as goal

-- what a look-up beyond the list would give
abbrev no_file : StackFile
no_file = record { name = record { ref_ptr = (0, 0); now = [] }; file = record { ref_ptr = (0, 0); now = [] } }

pub returns-in_err-read_stack-clause-reads : goal.returns-in_err-read_stack-clause-reads
returns-in_err-read_stack-clause-reads g c =
    refusing _ _ c.in_err-read_stack.field-0.0 (g.F.Files.files c.args.files.now) _ (search rules) (each_fails c.in_err-read_stack.field-0.0 (g.F.Files.files c.args.files.now) (g.F.Files.files c.loop-stack.files) (stack_at c.args.dir.now) file_view (map stack_view c.args.into.now) (map stack_view c.loop-stack.into) c.args.stacks.now c.loop-stack.stack-index no_file (stack_stable c.args.dir.now) c.loop-stack-test.true c.loop-stack.invariant.reads c.loop-stack.invariant.files c.in_err-read_stack.ensures.reads)

pub loop-stack-preserved : goal.loop-stack-preserved
loop-stack-preserved g c = record {
  reads = each_gives _ (g.F.Files.files c.args.files.now) (g.F.Files.files c.loop-stack.files) (stack_at c.args.dir.now) file_view (map stack_view c.args.into.now) (map stack_view c.loop-stack.into) c.args.stacks.now c.loop-stack.stack-index no_file c.loop-stack-test.true c.loop-stack.invariant.reads c.loop-stack.invariant.files c.in_ok-read_stack.ensures.reads;
  noted = c.in_ok-read_stack.ensures.noted ∙ c.loop-stack.invariant.noted;
  never_falls = omega arith;
  files = c.in_ok-read_stack.ensures.files ∙ c.loop-stack.invariant.files;
  directories = c.in_ok-read_stack.ensures.directories ∙ c.loop-stack.invariant.directories;
  write_faults = c.in_ok-read_stack.ensures.write_faults ∙ c.loop-stack.invariant.write_faults;
  failed_write = c.in_ok-read_stack.ensures.failed_write ∙ c.loop-stack.invariant.failed_write;
}
