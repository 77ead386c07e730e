use Rattle.std.proofs.Common.{rules, arith, add-one}
use Rattle.cdk_write.specs.Steps.{step_view}
use Rattle.cdk_write.proofs.StepLemmas.{files_next, directories_next}
use Rattle.cdk_write.proofs.writing.write_steps.Goals as goal

pub loop-k-preserved : goal.loop-k-preserved
loop-k-preserved g c = record {
  files = rw (add-one c.loop-k.k) (files_next step_view c.args.steps.now c.loop-k.k c.index-steps-k.result _ _ _ c.loop-k-test.true c.index-steps-k.is c.loop-k.invariant.files c.in-Ok.ensures.files);
  directories = rw (add-one c.loop-k.k) (directories_next step_view c.args.steps.now c.loop-k.k c.index-steps-k.result _ _ _ c.loop-k-test.true c.index-steps-k.is c.loop-k.invariant.directories c.in-Ok.ensures.directories);
  never_falls = omega arith;
  kept_name = search rules;
  read_faults = search rules;
  failed_read = search rules;
}
