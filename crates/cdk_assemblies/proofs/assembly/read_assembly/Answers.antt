use Rattle.std.proofs.Common.{map, ap, rules}
use Rattle.cdk_eval.specs.Views.{stack_view}
use Rattle.cdk_eval.specs.Reading.{most_levels}
use Rattle.cdk_assemblies.proofs.Nesting.{whole_fails}
use Rattle.cdk_assemblies.proofs.Steps.{refusing}
use Rattle.cdk_assemblies.proofs.assembly.read_assembly.Goals as goal

pub returns-in_err-read_level-clause-reads : goal.returns-in_err-read_level-clause-reads
returns-in_err-read_level-clause-reads g c =
    refusing _ _ c.in_err-read_level.field-0.0 (g.F.Files.files c.args.files.now) _ (search rules) (whole_fails c.in_err-read_level.field-0.0 (g.F.Files.files c.args.files.now) most_levels c.args.dir.now (map stack_view c.new-stacks.result) (ap (map stack_view) c.new-stacks.ensures) c.in_err-read_level.ensures.reads)
