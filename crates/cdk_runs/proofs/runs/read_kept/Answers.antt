use Rattle.std.proofs.Common.{codes}
use Rattle.cdk_runs.proofs.Opening.{reads-three}
use Rattle.cdk_runs.proofs.runs.read_kept.Goals as goal

pub returns : goal.returns
returns c = reads-three c.args.matched c.read_text.result c.read_text-2.result c.read_text-3.result (codes "${") c.args.text.now (codes "}") c.read_text.ensures c.read_text-2.ensures c.read_text-3.ensures
