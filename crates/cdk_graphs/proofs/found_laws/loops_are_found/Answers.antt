use Rattle.cdk_graphs.proofs.FoundWays.{loops_are_found}
use Rattle.cdk_graphs.proofs.found_laws.loops_are_found.Goals as goal

pub returns : goal.returns
returns c = loops_are_found
