use Rattle.cdk_artifacts.specs.Found.{texts_of, has_name}
use Rattle.cdk_artifacts.specs.Ways.{leads_in}
use Rattle.cdk_artifacts.proofs.Search.{Searches}
use Rattle.cdk_artifacts.proofs.cycle.comes_back.Given as goal

abbrev pub invariant-search : goal.invariant-search
invariant-search l = Searches (leads_in l.index) l.id (has_name l.seen) (texts_of l.waiting)
