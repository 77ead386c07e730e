use Rattle.std.proofs.Common.{map}
use Rattle.cdk_artifacts.specs.Found.{stack_view, has_name}
use Rattle.cdk_artifacts.specs.Files.{file_view}
use Rattle.cdk_artifacts.proofs.Placing.{Places}
use Rattle.cdk_artifacts.proofs.placed.place_all.Given as goal

abbrev pub invariant-placing : goal.invariant-placing
invariant-placing l = Places (map stack_view l.stacks) l._turn (map file_view l.placed.files.items) (has_name l.placed.ids) l.queue
