use Rattle.std.proofs.Common.{◌≡◌, take}
use Rattle.std.specs.FinSet.{contains}
use Rattle.cdk_memory.specs.Stored.{directories_of}
use Rattle.cdk_memory.proofs.stored.has_directory.Given as goal

abbrev pub invariant-loop-part : goal.invariant-loop-part
invariant-loop-part l = contains (directories_of l.store (take l.part-index l.names)) l.name ≡ l.found
