use Rattle.std.proofs.Common.{sym, ◌∙◌}
use Rattle.std.specs.Ordering.{nat_cmp}
use Rattle.std.specs.Cmp.Lexicographic.{slice_cmp}
use Rattle.std.specs.FinSet.{contains-empty}
use Rattle.cdk_memory.proofs.StoredLemmas.{has_next}
use Rattle.cdk_memory.proofs.stored.has_directory.Goals as goal

pub loop-part-init : goal.loop-part-init
loop-part-init c = contains-empty (slice_cmp nat_cmp) c.args.name.now

pub loop-part-preserved : goal.loop-part-preserved
loop-part-preserved c =
    has_next c.args.store.now c.args.names.now c.loop-part.part-index _ _ _ _ c.loop-part-test.true c.as_bytes.ensures.value c.loop-part.invariant ∙ sym c.seen-found.ensures
