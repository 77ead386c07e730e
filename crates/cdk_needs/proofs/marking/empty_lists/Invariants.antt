use Rattle.std.proofs.Common.{◌≡◌, length}
use Rattle.cdk_needs.proofs.marking.empty_lists.Given as goal

abbrev pub invariant-loop-at : goal.invariant-loop-at
invariant-loop-at l = length l.lists.items ≡ l._at
