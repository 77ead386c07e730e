use Rattle.std.proofs.Common.{◌≡◌, ◌+◌, drop}
use Rattle.cdk_markers.specs.Cut.{literal_len as spec_literal_len}
use Rattle.cdk_markers.proofs.cutting.literal_len.Given as goal

abbrev pub invariant-loop-at : goal.invariant-loop-at
invariant-loop-at l = spec_literal_len l.bytes ≡ l.at + spec_literal_len (drop l.at l.bytes)
