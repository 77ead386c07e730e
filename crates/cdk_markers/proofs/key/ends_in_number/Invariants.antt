use Rattle.std.proofs.Common.{◌≡◌, drop}
use Rattle.cdk_markers.specs.Key.{ends_in_number as spec_ends_in_number}
use Rattle.cdk_markers.proofs.key.ends_in_number.Given as goal

abbrev pub invariant-loop-at : goal.invariant-loop-at
invariant-loop-at l = spec_ends_in_number l.bytes ≡ spec_ends_in_number (drop l.at l.bytes)
