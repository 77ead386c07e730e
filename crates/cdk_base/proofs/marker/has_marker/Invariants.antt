use Rattle.std.proofs.Common.{◌≡◌, drop}
use Rattle.cdk_base.specs.Marker.{has_marker as spec_has_marker}
use Rattle.cdk_base.proofs.marker.has_marker.Given as goal

abbrev pub invariant-loop-at : goal.invariant-loop-at
invariant-loop-at l = spec_has_marker l.text ≡ spec_has_marker (drop l.at l.bytes)
