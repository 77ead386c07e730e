use Rattle.std.proofs.Common.{◌≡◌, ◌+◌, drop}
use Rattle.std.specs.List.{prefix_len}
use Rattle.cdk_markers.specs.Key.{is_key_byte as spec_is_key_byte}
use Rattle.cdk_markers.proofs.key.key_bytes_len.Given as goal

abbrev pub invariant-loop-at : goal.invariant-loop-at
invariant-loop-at l = prefix_len spec_is_key_byte l.bytes ≡ l.at + prefix_len spec_is_key_byte (drop l.at l.bytes)
