use Rattle.std.proofs.Common.{◌≡◌, drop}
use Rattle.std.specs.List.{list_all}
use Rattle.cdk_markers.specs.Key.{is_key_byte as spec_is_key_byte}
use Rattle.cdk_markers.proofs.key.are_key.Given as goal

abbrev pub invariant-loop-byte : goal.invariant-loop-byte
invariant-loop-byte l = list_all spec_is_key_byte l.bytes ≡ list_all spec_is_key_byte (drop l.byte-index l.bytes)
