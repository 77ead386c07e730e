use Rattle.std.proofs.Common.{◌≡◌, ◌+◌, ◌*◌, ◌++◌, ◌≤◌, drop, length, flat_map}
use Rattle.cdk_names.specs.Names.{upper_hex}
use Rattle.cdk_names.proofs.hash.push_hash.Given as goal

abbrev pub invariant-loop-byte : goal.invariant-loop-byte
invariant-loop-byte l =
    (l.name.bytes ++ flat_map upper_hex (drop l.byte-index l.byte-items) ≡ l.initial.name.bytes ++ flat_map upper_hex l.byte-items)
    × (length l.name.bytes ≤ 240 + 2 * l.byte-index)
