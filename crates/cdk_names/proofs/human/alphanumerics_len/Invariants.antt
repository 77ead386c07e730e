use Rattle.std.proofs.Common.{◌≡◌, ◌+◌, ◌≤◌, drop, length}
use Rattle.cdk_names.specs.Names.{alphanumerics}
use Rattle.cdk_names.proofs.human.alphanumerics_len.Given as goal

abbrev pub invariant-loop-byte : goal.invariant-loop-byte
invariant-loop-byte l =
    (l.count + length (alphanumerics (drop l.byte-index l.byte-items)) ≡ length (alphanumerics l.byte-items)) × (l.count ≤ l.byte-index)
