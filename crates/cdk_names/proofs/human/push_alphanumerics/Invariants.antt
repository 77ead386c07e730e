use Rattle.std.proofs.Common.{◌≡◌, ◌++◌, ◌≤◌, drop, length, take}
use Rattle.cdk_names.specs.Names.{alphanumerics}
use Rattle.cdk_names.proofs.human.push_alphanumerics.Given as goal

abbrev pub invariant-loop-byte : goal.invariant-loop-byte
invariant-loop-byte l =
    (take l.limit (l.name.bytes ++ alphanumerics (drop l.byte-index l.byte-items)) ≡ take l.limit (l.initial.name.bytes ++ alphanumerics l.byte-items))
    × (length l.name.bytes ≤ l.limit)
