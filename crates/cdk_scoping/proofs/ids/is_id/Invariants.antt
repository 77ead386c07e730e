use Rattle.std.proofs.Common.{◌≡◌, drop}
use Rattle.std.specs.List.{list_all}
use Rattle.cdk_scoping.specs.Ids.{is_id_byte}
use Rattle.cdk_scoping.proofs.ids.is_id.Given as goal

abbrev pub invariant-loop-byte : goal.invariant-loop-byte
invariant-loop-byte l = list_all is_id_byte l.byte-items ≡ list_all is_id_byte (drop l.byte-index l.byte-items)
