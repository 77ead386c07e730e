use Rattle.std.proofs.Common.{arith}
use Rattle.cdk_markers.proofs.Steps.{scan_stops, scan_goes}
use Rattle.cdk_markers.proofs.cutting.literal_len.Goals as goal

pub returns-then-is_some : goal.returns-then-is_some
returns-then-is_some c = scan_stops c.args.bytes.now c.loop-at.at c.first_key_len.result c.is_some.result c.first_key_len.ensures c.is_some.ensures c.if-is_some.true c.loop-at.invariant

pub loop-at-preserved : goal.loop-at-preserved
loop-at-preserved c = scan_goes c.args.bytes.now c.loop-at.at c.first_key_len.result c.is_some.result (omega arith) c.first_key_len.ensures c.is_some.ensures c.if-is_some.false c.loop-at.invariant
