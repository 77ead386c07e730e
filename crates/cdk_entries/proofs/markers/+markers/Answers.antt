use Rattle.std.proofs.Common.{rules}
use Rattle.cdk_entries.proofs.markers.+markers.Goals as goal

pub member_holds_marker-loop-key-preserved : goal.member_holds_marker-loop-key-preserved
member_holds_marker-loop-key-preserved t c = search rules
