use Rattle.std.proofs.Common.{false, refl}
use Rattle.cdk_conditions.proofs.closing.keep_truth.Goals as goal

pub returns : goal.returns
returns c = record { one = record { truth = c.in_ok-truth.truth; is_loop = false }; truth = c.in_ok-truth.ensures; is_loop = refl; updates = c.in_ok-keep.ensures }
