use Rattle.cdk_conditions.proofs.Ways.{joins_front, joins_back}
use Rattle.cdk_conditions.proofs.walk.all_of.Goals as goal

pub returns-then-len : goal.returns-then-len
returns-then-len c = joins_back c.args.first c.args.second c.append.new.self c.in_ok-append.ensures

pub returns : goal.returns
returns c = joins_front c.args.first c.args.second c.append-2.new.self c.in_ok-append-2.ensures
