use Rattle.std.proofs.Common.{Some}
use Rattle.std.proofs.lemmas.Map.Text.{btree_map_updates_str}
use Rattle.cdk_conditions.proofs.walk.Positions.put.Goals as goal

pub returns : goal.returns
returns c n = btree_map_updates_str c.args.name.now c.args.self.now.at c.insert.new.self (Some c.args.position) c.in_ok-insert.ensures.updates n
