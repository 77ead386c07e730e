use Rattle.std.proofs.Common.{Some}
use Rattle.std.proofs.lemmas.Map.Text.{btree_map_updates_str}
use Rattle.cdk_scopes.proofs.truths.Truths.keep.Goals as goal

pub returns : goal.returns
returns c q = btree_map_updates_str c.args.name.now c.args.self.now.kept c.insert.new.self (Some c.args.kept) c.in_ok-insert.ensures.updates q
