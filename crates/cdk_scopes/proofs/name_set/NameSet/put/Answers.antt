use Rattle.std.proofs.Common.{◌≡◌, Bool, true, false, cond, Option, Some, refl, ap, ◌∙◌}
use Rattle.std.specs.Prelude.{◌||◌, is_some, bytes_eq}
use Rattle.std.proofs.lemmas.Map.Text.{btree_map_updates_str}
use Rattle.cdk_scopes.proofs.name_set.NameSet.put.Goals as goal

either : {X : Type 0} (b : Bool) (x : X) (o : Option X) → is_some (cond b (Some x) o) ≡ b || is_some o
either true x o = refl
either false x o = refl

pub returns : goal.returns
returns c n = ap is_some (btree_map_updates_str c.args.name.now c.args.self.now.names c.insert.new.self (Some tt) c.in_ok-insert.ensures.updates n) ∙ either (bytes_eq c.args.name.now n) tt _
