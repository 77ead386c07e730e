use Rattle.std.proofs.Common.{◌≡◌, ℕ, [], Bool, true, false, cond, Option, None, Global, refl, ap, ◌∙◌}
use Rattle.std.specs.Prelude.{bytes_eq, if◌then◌else◌}
use Rattle.std.specs.declared.vec.Vec.{Vec}
use Rattle.std.proofs.lemmas.Map.Text.{btree_map_updates_str}
use Rattle.cdk_artifacts.specs.Queued.{numbers_of}
use Rattle.cdk_artifacts.proofs.dependents.Dependents.take.Goals as goal

one_less : (b : Bool) (o : Option (Vec ℕ Global)) → numbers_of (cond b None o) ≡ (if b then [] else numbers_of o)
one_less true o = refl
one_less false o = refl

pub returns-in-Some-clause-left : goal.returns-in-Some-clause-left
returns-in-Some-clause-left c n =
    ap numbers_of (btree_map_updates_str c.args.name.now c.args.self.now.numbers c.remove.new.self None c.remove.ensures.updates n) ∙ one_less (bytes_eq c.args.name.now n) _
