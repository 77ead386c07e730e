use Rattle.std.proofs.Common.{◌≡◌, Bool, true, false, cond, Option, Some, option_map, refl, ap, ◌∙◌}
use Rattle.std.specs.Prelude.{bytes_eq}
use Rattle.std.proofs.lemmas.Map.Text.{btree_map_updates_str}
use Rattle.cdk_eval.specs.Views.{outcome_view}
use Rattle.cdk_intrinsics.proofs.substitution.Named.keep.Goals as goal

inside : {X Y : Type 0} (f : X → Y) (b : Bool) (x : X) (o : Option X) → option_map f (cond b (Some x) o) ≡ cond b (Some (f x)) (option_map f o)
inside f true x o = refl
inside f false x o = refl

pub returns : goal.returns
returns c n =
    ap (option_map outcome_view) (btree_map_updates_str c.args.name.now c.args.self.now.outcomes c.insert.new.self (Some c.args.outcome) c.in_ok-insert.ensures.updates n)
    ∙ inside outcome_view (bytes_eq c.args.name.now n) c.args.outcome _
