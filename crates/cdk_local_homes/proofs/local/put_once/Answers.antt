use Rattle.std.proofs.Common.{rules, ◌≡◌, ◌++◌, [], ◌∷◌, None, ap, ◌∙◌}
use Rattle.std.proofs.lemmas.Result.{on_ok_weaker}
use Rattle.cdk_homes.specs.Homes.{spelled}
use Rattle.cdk_homes.specs.Kept.{entries_in}
use Rattle.cdk_homes.specs.declared.target.Home.TheVariants as ways
use Rattle.cdk_local_homes.proofs.Putting.{puts_new}
use Rattle.cdk_local_homes.proofs.local.put_once.Goals as goal

pub returns : goal.returns
returns c =
    let old = entries_in c.args.homes.now in
    let target = c.args.target in
    let none : spelled (entries_in c.args.homes.now) c.args.stack c.args.target.at c.args.target.attribute ≡ None = search rules in
    on_ok_weaker c.put.result (λ put. puts_new old (entries_in c.put.new.self) c.args.stack target.at target.attribute c.args.name.now none
    (put ∙ ap (λ s. old ++ record { consumer = c.args.stack; at = target.at; attribute = target.attribute; name = s; how = ways.Local } ∷ []) c.in_ok-name.ensures))
    c.put.ensures.ok
