use Rattle.std.proofs.Common.{is_some, sym, ap, ◌∙◌}
use Rattle.serde_json.specs.View.{view}
use Rattle.serde_json.proofs.Views.{view-Array}
use Rattle.cdk_spelling.specs.Joins.{items_behind}
use Rattle.cdk_spelling.proofs.JoinLemmas.{last_behind}
use Rattle.cdk_spelling.proofs.splices.items_behind.Goals as goal

pub items_in-requires : goal.items_in-requires
items_in-requires c =
    let seen = ap items_behind (ap view c.in-Array.is ∙ view-Array c.in-Array.arguments) in
    let some = ap is_some (sym seen) ∙ c.requires in
    ap is_some (sym (last_behind c.in-Array.arguments.items c.pop.new.self c.in-Some.list some (sym c.from_vec-arguments.ensures ∙ c.in-Some.ensures))) ∙ some

pub returns : goal.returns
returns c =
    let seen = ap items_behind (ap view c.in-Array.is ∙ view-Array c.in-Array.arguments) in
    let some = ap is_some (sym seen) ∙ c.requires in
    seen ∙ last_behind c.in-Array.arguments.items c.pop.new.self c.in-Some.list some (sym c.from_vec-arguments.ensures ∙ c.in-Some.ensures) ∙ c.items_in.ensures
