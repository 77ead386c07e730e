use Rattle.std.proofs.Common.{is_some, sym, ap, ◌∙◌}
use Rattle.serde_json.specs.View.{view}
use Rattle.serde_json.proofs.Views.{view-Array}
use Rattle.cdk_spelling.specs.Joins.{items_behind}
use Rattle.cdk_spelling.proofs.JoinLemmas.{not_two_behind}
use Rattle.cdk_spelling.proofs.splices.has_items_behind.Goals as goal

pub returns-in_default-two_of : goal.returns-in_default-two_of
returns-in_default-two_of c =
    let seen = ap items_behind (ap view c.in-Array.is ∙ view-Array c.in-Array.arguments) in
    ap is_some (sym (seen ∙ not_two_behind c.in-Array.arguments.items c.in_default-two_of.ensures))
