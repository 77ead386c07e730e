use Rattle.std.proofs.Common.{Some, is_some, sym, ap, ◌∙◌}
use Rattle.serde_json.specs.View.{view, members_view}
use Rattle.serde_json.proofs.Views.{view-Object}
use Rattle.cdk_plain.specs.Rendered.{joined_in}
use Rattle.cdk_spelling.proofs.JoinLemmas.{joined_by}
use Rattle.cdk_spelling.proofs.splices.is_joined.Goals as goal

pub returns-in-Some : goal.returns-in-Some
returns-in-Some c =
    let seen = ap joined_in (ap view c.in-Object.is ∙ view-Object c.in-Object.members) in
    c.has_items_behind.ensures ∙ ap is_some (sym (seen ∙ joined_by (members_view c.in-Object.members.entries) (Some (view c.in-Some.arguments.now)) c.in-Some.ensures))
