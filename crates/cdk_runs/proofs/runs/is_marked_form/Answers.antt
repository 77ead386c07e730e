use Rattle.std.proofs.Common.{sym, ap, ◌∙◌}
use Rattle.serde_json.specs.View.{view, members_view}
use Rattle.serde_json.proofs.Views.{view-Object}
use Rattle.cdk_language.specs.Findings.{is_marked_form}
use Rattle.cdk_language.specs.Runs.{form_literals}
use Rattle.cdk_runs.proofs.Opening.{marked-reads}
use Rattle.cdk_runs.proofs.runs.is_marked_form.Goals as goal

pub returns-in_ok-matched-in-Object : goal.returns-in_ok-matched-in-Object
returns-in_ok-matched-in-Object c =
    let m = c.in_ok-matched-in-Object in
    sym (ap is_marked_form (ap view c.in-Object.is ∙ view-Object c.in-Object.members) ∙ marked-reads m.matched (form_literals (members_view c.in-Object.members.entries)) m.ensures.reads)
