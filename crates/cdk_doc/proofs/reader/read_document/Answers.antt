use Rattle.std.proofs.Common.{◌≡◌, None, sym, ◌∙◌}
use Rattle.serde_json.specs.View.{view}
use Rattle.cdk_language.specs.Application.{application_of}
use Rattle.cdk_language.specs.Findings.{findings}
use Rattle.cdk_doc.proofs.Firsts.{none_found, none_some}
use Rattle.cdk_doc.proofs.LawConstructs.{application_found}
use Rattle.cdk_doc.proofs.reader.read_document.Goals as goal

pub unreachable-requires : goal.unreachable-requires
unreachable-requires c =
    let d = view c.args.value.now in
    let a = application_found d (none_found (findings d) (sym c.in-Ok-None.field-0-is ∙ c.in-Ok-None.ensures)) in
    let missing : application_of d ≡ None = rw c.in-Err-Shape.field-0-is at c.in-Err-Shape.ensures in
    none_some a.0 (sym missing ∙ a.1)

pub returns-in-Ok : goal.returns-in-Ok
returns-in-Ok c = (none_found (findings (view c.args.value.now)) (sym c.in-Ok-None.field-0-is ∙ c.in-Ok-None.ensures), c.in-Ok.ensures)
