use Rattle.cdk_doc.proofs.LawConstructs.{application_found}
use Rattle.cdk_doc.proofs.law.clean_document_has_application.Goals as goal

pub returns : goal.returns
returns c = application_found
