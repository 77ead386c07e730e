use Rattle.std.proofs.Common.{rules}
use Rattle.cdk_assemblies.proofs.Documents.{refused}
use Rattle.cdk_assemblies.proofs.document.read_document.Goals as goal

pub returns-in-Err-clause-reads : goal.returns-in-Err-clause-reads
returns-in-Err-clause-reads g c =
    refused c.refusal.result c.in-Err.error c.args.role c.args.path.now (g.F.Files.files c.args.files.now) c.refusal.ensures (λ e. c.in-Err.ensures.too_long (search (rules, e)))
