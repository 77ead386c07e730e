use Rattle.std.proofs.Common.{sym}
use Rattle.serde_json.specs.View.{view}
use Rattle.cdk_base.proofs.Parsed.{parsed_some, parsed_none}
use Rattle.cdk_base.proofs.parsing.parse.Goals as goal

pub returns-in-Ok : goal.returns-in-Ok
returns-in-Ok c = sym (parsed_some c.args.bytes.now (view c.in-Ok.value) c.in-Ok.ensures.ok.0 c.in-Ok.ensures.ok.1)

pub returns-else-is_memory : goal.returns-else-is_memory
returns-else-is_memory c = sym (parsed_none c.args.bytes.now (c.in-Err.ensures.err (λ m. cc (c.is_memory.ensures.1 m, c.if-is_memory.false))))
