use Rattle.std.proofs.Common.{rules}
use Rattle.cdk_entries.proofs.descriptions.put_description.Goals as goal

pub returns-in-Stack-Some : goal.returns-in-Stack-Some
returns-in-Stack-Some c = search rules
