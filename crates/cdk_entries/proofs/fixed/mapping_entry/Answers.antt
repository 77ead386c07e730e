use Rattle.std.proofs.Common.{ap, ◌∙◌}
use Rattle.serde_json.specs.Data.{object}
use Rattle.serde_json.proofs.Views.{view-Object}
use Rattle.cdk_entries.proofs.ObjectLemmas.{copied_members}
use Rattle.cdk_entries.proofs.fixed.mapping_entry.Goals as goal

pub returns : goal.returns
returns c = view-Object c.in_ok-clone.field-0 ∙ ap object (copied_members c.args.members.now.entries c.in_ok-clone.field-0.entries c.in_ok-clone.ensures.cases)
