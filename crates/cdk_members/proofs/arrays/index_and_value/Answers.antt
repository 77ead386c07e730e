use Rattle.std.proofs.Common.{sym, ap, ◌∙◌}
use Rattle.serde_json.specs.View.{view}
use Rattle.serde_json.proofs.Views.{view-Array}
use Rattle.cdk_members.specs.Arrays.{index_then}
use Rattle.cdk_members.proofs.OtherLengths.{no_index_then}
use Rattle.cdk_members.proofs.arrays.index_and_value.Goals as goal

pub returns-in_default-two_of-clause-parts : goal.returns-in_default-two_of-clause-parts
returns-in_default-two_of-clause-parts c = sym (ap index_then (ap view c.in-Array.is ∙ view-Array c.in-Array.items) ∙ no_index_then c.in-Array.items.items c.in_default-two_of.ensures)
