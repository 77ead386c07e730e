use Rattle.std.proofs.Common.{sym, ap, ◌∙◌}
use Rattle.serde_json.specs.View.{view}
use Rattle.serde_json.proofs.Views.{view-Array}
use Rattle.cdk_members.specs.Arrays.{text_then_two}
use Rattle.cdk_members.proofs.OtherLengths.{no_text_then_two}
use Rattle.cdk_members.proofs.arrays.text_and_two_values.Goals as goal

pub returns-in_default-three_of-clause-parts : goal.returns-in_default-three_of-clause-parts
returns-in_default-three_of-clause-parts c = sym (ap text_then_two (ap view c.in-Array.is ∙ view-Array c.in-Array.items) ∙ no_text_then_two c.in-Array.items.items c.in_default-three_of.ensures)
