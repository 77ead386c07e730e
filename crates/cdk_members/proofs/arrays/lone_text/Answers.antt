use Rattle.std.proofs.Common.{sym, ap, ◌∙◌}
use Rattle.serde_json.specs.View.{view}
use Rattle.serde_json.proofs.Views.{view-Array}
use Rattle.cdk_members.specs.Arrays.{lone_text}
use Rattle.cdk_members.proofs.OtherLengths.{no_lone_text}
use Rattle.cdk_members.proofs.arrays.lone_text.Goals as goal

pub returns-in-None : goal.returns-in-None
returns-in-None c = sym (ap lone_text (ap view c.in-Array.is ∙ view-Array c.in-Array.items) ∙ no_lone_text c.in-Array.items.items c.in-None.ensures)
