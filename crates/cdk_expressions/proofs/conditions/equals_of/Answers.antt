use Rattle.std.proofs.Common.{ap, ◌∙◌}
use Rattle.serde_json.specs.View.{view}
use Rattle.serde_json.proofs.Views.{view-Array}
use Rattle.cdk_language.specs.Application.{equals_of}
use Rattle.cdk_expressions.proofs.ConditionLemmas.{no_equals}
use Rattle.cdk_expressions.proofs.conditions.equals_of.Goals as goal

pub returns-in-None : goal.returns-in-None
returns-in-None c =
    ap equals_of (ap view c.in-Array.is ∙ view-Array c.in-Array.items) ∙ no_equals c.in-Array.items.items c.in-None.ensures
