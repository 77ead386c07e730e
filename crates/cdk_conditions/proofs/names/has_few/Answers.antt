use Rattle.std.proofs.Common.{length, sym, ap, ◌∙◌}
use Rattle.serde_json.specs.View.{view}
use Rattle.serde_json.proofs.Views.{view-Array}
use Rattle.cdk_eval.specs.Conditions.{has_items, is_few}
use Rattle.cdk_conditions.proofs.Counts.{count_items}
use Rattle.cdk_conditions.proofs.names.has_few.Goals as goal

pub returns-in-Array : goal.returns-in-Array
returns-in-Array c =
    c.is_few.ensures ∙ ap (λ xs. is_few (length xs)) c.as_slice.ensures.value ∙ ap is_few (sym (count_items c.in-Array.items.items)) ∙ sym (ap (has_items is_few) (ap view c.in-Array.is ∙ view-Array c.in-Array.items))
