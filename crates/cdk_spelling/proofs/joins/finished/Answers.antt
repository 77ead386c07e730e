use Rattle.std.proofs.Common.{sym, ◌∙◌}
use Rattle.serde_json.specs.View.{items_view}
use Rattle.cdk_spelling.proofs.JoinLemmas.{finished-text, is_text-short}
use Rattle.cdk_spelling.proofs.joins.finished.Goals as goal

pub only_or_empty-requires : goal.only_or_empty-requires
only_or_empty-requires c = is_text-short c.args.items.items (sym c.is_text.ensures ∙ c.if-is_text.true)

pub returns-then-is_text : goal.returns-then-is_text
returns-then-is_text c = c.only_or_empty.ensures ∙ sym (finished-text (items_view c.args.items.items) (sym c.is_text.ensures ∙ c.if-is_text.true))
