use Rattle.std.proofs.Common.{sym, ap, ◌∙◌}
use Rattle.serde_json.specs.Data.{string}
use Rattle.serde_json.specs.View.{items_view}
use Rattle.cdk_spelling.specs.Assembled.{assembled_items}
use Rattle.cdk_spelling.proofs.JoinLemmas.{only_value, view-String}
use Rattle.cdk_spelling.proofs.joins.only_or_empty.Goals as goal

pub returns-in-Some : goal.returns-in-Some
returns-in-Some c = only_value c.args.values.items c.pop.new.self c.in-Some.value c.requires (sym c.from_vec-values.ensures ∙ c.in-Some.ensures)

pub returns : goal.returns
returns c = view-String c.new.result ∙ ap string c.new.ensures.bytes ∙ ap (λ vs. assembled_items (items_view vs)) (sym (sym c.from_vec-values.ensures ∙ c.in-None.ensures.0))
