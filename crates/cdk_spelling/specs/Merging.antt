-- Merging from the left: what is merged so far, and what follows.
use Rattle.std.specs.Prelude.{ℕ, List, string_bytes}
use Rattle.serde_json.specs.Data.{string, Items, item}
use Rattle.serde_json.specs.View.{items_view}
use Rattle.cdk_plain.specs.Rendered.{and_items, merged}
use Rattle.cdk_spelling.specs.declared.merging.Merging.{Merging}

-- items that are done, a text that is open behind them, and more items
abbrev pub continued : Items → List ℕ → Items → Items
continued done open_text more = and_items done (merged (item (string open_text) more))

abbrev pub continued_by : Merging → Items → Items
continued_by m more = continued (items_view m.items.items) (string_bytes m.text) more
