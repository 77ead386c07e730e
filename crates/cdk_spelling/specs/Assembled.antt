-- The parts of a text, as one expression (own).
use Rattle.std.specs.Prelude.{[]}
use Rattle.serde_json.specs.Data.{Data, string, Items, no_items, item}
use Rattle.cdk_plain.specs.Rendered.{joined}

-- no part is the empty text, a part alone is itself, and more are their Concat
abbrev pub assembled_items : Items → Data
assembled_items no_items = string []
assembled_items (item d no_items) = d
assembled_items (item d (item e ds)) = joined (item d (item e ds))
