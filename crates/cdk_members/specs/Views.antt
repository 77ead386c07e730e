-- What parts of a value that may be missing are seen as (own).
use Rattle.std.specs.Prelude.{Option, option_map}
use Rattle.std.specs.Borrow.{Bor}
use Rattle.serde_json.specs.Data.{Data}
use Rattle.serde_json.specs.View.{view}
use Rattle.serde_json.specs.declared.value.Value.{Value}

abbrev pub data_view : Option (Bor Value) → Option Data
data_view v = option_map (λ x. view x.now) v
