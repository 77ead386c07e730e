-- What a mapping's keys and values are seen as (own).
use Rattle.std.specs.Prelude.{String}
use Rattle.std.specs.BTreeMap.{BTreeMap}
use Rattle.std.specs.declared.alloc.Global.{Global}
use Rattle.serde_json.specs.Data.{Members}
use Rattle.serde_json.specs.View as json
use Rattle.serde_json.specs.declared.value.Value.{Value}

abbrev pub map_view : BTreeMap (String Global) Value → Members
map_view m = json.members_view m.entries
