-- What a text is seen as.
use Rattle.std.proofs.Common.{◌≡◌, String as BaseString, Global, string_bytes, rules}
use Rattle.serde_json.specs.Data.{string as json_string}
use Rattle.serde_json.specs.View.{view as json_view}
use Rattle.serde_json.specs.declared.value.Value.{String as JsonString, the_lemmas as json_lemmas}

pub view-String : (s : BaseString Global) → json_view (JsonString s) ≡ json_string (string_bytes s)
view-String s = search (rules, json_lemmas)
