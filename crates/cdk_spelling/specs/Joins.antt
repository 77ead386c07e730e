-- Which values are joins whose items may stand in their place (CloudFormation: Fn::Join).
use Rattle.std.specs.Prelude.{ℕ, List, [], Bool, true, false, Option, Some, None, is_some, if◌then◌else◌, bytes_eq}
use Rattle.serde_json.specs.Data.{Data, string, array, Items, no_items, item, Members, no_members, member}
use Rattle.serde_json.specs.Find.{as_str}

-- the argument of an object's only member, where it has the key
abbrev pub argument_of : List ℕ → Members → Option Data
argument_of key (member k d no_members) = if bytes_eq k key then Some d else None
argument_of key _ = None

-- the items of an array behind an empty delimiter
abbrev pub items_behind : Data → Option Items
items_behind (array (item (string []) (item (array ds) no_items))) = Some ds
items_behind _ = None

abbrev pub is_empty_text : Data → Bool
is_empty_text (string []) = true
is_empty_text _ = false

-- no item, or a text alone
abbrev pub is_text : Items → Bool
is_text no_items = true
is_text (item d no_items) = is_some (as_str d)
is_text (item d (item e ds)) = false
