-- The key of a list marker.
use Rattle.std.specs.Prelude.{◌≡◌, ℕ, ◌-◌, ◌&&◌, ◌↔◌, List, length, take, drop, Option, Some, None, IsTrue, codes, nat_eq, if◌then◌else◌}
use Rattle.std.specs.List.{starts_with, ends_with}
use Rattle.serde_json.specs.Data.{Data, null, boolean, number, string, array, object, no_items, item}
use Rattle.cdk_markers.specs.Key.{is_key, list_marker}

-- what stands before `]}`, where it is a key
abbrev pub key_closed : List ℕ → Option (List ℕ)
key_closed s =
    let k = take (length s - 2) s in
    if ends_with nat_eq s (codes "]}") && is_key k then Some k else None

-- the key of a text that is exactly a `#{Token[KEY]}`
abbrev pub list_text_key : List ℕ → Option (List ℕ)
list_text_key s = if starts_with nat_eq s (codes "#{Token[") then key_closed (drop 8 s) else None

-- the key of an array of one such text
abbrev pub list_key_of : Data → Option (List ℕ)
list_key_of null = None
list_key_of (boolean b) = None
list_key_of (number n) = None
list_key_of (string s) = None
list_key_of (array no_items) = None
list_key_of (array (item (string s) no_items)) = list_text_key s
list_key_of (array (item d ds)) = None
list_key_of (object ms) = None

-- a value has a key exactly where it is the key's list marker
abbrev pub ListKeysAreExact : Type 0
ListKeysAreExact = (d : Data) (k : List ℕ) → (list_key_of d ≡ Some k) ↔ (IsTrue (is_key k) × (d ≡ list_marker k))
