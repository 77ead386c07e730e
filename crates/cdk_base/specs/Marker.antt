-- Beginnings of token markers, `${Token[` of a text token and `#{Token[` of a list token (AWS CDK's encoded tokens).
use Rattle.std.specs.Prelude.{◌≡◌, ℕ, ◌||◌, List, [], ◌∷◌, Bool, false, codes, nat_eq}
use Rattle.std.specs.List.{starts_with}
use Rattle.serde_json.specs.Data.{Data, null, boolean, number, string, array, object, Items, no_items, item, Members, no_members, member}

abbrev pub begins_marker : List ℕ → Bool
begins_marker s = starts_with nat_eq s (codes "${Token[") || starts_with nat_eq s (codes "#{Token[")

-- a marker begins somewhere in the text
abbrev pub has_marker : List ℕ → Bool
has_marker [] = false
has_marker (x ∷ xs) = begins_marker (x ∷ xs) || has_marker xs

-- a text or a key of the value has the beginning of a marker
abbrev mutual
  pub holds_marker : Data → Bool
  holds_marker null = false
  holds_marker (boolean b) = false
  holds_marker (number n) = false
  holds_marker (string s) = has_marker s
  holds_marker (array ds) = items_hold_marker ds
  holds_marker (object ms) = members_hold_marker ms

  pub items_hold_marker : Items → Bool
  items_hold_marker no_items = false
  items_hold_marker (item d ds) = holds_marker d || items_hold_marker ds

  pub members_hold_marker : Members → Bool
  members_hold_marker no_members = false
  members_hold_marker (member k d ms) = has_marker k || (holds_marker d || members_hold_marker ms)

abbrev pub IsMarkerFree : Data → Type 0
IsMarkerFree d = holds_marker d ≡ false
