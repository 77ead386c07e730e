-- What a value may not hold anywhere, tokens apart (own): null, a number that isn't whole of 64 bits, and a key that only a form may
-- have or in which a marker begins.
use Rattle.std.specs.Prelude.{ℕ, ◌||◌, List, Bool, true, false, not}
use Rattle.serde_json.specs.Data.{Data, null, boolean, number, string, array, object, Items, no_items, item, Members, no_members, member}
use Rattle.cdk_base.specs.Json.{is_form_key, is_whole}
use Rattle.cdk_base.specs.Marker.{has_marker}

abbrev pub is_bad_key : List ℕ → Bool
is_bad_key k = is_form_key k || has_marker k

abbrev mutual
  pub has_bad_value : Data → Bool
  has_bad_value null = true
  has_bad_value (boolean b) = false
  has_bad_value (number n) = not (is_whole n)
  has_bad_value (string s) = false
  has_bad_value (array ds) = items_have_bad_value ds
  has_bad_value (object ms) = members_have_bad_value ms

  pub items_have_bad_value : Items → Bool
  items_have_bad_value no_items = false
  items_have_bad_value (item d ds) = has_bad_value d || items_have_bad_value ds

  pub members_have_bad_value : Members → Bool
  members_have_bad_value no_members = false
  members_have_bad_value (member k d ms) = is_bad_key k || (has_bad_value d || members_have_bad_value ms)
