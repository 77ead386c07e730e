-- Arrays that begin with a text or an index, and what they have behind that.
use Rattle.std.specs.Prelude.{ℕ, List, Option, None, option_map, option_and_then}
use Rattle.serde_json.specs.Data.{Data, array, item, no_items}
use Rattle.serde_json.specs.Find.{as_str, as_number, as_u64}

abbrev pub lone_text : Data → Option (List ℕ)
lone_text (array (item d no_items)) = as_str d
lone_text d = None

abbrev pub text_then : Data → Option (List ℕ × Data)
text_then (array (item d (item e no_items))) = option_map (λ t. (t, e)) (as_str d)
text_then d = None

abbrev pub index_then : Data → Option (ℕ × Data)
index_then (array (item d (item e no_items))) = option_map (λ n. (n, e)) (option_and_then as_u64 (as_number d))
index_then d = None

abbrev pub text_then_two : Data → Option (List ℕ × (Data × Data))
text_then_two (array (item d (item e (item f no_items)))) = option_map (λ t. (t, (e, f))) (as_str d)
text_then_two d = None
