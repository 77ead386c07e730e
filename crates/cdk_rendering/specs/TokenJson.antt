-- The template JSON of a marked value, found without its plain form: from the JSON of its tokens.
use Rattle.std.specs.Prelude.{ℕ, List, [], ◌∷◌, codes, Option, Some, None}
use Rattle.std.specs.Option.{unwrap_or}
use Rattle.serde_json.specs.Data.{unsigned, Data, null, boolean, number, string, array, object, Items, no_items, item, Members, no_members, member}
use Rattle.serde_json.specs.Find.{as_integer}
use Rattle.cdk_expansion.specs.Expanded.{pseudo_of}
use Rattle.cdk_leaves.specs.Numbers.{number_json}
use Rattle.cdk_markers.specs.Cut.{cut_of}
use Rattle.cdk_markers.specs.Key.{text_marker}
use Rattle.cdk_markers.specs.ListKey.{list_key_of}
use Rattle.cdk_markers.specs.Pieces.{Piece, literal, key}
use Rattle.cdk_plain.specs.Plain.{pseudo_name}
use Rattle.cdk_plain.specs.Rendered.{Homes, attribute_json, import_json, one, ref_json, rendered_join, split_json, three, two}
use Rattle.cdk_rendering.specs.Folding.{Known}
use Rattle.cdk_spelling.specs.Assembled.{assembled_items}
use Rattle.cdk_tokens.specs.Token as token
use Rattle.cdk_tokens.specs.Token.{Form}

-- ---- marked values

-- a key that no token has stands for its marker
abbrev pub piece_json : Known Data → Piece → Data
piece_json known (literal l) = string l
piece_json known (key k) = unwrap_or (known k) (string (text_marker k))

abbrev pub pieces_json : Known Data → List Piece → Items
pieces_json known [] = no_items
pieces_json known (p ∷ ps) = item (piece_json known p) (pieces_json known ps)

abbrev pub array_json : Known Data → Option (List ℕ) → Items → Data
array_json known None ds = array ds
array_json known (Some k) ds = unwrap_or (known k) (array ds)

-- null is refused before, and stands for an empty text here
abbrev mutual
  pub value_json : Known Data → Data → Data
  value_json known null = string []
  value_json known (boolean b) = boolean b
  value_json known (number n) = number_json (as_integer n)
  value_json known (string s) = assembled_items (pieces_json known (cut_of s))
  value_json known (array ds) = array_json known (list_key_of (array ds)) (items_json known ds)
  value_json known (object ms) = object (members_json known ms)

  pub items_json : Known Data → Items → Items
  items_json known no_items = no_items
  items_json known (item d ds) = item (value_json known d) (items_json known ds)

  pub members_json : Known Data → Members → Members
  members_json known no_members = no_members
  members_json known (member k d ms) = member k (value_json known d) (members_json known ms)

-- ---- tokens; `lazies` tells the JSON of each lazy

abbrev pub form_json : Homes → (ℕ → Data) → Known Data → Form → Data
form_json h lazies known (token.pseudo p) = one (codes "Ref") (string (pseudo_name (pseudo_of p)))
form_json h lazies known (token.ref t) = ref_json (h.target t)
form_json h lazies known (token.get_att t a) = attribute_json a (h.attribute t a)
form_json h lazies known (token.join d v) = rendered_join d (value_json known v)
form_json h lazies known (token.select n v) = one (codes "Fn::Select") (two (number (unsigned n)) (value_json known v))
form_json h lazies known (token.split d v) = split_json d (value_json known v)
form_json h lazies known (token.choice c x y) = one (codes "Fn::If") (three (string (h.condition c)) (value_json known x) (value_json known y))
form_json h lazies known (token.find_in_map m x y) = one (codes "Fn::FindInMap") (three (string (h.mapping m)) (value_json known x) (value_json known y))
form_json h lazies known (token.import_value e) = import_json e
form_json h lazies known (token.lazy t) = lazies t
