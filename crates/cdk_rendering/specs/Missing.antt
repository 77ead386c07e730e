-- The lazies that a marked value mentions and of which no result is kept, in the order in which they are met.
use Rattle.std.specs.Prelude.{ℕ, List, [], ◌∷◌, ◌++◌, Option, Some, None}
use Rattle.std.specs.Option.{unwrap_or}
use Rattle.serde_json.specs.Data.{Data, null, boolean, number, string, array, object, Items, no_items, item, Members, no_members, member}
use Rattle.cdk_leaves.specs.Lazies.{Results, lazy_missing}
use Rattle.cdk_markers.specs.Cut.{cut_of}
use Rattle.cdk_markers.specs.ListKey.{list_key_of}
use Rattle.cdk_markers.specs.Pieces.{Piece, literal, key}
use Rattle.cdk_rendering.specs.Folding.{Known}
use Rattle.cdk_tokens.specs.Token as token
use Rattle.cdk_tokens.specs.Token.{Form}

-- ---- marked values; `known` tells what is missing in tokens

abbrev pub piece_missing : Known (List ℕ) → Piece → List ℕ
piece_missing known (literal l) = []
piece_missing known (key k) = unwrap_or (known k) []

abbrev pub pieces_missing : Known (List ℕ) → List Piece → List ℕ
pieces_missing known [] = []
pieces_missing known (p ∷ ps) = piece_missing known p ++ pieces_missing known ps

abbrev pub array_missing : Known (List ℕ) → Option (List ℕ) → List ℕ → List ℕ
array_missing known None ns = ns
array_missing known (Some k) ns = unwrap_or (known k) ns

abbrev mutual
  pub value_missing : Known (List ℕ) → Data → List ℕ
  value_missing known null = []
  value_missing known (boolean b) = []
  value_missing known (number n) = []
  value_missing known (string s) = pieces_missing known (cut_of s)
  value_missing known (array ds) = array_missing known (list_key_of (array ds)) (items_missing known ds)
  value_missing known (object ms) = members_missing known ms

  pub items_missing : Known (List ℕ) → Items → List ℕ
  items_missing known no_items = []
  items_missing known (item d ds) = value_missing known d ++ items_missing known ds

  pub members_missing : Known (List ℕ) → Members → List ℕ
  members_missing known no_members = []
  members_missing known (member k d ms) = value_missing known d ++ members_missing known ms

-- ---- tokens

abbrev pub form_missing : Results → Known (List ℕ) → Form → List ℕ
form_missing kept known (token.join d v) = value_missing known v
form_missing kept known (token.select n v) = value_missing known v
form_missing kept known (token.split d v) = value_missing known v
form_missing kept known (token.choice c x y) = value_missing known x ++ value_missing known y
form_missing kept known (token.find_in_map m x y) = value_missing known x ++ value_missing known y
form_missing kept known (token.lazy n) = lazy_missing (kept n) n
form_missing kept known f = []
