-- What is wrong with the markers in a marked value (own, after AWS CDK's encoded tokens): a marker that no token has, and a list's
-- marker that isn't alone.
use Rattle.std.specs.Prelude.{ℕ, ◌||◌, List, [], ◌∷◌, Bool, false, not, codes, nat_eq, Option, Some, None, option_and_then, slice_get}
use Rattle.std.specs.List.{list_all, starts_with}
use Rattle.std.specs.Option.{option_map_or}
use Rattle.serde_json.specs.Data.{Data, string, array, object, Items, no_items, item, Members, no_members, member}
use Rattle.cdk_markers.specs.Cut.{cut_of}
use Rattle.cdk_markers.specs.ListKey.{list_key_of}
use Rattle.cdk_markers.specs.Pieces.{Piece, literal, key}
use Rattle.cdk_tokens.specs.Token.{Token, find_token}

-- the text stands somewhere in the other
abbrev pub holds : List ℕ → List ℕ → Bool
holds x [] = false
holds x (y ∷ ys) = starts_with nat_eq (y ∷ ys) x || holds x ys

abbrev pub token_at : List Token → List ℕ → Option Token
token_at ts k = option_and_then (slice_get ts) (find_token ts k)

abbrev pub is_text_token : List Token → List ℕ → Bool
is_text_token ts k = option_map_or (λ t. not t.is_list) (token_at ts k) false

abbrev pub is_list_token : List Token → List ℕ → Bool
is_list_token ts k = option_map_or (λ t. t.is_list) (token_at ts k) false

-- a literal in which no text marker begins, or the key of a text token
abbrev pub is_known_piece : List Token → Piece → Bool
is_known_piece ts (literal l) = not (holds (codes "${Token[") l)
is_known_piece ts (key k) = is_text_token ts k

-- of an array, by the key of its list marker where it is one, else by its items
abbrev pub has_unknown_list : List Token → Option (List ℕ) → Bool → Bool
has_unknown_list ts None items = items
has_unknown_list ts (Some k) items = not (is_list_token ts k)

-- A text in which the beginning of a text marker begins no marker of a text token, or the marker of a list that no list token
-- has.
abbrev mutual
  pub has_unknown_token : List Token → Data → Bool
  has_unknown_token ts (string s) = not (list_all (is_known_piece ts) (cut_of s))
  has_unknown_token ts (array ds) = has_unknown_list ts (list_key_of (array ds)) (items_have_unknown_token ts ds)
  has_unknown_token ts (object ms) = members_have_unknown_token ts ms
  has_unknown_token ts d = false

  pub items_have_unknown_token : List Token → Items → Bool
  items_have_unknown_token ts no_items = false
  items_have_unknown_token ts (item d ds) = has_unknown_token ts d || items_have_unknown_token ts ds

  pub members_have_unknown_token : List Token → Members → Bool
  members_have_unknown_token ts no_members = false
  members_have_unknown_token ts (member k d ms) = has_unknown_token ts d || members_have_unknown_token ts ms

abbrev pub unless_list : Option (List ℕ) → Bool → Bool
unless_list None b = b
unless_list (Some k) b = false

-- A text holds the beginning of a list marker, and isn't the only element, a whole list marker, of its array.
abbrev mutual
  pub has_list_mix : Data → Bool
  has_list_mix (string s) = holds (codes "#{Token[") s
  has_list_mix (array ds) = unless_list (list_key_of (array ds)) (items_have_list_mix ds)
  has_list_mix (object ms) = members_have_list_mix ms
  has_list_mix d = false

  pub items_have_list_mix : Items → Bool
  items_have_list_mix no_items = false
  items_have_list_mix (item d ds) = has_list_mix d || items_have_list_mix ds

  pub members_have_list_mix : Members → Bool
  members_have_list_mix no_members = false
  members_have_list_mix (member k d ms) = has_list_mix d || members_have_list_mix ms
