-- The measure of a marked value's plain form, found without the plain form itself: by what its tokens' keys are measured as.
use Rattle.std.specs.Prelude.{ℕ, ◌+◌, List, [], ◌∷◌, ◌++◌, length, take, slice_get, slice_index_or, true, false, Option, Some, None, option_and_then}
use Rattle.std.specs.Option.{unwrap_or}
use Rattle.serde_json.specs.Data.{Data, null, boolean, number, string, array, object, Items, no_items, item, Members, no_members, member}
use Rattle.cdk_markers.specs.Cut.{cut_of}
use Rattle.cdk_markers.specs.Key.{text_marker}
use Rattle.cdk_markers.specs.ListKey.{list_key_of}
use Rattle.cdk_markers.specs.Pieces.{Piece, literal, key}
use Rattle.cdk_expansion.specs.Expanded.{pseudo_of}
use Rattle.cdk_plain.specs.Plain.{pseudo_name}
use Rattle.cdk_measure.specs.Wholes.{around, around_list, around_two, collected, leaf, no_parts, with_part}
use Rattle.cdk_measure.specs.declared.measure.Measure.{Measure}
use Rattle.cdk_measure.specs.declared.measure.Parts.{Parts}
use Rattle.cdk_tokens.specs.Token as token
use Rattle.cdk_tokens.specs.Token.{Token, Form, find_token}

-- what keys of tokens are measured as
abbrev pub Known : Type 0
Known = List ℕ → Option Measure

-- ---- marked values

-- a key that no token has stands for its marker
abbrev pub piece_measure : Known → Piece → Measure
piece_measure known (literal l) = leaf (length l)
piece_measure known (key k) = unwrap_or (known k) (leaf (length (text_marker k)))

abbrev pub pieces_parts : Known → List Piece → Parts
pieces_parts known [] = no_parts
pieces_parts known (p ∷ ps) = with_part 0 (piece_measure known p) (pieces_parts known ps)

-- a single piece is measured itself; else they are a Concat
abbrev pub assembled_measure : Known → List Piece → Measure
assembled_measure known [] = leaf 0
assembled_measure known (p ∷ []) = piece_measure known p
assembled_measure known (p ∷ q ∷ ps) = collected false (pieces_parts known (p ∷ q ∷ ps))

abbrev pub array_measure : Known → Option (List ℕ) → Parts → Measure
array_measure known None ps = collected true ps
array_measure known (Some k) ps = unwrap_or (known k) (collected true ps)

abbrev mutual
  pub value_measure : Known → Data → Measure
  value_measure known null = leaf 0
  value_measure known (boolean b) = leaf 0
  value_measure known (number n) = leaf 0
  value_measure known (string s) = assembled_measure known (cut_of s)
  value_measure known (array ds) = array_measure known (list_key_of (array ds)) (items_parts known ds)
  value_measure known (object ms) = collected false (members_parts known ms)

  pub items_parts : Known → Items → Parts
  items_parts known no_items = no_parts
  items_parts known (item d ds) = with_part 0 (value_measure known d) (items_parts known ds)

  pub members_parts : Known → Members → Parts
  members_parts known no_members = no_parts
  members_parts known (member k d ms) = with_part (length k) (value_measure known d) (members_parts known ms)

-- ---- tokens

-- what keys of the tokens are measured as whose measures are there
abbrev pub known_by : List Token → List Measure → Known
known_by ts ms k = option_and_then (slice_get ms) (find_token ts k)

-- `path` tells the path of each construct, `lazies` the measure of each lazy

module _ (path : ℕ → List ℕ) (lazies : ℕ → Measure) where
  abbrev pub form_measure : Known → Form → Measure
  form_measure known (token.pseudo p) = leaf (length (pseudo_name (pseudo_of p)))
  form_measure known (token.ref t) = leaf (length (path t))
  form_measure known (token.get_att t a) = leaf (length (path t) + length a)
  form_measure known (token.join d v) = around_list (length d) (value_measure known v)
  form_measure known (token.select n v) = around_list 0 (value_measure known v)
  form_measure known (token.split d v) = around (length d) (value_measure known v)
  form_measure known (token.choice c x y) = around_two (length (path c)) (value_measure known x) (value_measure known y)
  form_measure known (token.find_in_map m x y) = around_two (length (path m)) (value_measure known x) (value_measure known y)
  form_measure known (token.import_value t) = leaf (length t)
  form_measure known (token.lazy t) = lazies t

  -- of tokens one after another, each by those before it
  abbrev pub measures_after : List Token → List Measure → List Token → List Measure
  measures_after ts done [] = done
  measures_after ts done (t ∷ rest) = measures_after ts (done ++ form_measure (known_by ts done) t.form ∷ []) rest

  abbrev pub token_measures : List Token → List Measure
  token_measures ts = measures_after ts [] ts

  -- what the keys of the first tokens are measured as
  abbrev pub known_below : List Token → ℕ → Known
  known_below ts n = known_by ts (take n (token_measures ts))

  abbrev pub known_in : List Token → Known
  known_in ts = known_by ts (token_measures ts)

-- ---- what is kept of lazies

-- that of a lazy of which nothing is kept is that of an empty text
abbrev pub kept_at : List Measure → ℕ → Measure
kept_at kept n = slice_index_or kept n (leaf 0)
