-- A value in whose texts no marker begins has the plain form of the literal that it is.
use Rattle.std.proofs.Common.{◌≡◌, ℕ, List, [], ◌∷◌, map, false, None, refl, sym, ap, ap₂, ◌∙◌, append-nil}
use Rattle.std.proofs.lemmas.Bool.{or_parts}
use Rattle.serde_json.specs.Data.{Data, null, boolean, number, string, array, object, Items, no_items, item, Members, no_members, member}
use Rattle.cdk_base.specs.Marker.{has_marker, holds_marker, items_hold_marker, members_hold_marker}
use Rattle.cdk_language.specs.Runs.{is_marked_run}
use Rattle.cdk_markers.specs.Cut.{cut_of}
use Rattle.cdk_markers.specs.ListKey.{list_key_of, list_text_key}
use Rattle.cdk_markers.specs.Pieces.{Piece, literal, joined}
use Rattle.cdk_plain.specs.Plain as plain
use Rattle.cdk_plain.specs.Plain.{text, list_of, object_of, field}
use Rattle.cdk_expansion.specs.Expanded.{Known, assembled, array_plain, value_plain, items_plain, members_plain}
use Rattle.cdk_expansion.specs.Own.{literal_plain, literal_plains, literal_fields}
use Rattle.cdk_expansion.specs.Pieces.{HaveKeys, merged, piece_literal, PiecesAreCutAgain}

-- Pieces in whose runs of literals no marker begins are no list marker.
abbrev pub PiecesAreNoListMarker : Type 0
PiecesAreNoListMarker = (ps : List Piece) → HaveKeys ps → is_marked_run [] (map piece_literal ps) ≡ false → list_text_key (joined ps) ≡ None

assembled-literal : (known : Known) (s : List ℕ) → assembled known (merged (literal s ∷ [])) ≡ text s
assembled-literal known [] = refl
assembled-literal known (x ∷ s) = refl

pub unmarked_text : (known : Known) → PiecesAreCutAgain → (s : List ℕ) → has_marker s ≡ false → value_plain known (string s) ≡ text s
unmarked_text known cut s none =
    ap (λ t. assembled known (cut_of t)) (sym (append-nil s)) ∙ (ap (assembled known) (cut (literal s ∷ []) tt none) ∙ assembled-literal known s)

pub unmarked_is_no_list : PiecesAreNoListMarker → (s : List ℕ) → has_marker s ≡ false → list_text_key s ≡ None
unmarked_is_no_list no_list s none = ap list_text_key (sym (append-nil s)) ∙ no_list (literal s ∷ []) tt none

pub two_or_more : (d e : Data) (ds : Items) → list_key_of (array (item d (item e ds))) ≡ None
two_or_more null e ds = refl
two_or_more (boolean b) e ds = refl
two_or_more (number n) e ds = refl
two_or_more (string s) e ds = refl
two_or_more (array xs) e ds = refl
two_or_more (object ms) e ds = refl

pub unmarked_item : PiecesAreNoListMarker → (d : Data) → holds_marker d ≡ false → list_key_of (array (item d no_items)) ≡ None
unmarked_item no_list null none = refl
unmarked_item no_list (boolean b) none = refl
unmarked_item no_list (number n) none = refl
unmarked_item no_list (string s) none = unmarked_is_no_list no_list s none
unmarked_item no_list (array ds) none = refl
unmarked_item no_list (object ms) none = refl

unmarked_items : PiecesAreNoListMarker → (ds : Items) → items_hold_marker ds ≡ false → list_key_of (array ds) ≡ None
unmarked_items no_list no_items none = refl
unmarked_items no_list (item d no_items) none = unmarked_item no_list d ((or_parts (holds_marker d) false none).0)
unmarked_items no_list (item d (item e ds)) none = two_or_more d e ds

mutual
  pub literal_is_plain : (known : Known) → PiecesAreCutAgain → PiecesAreNoListMarker → (d : Data) → holds_marker d ≡ false → value_plain known d ≡ literal_plain d
  literal_is_plain known cut no_list null none = refl
  literal_is_plain known cut no_list (boolean b) none = refl
  literal_is_plain known cut no_list (number n) none = refl
  literal_is_plain known cut no_list (string s) none = unmarked_text known cut s none
  literal_is_plain known cut no_list (array ds) none =
      ap (λ o. array_plain known o (items_plain known ds)) (unmarked_items no_list ds none) ∙ ap list_of (literals_are_plain known cut no_list ds none)
  literal_is_plain known cut no_list (object ms) none = ap object_of (fields_are_plain known cut no_list ms none)

  literals_are_plain : (known : Known) → PiecesAreCutAgain → PiecesAreNoListMarker → (ds : Items) → items_hold_marker ds ≡ false → items_plain known ds ≡ literal_plains ds
  literals_are_plain known cut no_list no_items none = refl
  literals_are_plain known cut no_list (item d ds) none =
      let parts = or_parts (holds_marker d) (items_hold_marker ds) none in
      ap₂ plain.plain (literal_is_plain known cut no_list d parts.0) (literals_are_plain known cut no_list ds parts.1)

  fields_are_plain : (known : Known) → PiecesAreCutAgain → PiecesAreNoListMarker → (ms : Members) → members_hold_marker ms ≡ false → members_plain known ms ≡ literal_fields ms
  fields_are_plain known cut no_list no_members none = refl
  fields_are_plain known cut no_list (member k d ms) none =
      let more = (or_parts (has_marker k) _ none).1 in
      let parts = or_parts (holds_marker d) (members_hold_marker ms) more in
      ap₂ (field k) (literal_is_plain known cut no_list d parts.0) (fields_are_plain known cut no_list ms parts.1)
