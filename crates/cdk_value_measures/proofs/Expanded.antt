-- The measure that is found of a marked value is that of its plain form.
use Rattle.std.proofs.Common.{◌≡◌, ℕ, List, [], ◌∷◌, ◌++◌, map, length, Option, Some, None, option_map, option_and_then, unwrap_or, true, false, refl, sym, ap, ap₂, ◌∙◌}
use Rattle.std.specs.Prelude.{ℤ, slice_get}
use Rattle.std.proofs.lemmas.List.{map-append}
use Rattle.serde_json.specs.Data.{Data, null, boolean, number, string, array, object, Items, no_items, item, Members, no_members, member}
use Rattle.serde_json.specs.Find.{as_integer}
use Rattle.cdk_markers.specs.Cut.{cut_of}
use Rattle.cdk_markers.specs.Key.{text_marker}
use Rattle.cdk_markers.specs.ListKey.{list_key_of}
use Rattle.cdk_markers.specs.Pieces.{Piece, literal, key}
use Rattle.cdk_expansion.specs.Expanded as expanded
use Rattle.cdk_plain.specs.Plain.{Plain, Plains, list_of, text}
use Rattle.cdk_value_measures.proofs.Combining.{around_choice, around_find, around_join, around_select, around_split, one_field, one_plain, whole_concat, whole_list, whole_object}
use Rattle.cdk_value_measures.proofs.Places.{get-map}
use Rattle.cdk_value_measures.specs.Expanding.{array_measure, assembled_measure, form_measure, items_parts, Known, known_by, known_in, measures_after, members_parts, piece_measure, pieces_parts, value_measure}
use Rattle.cdk_measure.specs.Wholes.{around, around_list, around_two, collected, leaf, with_part}
use Rattle.cdk_value_measures.specs.Measures.{fields_parts, measure, plains_parts}
use Rattle.cdk_measure.specs.declared.measure.Measure.{Measure}
use Rattle.cdk_tokens.specs.Token as token
use Rattle.cdk_tokens.specs.Token.{find_token, Form, Token}

-- keys are measured as what they stand for
abbrev pub Alike : (ℕ → List ℕ) → expanded.Known → Known → Type 0
Alike path f g = (k : List ℕ) → g k ≡ option_map (measure path) (f k)

-- ---- marked values

module _ (path : ℕ → List ℕ) (f : expanded.Known) (g : Known) (alike : Alike path f g) where
  same_key : (k : List ℕ) (o : Option Plain) → unwrap_or (option_map (measure path) o) (leaf (length (text_marker k))) ≡ measure path (unwrap_or o (text (text_marker k)))
  same_key k None = refl
  same_key k (Some p) = refl

  same_piece : (p : Piece) → piece_measure g p ≡ measure path (expanded.piece_plain f p)
  same_piece (literal l) = refl
  same_piece (key k) = ap (λ m. unwrap_or m (leaf (length (text_marker k)))) (alike k) ∙ same_key k (f k)

  same_pieces : (ps : List Piece) → pieces_parts g ps ≡ plains_parts path (expanded.pieces_plain f ps)
  same_pieces [] = refl
  same_pieces (p ∷ ps) = ap₂ (with_part 0) (same_piece p) (same_pieces ps) ∙ one_plain path (expanded.piece_plain f p) (expanded.pieces_plain f ps)

  same_assembled : (ps : List Piece) → assembled_measure g ps ≡ measure path (expanded.assembled f ps)
  same_assembled [] = refl
  same_assembled (p ∷ []) = same_piece p
  same_assembled (p ∷ q ∷ ps) = ap (collected false) (same_pieces (p ∷ q ∷ ps)) ∙ whole_concat path (expanded.pieces_plain f (p ∷ q ∷ ps))

  same_list : (o : Option Plain) (ps : Plains) → unwrap_or (option_map (measure path) o) (collected true (plains_parts path ps)) ≡ measure path (unwrap_or o (list_of ps))
  same_list None ps = whole_list path ps
  same_list (Some p) ps = refl

  same_array : (o : Option (List ℕ)) (ps : Plains) → array_measure g o (plains_parts path ps) ≡ measure path (expanded.array_plain f o ps)
  same_array None ps = whole_list path ps
  same_array (Some k) ps = ap (λ m. unwrap_or m (collected true (plains_parts path ps))) (alike k) ∙ same_list (f k) ps

  same_number : (o : Option ℤ) → leaf 0 ≡ measure path (expanded.number_plain o)
  same_number None = refl
  same_number (Some z) = refl

  mutual
    pub same_value : (d : Data) → value_measure g d ≡ measure path (expanded.value_plain f d)
    same_value null = refl
    same_value (boolean b) = refl
    same_value (number n) = same_number (as_integer n)
    same_value (string s) = same_assembled (cut_of s)
    same_value (array ds) = ap (array_measure g (list_key_of (array ds))) (same_items ds) ∙ same_array (list_key_of (array ds)) (expanded.items_plain f ds)
    same_value (object ms) = ap (collected false) (same_members ms) ∙ whole_object path (expanded.members_plain f ms)

    pub same_items : (ds : Items) → items_parts g ds ≡ plains_parts path (expanded.items_plain f ds)
    same_items no_items = refl
    same_items (item d ds) = ap₂ (with_part 0) (same_value d) (same_items ds) ∙ one_plain path (expanded.value_plain f d) (expanded.items_plain f ds)

    pub same_members : (ms : Members) → members_parts g ms ≡ fields_parts path (expanded.members_plain f ms)
    same_members no_members = refl
    same_members (member k d ms) = ap₂ (with_part (length k)) (same_value d) (same_members ms) ∙ one_field path k (expanded.value_plain f d) (expanded.members_plain f ms)

-- ---- tokens

module _ (path : ℕ → List ℕ) (lazies : ℕ → Plain) (measures : ℕ → Measure) (same : (n : ℕ) → measures n ≡ measure path (lazies n)) where
  same_form : (f : expanded.Known) (g : Known) → Alike path f g → (form : Form) → form_measure path measures g form ≡ measure path (expanded.form_plain f lazies form)
  same_form f g alike (token.pseudo p) = refl
  same_form f g alike (token.ref t) = refl
  same_form f g alike (token.get_att t a) = refl
  same_form f g alike (token.join d v) = ap (around_list (length d)) (same_value path f g alike v) ∙ around_join path d (expanded.value_plain f v)
  same_form f g alike (token.select n v) = ap (around_list 0) (same_value path f g alike v) ∙ around_select path n (expanded.value_plain f v)
  same_form f g alike (token.split d v) = ap (around (length d)) (same_value path f g alike v) ∙ around_split path d (expanded.value_plain f v)
  same_form f g alike (token.choice c x y) =
      ap₂ (around_two (length (path c))) (same_value path f g alike x) (same_value path f g alike y) ∙ around_choice path c (expanded.value_plain f x) (expanded.value_plain f y)
  same_form f g alike (token.find_in_map m x y) =
      ap₂ (around_two (length (path m))) (same_value path f g alike x) (same_value path f g alike y) ∙ around_find path m (expanded.value_plain f x) (expanded.value_plain f y)
  same_form f g alike (token.import_value t) = refl
  same_form f g alike (token.lazy t) = same t

  known_found : (ps : List Plain) (o : Option ℕ) → option_and_then (slice_get (map (measure path) ps)) o ≡ option_map (measure path) (option_and_then (slice_get ps) o)
  known_found ps None = refl
  known_found ps (Some i) = get-map (measure path) ps i

  known_alike : (ts : List Token) (ps : List Plain) → Alike path (expanded.known_by ts ps) (known_by ts (map (measure path) ps))
  known_alike ts ps k = known_found ps (find_token ts k)

  same_after : (ts rest : List Token) (done : List Plain) → measures_after path measures ts (map (measure path) done) rest ≡ map (measure path) (expanded.forms_after lazies ts done rest)
  same_after ts [] done = refl
  same_after ts (t ∷ rest) done =
      let p : Plain = expanded.form_plain (expanded.known_by ts done) lazies t.form in
      let here : form_measure path measures (known_by ts (map (measure path) done)) t.form ≡ measure path p = same_form (expanded.known_by ts done) (known_by ts (map (measure path) done)) (known_alike ts done) t.form in
      ap (λ m. measures_after path measures ts (map (measure path) done ++ m ∷ []) rest) here
      ∙ (ap (λ ms. measures_after path measures ts ms rest) (sym (map-append (measure path) done (p ∷ []))) ∙ same_after ts rest (done ++ p ∷ []))

  pub same_measure : (ts : List Token) (d : Data) → value_measure (known_in path measures ts) d ≡ measure path (expanded.value_plain (expanded.known_in lazies ts) d)
  same_measure ts d =
      let ps : List Plain = expanded.token_plains lazies ts in
      ap (λ ms. value_measure (known_by ts ms) d) (same_after ts ts []) ∙ same_value path (expanded.known_by ts ps) (known_by ts (map (measure path) ps)) (known_alike ts ps) d
