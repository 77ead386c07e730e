-- The JSON that is found of a marked value is that of its plain form.
use Rattle.std.proofs.Common.{◌≡◌, ℕ, List, [], ◌∷◌, ◌++◌, map, codes, Option, Some, None, option_map, option_and_then, unwrap_or, refl, sym, ap, ap₂, ◌∙◌}
use Rattle.std.specs.Prelude.{ℤ, slice_get}
use Rattle.std.proofs.lemmas.List.{map-append}
use Rattle.serde_json.specs.Data.{Data, null, boolean, number, string, array, object, Items, no_items, item, Members, no_members, member, unsigned}
use Rattle.serde_json.specs.Find.{as_integer}
use Rattle.cdk_leaves.specs.Numbers.{number_json}
use Rattle.cdk_markers.specs.Cut.{cut_of}
use Rattle.cdk_markers.specs.Key.{text_marker}
use Rattle.cdk_markers.specs.ListKey.{list_key_of}
use Rattle.cdk_markers.specs.Pieces.{Piece, literal, key}
use Rattle.cdk_expansion.specs.Expanded as expanded
use Rattle.cdk_plain.specs.Plain.{Plain, Plains, list_of, text}
use Rattle.cdk_plain.specs.Rendered.{Homes, joined, one, rendered, rendered_fields, rendered_items, rendered_join, split_json, three, two}
use Rattle.cdk_rendering.proofs.Places.{get-map}
use Rattle.cdk_rendering.specs.Folding.{found_after, Known, known_by, known_in}
use Rattle.cdk_rendering.specs.TokenJson.{array_json, form_json, items_json, members_json, piece_json, pieces_json, value_json}
use Rattle.cdk_spelling.specs.Assembled.{assembled_items}
use Rattle.cdk_tokens.specs.Token as token
use Rattle.cdk_tokens.specs.Token.{find_token, Form, Token}

-- keys have the JSON of what they stand for
abbrev pub Alike : Homes → expanded.Known → Known Data → Type 0
Alike h f g = (k : List ℕ) → g k ≡ option_map (rendered h) (f k)

-- ---- marked values

module _ (h : Homes) (f : expanded.Known) (g : Known Data) (alike : Alike h f g) where
  same_key : (k : List ℕ) (o : Option Plain) → unwrap_or (option_map (rendered h) o) (string (text_marker k)) ≡ rendered h (unwrap_or o (text (text_marker k)))
  same_key k None = refl
  same_key k (Some p) = refl

  same_piece : (p : Piece) → piece_json g p ≡ rendered h (expanded.piece_plain f p)
  same_piece (literal l) = refl
  same_piece (key k) = ap (λ o. unwrap_or o (string (text_marker k))) (alike k) ∙ same_key k (f k)

  same_pieces : (ps : List Piece) → pieces_json g ps ≡ rendered_items h (expanded.pieces_plain f ps)
  same_pieces [] = refl
  same_pieces (p ∷ ps) = ap₂ item (same_piece p) (same_pieces ps)

  same_assembled : (ps : List Piece) → assembled_items (pieces_json g ps) ≡ rendered h (expanded.assembled f ps)
  same_assembled [] = refl
  same_assembled (p ∷ []) = same_piece p
  same_assembled (p ∷ q ∷ ps) = ap joined (same_pieces (p ∷ q ∷ ps))

  same_list : (o : Option Plain) (ps : Plains) → unwrap_or (option_map (rendered h) o) (array (rendered_items h ps)) ≡ rendered h (unwrap_or o (list_of ps))
  same_list None ps = refl
  same_list (Some p) ps = refl

  same_array : (o : Option (List ℕ)) (ps : Plains) → array_json g o (rendered_items h ps) ≡ rendered h (expanded.array_plain f o ps)
  same_array None ps = refl
  same_array (Some k) ps = ap (λ o. unwrap_or o (array (rendered_items h ps))) (alike k) ∙ same_list (f k) ps

  same_number : (o : Option ℤ) → number_json o ≡ rendered h (expanded.number_plain o)
  same_number None = refl
  same_number (Some z) = refl

  mutual
    pub same_value : (d : Data) → value_json g d ≡ rendered h (expanded.value_plain f d)
    same_value null = refl
    same_value (boolean b) = refl
    same_value (number n) = same_number (as_integer n)
    same_value (string s) = same_assembled (cut_of s)
    same_value (array ds) = ap (array_json g (list_key_of (array ds))) (same_items ds) ∙ same_array (list_key_of (array ds)) (expanded.items_plain f ds)
    same_value (object ms) = ap object (same_members ms)

    pub same_items : (ds : Items) → items_json g ds ≡ rendered_items h (expanded.items_plain f ds)
    same_items no_items = refl
    same_items (item d ds) = ap₂ item (same_value d) (same_items ds)

    pub same_members : (ms : Members) → members_json g ms ≡ rendered_fields h (expanded.members_plain f ms)
    same_members no_members = refl
    same_members (member k d ms) = ap₂ (member k) (same_value d) (same_members ms)

-- ---- tokens

module _ (h : Homes) (lazies : ℕ → Plain) (results : ℕ → Data) (same : (n : ℕ) → results n ≡ rendered h (lazies n)) where
  same_form : (f : expanded.Known) (g : Known Data) → Alike h f g → (form : Form) → form_json h results g form ≡ rendered h (expanded.form_plain f lazies form)
  same_form f g alike (token.pseudo p) = refl
  same_form f g alike (token.ref t) = refl
  same_form f g alike (token.get_att t a) = refl
  same_form f g alike (token.join d v) = ap (rendered_join d) (same_value h f g alike v)
  same_form f g alike (token.select n v) = ap (λ x. one (codes "Fn::Select") (two (number (unsigned n)) x)) (same_value h f g alike v)
  same_form f g alike (token.split d v) = ap (split_json d) (same_value h f g alike v)
  same_form f g alike (token.choice c x y) =
      ap₂ (λ u v. one (codes "Fn::If") (three (string (h.condition c)) u v)) (same_value h f g alike x) (same_value h f g alike y)
  same_form f g alike (token.find_in_map m x y) =
      ap₂ (λ u v. one (codes "Fn::FindInMap") (three (string (h.mapping m)) u v)) (same_value h f g alike x) (same_value h f g alike y)
  same_form f g alike (token.import_value e) = refl
  same_form f g alike (token.lazy t) = same t

  known_found : (ps : List Plain) (o : Option ℕ) → option_and_then (slice_get (map (rendered h) ps)) o ≡ option_map (rendered h) (option_and_then (slice_get ps) o)
  known_found ps None = refl
  known_found ps (Some i) = get-map (rendered h) ps i

  known_alike : (ts : List Token) (ps : List Plain) → Alike h (expanded.known_by ts ps) (known_by ts (map (rendered h) ps))
  known_alike ts ps k = known_found ps (find_token ts k)

  same_after : (ts rest : List Token) (done : List Plain) → found_after (form_json h results) ts (map (rendered h) done) rest ≡ map (rendered h) (expanded.forms_after lazies ts done rest)
  same_after ts [] done = refl
  same_after ts (t ∷ rest) done =
      let p : Plain = expanded.form_plain (expanded.known_by ts done) lazies t.form in
      let here : form_json h results (known_by ts (map (rendered h) done)) t.form ≡ rendered h p = same_form (expanded.known_by ts done) (known_by ts (map (rendered h) done)) (known_alike ts done) t.form in
      ap (λ d. found_after (form_json h results) ts (map (rendered h) done ++ d ∷ []) rest) here
      ∙ (ap (λ ds. found_after (form_json h results) ts ds rest) (sym (map-append (rendered h) done (p ∷ []))) ∙ same_after ts rest (done ++ p ∷ []))

  -- with each lazy's JSON that of its plain form
  pub same_json : (ts : List Token) (d : Data) → value_json (known_in (form_json h results) ts) d ≡ rendered h (expanded.value_plain (expanded.known_in lazies ts) d)
  same_json ts d =
      let ps : List Plain = expanded.token_plains lazies ts in
      ap (λ ds. value_json (known_by ts ds) d) (same_after ts ts []) ∙ same_value h (expanded.known_by ts ps) (known_by ts (map (rendered h) ps)) (known_alike ts ps) d
