-- Two ways to spell that differ at most in attributes which no token is: plain forms of marked values are rendered the same by both.
use Rattle.std.proofs.Common.{◌≡◌, ℕ, zero, suc, ◌+◌, List, [], ◌∷◌, ◌++◌, map, length, codes, Option, Some, None, option_map, refl, sym, ap, ap₂, ◌∙◌}
use Rattle.std.specs.Prelude.{ℤ, slice_get, ⊤}
use Rattle.std.specs.Option.{option_and_then, unwrap_or}
use Rattle.std.proofs.lemmas.List.{map-append}
use Rattle.serde_json.specs.Data.{array, boolean, Data, item, Items, member, Members, no_items, no_members, null, number, object, string, unsigned}
use Rattle.serde_json.specs.Find.{as_integer}
use Rattle.cdk_expansion.specs.Conditions.{condition_plain, conditions_plain}
use Rattle.cdk_expansion.specs.Expanded.{array_plain, assembled, form_plain, forms_after, items_plain, Known, known_by, known_in, members_plain, number_plain, opened, piece_plain, pieces_plain, token_plains, value_plain}
use Rattle.cdk_language.specs.Condition as condition
use Rattle.cdk_language.specs.Condition.{Condition, Conditions}
use Rattle.cdk_markers.specs.Cut.{cut_of}
use Rattle.cdk_markers.specs.Key.{text_marker}
use Rattle.cdk_markers.specs.ListKey.{list_key_of}
use Rattle.cdk_markers.specs.Pieces.{key, literal, Piece}
use Rattle.cdk_plain.specs.Plain.{list_of, Plain, Plains, text}
use Rattle.cdk_plain.specs.Rendered.{attribute_json, Homes, joined, one, ref_json, rendered, rendered_condition, rendered_conditions, rendered_fields, rendered_items, rendered_join, split_json, three, two}
use Rattle.cdk_tokens.specs.Token as token
use Rattle.cdk_tokens.specs.Token.{find_token, Form, Token}
use Rattle.cdk_contexts.specs.Expressions.{operands_of}
use Rattle.cdk_tokens.specs.Whole.{MarkedBody, value_at}
use Rattle.cdk_tree.specs.Placed.{Placed}

-- they spell all targets, conditions and mappings the same
pub record SpellAlike (h g : Homes) : Type 0 where
  pub targets : (n : ℕ) → h.target n ≡ g.target n
  pub conditions : (n : ℕ) → h.condition n ≡ g.condition n
  pub mappings : (n : ℕ) → h.mapping n ≡ g.mapping n

-- and the attribute that the form is, if it is one
abbrev pub AlikeAt : Homes → Homes → Form → Type 0
AlikeAt h g (token.get_att n a) = h.attribute n a ≡ g.attribute n a
AlikeAt h g f = ⊤

abbrev pub AlikeAtAll : Homes → Homes → List Token → Type 0
AlikeAtAll h g [] = ⊤
AlikeAtAll h g (t ∷ ts) = AlikeAt h g t.form × AlikeAtAll h g ts

module _ (h g : Homes) (alike : SpellAlike h g) where
  -- rendered the same by both
  abbrev Same : Plain → Type 0
  Same p = rendered h p ≡ rendered g p

  abbrev SameIn : Option Plain → Type 0
  SameIn o = option_map (rendered h) o ≡ option_map (rendered g) o

  abbrev SameAt : Known → Type 0
  SameAt f = (k : List ℕ) → SameIn (f k)

  or_else : (o : Option Plain) (p : Plain) → SameIn o → Same p → Same (unwrap_or o p)
  or_else None p found other = other
  or_else (Some q) p found other = cc found

  -- ---- marked values

  module _ (f : Known) (known : SameAt f) where
    same_piece : (p : Piece) → Same (piece_plain f p)
    same_piece (literal l) = refl
    same_piece (key k) = or_else (f k) (text (text_marker k)) (known k) refl

    same_pieces : (ps : List Piece) → rendered_items h (pieces_plain f ps) ≡ rendered_items g (pieces_plain f ps)
    same_pieces [] = refl
    same_pieces (p ∷ ps) = ap₂ item (same_piece p) (same_pieces ps)

    same_assembled : (ps : List Piece) → Same (assembled f ps)
    same_assembled [] = refl
    same_assembled (p ∷ []) = same_piece p
    same_assembled (p ∷ q ∷ ps) = ap joined (same_pieces (p ∷ q ∷ ps))

    same_array : (o : Option (List ℕ)) (ps : Plains) → Same (list_of ps) → Same (array_plain f o ps)
    same_array None ps same = same
    same_array (Some k) ps same = or_else (f k) (list_of ps) (known k) same

    same_number : (o : Option ℤ) → Same (number_plain o)
    same_number None = refl
    same_number (Some z) = refl

    mutual
      same_value : (d : Data) → Same (value_plain f d)
      same_value null = refl
      same_value (boolean b) = refl
      same_value (number n) = same_number (as_integer n)
      same_value (string s) = same_assembled (cut_of s)
      same_value (array ds) = same_array (list_key_of (array ds)) (items_plain f ds) (ap array (same_items ds))
      same_value (object ms) = ap object (same_members ms)

      same_items : (ds : Items) → rendered_items h (items_plain f ds) ≡ rendered_items g (items_plain f ds)
      same_items no_items = refl
      same_items (item d ds) = ap₂ item (same_value d) (same_items ds)

      same_members : (ms : Members) → rendered_fields h (members_plain f ms) ≡ rendered_fields g (members_plain f ms)
      same_members no_members = refl
      same_members (member k d ms) = ap₂ (member k) (same_value d) (same_members ms)

  -- ---- tokens

  module _ (lazies : ℕ → Plain) (same_lazies : (n : ℕ) → Same (lazies n)) where
    same_form : (f : Known) → SameAt f → (form : Form) → AlikeAt h g form → Same (form_plain f lazies form)
    same_form f known (token.pseudo p) at = refl
    same_form f known (token.ref t) at = ap ref_json (alike.targets t)
    same_form f known (token.get_att t a) at = ap (attribute_json a) at
    same_form f known (token.join d v) at = ap (rendered_join d) (same_value f known v)
    same_form f known (token.select n v) at = ap (λ x. one (codes "Fn::Select") (two (number (unsigned n)) x)) (same_value f known v)
    same_form f known (token.split d v) at = ap (split_json d) (same_value f known v)
    same_form f known (token.choice c x y) at =
        ap (λ s. one (codes "Fn::If") (three (string s) (rendered h (value_plain f x)) (rendered h (value_plain f y)))) (alike.conditions c)
        ∙ ap₂ (λ u v. one (codes "Fn::If") (three (string (g.condition c)) u v)) (same_value f known x) (same_value f known y)
    same_form f known (token.find_in_map m x y) at =
        ap (λ s. one (codes "Fn::FindInMap") (three (string s) (rendered h (value_plain f x)) (rendered h (value_plain f y)))) (alike.mappings m)
        ∙ ap₂ (λ u v. one (codes "Fn::FindInMap") (three (string (g.mapping m)) u v)) (same_value f known x) (same_value f known y)
    same_form f known (token.import_value e) at = refl
    same_form f known (token.lazy t) at = same_lazies t

    same_get : (ps : List Plain) → map (rendered h) ps ≡ map (rendered g) ps → (i : ℕ) → SameIn (slice_get ps i)
    same_get [] same i = refl
    same_get (p ∷ ps) same zero = let first : rendered h p ≡ rendered g p = cc same in ap Some first
    same_get (p ∷ ps) same (suc i) = let rest : map (rendered h) ps ≡ map (rendered g) ps = cc same in same_get ps rest i

    same_known : (ps : List Plain) → map (rendered h) ps ≡ map (rendered g) ps → (o : Option ℕ) → SameIn (option_and_then (slice_get ps) o)
    same_known ps same None = refl
    same_known ps same (Some i) = same_get ps same i

    same_after : (ts rest : List Token) (done : List Plain) → map (rendered h) done ≡ map (rendered g) done → AlikeAtAll h g rest
        → map (rendered h) (forms_after lazies ts done rest) ≡ map (rendered g) (forms_after lazies ts done rest)
    same_after ts [] done same at = same
    same_after ts (t ∷ rest) done same at =
        let p : Plain = form_plain (known_by ts done) lazies t.form in
        let here : Same p = same_form (known_by ts done) (λ k. same_known done same (find_token ts k)) t.form (at.0) in
        same_after ts rest (done ++ p ∷ [])
        (map-append (rendered h) done (p ∷ []) ∙ (ap₂ (λ xs x. xs ++ x ∷ []) same here ∙ sym (map-append (rendered g) done (p ∷ []))))
        (at.1)

    same_by_tokens : (ts : List Token) → AlikeAtAll h g ts → (d : Data) → Same (value_plain (known_in lazies ts) d)
    same_by_tokens ts at d = same_value (known_in lazies ts) (λ k. same_known (token_plains lazies ts) (same_after ts ts [] refl at) (find_token ts k)) d

  -- ---- lazies

  module _ (ts : List Token) (ms : List MarkedBody) (at : AlikeAtAll h g ts) where
    same_opened : (k n : ℕ) → Same (opened k ts ms n)
    same_opened zero n = refl
    same_opened (suc k) n = same_by_tokens (opened k ts ms) (same_opened k) ts at (unwrap_or (value_at ms n) null)

    pub same_plain : (k : ℕ) (d : Data) → rendered h (value_plain (known_in (opened k ts ms) ts) d) ≡ rendered g (value_plain (known_in (opened k ts ms) ts) d)
    same_plain k d = same_by_tokens (opened k ts ms) (same_opened k) ts at d

  -- ---- conditions

  module _ (cs : List Placed) (operand : ℕ → Plain) (same : (n : ℕ) → rendered h (operand n) ≡ rendered g (operand n)) where
    mutual
      pub same_condition : (n : ℕ) (c : Condition) → rendered_condition h (condition_plain cs operand n c) ≡ rendered_condition g (condition_plain cs operand n c)
      same_condition n (condition.equals x y) = ap₂ (λ u v. one (codes "Fn::Equals") (two u v)) (same n) (same (n + 1))
      same_condition n (condition.all_of ds) = ap (λ xs. one (codes "Fn::And") (array xs)) (same_conditions n ds)
      same_condition n (condition.any_of ds) = ap (λ xs. one (codes "Fn::Or") (array xs)) (same_conditions n ds)
      same_condition n (condition.negated d) = ap (λ x. one (codes "Fn::Not") (array (item x no_items))) (same_condition n d)
      same_condition n (condition.named t) = ap (λ s. one (codes "Condition") (string s)) (alike.conditions _)

      same_conditions : (n : ℕ) (ds : Conditions) → rendered_conditions h (conditions_plain cs operand n ds) ≡ rendered_conditions g (conditions_plain cs operand n ds)
      same_conditions n condition.no_conditions = refl
      same_conditions n (condition.condition d ds) = ap₂ item (same_condition n d) (same_conditions (n + length (operands_of d)) ds)
