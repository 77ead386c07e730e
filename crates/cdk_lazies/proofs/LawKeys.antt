-- Where the markers of a value are known, each of its keys is that of a token.
use Rattle.std.proofs.Common.{◌≡◌, ℕ, inl, inr, List, [], ◌∷◌, Bool, true, false, true≢false, not, Option, Some, None, refl, sym, subst}
use Rattle.std.specs.Prelude.{Contains}
use Rattle.std.specs.List.{list_all}
use Rattle.std.specs.Option.{option_map_or}
use Rattle.std.proofs.lemmas.Bool.{and_parts, not-false, or_parts}
use Rattle.std.proofs.lemmas.List.Elements.{Contains-append_cases}
use Rattle.serde_json.specs.Data.{array, boolean, Data, item, Items, Members, member, no_items, no_members, null, number, object, string}
use Rattle.cdk_expansion.proofs.MentionContains.{contains_no, contains_one, first_or_rest}
use Rattle.cdk_expansion.specs.Mentions.{keys_in, keys_in_items, keys_in_members, list_keys, piece_keys}
use Rattle.cdk_markers.specs.Cut.{cut_of}
use Rattle.cdk_markers.specs.ListKey.{list_key_of}
use Rattle.cdk_markers.specs.Pieces.{key, literal, Piece}
use Rattle.cdk_tokens.specs.Token.{Token}
use Rattle.cdk_tokens.specs.Values.{has_unknown_list, has_unknown_token, is_known_piece, is_list_token, is_text_token, items_have_unknown_token, members_have_unknown_token, token_at}

-- the key is that of one of the tokens
abbrev pub IsKnown : List Token → List ℕ → Type 0
IsKnown ts k = (t : Token) × (token_at ts k ≡ Some t)

known_if : (test : Token → Bool) (o : Option Token) → option_map_or test o false ≡ true → (t : Token) × (o ≡ Some t)
known_if test None h = absurd (true≢false (sym h))
known_if test (Some t) h = (t, refl)

module _ (ts : List Token) where
  text_keys : (ps : List Piece) (k : List ℕ) → list_all (is_known_piece ts) ps ≡ true → Contains (piece_keys ps) k → IsKnown ts k
  text_keys [] k h c = absurd (contains_no k c)
  text_keys (literal l ∷ ps) k h c = text_keys ps k ((and_parts (is_known_piece ts (literal l)) (list_all (is_known_piece ts) ps) h).1) c
  text_keys (key j ∷ ps) k h c =
      let parts = and_parts (is_text_token ts j) (list_all (is_known_piece ts) ps) h in
      elim (first_or_rest j (piece_keys ps) k c) [
        | inl same ↦ subst (IsKnown ts) (sym same) (known_if (λ t. not t.is_list) (token_at ts j) (parts.0))
        | inr more ↦ text_keys ps k (parts.1) more
      ]

  array_keys : (o : Option (List ℕ)) (items : Bool) (ks : List (List ℕ)) (k : List ℕ) → has_unknown_list ts o items ≡ false → Contains (list_keys o ks) k → (items ≡ false → Contains ks k → IsKnown ts k) → IsKnown ts k
  array_keys None items ks k h c rest = rest h c
  array_keys (Some j) items ks k h c rest = subst (IsKnown ts) (sym (contains_one j k c)) (known_if (λ t. t.is_list) (token_at ts j) (not-false (is_list_token ts j) h))

  mutual
    pub value_keys : (d : Data) (k : List ℕ) → has_unknown_token ts d ≡ false → Contains (keys_in d) k → IsKnown ts k
    value_keys null k h c = absurd (contains_no k c)
    value_keys (boolean b) k h c = absurd (contains_no k c)
    value_keys (number n) k h c = absurd (contains_no k c)
    value_keys (string s) k h c = text_keys (cut_of s) k (not-false (list_all (is_known_piece ts) (cut_of s)) h) c
    value_keys (array ds) k h c = array_keys (list_key_of (array ds)) (items_have_unknown_token ts ds) (keys_in_items ds) k h c (item_keys ds k)
    value_keys (object ms) k h c = member_keys ms k h c

    item_keys : (ds : Items) (k : List ℕ) → items_have_unknown_token ts ds ≡ false → Contains (keys_in_items ds) k → IsKnown ts k
    item_keys no_items k h c = absurd (contains_no k c)
    item_keys (item d ds) k h c =
        let parts = or_parts (has_unknown_token ts d) (items_have_unknown_token ts ds) h in
        elim (Contains-append_cases (keys_in d) (keys_in_items ds) k c) [
          | inl first ↦ value_keys d k (parts.0) first
          | inr more ↦ item_keys ds k (parts.1) more
        ]

    member_keys : (ms : Members) (k : List ℕ) → members_have_unknown_token ts ms ≡ false → Contains (keys_in_members ms) k → IsKnown ts k
    member_keys no_members k h c = absurd (contains_no k c)
    member_keys (member l d ms) k h c =
        let parts = or_parts (has_unknown_token ts d) (members_have_unknown_token ts ms) h in
        elim (Contains-append_cases (keys_in d) (keys_in_members ms) k c) [
          | inl first ↦ value_keys d k (parts.0) first
          | inr more ↦ member_keys ms k (parts.1) more
        ]
