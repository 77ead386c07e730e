-- The plain form of a marked value depends on what its own keys stand for, and on no other key.
use Rattle.std.proofs.Common.{◌≡◌, ℕ, List, [], ◌∷◌, ◌++◌, Option, Some, None, is_some, refl, sym, ap, ap₂, ◌∙◌, subst, append-nil, unwrap_or, true≢false}
use Rattle.std.specs.List.{Contains}
use Rattle.std.proofs.lemmas.List.Elements.{Contains-append_left, Contains-append_right}
use Rattle.cdk_expansion.proofs.MentionContains.{contains_first, contains_no}
use Rattle.serde_json.specs.Data.{Data, null, boolean, number, string, array, object, Items, no_items, item, Members, no_members, member}
use Rattle.cdk_markers.specs.Cut.{cut_of}
use Rattle.cdk_markers.specs.ListKey.{list_key_of}
use Rattle.cdk_markers.specs.Pieces.{Piece, literal, key}
use Rattle.cdk_plain.specs.Plain as plain
use Rattle.cdk_plain.specs.Plain.{text, list_of, object_of, concat, field}
use Rattle.cdk_markers.specs.Key.{text_marker}
use Rattle.cdk_expansion.specs.Expanded.{Known, piece_plain, pieces_plain, assembled, array_plain, value_plain, items_plain, members_plain}
use Rattle.cdk_expansion.specs.Mentions.{piece_keys, list_keys, keys_in, keys_in_items, keys_in_members}
use Rattle.cdk_expansion.proofs.MentionListKeys.{list_marker_has_no_keys}

abbrev pub Agree : Known → Known → List (List ℕ) → Type 0
Agree f g ks = (k : List ℕ) → Contains ks k → f k ≡ g k

agree_first : (f g : Known) (k : List ℕ) (ks : List (List ℕ)) → Agree f g (k ∷ ks) → f k ≡ g k
agree_first f g k ks agree = agree k (contains_first k ks)

agree_left : (f g : Known) (ks js : List (List ℕ)) → Agree f g (ks ++ js) → Agree f g ks
agree_left f g ks js agree k c = agree k (Contains-append_left ks js k c)

agree_right : (f g : Known) (ks js : List (List ℕ)) → Agree f g (ks ++ js) → Agree f g js
agree_right f g ks js agree k c = agree k (Contains-append_right ks js k c)

-- nothing is to be shown of no keys
agree_none : (f g : Known) → Agree f g []
agree_none f g k c = absurd (contains_no k c)

-- ---- texts

same_key : (f g : Known) (k : List ℕ) (ks : List (List ℕ)) → Agree f g (k ∷ ks) → piece_plain f (key k) ≡ piece_plain g (key k)
same_key f g k ks agree = ap (λ o. unwrap_or o (text (text_marker k))) (agree_first f g k ks agree)

same_pieces : (f g : Known) (ps : List Piece) → Agree f g (piece_keys ps) → pieces_plain f ps ≡ pieces_plain g ps
same_pieces f g [] agree = refl
same_pieces f g (literal l ∷ ps) agree = ap (plain.plain (text l)) (same_pieces f g ps agree)
same_pieces f g (key k ∷ ps) agree = ap₂ plain.plain (same_key f g k (piece_keys ps) agree) (same_pieces f g ps (agree_right f g (k ∷ []) (piece_keys ps) agree))

same_assembled : (f g : Known) (ps : List Piece) → Agree f g (piece_keys ps) → assembled f ps ≡ assembled g ps
same_assembled f g [] agree = refl
same_assembled f g (literal l ∷ []) agree = refl
same_assembled f g (key k ∷ []) agree = same_key f g k [] agree
same_assembled f g (p ∷ q ∷ ps) agree = ap concat (same_pieces f g (p ∷ q ∷ ps) agree)

-- ---- arrays

no_some : {A : Type 0} (k : List ℕ) → None ≡ Some k → A
no_some k e = absurd (true≢false (sym (ap is_some e)))

-- an array that is a list marker has no key but that
marker_items : (k : List ℕ) (ds : Items) → list_key_of (array ds) ≡ Some k → keys_in_items ds ≡ []
marker_items k no_items e = refl
marker_items k (item null no_items) e = refl
marker_items k (item (boolean b) no_items) e = refl
marker_items k (item (number n) no_items) e = refl
marker_items k (item (string s) no_items) e = append-nil (piece_keys (cut_of s)) ∙ list_marker_has_no_keys s k e
marker_items k (item (array ds) no_items) e = no_some k e
marker_items k (item (object ms) no_items) e = no_some k e
marker_items k (item null (item d ds)) e = no_some k e
marker_items k (item (boolean b) (item d ds)) e = no_some k e
marker_items k (item (number n) (item d ds)) e = no_some k e
marker_items k (item (string s) (item d ds)) e = no_some k e
marker_items k (item (array xs) (item d ds)) e = no_some k e
marker_items k (item (object ms) (item d ds)) e = no_some k e

same_array : (f g : Known) (o : Option (List ℕ)) (ds : Items) → list_key_of (array ds) ≡ o → (Agree f g (keys_in_items ds) → items_plain f ds ≡ items_plain g ds)
    → Agree f g (list_keys o (keys_in_items ds)) → array_plain f o (items_plain f ds) ≡ array_plain g o (items_plain g ds)
same_array f g None ds e items agree = ap list_of (items agree)
same_array f g (Some k) ds e items agree =
    ap₂ (λ o ps. unwrap_or o (list_of ps)) (agree_first f g k [] agree) (items (subst (Agree f g) (sym (marker_items k ds e)) (agree_none f g)))

-- ---- values

mutual
  pub same_value : (f g : Known) (d : Data) → Agree f g (keys_in d) → value_plain f d ≡ value_plain g d
  same_value f g null agree = refl
  same_value f g (boolean b) agree = refl
  same_value f g (number n) agree = refl
  same_value f g (string s) agree = same_assembled f g (cut_of s) agree
  same_value f g (array ds) agree = same_array f g (list_key_of (array ds)) ds refl (λ a. same_items f g ds a) agree
  same_value f g (object ms) agree = ap object_of (same_members f g ms agree)

  same_items : (f g : Known) (ds : Items) → Agree f g (keys_in_items ds) → items_plain f ds ≡ items_plain g ds
  same_items f g no_items agree = refl
  same_items f g (item d ds) agree =
      ap₂ plain.plain (same_value f g d (agree_left f g (keys_in d) (keys_in_items ds) agree)) (same_items f g ds (agree_right f g (keys_in d) (keys_in_items ds) agree))

  same_members : (f g : Known) (ms : Members) → Agree f g (keys_in_members ms) → members_plain f ms ≡ members_plain g ms
  same_members f g no_members agree = refl
  same_members f g (member k d ms) agree =
      ap₂ (field k) (same_value f g d (agree_left f g (keys_in d) (keys_in_members ms) agree)) (same_members f g ms (agree_right f g (keys_in d) (keys_in_members ms) agree))
