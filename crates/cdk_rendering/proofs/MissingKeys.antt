-- What is missing in a marked value is what is missing in the tokens of its keys, one after another.
use Rattle.std.proofs.Common.{◌≡◌, ℕ, List, [], ◌∷◌, ◌++◌, Option, Some, None, inl, inr, refl, sym, ap, ap₂, ◌∙◌, subst, append_assoc, append-nil}
use Rattle.std.specs.List.{Contains}
use Rattle.std.specs.Option.{unwrap_or}
use Rattle.std.proofs.lemmas.List.Elements.{Contains-append_cases}
use Rattle.serde_json.specs.Data.{Data, null, boolean, number, string, array, object, Items, no_items, item, Members, no_members, member}
use Rattle.cdk_expansion.proofs.MentionContains.{contains_first, contains_later, contains_no, first_or_rest}
use Rattle.cdk_expansion.proofs.MentionListKeys.{list_marker_has_no_keys}
use Rattle.cdk_expansion.specs.Mentions.{keys_in, keys_in_items, keys_in_members, list_keys, piece_keys}
use Rattle.cdk_markers.specs.Cut.{cut_of}
use Rattle.cdk_markers.specs.ListKey.{list_key_of}
use Rattle.cdk_markers.specs.Pieces.{Piece, literal, key}
use Rattle.cdk_rendering.specs.Folding.{Known}
use Rattle.cdk_rendering.specs.Missing.{array_missing, items_missing, members_missing, pieces_missing, value_missing}

abbrev keys_missing : Known (List ℕ) → List (List ℕ) → List ℕ
keys_missing known [] = []
keys_missing known (k ∷ ks) = unwrap_or (known k) [] ++ keys_missing known ks

both_missing : (known : Known (List ℕ)) (ks js : List (List ℕ)) → keys_missing known (ks ++ js) ≡ keys_missing known ks ++ keys_missing known js
both_missing known [] js = refl
both_missing known (k ∷ ks) js =
    ap (λ (ns : List ℕ). unwrap_or (known k) [] ++ ns) (both_missing known ks js) ∙ sym (append_assoc (unwrap_or (known k) []) (keys_missing known ks) (keys_missing known js))

pieces_by_keys : (known : Known (List ℕ)) (ps : List Piece) → pieces_missing known ps ≡ keys_missing known (piece_keys ps)
pieces_by_keys known [] = refl
pieces_by_keys known (literal l ∷ ps) = pieces_by_keys known ps
pieces_by_keys known (key k ∷ ps) = ap (λ (ns : List ℕ). unwrap_or (known k) [] ++ ns) (pieces_by_keys known ps)

-- ---- arrays

-- nothing is missing in the text of a list marker: it holds no text marker
marker_items : (known : Known (List ℕ)) (k : List ℕ) (ds : Items) → list_key_of (array ds) ≡ Some k → items_missing known ds ≡ []
marker_items known k no_items e = refl
marker_items known k (item (string s) no_items) e =
    append-nil (pieces_missing known (cut_of s)) ∙ (pieces_by_keys known (cut_of s) ∙ ap (keys_missing known) (list_marker_has_no_keys s k e))
marker_items known k ds e = absurd (cc e)

-- so an array whose marker no token has misses nothing
array_by_keys : (known : Known (List ℕ)) (o : Option (List ℕ)) (ds : Items) → list_key_of (array ds) ≡ o → items_missing known ds ≡ keys_missing known (keys_in_items ds)
    → array_missing known o (items_missing known ds) ≡ keys_missing known (list_keys o (keys_in_items ds))
array_by_keys known None ds e items = items
array_by_keys known (Some k) ds e items = ap (λ (ns : List ℕ). unwrap_or (known k) ns) (marker_items known k ds e) ∙ sym (append-nil (unwrap_or (known k) []))

-- ---- values

appended : {A : Type 0} (xs ys xs' ys' : List A) → xs ≡ xs' → ys ≡ ys' → xs ++ ys ≡ xs' ++ ys'
appended xs ys xs' ys' e f = ap₂ (λ vs ws. vs ++ ws) e f

mutual
  value_by_keys : (known : Known (List ℕ)) (d : Data) → value_missing known d ≡ keys_missing known (keys_in d)
  value_by_keys known null = refl
  value_by_keys known (boolean b) = refl
  value_by_keys known (number n) = refl
  value_by_keys known (string s) = pieces_by_keys known (cut_of s)
  value_by_keys known (array ds) = array_by_keys known (list_key_of (array ds)) ds refl (items_by_keys known ds)
  value_by_keys known (object ms) = members_by_keys known ms

  items_by_keys : (known : Known (List ℕ)) (ds : Items) → items_missing known ds ≡ keys_missing known (keys_in_items ds)
  items_by_keys known no_items = refl
  items_by_keys known (item d ds) =
      appended (value_missing known d) (items_missing known ds) (keys_missing known (keys_in d)) (keys_missing known (keys_in_items ds)) (value_by_keys known d) (items_by_keys known ds)
      ∙ sym (both_missing known (keys_in d) (keys_in_items ds))

  members_by_keys : (known : Known (List ℕ)) (ms : Members) → members_missing known ms ≡ keys_missing known (keys_in_members ms)
  members_by_keys known no_members = refl
  members_by_keys known (member k d ms) =
      appended (value_missing known d) (members_missing known ms) (keys_missing known (keys_in d)) (keys_missing known (keys_in_members ms)) (value_by_keys known d) (members_by_keys known ms)
      ∙ sym (both_missing known (keys_in d) (keys_in_members ms))

-- ---- lazies that are missing

-- in the token of one of the keys
pub record MissedBy (known : Known (List ℕ)) (ks : List (List ℕ)) (m : ℕ) : Type 0 where
  pub by : List ℕ
  pub is_there : Contains ks by
  pub missed : Contains (unwrap_or (known by) []) m

missed_by : (known : Known (List ℕ)) (ks : List (List ℕ)) (m : ℕ) → Contains (keys_missing known ks) m → MissedBy known ks m
missed_by known [] m c = absurd (contains_no m c)
missed_by known (k ∷ ks) m c = elim (Contains-append_cases (unwrap_or (known k) []) (keys_missing known ks) m c) [
  | inl here ↦ record { by = k; is_there = contains_first k ks; missed = here }
  | inr rest ↦ let r = missed_by known ks m rest in record { by = r.by; is_there = contains_later k ks r.by r.is_there; missed = r.missed }
]

-- where two lists together have nothing, neither has
pub neither : (xs ys : List ℕ) → xs ++ ys ≡ [] → (xs ≡ []) × (ys ≡ [])
neither [] ys e = (refl, e)
neither (x ∷ xs) ys e = absurd (cc e)

none_missed : (known : Known (List ℕ)) (ks : List (List ℕ)) (k : List ℕ) → keys_missing known ks ≡ [] → Contains ks k → unwrap_or (known k) [] ≡ []
none_missed known [] k e c = absurd (contains_no k c)
none_missed known (j ∷ ks) k e c =
    let both = neither (unwrap_or (known j) []) (keys_missing known ks) e in
    elim (first_or_rest j ks k c) [
      | inl same ↦ ap (λ i. unwrap_or (known i) []) same ∙ both.0
      | inr rest ↦ none_missed known ks k both.1 rest
    ]

pub value_missed_by : (known : Known (List ℕ)) (d : Data) (m : ℕ) → Contains (value_missing known d) m → MissedBy known (keys_in d) m
value_missed_by known d m c = missed_by known (keys_in d) m (subst (λ ns. Contains ns m) (value_by_keys known d) c)

pub value_misses_none : (known : Known (List ℕ)) (d : Data) (k : List ℕ) → value_missing known d ≡ [] → Contains (keys_in d) k → unwrap_or (known k) [] ≡ []
value_misses_none known d k e c = none_missed known (keys_in d) k (sym (value_by_keys known d) ∙ e) c
