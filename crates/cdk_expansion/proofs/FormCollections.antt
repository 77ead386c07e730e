-- Arrays and objects of values with right markers have right markers.
use Rattle.std.proofs.Common.{◌≡◌, ℕ, List, [], ◌∷◌, false, codes, nat_eq, None, if◌then◌else◌, refl, ap, ◌∙◌, Ordering, Less, Equal, Greater, drop}
use Rattle.std.specs.List.{starts_with}
use Rattle.std.specs.Ordering.{nat_cmp, match_ordering}
use Rattle.std.specs.Cmp.Lexicographic.{slice_cmp}
use Rattle.std.proofs.lemmas.Bool.{or_from, or_parts}
use Rattle.serde_json.specs.Data.{Data, null, boolean, number, string, array, object, Items, no_items, item, Members, no_members, member, put}
use Rattle.cdk_base.specs.Marker.{has_marker, holds_marker, items_hold_marker, members_hold_marker}
use Rattle.cdk_markers.specs.ListKey.{key_closed, list_key_of, list_text_key}
use Rattle.cdk_expansion.proofs.FormPieces.{IsFine, unmarked_is_fine}
use Rattle.cdk_expansion.proofs.LiteralPlain.{two_or_more}
use Rattle.cdk_tokens.specs.Token.{Token}
use Rattle.cdk_tokens.specs.Values.{has_list_mix, has_unknown_list, has_unknown_token, holds, items_have_list_mix, items_have_unknown_token, members_have_list_mix, members_have_unknown_token, unless_list}

abbrev pub AreFine : List Token → Items → Type 0
AreFine ts ds = (items_have_unknown_token ts ds ≡ false) × (items_have_list_mix ds ≡ false)

abbrev pub FieldsAreFine : List Token → Members → Type 0
FieldsAreFine ts ms = (members_have_unknown_token ts ms ≡ false) × (members_have_list_mix ms ≡ false)

pub item_is_fine : (ts : List Token) (d : Data) (ds : Items) → IsFine ts d → AreFine ts ds → AreFine ts (item d ds)
item_is_fine ts d ds first rest = (or_from _ _ (first.0) (rest.0), or_from _ _ (first.1) (rest.1))

pub member_is_fine : (ts : List Token) (k : List ℕ) (d : Data) (ms : Members) → IsFine ts d → FieldsAreFine ts ms → FieldsAreFine ts (member k d ms)
member_is_fine ts k d ms first rest = (or_from _ _ (first.0) (rest.0), or_from _ _ (first.1) (rest.1))

-- ---- arrays

text_is_no_key : (s : List ℕ) → holds (codes "#{Token[") s ≡ false → list_text_key s ≡ None
text_is_no_key [] none = refl
text_is_no_key (x ∷ s) none =
    ap (λ b. if b then key_closed (drop 8 (x ∷ s)) else None) ((or_parts (starts_with nat_eq (x ∷ s) (codes "#{Token[")) (holds (codes "#{Token[") s) none).0)

one_is_no_key : (d : Data) → has_list_mix d ≡ false → list_key_of (array (item d no_items)) ≡ None
one_is_no_key null none = refl
one_is_no_key (boolean b) none = refl
one_is_no_key (number n) none = refl
one_is_no_key (string s) none = text_is_no_key s none
one_is_no_key (array ds) none = refl
one_is_no_key (object ms) none = refl

-- an array in whose items no list marker stands is none
items_are_no_key : (ds : Items) → items_have_list_mix ds ≡ false → list_key_of (array ds) ≡ None
items_are_no_key no_items none = refl
items_are_no_key (item d no_items) none = one_is_no_key d ((or_parts (has_list_mix d) false none).0)
items_are_no_key (item d (item e ds)) none = two_or_more d e ds

pub array_is_fine : (ts : List Token) (ds : Items) → AreFine ts ds → IsFine ts (array ds)
array_is_fine ts ds fine =
    let none = items_are_no_key ds (fine.1) in (
      ap (λ o. has_unknown_list ts o (items_have_unknown_token ts ds)) none ∙ fine.0,
      ap (λ o. unless_list o (items_have_list_mix ds)) none ∙ fine.1,
    )

-- ---- members put in

chosen : (P : Members → Type 0) (o : Ordering) (x y z : Members) → P x → P y → P z → P (match_ordering o x y z)
chosen P Less x y z a b c = a
chosen P Equal x y z a b c = b
chosen P Greater x y z a b c = c

pub put_is_fine : (ts : List Token) (k : List ℕ) (d : Data) (ms : Members) → IsFine ts d → FieldsAreFine ts ms → FieldsAreFine ts (put k d ms)
put_is_fine ts k d no_members fine done = member_is_fine ts k d no_members fine done
put_is_fine ts k d (member l e ms) fine done =
    let unknown = or_parts (has_unknown_token ts e) (members_have_unknown_token ts ms) (done.0) in
    let mixed = or_parts (has_list_mix e) (members_have_list_mix ms) (done.1) in
    let rest : FieldsAreFine ts ms = (unknown.1, mixed.1) in
    chosen (FieldsAreFine ts) (slice_cmp nat_cmp k l) (member k d (member l e ms)) (member l d ms) (member l e (put k d ms))
    (member_is_fine ts k d (member l e ms) fine done) (member_is_fine ts l d ms fine rest) (member_is_fine ts l e (put k d ms) (unknown.0, mixed.0) (put_is_fine ts k d ms fine rest))

-- ---- literals of contexts

mutual
  pub literal_is_fine : (ts : List Token) (d : Data) → holds_marker d ≡ false → IsFine ts d
  literal_is_fine ts null none = (refl, refl)
  literal_is_fine ts (boolean b) none = (refl, refl)
  literal_is_fine ts (number n) none = (refl, refl)
  literal_is_fine ts (string s) none = unmarked_is_fine ts s none
  literal_is_fine ts (array ds) none = array_is_fine ts ds (literals_are_fine ts ds none)
  literal_is_fine ts (object ms) none = fields_are_fine ts ms none

  literals_are_fine : (ts : List Token) (ds : Items) → items_hold_marker ds ≡ false → AreFine ts ds
  literals_are_fine ts no_items none = (refl, refl)
  literals_are_fine ts (item d ds) none =
      let parts = or_parts (holds_marker d) (items_hold_marker ds) none in item_is_fine ts d ds (literal_is_fine ts d (parts.0)) (literals_are_fine ts ds (parts.1))

  fields_are_fine : (ts : List Token) (ms : Members) → members_hold_marker ms ≡ false → FieldsAreFine ts ms
  fields_are_fine ts no_members none = (refl, refl)
  fields_are_fine ts (member k d ms) none =
      let more = (or_parts (has_marker k) _ none).1 in
      let parts = or_parts (holds_marker d) (members_hold_marker ms) more in
      member_is_fine ts k d ms (literal_is_fine ts d (parts.0)) (fields_are_fine ts ms (parts.1))
