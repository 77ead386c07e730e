-- What the loops over texts, arrays and objects have rendered, put before the JSON of the rest.
use Rattle.std.proofs.Common.{◌≡◌, ℕ, List, [], ◌∷◌, ◌++◌, Option, Some, None, option_and_then, is_some, unwrap_or, true, false, Less, Greater, nat_cmp, string_bytes, string_cmp, refl, sym, ap, subst, ◌∙◌, append_assoc}
use Rattle.std.specs.Prelude.{⊤}
use Rattle.std.specs.Cmp.Lexicographic.{slice_cmp}
use Rattle.std.specs.List.{AllByRecursion}
use Rattle.std.specs.List.Sorted.{IsStrictlySortedBy}
use Rattle.std.specs.Map.{keys_of}
use Rattle.std.specs.Ordering.{ordering_reverse}
use Rattle.std.proofs.lemmas.Cmp.{nat_list_cmp_total}
use Rattle.serde_json.specs.Data.{Data, array, Items, no_items, item, Members, no_members, member, put}
use Rattle.serde_json.specs.View.{items_view, members_view, view}
use Rattle.serde_json.specs.declared.value.Value.{Value}
use Rattle.serde_json.proofs.Views.{Entry}
use Rattle.cdk_markers.specs.ListKey.{list_key_of}
use Rattle.cdk_markers.specs.Pieces.{Piece}
use Rattle.cdk_rendering.specs.Folding.{Known}
use Rattle.cdk_rendering.specs.Missing.{array_missing, items_missing, value_missing}
use Rattle.cdk_rendering.specs.TokenJson.{array_json, items_json, members_json, piece_json, pieces_json, value_json}

-- ---- lists of values

abbrev pub items_before : List Value → Items → Items
items_before [] rest = rest
items_before (v ∷ vs) rest = item (view v) (items_before vs rest)

pub before_none : (vs : List Value) → items_before vs no_items ≡ items_view vs
before_none [] = refl
before_none (v ∷ vs) = ap (item (view v)) (before_none vs)

before_more : (vs : List Value) (v : Value) (rest : Items) → items_before vs (item (view v) rest) ≡ items_before (vs ++ v ∷ []) rest
before_more [] v rest = refl
before_more (u ∷ vs) v rest = ap (item (view u)) (before_more vs v rest)

-- one more is rendered
one_more : (all rest : Items) (vs new : List Value) (v : Value) (d : Data) → all ≡ items_before vs (item d rest) → view v ≡ d → new ≡ vs ++ v ∷ [] → all ≡ items_before new rest
one_more all rest vs new v d was same more = was ∙ (ap (λ x. items_before vs (item x rest)) (sym same) ∙ (before_more vs v rest ∙ ap (λ xs. items_before xs rest) (sym more)))

module _ (known : Known Data) (all : Items) (vs new : List Value) (v : Value) where
  pub items_then : (d : Data) (rest ds : Items) → all ≡ items_before vs (items_json known ds) → ds ≡ item d rest → view v ≡ value_json known d → new ≡ vs ++ v ∷ []
      → all ≡ items_before new (items_json known rest)
  items_then d rest ds was here same more = one_more all (items_json known rest) vs new v (value_json known d) (was ∙ ap (λ xs. items_before vs (items_json known xs)) here) same more

  pub pieces_then : (p : Piece) (rest ps : List Piece) → all ≡ items_before vs (pieces_json known ps) → ps ≡ p ∷ rest → view v ≡ piece_json known p → new ≡ vs ++ v ∷ []
      → all ≡ items_before new (pieces_json known rest)
  pieces_then p rest ps was here same more = one_more all (pieces_json known rest) vs new v (piece_json known p) (was ∙ ap (λ xs. items_before vs (pieces_json known xs)) here) same more

-- ---- members, put one after another

abbrev pub members_onto : Known Data → Members → Members → Members
members_onto known done no_members = done
members_onto known done (member k d ms) = members_onto known (put k (value_json known d) done) ms

abbrev members_before : Members → Members → Members
members_before no_members rest = rest
members_before (member k d ms) rest = member k d (members_before ms rest)

before_nothing : (ms : Members) → members_before ms no_members ≡ ms
before_nothing no_members = refl
before_nothing (member k d ms) = ap (member k d) (before_nothing ms)

-- the key is above those of the members
abbrev IsAbove : List ℕ → Members → Type 0
IsAbove k no_members = ⊤
IsAbove k (member l d ms) = (slice_cmp nat_cmp k l ≡ Greater) × IsAbove k ms

abbrev AreAbove : List Entry → Members → Type 0
AreAbove [] ms = ⊤
AreAbove (e ∷ es) ms = IsAbove (string_bytes e.0) ms × AreAbove es ms

above_none : (es : List Entry) → AreAbove es no_members
above_none [] = tt
above_none (e ∷ es) = (tt, above_none es)

put_at_end : (k : List ℕ) (d : Data) (ms rest : Members) → IsAbove k ms → members_before (put k d ms) rest ≡ members_before ms (member k d rest)
put_at_end k d no_members rest h = refl
put_at_end k d (member l e ms) rest h = rw (h.0) (ap (member l e) (put_at_end k d ms rest h.1))

above_put : (j k : List ℕ) (d : Data) (ms : Members) → slice_cmp nat_cmp j k ≡ Greater → IsAbove k ms → IsAbove j ms → IsAbove j (put k d ms)
above_put j k d no_members g h i = (g, tt)
above_put j k d (member l e ms) g h i = rw (h.0) (i.0, above_put j k d ms g h.1 i.1)

each_above_put : (e : Entry) (xs : List Entry) (d : Data) (ms : Members) → AllByRecursion (λ y. string_cmp e.0 y ≡ Less) (keys_of xs) → IsAbove (string_bytes e.0) ms → AreAbove xs ms → AreAbove xs (put (string_bytes e.0) d ms)
each_above_put e [] d ms below h i = tt
each_above_put e (x ∷ xs) d ms below h i = (
  above_put (string_bytes x.0) (string_bytes e.0) d ms (nat_list_cmp_total.antisymm (string_bytes x.0) (string_bytes e.0) ∙ ap ordering_reverse below.0) h i.0,
  each_above_put e xs d ms below.1 h i.1,
)

-- in the order of their keys each goes last
onto_sorted : (known : Known Data) (es : List Entry) (done : Members) → IsStrictlySortedBy string_cmp (keys_of es) → AreAbove es done
    → members_onto known done (members_view es) ≡ members_before done (members_json known (members_view es))
unfolding IsStrictlySortedBy
onto_sorted known [] done sorted above = sym (before_nothing done)
onto_sorted known (e ∷ es) done sorted above =
    let k = string_bytes e.0 in
    let d : Data = value_json known (view e.1) in
    onto_sorted known es (put k d done) sorted.1 (each_above_put e es d done sorted.0 above.0 above.1)
    ∙ put_at_end k d done (members_json known (members_view es)) above.0

pub members_in_order : (known : Known Data) (es : List Entry) → IsStrictlySortedBy string_cmp (keys_of es) → members_onto known no_members (members_view es) ≡ members_json known (members_view es)
members_in_order known es sorted = onto_sorted known es no_members sorted (above_none es)

-- ---- arrays that may be list markers

pub unknown_array : (known : Known Data) (d : Data) (ds : Items) → d ≡ array ds → None ≡ option_and_then known (list_key_of d) → array (items_json known ds) ≡ value_json known d
unknown_array known d ds seen e =
    let P : Data → Type 0 = λ x. None ≡ option_and_then known (list_key_of x) → array (items_json known ds) ≡ value_json known x in
    subst P (sym seen) (unknown (list_key_of (array ds))) e
  where
    unknown : (o : Option (List ℕ)) → None ≡ option_and_then known o → array (items_json known ds) ≡ array_json known o (items_json known ds)
    unknown None h = refl
    unknown (Some k) h = ap (λ x. unwrap_or x (array (items_json known ds))) h

found_of : (o : Option (List ℕ)) (ns : List ℕ) → is_some o ≡ true → unwrap_or o [] ≡ unwrap_or o ns
found_of None ns h = cc
found_of (Some ms) ns h = refl

none_of : (o : Option (List ℕ)) (ns : List ℕ) → is_some o ≡ false → unwrap_or o [] ++ ns ≡ unwrap_or o ns
none_of None ns h = refl
none_of (Some ms) ns h = cc

-- what is missing is known of the same keys as the JSON
module _ (known : Known Data) (lost : Known (List ℕ)) (same : (k : List ℕ) → is_some (known k) ≡ is_some (lost k)) where
  found_key : (o : Option (List ℕ)) (x : Data) (ns : List ℕ) → Some x ≡ option_and_then known o → unwrap_or (option_and_then lost o) [] ≡ array_missing lost o ns
  found_key None x ns e = cc
  found_key (Some k) x ns e = found_of (lost k) ns (sym (ap is_some e ∙ same k))

  unknown_key : (o : Option (List ℕ)) (ns : List ℕ) → None ≡ option_and_then known o → unwrap_or (option_and_then lost o) [] ++ ns ≡ array_missing lost o ns
  unknown_key None ns e = refl
  unknown_key (Some k) ns e = none_of (lost k) ns (sym (ap is_some e ∙ same k))

  pub found_missing : (d : Data) (ds : Items) (x : Data) → d ≡ array ds → Some x ≡ option_and_then known (list_key_of d)
      → unwrap_or (option_and_then lost (list_key_of d)) [] ≡ value_missing lost d
  found_missing d ds x seen e =
      let P : Data → Type 0 = λ y. Some x ≡ option_and_then known (list_key_of y) → unwrap_or (option_and_then lost (list_key_of y)) [] ≡ value_missing lost y in
      subst P (sym seen) (found_key (list_key_of (array ds)) x (items_missing lost ds)) e

  pub unknown_missing : (d : Data) (ds : Items) → d ≡ array ds → None ≡ option_and_then known (list_key_of d)
      → unwrap_or (option_and_then lost (list_key_of d)) [] ++ items_missing lost ds ≡ value_missing lost d
  unknown_missing d ds seen e =
      let P : Data → Type 0 = λ y. None ≡ option_and_then known (list_key_of y) → unwrap_or (option_and_then lost (list_key_of y)) [] ++ items_missing lost ds ≡ value_missing lost y in
      subst P (sym seen) (unknown_key (list_key_of (array ds)) (items_missing lost ds)) e

-- ---- what is missing, put behind what was

pub missing_then : (all old new own rest left : List ℕ) → all ≡ old ++ left → left ≡ own ++ rest → new ≡ old ++ own → all ≡ new ++ rest
missing_then all old new own rest left was here more = was ∙ (ap (λ ns. old ++ ns) here ∙ (sym (append_assoc old own rest) ∙ ap (λ ns. ns ++ rest) (sym more)))

pub missing_of_two : (old between new first second both : List ℕ) → between ≡ old ++ first → new ≡ between ++ second → first ++ second ≡ both → new ≡ old ++ both
missing_of_two old between new first second both one two whole = two ∙ (ap (λ ns. ns ++ second) one ∙ (append_assoc old first second ∙ ap (λ ns. old ++ ns) whole))

pub missing_as : (old new own both : List ℕ) → new ≡ old ++ own → own ≡ both → new ≡ old ++ both
missing_as old new own both more same = more ∙ ap (λ ns. old ++ ns) same

pub missing_of_known : (o : Option (List ℕ)) (old new own : List ℕ) → new ≡ old ++ own → o ≡ Some own → new ≡ old ++ unwrap_or o []
missing_of_known o old new own more known = more ∙ ap (λ x. old ++ unwrap_or x []) (sym known)
