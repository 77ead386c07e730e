-- Plain forms that are well and ordered, the object that a field is put into, and literals.
use Rattle.std.proofs.Common.{◌≡◌, ℕ, List, false, Ordering, Less, Equal, Greater, nat_cmp, pos, negsuc, refl, ap, ◌∙◌}
use Rattle.std.specs.Cmp.Lexicographic.{slice_cmp}
use Rattle.std.specs.Ordering.{match_ordering, ordering_reverse}
use Rattle.std.proofs.lemmas.Cmp.{nat_list_cmp_total}
use Rattle.serde_json.specs.Data.{unsigned, negative, float, Data, null, boolean, number, string, array, object, Items, no_items, item, Members, no_members, member}
use Rattle.cdk_base.specs.Json.{is_intrinsic_key}
use Rattle.cdk_base.specs.Pretty.{AllAbove, ItemsAreCanonical, MembersAreCanonical}
use Rattle.cdk_expansion.specs.Own.{literal_fields, literal_plain, literal_plains, put_field}
use Rattle.cdk_premises.specs.Formed.{IsFormedValue}
use Rattle.cdk_meaning.specs.Canonical.{AreOrdered, FieldsAreOrdered, IsOrdered, KeysAbove}
use Rattle.cdk_meaning.specs.Literals.{AreLiterals, MembersAreLiterals}
use Rattle.cdk_plain.specs.Plain.{AreWell, Fields, FieldsAreWell, IsWell, Plain, Plains, field, no_fields}

abbrev pub IsFit : Plain → Type 0
IsFit p = IsWell p × IsOrdered p

abbrev pub AreFit : Plains → Type 0
AreFit ps = AreWell ps × AreOrdered ps

abbrev pub FieldsAreFit : Fields → Type 0
FieldsAreFit fs = FieldsAreWell fs × FieldsAreOrdered fs

-- ---- keys

turned : (k l : List ℕ) (o : Ordering) → slice_cmp nat_cmp k l ≡ o → slice_cmp nat_cmp l k ≡ ordering_reverse o
turned k l o e = nat_list_cmp_total.antisymm l k ∙ ap ordering_reverse e

above_trans : (k l m : List ℕ) → slice_cmp nat_cmp l k ≡ Greater → slice_cmp nat_cmp m l ≡ Greater → slice_cmp nat_cmp m k ≡ Greater
above_trans k l m h g = turned k m Less (nat_list_cmp_total.trans k l m (turned l k Greater h) (turned m l Greater g))

-- what is above a key that is above k is above k
above_all : (k l : List ℕ) (fs : Fields) → slice_cmp nat_cmp l k ≡ Greater → KeysAbove l fs → KeysAbove k fs
above_all k l no_fields h above = tt
above_all k l (field m p fs) h above = (above_trans k l m h above.0, above_all k l fs h above.1)

-- ---- a field put into an object

either : (P : Fields → Type 0) (o : Ordering) (a b c : Fields) → (o ≡ Less → P a) → (o ≡ Equal → P b) → (o ≡ Greater → P c) → P (match_ordering o a b c)
either P Less a b c p q r = p refl
either P Equal a b c p q r = q refl
either P Greater a b c p q r = r refl

put_above : (l k : List ℕ) (p : Plain) (fs : Fields) → slice_cmp nat_cmp k l ≡ Greater → KeysAbove l fs → KeysAbove l (put_field k p fs)
put_above l k p no_fields h above = (h, tt)
put_above l k p (field m q fs) h above =
    either (KeysAbove l) (slice_cmp nat_cmp k m) _ _ _ (λ o. (h, above)) (λ o. above) (λ o. (above.0, put_above l k p fs h above.1))

put_ordered : (k : List ℕ) (p : Plain) (fs : Fields) → IsOrdered p → FieldsAreOrdered fs → FieldsAreOrdered (put_field k p fs)
put_ordered k p no_fields h hs = (tt, h, tt)
put_ordered k p (field l q fs) h hs =
    either FieldsAreOrdered (slice_cmp nat_cmp k l) _ _ _
    (λ o. ((turned k l Less o, above_all k l fs (turned k l Less o) hs.0), h, hs))
    (λ o. (hs.0, h, hs.2))
    (λ o. (put_above l k p fs o hs.0, hs.1, put_ordered k p fs h hs.2))

put_well : (k : List ℕ) (p : Plain) (fs : Fields) → is_intrinsic_key k ≡ false → IsWell p → FieldsAreWell fs → FieldsAreWell (put_field k p fs)
put_well k p no_fields f h hs = (f, h, tt)
put_well k p (field l q fs) f h hs =
    either FieldsAreWell (slice_cmp nat_cmp k l) _ _ _ (λ o. (f, h, hs)) (λ o. (hs.0, h, hs.2)) (λ o. (hs.0, hs.1, put_well k p fs f h hs.2))

pub put_fit : (k : List ℕ) (p : Plain) (fs : Fields) → is_intrinsic_key k ≡ false → IsFit p → FieldsAreFit fs → FieldsAreFit (put_field k p fs)
put_fit k p fs f h hs = (put_well k p fs f h.0 hs.0, put_ordered k p fs h.1 hs.1)

-- ---- literals

keys_above : (k : List ℕ) (ms : Members) → AllAbove k ms → KeysAbove k (literal_fields ms)
keys_above k no_members h = tt
keys_above k (member l d ms) h = (h.0, keys_above k ms h.1)

mutual
  pub literal_fit : (d : Data) → IsFormedValue d → IsFit (literal_plain d)
  literal_fit null h = (tt, tt)
  literal_fit (boolean b) h = (tt, tt)
  literal_fit (number (unsigned n)) h = (h.0, tt)
  literal_fit (number (negative (pos n))) h = absurd h.1
  literal_fit (number (negative (negsuc n))) h = (h.0, tt)
  literal_fit (number (float x)) h = absurd h.1
  literal_fit (string s) h = (tt, tt)
  literal_fit (array ds) h = items_fit ds h.0 h.1
  literal_fit (object ms) h = members_fit ms h.0 h.1

  items_fit : (ds : Items) → AreLiterals ds → ItemsAreCanonical ds → AreFit (literal_plains ds)
  items_fit no_items l c = (tt, tt)
  items_fit (item d ds) l c =
      let first = literal_fit d (l.0, c.0) in
      let rest = items_fit ds l.1 c.1 in
      ((first.0, rest.0), (first.1, rest.1))

  members_fit : (ms : Members) → MembersAreLiterals ms → MembersAreCanonical ms → FieldsAreFit (literal_fields ms)
  members_fit no_members l c = (tt, tt)
  members_fit (member k d ms) l c =
      let first = literal_fit d (l.1, c.0) in
      let rest = members_fit ms l.2 c.1.1 in
      ((l.0, first.0, rest.0), (keys_above k ms c.1.0, first.1, rest.1))
