-- Values that are read or built by `put` are canonical, and what `put` keeps.
use Rattle.std.proofs.Common.{◌≡◌, ℕ, ◌≤◌, List, Bool, true, false, ◌||◌, Ordering, Less, Equal, Greater, nat_cmp, is_eq, refl, sym, ap, ◌∙◌, arith, true≢false}
use Rattle.std.specs.Ordering.{match_ordering, ordering_reverse}
use Rattle.std.specs.Cmp.Lexicographic.{slice_cmp}
use Rattle.std.proofs.lemmas.Cmp.{nat_list_cmp_total}
use Rattle.std.proofs.lemmas.Map.Text.{is_eq-slice_cmp}
use Rattle.std.proofs.lemmas.Slice.Eq.{bytes_eq-Decides}
use Rattle.serde_json.specs.Data.{Num, unsigned, negative, float, Data, null, boolean, number, string, array, object, Items, no_items, item, Members, no_members, member, put, depth, members_depth}
use Rattle.serde_json.specs.Find.{is_float}
use Rattle.serde_json.specs.Written.{has_float, items_have_float, members_have_float}
use Rattle.cdk_base.specs.Marker.{has_marker, holds_marker, members_hold_marker}
use Rattle.cdk_base.specs.Pretty.{IsWhole, AllAbove, IsOrdered, MembersAreOrdered, IsCanonical, ItemsAreCanonical, MembersAreCanonical}

either : (P : Members → Type 0) (o : Ordering) (a b c : Members) → (o ≡ Less → P a) → (o ≡ Equal → P b) → (o ≡ Greater → P c) → P (match_ordering o a b c)
either P Less a b c p q r = p refl
either P Equal a b c p q r = q refl
either P Greater a b c p q r = r refl

same_key : (k l : List ℕ) → slice_cmp nat_cmp k l ≡ Equal → k ≡ l
same_key k l e = (bytes_eq-Decides k l).0 (sym (is_eq-slice_cmp k l) ∙ ap is_eq e)

turned : (k l : List ℕ) (o : Ordering) → slice_cmp nat_cmp k l ≡ o → slice_cmp nat_cmp l k ≡ ordering_reverse o
turned k l o e = nat_list_cmp_total.antisymm l k ∙ ap ordering_reverse e

above_trans : (k l m : List ℕ) → slice_cmp nat_cmp l k ≡ Greater → slice_cmp nat_cmp m l ≡ Greater → slice_cmp nat_cmp m k ≡ Greater
above_trans k l m h g = turned k m Less (nat_list_cmp_total.trans k l m (turned l k Greater h) (turned m l Greater g))

-- what is above a key that is above k is above k
above_all : (k l : List ℕ) (ms : Members) → slice_cmp nat_cmp l k ≡ Greater → AllAbove l ms → AllAbove k ms
above_all k l no_members h above = tt
above_all k l (member m d ms) h above = (above_trans k l m h above.0, above_all k l ms h above.1)

pub AllAbove-put : (l k : List ℕ) (d : Data) (ms : Members) → slice_cmp nat_cmp k l ≡ Greater → AllAbove l ms → AllAbove l (put k d ms)
AllAbove-put l k d no_members h above = (h, tt)
AllAbove-put l k d (member m e ms) h above =
    either (AllAbove l) (slice_cmp nat_cmp k m) _ _ _ (λ o. (h, above)) (λ o. above) (λ o. (above.0, AllAbove-put l k d ms h above.1))

-- an object that a member is put into stays ordered
pub MembersAreOrdered-put : (W : Num → Type 0) (k : List ℕ) (d : Data) (ms : Members) → IsOrdered W d → MembersAreOrdered W ms → MembersAreOrdered W (put k d ms)
MembersAreOrdered-put W k d no_members h hs = (h, (tt, tt))
MembersAreOrdered-put W k d (member l e ms) h hs =
    either (MembersAreOrdered W) (slice_cmp nat_cmp k l) _ _ _
    (λ o. (h, ((turned k l Less o, above_all k l ms (turned k l Less o) hs.1.0), hs)))
    (λ o. (h, hs.1))
    (λ o. (hs.0, (AllAbove-put l k d ms o hs.1.0, MembersAreOrdered-put W k d ms h hs.1.1)))

-- how deep an object is that a member is put into
pub members_depth-put : (n : ℕ) (k : List ℕ) (d : Data) (ms : Members) → depth d ≤ n → members_depth ms ≤ n → members_depth (put k d ms) ≤ n
members_depth-put n k d no_members h hs = omega arith
members_depth-put n k d (member l e ms) h hs =
    let P : Members → Type 0 = λ x. members_depth x ≤ n in
    either P (slice_cmp nat_cmp k l) _ _ _ (λ o. omega arith) (λ o. omega arith)
    (λ o. let later = members_depth-put n k d ms h (omega arith) in omega (arith, later))

pub front_false : (a b : Bool) → (a || b) ≡ false → a ≡ false
front_false true b h = h
front_false false b h = refl

pub back_false : (a b : Bool) → (a || b) ≡ false → b ≡ false
back_false true b h = absurd (true≢false h)
back_false false b h = h

pub or_false : (a b : Bool) → a ≡ false → b ≡ false → (a || b) ≡ false
or_false true b h g = h
or_false false b h g = g

-- no marker begins in an object that a member without one is put into
pub members_hold_marker-put : (k : List ℕ) (d : Data) (ms : Members) → has_marker k ≡ false → holds_marker d ≡ false → members_hold_marker ms ≡ false → members_hold_marker (put k d ms) ≡ false
members_hold_marker-put k d no_members f g h = or_false (has_marker k) _ f (or_false (holds_marker d) false g refl)
members_hold_marker-put k d (member l e ms) f g h =
    let P : Members → Type 0 = λ x. members_hold_marker x ≡ false in
    let l_free = front_false (has_marker l) _ h in
    let rest = back_false (has_marker l) _ h in
    let e_free = front_false (holds_marker e) _ rest in
    let ms_free = back_false (holds_marker e) _ rest in
    either P (slice_cmp nat_cmp k l) _ _ _
    (λ o. or_false (has_marker k) _ f (or_false (holds_marker d) _ g h))
    (λ o. or_false (has_marker l) _ l_free (or_false (holds_marker d) _ g ms_free))
    (λ o. or_false (has_marker l) _ l_free (or_false (holds_marker e) _ e_free (members_hold_marker-put k d ms f g ms_free)))

-- ---- a canonical value has no float

not_float : (x : Num) → IsWhole x → is_float x ≡ false
not_float (unsigned n) h = refl
not_float (negative z) h = refl
not_float (float x) h = absurd h

mutual
  pub has_float-canonical : (d : Data) → IsCanonical d → has_float d ≡ false
  has_float-canonical null h = refl
  has_float-canonical (boolean b) h = refl
  has_float-canonical (number x) h = not_float x h
  has_float-canonical (string s) h = refl
  has_float-canonical (array ds) h = items_float ds h
  has_float-canonical (object ms) h = members_float ms h

  items_float : (ds : Items) → ItemsAreCanonical ds → items_have_float ds ≡ false
  items_float no_items h = refl
  items_float (item d ds) h = or_false (has_float d) _ (has_float-canonical d h.0) (items_float ds h.1)

  members_float : (ms : Members) → MembersAreCanonical ms → members_have_float ms ≡ false
  members_float no_members h = refl
  members_float (member k d ms) h = or_false (has_float d) _ (has_float-canonical d h.0) (members_float ms h.1.1)
