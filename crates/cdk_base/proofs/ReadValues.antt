-- A value that is read has ascending keys, and its numbers are floats or whole of 64 bits.
use Rattle.std.proofs.Common.{◌≡◌, ℕ, zero, suc, ◌^◌, ◌<◌, ◌≤◌, List, Bool, true, false, Option, Some, None, option_map, option_and_then, drop, if◌then◌else◌, refl, ap, subst, arith, true≢false}
use Rattle.std.specs.Prelude.{unwrap_or, Float, slice_index, ◌==◌}
use Rattle.std.proofs.lemmas.Bool.Decides.{nat_tests}
use Rattle.fast_float.specs.Text.{minus, Parts, scan, digits_of, with_sign}
use Rattle.json.specs.Json as json
use Rattle.json.specs.Lex.{tokens}
use Rattle.serde_json.specs.Data.{Num, unsigned, negative, float, Data, null, boolean, number, string, array, object, Items, no_items, item, Members, no_members, member, put}
use Rattle.serde_json.specs.Find.{is_float}
use Rattle.serde_json.specs.Read.{of_json, of_items, of_members, number_of, number_from, read, max_depth}
use Rattle.serde_json.specs.Written.{has_float, items_have_float, members_have_float}
use Rattle.cdk_base.specs.Pretty.{IsWhole, IsOrdered, ItemsAreOrdered, MembersAreOrdered, IsCanonical, ItemsAreCanonical, MembersAreCanonical}
use Rattle.cdk_base.proofs.Canonical.{MembersAreOrdered-put, front_false, back_false}

-- a float, or whole of 64 bits
abbrev pub IsReadNumber : Num → Type 0
IsReadNumber x = is_float x ≡ false → IsWhole x

given : {A : Type 0} (x y : A) → Some x ≡ Some y → x ≡ y
given x y e = ap (λ o. unwrap_or o x) e

mapped : {A B : Type 0} (f : A → B) (o : Option A) (b : B) → option_map f o ≡ Some b → (a : A) × (o ≡ Some a) × (f a ≡ b)
mapped f None b e = cc
mapped f (Some a) b e = (a, refl, given (f a) b e)

chained : {A B : Type 0} (f : A → Option B) (o : Option A) (b : B) → option_and_then f o ≡ Some b → (a : A) × (o ≡ Some a) × (f a ≡ Some b)
chained f None b e = cc
chained f (Some a) b e = (a, refl, e)

from_float : (finite : Bool) (f : Float) (x : Num) → (if finite then Some (float f) else None) ≡ Some x → IsReadNumber x
from_float true f x e = subst IsReadNumber (given (float f) x e) (λ h. absurd (true≢false h))
from_float false f x e = cc

from_unsigned : (fits : Bool) (n : ℕ) (rest : Option Num) (x : Num) → (fits ≡ true → n < 2 ^ 64) → (rest ≡ Some x → IsReadNumber x) → (if fits then Some (unsigned n) else rest) ≡ Some x → IsReadNumber x
from_unsigned true n rest x bound other e = subst IsReadNumber (given (unsigned n) x e) (λ h. bound refl)
from_unsigned false n rest x bound other e = other e

negative_whole : (n : ℕ) → 0 < n → n ≤ 2 ^ 63 → IsWhole (negative (with_sign true n))
negative_whole zero some most = absurd (omega arith)
negative_whole (suc n) some most = omega arith

from_negative : (fits : Bool) (n : ℕ) (rest : Option Num) (x : Num) → (fits ≡ true → (0 < n) × (n ≤ 2 ^ 63)) → (rest ≡ Some x → IsReadNumber x) → (if fits then Some (negative (with_sign true n)) else rest) ≡ Some x → IsReadNumber x
from_negative true n rest x bound other e = subst IsReadNumber (given (negative (with_sign true n)) x e) (λ h. negative_whole n (bound refl).0 (bound refl).1)
from_negative false n rest x bound other e = other e

number_is_read : (sign : Bool) (p : Parts) (x : Num) → number_from sign p ≡ Some x → IsReadNumber x
number_is_read false p x e = from_unsigned _ (digits_of p) _ x (λ t. grind (arith, nat_tests, t)) (from_float _ _ x) e
number_is_read true p x e = from_negative _ (digits_of p) _ x (λ t. (grind (arith, nat_tests, t), grind (arith, nat_tests, t))) (from_float _ _ x) e

either_sign : (minus_first : Bool) (p q : Parts) (x : Num) → (if minus_first then number_from true p else number_from false q) ≡ Some x → IsReadNumber x
either_sign true p q x e = number_is_read true p x e
either_sign false p q x e = number_is_read false q x e

number_read : (s : List ℕ) (x : Num) → number_of s ≡ Some x → IsReadNumber x
unfolding number_of
number_read s x e = either_sign (slice_index s 0 == minus) (scan (drop 1 s)) (scan s) x e

mutual
  value_read : (j : json.Json) (d : Data) → of_json j ≡ Some d → IsOrdered IsReadNumber d
  value_read json.null d e = subst (IsOrdered IsReadNumber) (given null d e) tt
  value_read (json.boolean b) d e = subst (IsOrdered IsReadNumber) (given (boolean b) d e) tt
  value_read (json.number s) d e = let m = mapped number (number_of s) d e in subst (IsOrdered IsReadNumber) m.2 (number_read s m.0 m.1)
  value_read (json.string s) d e = subst (IsOrdered IsReadNumber) (given (string s) d e) tt
  value_read (json.array js) d e = let m = mapped array (of_items js) d e in subst (IsOrdered IsReadNumber) m.2 (items_read js m.0 m.1)
  value_read (json.object ms) d e = let m = mapped object (of_members ms no_members) d e in subst (IsOrdered IsReadNumber) m.2 (members_read ms no_members m.0 tt m.1)

  items_read : (js : json.Items) (ds : Items) → of_items js ≡ Some ds → ItemsAreOrdered IsReadNumber ds
  items_read json.no_items ds e = subst (ItemsAreOrdered IsReadNumber) (given no_items ds e) tt
  items_read (json.item j js) ds e =
      let first = chained (λ d. option_map (item d) (of_items js)) (of_json j) ds e in
      let rest = mapped (item first.0) (of_items js) ds first.2 in
      subst (ItemsAreOrdered IsReadNumber) rest.2 (value_read j first.0 first.1, items_read js rest.0 rest.1)

  members_read : (ms : json.Members) (found result : Members) → MembersAreOrdered IsReadNumber found → of_members ms found ≡ Some result → MembersAreOrdered IsReadNumber result
  members_read json.no_members found result ordered e = subst (MembersAreOrdered IsReadNumber) (given found result e) ordered
  members_read (json.member k j ms) found result ordered e =
      let first = chained (λ d. of_members ms (put k d found)) (of_json j) result e in
      members_read ms (put k first.0 found) result (MembersAreOrdered-put IsReadNumber k first.0 found (value_read j first.0 first.1) ordered) first.2

-- a value that is read has ascending keys, and numbers that are floats or whole of 64 bits
pub IsOrdered-read : (text : List ℕ) (d : Data) → read text ≡ Some d → IsOrdered IsReadNumber d
IsOrdered-read text d e =
    let whole = chained of_json (option_and_then (λ p. json.if_last p.0 p.1) (json.value max_depth (tokens text))) d e in
    value_read whole.0 d whole.2

mutual
  pub IsCanonical-ordered : (d : Data) → IsOrdered IsReadNumber d → has_float d ≡ false → IsCanonical d
  IsCanonical-ordered null h f = tt
  IsCanonical-ordered (boolean b) h f = tt
  IsCanonical-ordered (number x) h f = h f
  IsCanonical-ordered (string s) h f = tt
  IsCanonical-ordered (array ds) h f = items_canonical ds h f
  IsCanonical-ordered (object ms) h f = MembersAreCanonical-ordered ms h f

  items_canonical : (ds : Items) → ItemsAreOrdered IsReadNumber ds → items_have_float ds ≡ false → ItemsAreCanonical ds
  items_canonical no_items h f = tt
  items_canonical (item d ds) h f = (IsCanonical-ordered d h.0 (front_false (has_float d) _ f), items_canonical ds h.1 (back_false (has_float d) _ f))

  pub MembersAreCanonical-ordered : (ms : Members) → MembersAreOrdered IsReadNumber ms → members_have_float ms ≡ false → MembersAreCanonical ms
  MembersAreCanonical-ordered no_members h f = tt
  MembersAreCanonical-ordered (member k d ms) h f = (IsCanonical-ordered d h.0 (front_false (has_float d) _ f), (h.1.0, MembersAreCanonical-ordered ms h.1.1 (back_false (has_float d) _ f)))
