-- Entries are found by their names.
use Rattle.std.proofs.Common.{arith, ◌+◌, sym, ◌≡◌, ℕ, suc, List, [], ◌∷◌, length, map, true, false, Some, None, refl, ap, ◌∙◌, subst, inl, inr}
use Rattle.std.specs.Prelude.{bytes_eq}
use Rattle.std.specs.Ordering.{nat_cmp, match_ordering, ordering_reverse}
use Rattle.std.specs.Cmp.Lexicographic.{slice_cmp}
use Rattle.std.specs.declared.cmp.Ordering.{Ordering}
use Rattle.std.specs.declared.cmp.Ordering.TheVariants.{Less, Equal, Greater}
use Rattle.std.proofs.lemmas.Cmp.{nat_list_cmp_total}
use Rattle.serde_json.specs.Data.{Data, Members, no_members, member, put}
use Rattle.serde_json.specs.Find.{get_member}
use Rattle.serde_json.proofs.Views.{get_member-put, get_member-put_other}
use Rattle.cdk_base.specs.Pretty.{AllAbove, IsCanonical, MembersAreCanonical}
use Rattle.cdk_eval.specs.Conditions.{count}
use Rattle.cdk_eval.specs.Reach.{is_among}
use Rattle.cdk_meaning.specs.Names.{AreDistinct, IsIn, Each}
use Rattle.cdk_meaning.specs.Sections.{IsSection, built, filled, SectionsHold}
use Rattle.cdk_meaning.proofs.NameLists.{same_bytes, neither, is_named}

-- ---- the keys stay in order

flip_less : (k l : List ℕ) → slice_cmp nat_cmp k l ≡ Less → slice_cmp nat_cmp l k ≡ Greater
flip_less k l h = nat_list_cmp_total.antisymm l k ∙ ap ordering_reverse h

flip_greater : (k l : List ℕ) → slice_cmp nat_cmp k l ≡ Greater → slice_cmp nat_cmp l k ≡ Less
flip_greater k l h = nat_list_cmp_total.antisymm l k ∙ ap ordering_reverse h

above_trans : (k l j : List ℕ) → slice_cmp nat_cmp l k ≡ Greater → slice_cmp nat_cmp j l ≡ Greater → slice_cmp nat_cmp j k ≡ Greater
above_trans k l j h g = flip_less k j (nat_list_cmp_total.trans k l j (flip_greater l k h) (flip_greater j l g))

all_above : (k l : List ℕ) (ms : Members) → slice_cmp nat_cmp l k ≡ Greater → AllAbove l ms → AllAbove k ms
all_above k l no_members h a = tt
all_above k l (member j d ms) h a = (above_trans k l j h a.0, all_above k l ms h a.1)

above_put : (k l : List ℕ) (d : Data) (ms : Members) → slice_cmp nat_cmp k l ≡ Greater → AllAbove l ms → AllAbove l (put k d ms)
above_put k l d no_members h a = (h, tt)
above_put k l d (member j e ms) h a = at (slice_cmp nat_cmp k j) (above_put k l d ms h a.1)
  where
    at : (o : Ordering) → AllAbove l (put k d ms) → AllAbove l (match_ordering o (member k d (member j e ms)) (member j d ms) (member j e (put k d ms)))
    at Less b = (h, a)
    at Equal b = a
    at Greater b = (a.0, b)

put_ordered : (k : List ℕ) (d : Data) (ms : Members) → IsCanonical d → MembersAreCanonical ms → MembersAreCanonical (put k d ms)
put_ordered k d no_members h o = (h, (tt, tt))
put_ordered k d (member l e ms) h o = at (slice_cmp nat_cmp k l) refl (put_ordered k d ms h o.1.1)
  where
    at : (c : Ordering) → slice_cmp nat_cmp k l ≡ c → MembersAreCanonical (put k d ms) → MembersAreCanonical (match_ordering c (member k d (member l e ms)) (member l d ms) (member l e (put k d ms)))
    at Less is b = (h, ((flip_less k l is, all_above k l ms (flip_less k l is) o.1.0), o))
    at Equal is b = (h, o.1)
    at Greater is b = (o.0, (above_put k l d ms is o.1.0, b))

-- ---- a new key

pub put_counted : (k : List ℕ) (d : Data) (ms : Members) → get_member k ms ≡ None → count (put k d ms) ≡ suc (count ms)
put_counted k d no_members h = refl
put_counted k d (member l e ms) h = at (slice_cmp nat_cmp k l) h (put_counted k d ms)
  where
    at : (c : Ordering) → match_ordering c (get_member k ms) (Some e) (get_member k ms) ≡ None → (get_member k ms ≡ None → count (put k d ms) ≡ suc (count ms)) → count (match_ordering c (member k d (member l e ms)) (member l d ms) (member l e (put k d ms))) ≡ suc (suc (count ms))
    at Less g later = refl
    at Equal g later = cc
    at Greater g later = ap suc (later g)

zero-add : (n : ℕ) → 0 + n ≡ n
zero-add n = omega arith

add_zero : (n : ℕ) → n + 0 ≡ n
add_zero n = omega arith

suc_right : (n m : ℕ) → n + suc m ≡ suc n + m
suc_right n m = omega arith

-- ---- the entries are found

module _ (name : ℕ → List ℕ) (entry : ℕ → Data) where
  pub found_at : (n : ℕ) (ns : List ℕ) → AreDistinct (map name ns) → IsIn n ns → get_member (name n) (built name entry ns) ≡ Some (entry n)
  found_at n [] d h = absurd h
  found_at n (m ∷ ns) d (inl h) = subst (λ (k : ℕ). get_member (name k) (put (name m) (entry m) (built name entry ns)) ≡ Some (entry k)) h (get_member-put (name m) (entry m) (built name entry ns))
  found_at n (m ∷ ns) d (inr h) =
      get_member-put_other (name n) (name m) (entry m) (built name entry ns) (λ e. let t = is_named name n ns h in let f : is_among (name n) (map name ns) ≡ false = rw e d.0 in cc (t, f)) ∙ found_at n ns d.1 h

  pub lacked : (k : List ℕ) (ns : List ℕ) → is_among k (map name ns) ≡ false → get_member k (built name entry ns) ≡ None
  lacked k [] h = refl
  lacked k (m ∷ ns) h =
      let p = neither (bytes_eq k (name m)) (is_among k (map name ns)) h in
      get_member-put_other k (name m) (entry m) (built name entry ns) (λ e. let t : bytes_eq k (name m) ≡ true = rw e (same_bytes (name m)) in cc (t, p.0)) ∙ lacked k ns p.1

  pub as_many : (ns : List ℕ) → AreDistinct (map name ns) → count (built name entry ns) ≡ length ns
  as_many [] d = refl
  as_many (m ∷ ns) d = put_counted (name m) (entry m) (built name entry ns) (lacked (name m) ns d.0) ∙ ap suc (as_many ns d.1)

  in_order : (ns : List ℕ) → Each (λ n. IsCanonical (entry n)) ns → MembersAreCanonical (built name entry ns)
  in_order [] h = tt
  in_order (m ∷ ns) h = put_ordered (name m) (entry m) (built name entry ns) h.0 (in_order ns h.1)

  pub built_is_section : (ns : List ℕ) → AreDistinct (map name ns) → IsSection name entry ns (built name entry ns)
  built_is_section ns d = record { found = λ n i. found_at n ns d i; lacks = λ k l. lacked k ns l; counted = as_many ns d }

  -- ---- from the first on

  filled_other : (k : List ℕ) (ns : List ℕ) (ms : Members) → is_among k (map name ns) ≡ false → get_member k (filled name entry ns ms) ≡ get_member k ms
  filled_other k [] ms h = refl
  filled_other k (m ∷ ns) ms h =
      let p = neither (bytes_eq k (name m)) (is_among k (map name ns)) h in
      filled_other k ns (put (name m) (entry m) ms) p.1 ∙ get_member-put_other k (name m) (entry m) ms (λ e. let t : bytes_eq k (name m) ≡ true = rw e (same_bytes (name m)) in cc (t, p.0))

  filled_found : (n : ℕ) (ns : List ℕ) (ms : Members) → AreDistinct (map name ns) → IsIn n ns → get_member (name n) (filled name entry ns ms) ≡ Some (entry n)
  filled_found n [] ms d i = absurd i
  filled_found n (m ∷ ns) ms d (inl h) =
      subst (λ (k : ℕ). get_member (name k) (filled name entry ns (put (name m) (entry m) ms)) ≡ Some (entry k)) h (filled_other (name m) ns (put (name m) (entry m) ms) d.0 ∙ get_member-put (name m) (entry m) ms)
  filled_found n (m ∷ ns) ms d (inr i) = filled_found n ns (put (name m) (entry m) ms) d.1 i

  still_new : (m : ℕ) (ns : List ℕ) (ms : Members) → is_among (name m) (map name ns) ≡ false → Each (λ n. get_member (name n) ms ≡ None) ns → Each (λ n. get_member (name n) (put (name m) (entry m) ms) ≡ None) ns
  still_new m [] ms h new = tt
  still_new m (n ∷ ns) ms h new =
      let p = neither (bytes_eq (name m) (name n)) (is_among (name m) (map name ns)) h in
      (get_member-put_other (name n) (name m) (entry m) ms (λ e. let t : bytes_eq (name m) (name n) ≡ true = rw e (same_bytes (name m)) in cc (t, p.0)) ∙ new.0, still_new m ns ms p.1 new.1)

  filled_counted : (ns : List ℕ) (ms : Members) → AreDistinct (map name ns) → Each (λ n. get_member (name n) ms ≡ None) ns → count (filled name entry ns ms) ≡ length ns + count ms
  filled_counted [] ms d new = sym (zero-add (count ms))
  filled_counted (m ∷ ns) ms d new =
      filled_counted ns (put (name m) (entry m) ms) d.1 (still_new m ns ms d.0 new.1) ∙ ap (λ c. length ns + c) (put_counted (name m) (entry m) ms new.0) ∙ suc_right (length ns) (count ms)

  all_new : (ns : List ℕ) → Each (λ n. get_member (name n) no_members ≡ None) ns
  all_new [] = tt
  all_new (n ∷ ns) = (refl, all_new ns)

  filled_is_section : (ns : List ℕ) → AreDistinct (map name ns) → IsSection name entry ns (filled name entry ns no_members)
  filled_is_section ns d = record { found = λ n i. filled_found n ns no_members d i; lacks = λ k l. filled_other k ns no_members l; counted = filled_counted ns no_members d (all_new ns) ∙ add_zero (length ns) }

  filled_in_order : (ns : List ℕ) (ms : Members) → Each (λ n. IsCanonical (entry n)) ns → MembersAreCanonical ms → MembersAreCanonical (filled name entry ns ms)
  filled_in_order [] ms h o = o
  filled_in_order (m ∷ ns) ms h o = filled_in_order ns (put (name m) (entry m) ms) h.1 (put_ordered (name m) (entry m) ms h.0 o)

pub sections_hold : SectionsHold
sections_hold name entry ns d = record { from_the_last = built_is_section name entry ns d; from_the_first = filled_is_section name entry ns d; ordered = λ c. (in_order name entry ns c, filled_in_order name entry ns no_members c tt) }
