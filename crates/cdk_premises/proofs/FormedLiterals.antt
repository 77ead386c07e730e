-- What is read in the place of a literal is a value that a context may have, and so is that of a setting in which nothing is found.
use Rattle.std.proofs.Common.{◌≡◌, ℕ, ◌+◌, ◌^◌, List, [], ◌∷◌, Bool, true, false, cond, Ordering, Less, Equal, Greater, nat_cmp, Option, Some, None, refl, pos, negsuc}
use Rattle.std.specs.Prelude.{⊤}
use Rattle.std.specs.Cmp.Lexicographic.{slice_cmp}
use Rattle.std.specs.Option.{option_or}
use Rattle.std.specs.Ordering.{match_ordering}
use Rattle.std.proofs.lemmas.Bool.{lt-ltb}
use Rattle.serde_json.specs.Data.{Num, unsigned, negative, float, Data, null, boolean, number, string, array, object, Items, no_items, item, Members, no_members, member, put}
use Rattle.serde_json.specs.Find.{get_member, is_float}
use Rattle.cdk_base.specs.Json.{is_form_key, is_intrinsic_key, is_whole}
use Rattle.cdk_base.specs.Marker.{has_marker}
use Rattle.cdk_base.specs.Pretty.{ItemsAreCanonical, MembersAreCanonical}
use Rattle.cdk_base.specs.declared.Setting.{Setting}
use Rattle.cdk_base.proofs.ReadValues.{IsReadNumber}
use Rattle.cdk_premises.proofs.CleanPlaces.{ItemsStand, MembersStand, StandsAt, first_stands, is_right, items_in, member_stands, members_in, members_stand, no_fraction, nothing_there, rest_stand}
use Rattle.cdk_premises.specs.Formed.{IsFormedIfFound, IsFormedValue}
use Rattle.cdk_premises.specs.FormedConstruct.{IsFormedContext}
use Rattle.cdk_language.specs.Application.{laid_over}
use Rattle.cdk_language.specs.declared.schema.Frame.TheVariants as frames
use Rattle.cdk_language.specs.declared.schema.Role.TheVariants as roles
use Rattle.cdk_meaning.specs.Literals.{AreLiterals, MembersAreLiterals}
use Rattle.cdk_tree.specs.Placed.{found_value, look_up}
use Rattle.cdk_premises.proofs.Unmarked.{or_false}

-- ---- numbers

pub whole_read : (n : Num) → IsReadNumber n → is_float n ≡ false → is_whole n ≡ true
whole_read (unsigned n) h e = lt-ltb n (2 ^ 64) (h refl)
whole_read (negative (pos n)) h e = absurd (h refl)
whole_read (negative (negsuc n)) h e = lt-ltb n (2 ^ 63) (h refl)
whole_read (float x) h e = absurd (cc)

-- ---- literals

pub not_intrinsic : (k : List ℕ) → is_form_key k ≡ false → is_intrinsic_key k ≡ false
not_intrinsic k e = (or_false (is_intrinsic_key k) _ e).0

abbrev AreFormedItems : Items → Type 0
AreFormedItems ds = AreLiterals ds × ItemsAreCanonical ds

abbrev AreFormedMembers : Members → Type 0
AreFormedMembers ms = MembersAreLiterals ms × MembersAreCanonical ms

-- the key makes no form, where a literal stands
by_key : {A : Type 0} (b marked : Bool) (d : Data) → StandsAt marked (cond b roles.Nothing roles.Literal) d → (b ≡ false → StandsAt marked roles.Literal d → A) → A
by_key true marked d h f = nothing_there marked d h
by_key false marked d h f = f refl h

mutual
  pub literal_formed : (marked : Bool) (d : Data) → StandsAt marked roles.Literal d → IsFormedValue d
  literal_formed marked null h = let e = is_right marked roles.Literal null h in absurd (cc e)
  literal_formed marked (boolean b) h = (tt, tt)
  literal_formed marked (number n) h = let whole = no_fraction marked roles.Literal (number n) h in (whole_read n h.0 whole, h.0 whole)
  literal_formed marked (string s) h = (tt, tt)
  literal_formed marked (array ds) h = items_formed ds 0 (items_in marked roles.Literal ds h)
  literal_formed marked (object ms) h = members_formed ms (members_in marked roles.Literal ms h)

  items_formed : (ds : Items) (n : ℕ) → ItemsStand roles.Literal n ds → AreFormedItems ds
  items_formed no_items n h = (tt, tt)
  items_formed (item d ds) n h =
      let first = literal_formed false d (first_stands roles.Literal n d ds h) in
      let rest = items_formed ds (n + 1) (rest_stand roles.Literal n d ds h) in
      ((first.0, rest.0), (first.1, rest.1))

  members_formed : (ms : Members) → MembersStand frames.Literals ms → AreFormedMembers ms
  members_formed no_members h = (tt, tt)
  members_formed (member k d ms) h =
      let rest = members_formed ms (members_stand frames.Literals k d ms h) in
      by_key (is_form_key k) (has_marker k) d (member_stands frames.Literals k d ms h)
      (λ plain s. let first = literal_formed (has_marker k) d s in ((not_intrinsic k plain, first.0, rest.0), (first.1, (h.0.1.0, rest.1))))

-- ---- contexts

pub context_formed : (ms : Members) → MembersStand frames.Literals ms → IsFormedContext ms
context_formed no_members h = tt
context_formed (member k d ms) h =
    (by_key (is_form_key k) (has_marker k) d (member_stands frames.Literals k d ms h) (λ plain s. literal_formed (has_marker k) d s), context_formed ms (members_stand frames.Literals k d ms h))

abbrev pub AreFormedContexts : List Members → Type 0
AreFormedContexts [] = ⊤
AreFormedContexts (c ∷ cs) = IsFormedContext c × AreFormedContexts cs

picked : (o : Ordering) (d : Data) (later : Option Data) → IsFormedValue d → IsFormedIfFound later → IsFormedIfFound (match_ordering o later (Some d) later)
picked Less d later first rest = rest
picked Equal d later first rest = first
picked Greater d later first rest = rest

member_formed : (k : List ℕ) (ms : Members) → IsFormedContext ms → IsFormedIfFound (get_member k ms)
member_formed k no_members h = tt
member_formed k (member l d ms) h = picked (slice_cmp nat_cmp k l) d (get_member k ms) h.0 (member_formed k ms h.1)

else_formed : (o p : Option Data) → IsFormedIfFound o → IsFormedIfFound p → IsFormedIfFound (option_or o p)
else_formed None p first rest = rest
else_formed (Some d) p first rest = first

look_up_formed : (k : List ℕ) (cs : List Members) → AreFormedContexts cs → IsFormedIfFound (look_up k cs)
look_up_formed k [] h = tt
look_up_formed k (c ∷ cs) h = else_formed (get_member k c) (look_up k cs) (member_formed k c h.0) (look_up_formed k cs h.1)

pub found_formed : (k : List ℕ) (d : Option Data) (cs : List Members) → AreFormedContexts cs → IsFormedIfFound d → IsFormedIfFound (found_value cs k d)
found_formed k d cs h g = else_formed (look_up k cs) d (look_up_formed k cs h) g

-- ---- settings

put_by : (o : Ordering) (a b c : Members) → IsFormedContext a → IsFormedContext b → IsFormedContext c → IsFormedContext (match_ordering o a b c)
put_by Less a b c x y z = x
put_by Equal a b c x y z = y
put_by Greater a b c x y z = z

put_formed : (k : List ℕ) (d : Data) (ms : Members) → IsFormedValue d → IsFormedContext ms → IsFormedContext (put k d ms)
put_formed k d no_members h g = (h, tt)
put_formed k d (member l e ms) h g =
    put_by (slice_cmp nat_cmp k l) (member k d (member l e ms)) (member l d ms) (member l e (put k d ms)) (h, g) (h, g.1) (g.0, put_formed k d ms h g.1)

-- a setting's value is a text, whatever is found in it
pub laid_formed : (ss : List Setting) (ms : Members) → IsFormedContext ms → IsFormedContext (laid_over ms ss)
laid_formed [] ms h = h
laid_formed (s ∷ ss) ms h = laid_formed ss (put s.key (string s.value) ms) (put_formed s.key (string s.value) ms (tt, tt) h)
