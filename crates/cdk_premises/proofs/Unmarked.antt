-- What a place without findings says of its value: neither its texts nor its keys hold the beginning of a marker.
use Rattle.std.proofs.Common.{◌≡◌, ℕ, ◌+◌, List, [], ◌∷◌, ◌++◌, map, Bool, true, false, cond, decimal, refl}
use Rattle.std.specs.Prelude.{◌||◌}
use Rattle.serde_json.specs.Data.{Data, null, boolean, number, string, array, object, Items, no_items, item, Members, no_members, member}
use Rattle.cdk_base.specs.Marker.{has_marker, holds_marker, items_hold_marker, members_hold_marker}
use Rattle.cdk_base.specs.declared.code.Code.{Code}
use Rattle.cdk_language.specs.Findings.{when, own, here, under, place, inside, is_fraction, is_marked_text, is_joined_marked, in_items, in_members}
use Rattle.cdk_language.specs.Schema.{is_wrong, frame_of, item_role, member_role}
use Rattle.cdk_language.specs.declared.finding.Finding.{Finding}
use Rattle.cdk_language.specs.declared.schema.Frame.{Frame}
use Rattle.cdk_language.specs.declared.schema.Role.{Role}

left_nil : {A B : Type 0} (f : A → B) (xs : List A) (ys : List B) → map f xs ++ ys ≡ [] → xs ≡ []
left_nil f [] ys e = refl
left_nil f (x ∷ xs) ys e = cc

right_nil : {A B : Type 0} (f : A → B) (xs : List A) (ys : List B) → map f xs ++ ys ≡ [] → ys ≡ []
right_nil f [] ys e = e
right_nil f (x ∷ xs) ys e = cc

when_nil : (b : Bool) (c : Code) (rest : List Code) → when b c ++ rest ≡ [] → (b ≡ false) × (rest ≡ [])
when_nil true c rest e = cc
when_nil false c rest e = (refl, e)

last_nil : (b : Bool) (c : Code) → when b c ≡ [] → b ≡ false
last_nil true c e = cc
last_nil false c e = refl

inner_nil : (b : Bool) (ins : List Finding) → cond b [] ins ≡ [] → b ≡ false → ins ≡ []
inner_nil true ins e f = cc
inner_nil false ins e f = e

pub or_false : (a b : Bool) → (a || b) ≡ false → (a ≡ false) × (b ≡ false)
or_false true b e = cc
or_false false b e = (refl, e)

pub neither : (a b : Bool) → a ≡ false → b ≡ false → (a || b) ≡ false
neither true b e f = e
neither false b e f = f

-- nothing is found at the place or below
abbrev pub IsCleanAt : Bool → Role → Data → Type 0
IsCleanAt marked role d = place marked role d (inside role d) ≡ []

pub record Clean (marked : Bool) (role : Role) (d : Data) : Type 0 where
  pub right : is_wrong role d ≡ false
  pub unmarked : marked ≡ false
  pub text : is_marked_text d ≡ false
  pub deeper : inside role d ≡ []

pub clean : (marked : Bool) (role : Role) (d : Data) → IsCleanAt marked role d → Clean marked role d
clean marked role d e =
    let own_nil = left_nil here (own marked role d) _ e in
    let w = when_nil (is_wrong role d) _ _ own_nil in
    let f = when_nil (is_fraction d) _ _ w.1 in
    let m = or_false marked (is_marked_text d || is_joined_marked role d) (last_nil _ _ f.1) in
    record {
      right = w.0;
      unmarked = m.0;
      text = (or_false (is_marked_text d) (is_joined_marked role d) m.1).0;
      deeper = inner_nil (is_wrong role d) (inside role d) (right_nil here (own marked role d) _ e) w.0;
    }

-- ---- items and members

pub first_item : (role : Role) (n : ℕ) (d : Data) (ds : Items) → in_items role n (item d ds) ≡ [] → IsCleanAt false (item_role role n) d
first_item role n d ds e = left_nil (under (decimal n)) (place false (item_role role n) d (inside (item_role role n) d)) (in_items role (n + 1) ds) e

pub rest_items : (role : Role) (n : ℕ) (d : Data) (ds : Items) → in_items role n (item d ds) ≡ [] → in_items role (n + 1) ds ≡ []
rest_items role n d ds e = right_nil (under (decimal n)) (place false (item_role role n) d (inside (item_role role n) d)) (in_items role (n + 1) ds) e

pub first_member : (frame : Frame) (k : List ℕ) (d : Data) (ms : Members) → in_members frame (member k d ms) ≡ [] → IsCleanAt (has_marker k) (member_role frame k) d
first_member frame k d ms e = left_nil (under k) (place (has_marker k) (member_role frame k) d (inside (member_role frame k) d)) (in_members frame ms) e

pub rest_members : (frame : Frame) (k : List ℕ) (d : Data) (ms : Members) → in_members frame (member k d ms) ≡ [] → in_members frame ms ≡ []
rest_members frame k d ms e = right_nil (under k) (place (has_marker k) (member_role frame k) d (inside (member_role frame k) d)) (in_members frame ms) e

-- ---- no marker in any role

mutual
  pub value_unmarked : (marked : Bool) (role : Role) (d : Data) → IsCleanAt marked role d → holds_marker d ≡ false
  value_unmarked marked role null e = refl
  value_unmarked marked role (boolean b) e = refl
  value_unmarked marked role (number n) e = refl
  value_unmarked marked role (string s) e = (clean marked role (string s) e).text
  value_unmarked marked role (array ds) e = items_unmarked role 0 ds (clean marked role (array ds) e).deeper
  value_unmarked marked role (object ms) e = members_unmarked (frame_of role ms) ms (clean marked role (object ms) e).deeper

  items_unmarked : (role : Role) (n : ℕ) (ds : Items) → in_items role n ds ≡ [] → items_hold_marker ds ≡ false
  items_unmarked role n no_items e = refl
  items_unmarked role n (item d ds) e =
      neither (holds_marker d) (items_hold_marker ds) (value_unmarked false (item_role role n) d (first_item role n d ds e)) (items_unmarked role (n + 1) ds (rest_items role n d ds e))

  members_unmarked : (frame : Frame) (ms : Members) → in_members frame ms ≡ [] → members_hold_marker ms ≡ false
  members_unmarked frame no_members e = refl
  members_unmarked frame (member k d ms) e =
      let here = first_member frame k d ms e in
      neither (has_marker k) (holds_marker d || members_hold_marker ms) (clean (has_marker k) (member_role frame k) d here).unmarked
      (neither (holds_marker d) (members_hold_marker ms) (value_unmarked (has_marker k) (member_role frame k) d here) (members_unmarked frame ms (rest_members frame k d ms e)))
