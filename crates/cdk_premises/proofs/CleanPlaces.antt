-- A value that is read, in a place where nothing is found, and what stands inside.
use Rattle.std.proofs.Common.{◌≡◌, ℕ, ◌+◌, List, [], ◌∷◌, ◌++◌, map, Bool, true, false, Ordering, Less, Equal, Greater, is_eq, nat_cmp, Option, Some, refl, sym, ap, ◌∙◌, subst}
use Rattle.std.specs.Prelude.{◌||◌}
use Rattle.std.specs.Cmp.Lexicographic.{slice_cmp}
use Rattle.std.specs.Ordering.{match_ordering}
use Rattle.std.specs.Str.{bytes_eq}
use Rattle.std.proofs.lemmas.Map.Text.{is_eq-slice_cmp}
use Rattle.std.proofs.lemmas.Slice.Eq.{bytes_eq-Decides}
use Rattle.serde_json.specs.Data.{Data, array, object, Items, item, Members, no_members, member}
use Rattle.serde_json.specs.Find.{get_member}
use Rattle.cdk_base.specs.Marker.{has_marker, holds_marker}
use Rattle.cdk_base.specs.Pretty.{IsOrdered, ItemsAreOrdered, MembersAreOrdered}
use Rattle.cdk_base.specs.declared.code.Code.{Code}
use Rattle.cdk_base.specs.declared.code.Code.TheVariants as faults
use Rattle.cdk_base.proofs.ReadValues.{IsReadNumber}
use Rattle.cdk_language.specs.Findings.{when, own, here, is_fraction, is_joined_marked, is_marked_text, in_items, in_members}
use Rattle.cdk_language.specs.Schema.{is_wrong, frame_of, item_role, member_role}
use Rattle.cdk_language.specs.declared.finding.Finding.{Finding}
use Rattle.cdk_language.specs.declared.schema.Frame.{Frame}
use Rattle.cdk_language.specs.declared.schema.Role.{Role}
use Rattle.cdk_language.specs.declared.schema.Role.TheVariants as roles
use Rattle.cdk_premises.proofs.ReadExpressions.{All}
use Rattle.cdk_premises.proofs.Unmarked.{IsCleanAt, clean, first_item, rest_items, first_member, rest_members, or_false, value_unmarked}

-- ---- a value in its place

-- its numbers are those that are read, and nothing is found at its place or below
abbrev pub StandsAt : Bool → Role → Data → Type 0
StandsAt marked role d = IsOrdered IsReadNumber d × IsCleanAt marked role d

abbrev pub ItemsStand : Role → ℕ → Items → Type 0
ItemsStand role n ds = ItemsAreOrdered IsReadNumber ds × (in_items role n ds ≡ [])

abbrev pub MembersStand : Frame → Members → Type 0
MembersStand frame ms = MembersAreOrdered IsReadNumber ms × (in_members frame ms ≡ [])

pub is_right : (marked : Bool) (role : Role) (d : Data) → StandsAt marked role d → is_wrong role d ≡ false
is_right marked role d h = (clean marked role d h.1).right

pub unmarked : (marked : Bool) (role : Role) (d : Data) → StandsAt marked role d → holds_marker d ≡ false
unmarked marked role d h = value_unmarked marked role d h.1

own_nil : (xs : List Code) (ys : List Finding) → map here xs ++ ys ≡ [] → xs ≡ []
own_nil [] ys e = refl
own_nil (x ∷ xs) ys e = cc

last_two : (a b c : Bool) → when a faults.Shape ++ (when b faults.Number ++ when c faults.LiteralMarker) ≡ [] → (b ≡ false) × (c ≡ false)
last_two true b c e = absurd (cc)
last_two false true c e = absurd (cc)
last_two false false true e = absurd (cc)
last_two false false false e = (refl, refl)

-- its own number is whole, and the run of its own literals holds no marker
own_is_right : (marked : Bool) (role : Role) (d : Data) → StandsAt marked role d → (is_fraction d ≡ false) × (is_joined_marked role d ≡ false)
own_is_right marked role d h =
    let m = marked || (is_marked_text d || is_joined_marked role d) in
    let two = last_two (is_wrong role d) (is_fraction d) m (own_nil (own marked role d) _ h.1) in
    (two.0, (or_false (is_marked_text d) (is_joined_marked role d) (or_false marked (is_marked_text d || is_joined_marked role d) two.1).1).1)

pub no_fraction : (marked : Bool) (role : Role) (d : Data) → StandsAt marked role d → is_fraction d ≡ false
no_fraction marked role d h = (own_is_right marked role d h).0

pub run_unmarked_at : (marked : Bool) (role : Role) (d : Data) → StandsAt marked role d → is_joined_marked role d ≡ false
run_unmarked_at marked role d h = (own_is_right marked role d h).1

pub nothing_there : {A : Type 0} (marked : Bool) (d : Data) → StandsAt marked roles.Nothing d → A
nothing_there marked d h = let e = h.1 in absurd (cc e)

-- ---- items and members

pub items_in : (marked : Bool) (role : Role) (ds : Items) → StandsAt marked role (array ds) → ItemsStand role 0 ds
items_in marked role ds h = (h.0, (clean marked role (array ds) h.1).deeper)

pub members_in : (marked : Bool) (role : Role) (ms : Members) → StandsAt marked role (object ms) → MembersStand (frame_of role ms) ms
members_in marked role ms h = (h.0, (clean marked role (object ms) h.1).deeper)

pub first_stands : (role : Role) (n : ℕ) (d : Data) (ds : Items) → ItemsStand role n (item d ds) → StandsAt false (item_role role n) d
first_stands role n d ds h = (h.0.0, first_item role n d ds h.1)

pub rest_stand : (role : Role) (n : ℕ) (d : Data) (ds : Items) → ItemsStand role n (item d ds) → ItemsStand role (n + 1) ds
rest_stand role n d ds h = (h.0.1, rest_items role n d ds h.1)

pub second_stands : (role : Role) (d e : Data) (ds : Items) → ItemsStand role 0 (item d (item e ds)) → StandsAt false (item_role role 1) e
second_stands role d e ds h = first_stands role 1 e ds (rest_stand role 0 d (item e ds) h)

pub third_stands : (role : Role) (d e f : Data) (ds : Items) → ItemsStand role 0 (item d (item e (item f ds))) → StandsAt false (item_role role 2) f
third_stands role d e f ds h = first_stands role 2 f ds (rest_stand role 1 e (item f ds) (rest_stand role 0 d (item e (item f ds)) h))

pub member_stands : (frame : Frame) (k : List ℕ) (d : Data) (ms : Members) → MembersStand frame (member k d ms) → StandsAt (has_marker k) (member_role frame k) d
member_stands frame k d ms h = (h.0.0, first_member frame k d ms h.1)

pub members_stand : (frame : Frame) (k : List ℕ) (d : Data) (ms : Members) → MembersStand frame (member k d ms) → MembersStand frame ms
members_stand frame k d ms h = (h.0.1.1, rest_members frame k d ms h.1)

-- ---- what is found at a key

pub same_key : (k l : List ℕ) → bytes_eq k l ≡ true → k ≡ l
same_key k l e = (bytes_eq-Decides k l).0 e

-- as a member of the key in the frame
abbrev pub StandsAs : Frame → List ℕ → Data → Type 0
StandsAs frame k d = StandsAt (has_marker k) (member_role frame k) d

here_or_later : (o : Ordering) (frame : Frame) (k l : List ℕ) (d : Data) (later : Option Data) → slice_cmp nat_cmp k l ≡ o → StandsAs frame l d → All (StandsAs frame k) later
    → All (StandsAs frame k) (match_ordering o later (Some d) later)
here_or_later Less frame k l d later is first rest = rest
here_or_later Greater frame k l d later is first rest = rest
here_or_later Equal frame k l d later is first rest = subst (λ x. StandsAs frame x d) (sym (same_key k l (sym (is_eq-slice_cmp k l) ∙ ap is_eq is))) first

pub stands_at : (frame : Frame) (k : List ℕ) (ms : Members) → MembersStand frame ms → All (StandsAs frame k) (get_member k ms)
stands_at frame k no_members h = tt
stands_at frame k (member l d ms) h =
    here_or_later (slice_cmp nat_cmp k l) frame k l d (get_member k ms) refl (member_stands frame l d ms h) (stands_at frame k ms (members_stand frame l d ms h))
