-- Members that are put in have the plain form of the field that is put in.
use Rattle.std.proofs.Common.{◌≡◌, ℕ, List, refl, ap, Ordering, Less, Equal, Greater}
use Rattle.std.specs.Ordering.{nat_cmp, match_ordering}
use Rattle.std.specs.Cmp.Lexicographic.{slice_cmp}
use Rattle.serde_json.specs.Data.{Data, Members, no_members, member, put}
use Rattle.cdk_plain.specs.Plain.{Fields, field}
use Rattle.cdk_expansion.specs.Expanded.{Known, value_plain, members_plain}
use Rattle.cdk_expansion.specs.Own.{put_field}

chosen : (known : Known) (o : Ordering) (x y z : Members) (f : Fields) → members_plain known z ≡ f
    → members_plain known (match_ordering o x y z) ≡ match_ordering o (members_plain known x) (members_plain known y) f
chosen known Less x y z f e = refl
chosen known Equal x y z f e = refl
chosen known Greater x y z f e = e

pub members_plain-put : (known : Known) (k : List ℕ) (d : Data) (ms : Members) → members_plain known (put k d ms) ≡ put_field k (value_plain known d) (members_plain known ms)
members_plain-put known k d no_members = refl
members_plain-put known k d (member l e ms) =
    chosen known (slice_cmp nat_cmp k l) (member k d (member l e ms)) (member l d ms) (member l e (put k d ms)) (field l (value_plain known e) (put_field k (value_plain known d) (members_plain known ms)))
    (ap (field l (value_plain known e)) (members_plain-put known k d ms))
