-- A member of an object, where nothing is found in the object.
use Rattle.std.proofs.Common.{◌≡◌, ℕ, List, [], not, false, Ordering, Less, Equal, Greater, is_eq, nat_cmp, Option, Some, None, option_and_then, refl, sym, ap, ◌∙◌, subst}
use Rattle.std.specs.Cmp.Lexicographic.{slice_cmp}
use Rattle.std.specs.Option.{is_some}
use Rattle.std.specs.Ordering.{match_ordering}
use Rattle.std.proofs.lemmas.Map.Text.{is_eq-slice_cmp}
use Rattle.std.proofs.lemmas.Slice.Eq.{bytes_eq-Decides}
use Rattle.serde_json.specs.Data.{Data, Members, no_members, member}
use Rattle.serde_json.specs.Find.{get_member, as_str}
use Rattle.cdk_base.specs.Marker.{has_marker}
use Rattle.cdk_language.specs.Application.{text_at}
use Rattle.cdk_language.specs.Findings.{in_members}
use Rattle.cdk_language.specs.Schema.{member_role, lacks}
use Rattle.cdk_language.specs.declared.schema.Frame.{Frame}
use Rattle.cdk_language.specs.declared.schema.Role.TheVariants as roles
use Rattle.cdk_doc.proofs.LawPlaces.{Found, IsCleanAt, first_member, rest_members, along, text_found}

here_or_later : (o : Ordering) (frame : Frame) (k l : List ℕ) (e d : Data) (later : Option Data) → slice_cmp nat_cmp k l ≡ o → match_ordering o later (Some e) later ≡ Some d
    → IsCleanAt (has_marker l) (member_role frame l) e → (later ≡ Some d → IsCleanAt (has_marker k) (member_role frame k) d) → IsCleanAt (has_marker k) (member_role frame k) d
here_or_later Less frame k l e d later is got first rest = rest got
here_or_later Greater frame k l e d later is got first rest = rest got
here_or_later Equal frame k l e d later is got first rest =
    let same : k ≡ l = (bytes_eq-Decides k l).0 (sym (is_eq-slice_cmp k l) ∙ ap is_eq is) in
    let value : e ≡ d = cc in
    subst (λ x. IsCleanAt (has_marker x) (member_role frame x) d) (sym same) (subst (IsCleanAt (has_marker l) (member_role frame l)) value first)

-- what is found at a key has nothing found in its role
pub member_clean : (frame : Frame) (k : List ℕ) (ms : Members) (d : Data) → in_members frame ms ≡ [] → get_member k ms ≡ Some d → IsCleanAt (has_marker k) (member_role frame k) d
member_clean frame k no_members d e got = absurd (cc)
member_clean frame k (member l f ms) d e got =
    here_or_later (slice_cmp nat_cmp k l) frame k l f d (get_member k ms) refl got (first_member frame l f ms e) (λ g. member_clean frame k ms d (rest_members frame l f ms e) g)

pub there : {A : Type 0} (o : Option A) → not (is_some o) ≡ false → Found o
there None h = absurd (cc)
there (Some a) h = (a, refl)

-- a needed text
pub needed_text : (frame : Frame) (k : List ℕ) (ms : Members) → in_members frame ms ≡ [] → lacks k ms ≡ false → member_role frame k ≡ roles.Text → Found (text_at k ms)
needed_text frame k ms e h role =
    let d = there (get_member k ms) h in
    let c = subst (λ r. IsCleanAt (has_marker k) r d.0) role (member_clean frame k ms d.0 e d.1) in
    along (text_at k ms) (as_str d.0) (ap (option_and_then as_str) d.1) (text_found (has_marker k) d.0 c)
