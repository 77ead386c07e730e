-- What every construct has, where nothing is found in its members.
use Rattle.std.proofs.Common.{◌≡◌, ℕ, ◌+◌, List, [], ◌∷◌, Bool, false, cond, codes, ◌⊎◌, inl, inr, Option, Some, None, option_map, option_and_then, refl, ap, subst}
use Rattle.serde_json.specs.Data.{unsigned, negative, float, Data, null, boolean, number, string, array, object, Items, no_items, item, Members}
use Rattle.serde_json.specs.Find.{get_member, as_str, as_array, as_object}
use Rattle.cdk_base.specs.Marker.{has_marker}
use Rattle.cdk_language.specs.Application.{text_at, texts_of, priority_of, entry_in, entries_of, if_given, head_in, context_in}
use Rattle.cdk_language.specs.Construct.{AspectEntry, Head}
use Rattle.cdk_language.specs.Findings.{in_items, in_members}
use Rattle.cdk_language.specs.Schema.{member_role, in_schema_2, lacks}
use Rattle.cdk_language.specs.declared.schema.Frame.{Frame}
use Rattle.cdk_language.specs.declared.schema.Frame.TheVariants as frames
use Rattle.cdk_language.specs.declared.schema.Role.{Role}
use Rattle.cdk_language.specs.declared.schema.Role.TheVariants as roles
use Rattle.cdk_language.specs.declared.schema.Schema.{Schema}
use Rattle.cdk_language.specs.declared.schema.Schema.TheVariants as schemas
use Rattle.cdk_doc.proofs.LawPlaces.{Found, IsCleanAt, clean, first_item, rest_items, both, then, or_false, text_found, nothing_there}
use Rattle.cdk_doc.proofs.LawMembers.{member_clean, there, needed_text}

-- a member that may stand in the role, or not at all
abbrev pub IsAllowed : Frame → List ℕ → Role → Type 0
IsAllowed frame k role = (member_role frame k ≡ role) ⊎ (member_role frame k ≡ roles.Nothing)

pub allowed : {A : Type 0} (frame : Frame) (k : List ℕ) (role : Role) (d : Data) → IsAllowed frame k role → IsCleanAt (has_marker k) (member_role frame k) d → (IsCleanAt (has_marker k) role d → A) → A
allowed frame k role d (inl is) e f = f (subst (λ r. IsCleanAt (has_marker k) r d) is e)
allowed frame k role d (inr is) e f = nothing_there (has_marker k) d (subst (λ r. IsCleanAt (has_marker k) r d) is e)

-- ---- texts

texts_found : (ds : Items) (n : ℕ) → in_items roles.Texts n ds ≡ [] → Found (texts_of ds)
texts_found no_items n e = ([], refl)
texts_found (item d ds) n e = both (λ t ts. t ∷ ts) (as_str d) (texts_of ds) (text_found false d (first_item roles.Texts n d ds e)) (texts_found ds (n + 1) (rest_items roles.Texts n d ds e))

depends_found : (marked : Bool) (d : Data) → IsCleanAt marked roles.Texts d → Found (option_and_then texts_of (as_array d))
depends_found marked (array ds) e = texts_found ds 0 (clean marked roles.Texts (array ds) e).deeper
depends_found marked null e = absurd (cc)
depends_found marked (boolean b) e = absurd (cc)
depends_found marked (number n) e = absurd (cc)
depends_found marked (string s) e = absurd (cc)
depends_found marked (object ms) e = absurd (cc)

-- ---- aspect entries

priority_in : (marked : Bool) (d : Data) → IsCleanAt marked roles.Priority d → Found (priority_of (Some d))
priority_in marked (number (unsigned n)) e = (n, ap (λ b. cond b None (Some n)) (clean marked roles.Priority (number (unsigned n)) e).right)
priority_in marked (number (negative z)) e = absurd (cc)
priority_in marked (number (float x)) e = absurd (cc)
priority_in marked null e = absurd (cc)
priority_in marked (boolean b) e = absurd (cc)
priority_in marked (string s) e = absurd (cc)
priority_in marked (array ds) e = absurd (cc)
priority_in marked (object ms) e = absurd (cc)

priority_found : (schema : Schema) (marked : Bool) (o : Option Data) → ((d : Data) → o ≡ Some d → IsCleanAt marked (in_schema_2 schema roles.Priority) d) → Found (priority_of o)
priority_found schema marked None h = (500, refl)
priority_found schemas.One marked (Some d) h = nothing_there marked d (h d refl)
priority_found schemas.Two marked (Some d) h = priority_in marked d (h d refl)

abbrev made : List ℕ → Data → ℕ → AspectEntry
made n d p = record { name = n; literal = d; priority = p }

entry_in_found : (schema : Schema) (ms : Members) → (lacks (codes "name") ms ≡ false) × (lacks (codes "with") ms ≡ false) → in_members (frames.Entry schema) ms ≡ [] → Found (entry_in ms)
entry_in_found schema ms has e =
    let n = needed_text (frames.Entry schema) (codes "name") ms e has.0 refl in
    let d = there (get_member (codes "with") ms) has.1 in
    let p = priority_found schema (has_marker (codes "priority")) (get_member (codes "priority") ms) (λ x is. member_clean (frames.Entry schema) (codes "priority") ms x e is) in
    then (λ name. option_and_then (λ literal. option_map (λ priority. made name literal priority) (priority_of (get_member (codes "priority") ms))) (get_member (codes "with") ms)) (text_at (codes "name") ms) n
    (both (made n.0) (get_member (codes "with") ms) (priority_of (get_member (codes "priority") ms)) d p)

entry_found : (schema : Schema) (marked : Bool) (d : Data) → IsCleanAt marked (roles.Entry schema) d → Found (option_and_then entry_in (as_object d))
entry_found schema marked (object ms) e =
    let c = clean marked (roles.Entry schema) (object ms) e in
    entry_in_found schema ms (or_false (lacks (codes "name") ms) (lacks (codes "with") ms) c.right) c.deeper
entry_found schema marked null e = absurd (cc)
entry_found schema marked (boolean b) e = absurd (cc)
entry_found schema marked (number n) e = absurd (cc)
entry_found schema marked (string s) e = absurd (cc)
entry_found schema marked (array ds) e = absurd (cc)

entries_found : (schema : Schema) (ds : Items) (n : ℕ) → in_items (roles.Entries schema) n ds ≡ [] → Found (entries_of ds)
entries_found schema no_items n e = ([], refl)
entries_found schema (item d ds) n e =
    both (λ x xs. x ∷ xs) (option_and_then entry_in (as_object d)) (entries_of ds) (entry_found schema false d (first_item (roles.Entries schema) n d ds e)) (entries_found schema ds (n + 1) (rest_items (roles.Entries schema) n d ds e))

aspects_found : (schema : Schema) (marked : Bool) (d : Data) → IsCleanAt marked (roles.Entries schema) d → Found (option_and_then entries_of (as_array d))
aspects_found schema marked (array ds) e = entries_found schema ds 0 (clean marked (roles.Entries schema) (array ds) e).deeper
aspects_found schema marked null e = absurd (cc)
aspects_found schema marked (boolean b) e = absurd (cc)
aspects_found schema marked (number n) e = absurd (cc)
aspects_found schema marked (string s) e = absurd (cc)
aspects_found schema marked (object ms) e = absurd (cc)

-- ---- all of them

given : {A : Type 0} (read : Items → Option (List A)) (o : Option Data) → ((d : Data) → o ≡ Some d → Found (option_and_then read (as_array d))) → Found (if_given read o)
given read None h = ([], refl)
given read (Some d) h = h d refl

abbrev head : Members → List ℕ → List AspectEntry → List (List ℕ) → Head
head ms i es ds = record { id = i; context = context_in ms; aspects = es; depends = ds; logical = text_at (codes "logicalId") ms }

pub head_found : (schema : Schema) (frame : Frame) (ms : Members) (i : List ℕ) → in_members frame ms ≡ []
    → IsAllowed frame (codes "aspects") (roles.Entries schema) → IsAllowed frame (codes "dependsOn") roles.Texts → Found (head_in ms i)
head_found schema frame ms i e aspects depends =
    let es = given entries_of (get_member (codes "aspects") ms) (λ d is. allowed frame (codes "aspects") (roles.Entries schema) d aspects (member_clean frame (codes "aspects") ms d e is) (aspects_found schema (has_marker (codes "aspects")) d)) in
    let ds = given texts_of (get_member (codes "dependsOn") ms) (λ d is. allowed frame (codes "dependsOn") roles.Texts d depends (member_clean frame (codes "dependsOn") ms d e is) (depends_found (has_marker (codes "dependsOn")) d)) in
    both (head ms i) (if_given entries_of (get_member (codes "aspects") ms)) (if_given texts_of (get_member (codes "dependsOn") ms)) es ds
