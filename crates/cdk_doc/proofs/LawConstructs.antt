-- A document without findings has an application.
use Rattle.std.proofs.Common.{◌≡◌, ℕ, ◌+◌, List, [], Bool, true, false, cond, codes, inl, inr, bytes_eq, Option, Some, None, option_and_then, refl, subst}
use Rattle.std.specs.Prelude.{◌||◌}
use Rattle.std.proofs.lemmas.Slice.Eq.{bytes_eq-Decides}
use Rattle.serde_json.specs.Data.{Data, null, boolean, number, string, array, object, Items, no_items, item, Members, no_members, member}
use Rattle.serde_json.specs.Find.{get_member}
use Rattle.cdk_base.specs.Marker.{has_marker}
use Rattle.cdk_language.specs.Application.{text_at, head_in, body_in, construct_in, construct_of, children_in, constructs_of, constructs_from, root_in, application_of}
use Rattle.cdk_language.specs.Construct as construct
use Rattle.cdk_language.specs.Construct.{Construct, Constructs, Head, Body}
use Rattle.cdk_language.specs.Findings.{in_items, in_members, findings}
use Rattle.cdk_language.specs.Schema.{member_role, lacks, kind_in, kind_named, needed_member, construct_frame, lacks_of_kind, schema_named}
use Rattle.cdk_language.specs.declared.schema.Frame.{Frame}
use Rattle.cdk_language.specs.declared.schema.Frame.TheVariants as frames
use Rattle.cdk_language.specs.declared.schema.KindName.{KindName}
use Rattle.cdk_language.specs.declared.schema.KindName.TheVariants as kinds
use Rattle.cdk_language.specs.declared.schema.Role.TheVariants as roles
use Rattle.cdk_language.specs.declared.schema.Schema.{Schema}
use Rattle.cdk_doc.proofs.LawPlaces.{Found, IsCleanAt, clean, first_item, rest_items, first_member, rest_members, both, then, or_false, nothing_there}
use Rattle.cdk_doc.proofs.LawMembers.{member_clean, there, needed_text}
use Rattle.cdk_doc.proofs.LawHeads.{IsAllowed, allowed, head_found}
use Rattle.cdk_doc.proofs.LawBodies.{body_found}

-- ---- what each kind may have

children_allowed : (schema : Schema) (kind : KindName) → IsAllowed (frames.Construct schema kind) (codes "children") (roles.Constructs schema)
children_allowed schema kinds.Stage = inl refl
children_allowed schema kinds.Stack = inl refl
children_allowed schema kinds.Group = inl refl
children_allowed schema kinds.Resource = inr refl
children_allowed schema kinds.Parameter = inr refl
children_allowed schema kinds.Condition = inr refl
children_allowed schema kinds.Mapping = inr refl
children_allowed schema kinds.Output = inr refl
children_allowed schema kinds.Lazy = inr refl

aspects_allowed : (schema : Schema) (kind : KindName) → IsAllowed (frames.Construct schema kind) (codes "aspects") (roles.Entries schema)
aspects_allowed schema kinds.Stage = inl refl
aspects_allowed schema kinds.Stack = inl refl
aspects_allowed schema kinds.Group = inl refl
aspects_allowed schema kinds.Resource = inl refl
aspects_allowed schema kinds.Parameter = inr refl
aspects_allowed schema kinds.Condition = inr refl
aspects_allowed schema kinds.Mapping = inr refl
aspects_allowed schema kinds.Output = inr refl
aspects_allowed schema kinds.Lazy = inr refl

depends_allowed : (schema : Schema) (kind : KindName) → IsAllowed (frames.Construct schema kind) (codes "dependsOn") roles.Texts
depends_allowed schema kinds.Stage = inr refl
depends_allowed schema kinds.Stack = inl refl
depends_allowed schema kinds.Group = inl refl
depends_allowed schema kinds.Resource = inl refl
depends_allowed schema kinds.Parameter = inr refl
depends_allowed schema kinds.Condition = inr refl
depends_allowed schema kinds.Mapping = inr refl
depends_allowed schema kinds.Output = inr refl
depends_allowed schema kinds.Lazy = inr refl

id_is_text : (schema : Schema) (kind : KindName) → member_role (frames.Construct schema kind) (codes "id") ≡ roles.Text
id_is_text schema kind = refl

-- ---- one construct, its children being read

with_head : (ms : Members) (cs : Constructs) → Found (option_and_then (head_in ms) (text_at (codes "id") ms)) → Found (option_and_then (body_in ms) (text_at (codes "kind") ms)) → Found (construct_in ms cs)
with_head ms cs h b = both (λ head body. construct.construct head body cs) (option_and_then (head_in ms) (text_at (codes "id") ms)) (option_and_then (body_in ms) (text_at (codes "kind") ms)) h b

kind_text : (o : Option (List ℕ)) (kind : KindName) → option_and_then kind_named o ≡ Some kind → (s : List ℕ) × (o ≡ Some s) × (kind_named s ≡ Some kind)
kind_text None kind e = absurd (cc)
kind_text (Some s) kind e = (s, refl, e)

of_kind : (schema : Schema) (kind : KindName) (ms : Members) (cs : Constructs) → kind_in ms ≡ Some kind → (lacks (codes "id") ms ≡ false) × (lacks (needed_member kind) ms ≡ false)
    → in_members (frames.Construct schema kind) ms ≡ [] → Found (construct_in ms cs)
of_kind schema kind ms cs is has e =
    let i = needed_text (frames.Construct schema kind) (codes "id") ms e has.0 (id_is_text schema kind) in
    let k = kind_text (text_at (codes "kind") ms) kind is in
    with_head ms cs
    (then (head_in ms) (text_at (codes "id") ms) i (head_found schema (frames.Construct schema kind) ms i.0 e (aspects_allowed schema kind) (depends_allowed schema kind)))
    (then (body_in ms) (text_at (codes "kind") ms) (k.0, k.1) (body_found schema ms kind k.0 (record { clean_members = e; has = has.1 }) k.2))

-- a construct of no known kind has a finding at its kind
no_kind : {A : Type 0} (ms : Members) → lacks (codes "kind") ms ≡ false → in_members frames.Unknown ms ≡ [] → A
no_kind ms has e =
    let d = there (get_member (codes "kind") ms) has in
    nothing_there (has_marker (codes "kind")) d.0 (member_clean frames.Unknown (codes "kind") ms d.0 e d.1)

by_kind : (schema : Schema) (o : Option KindName) (ms : Members) → kind_in ms ≡ o → (lacks (codes "kind") ms || lacks_of_kind o ms) ≡ false → in_members (construct_frame schema o) ms ≡ []
    → ((kind : KindName) → in_members (frames.Construct schema kind) ms ≡ [] → Found (children_in ms)) → Found (option_and_then (construct_in ms) (children_in ms))
by_kind schema None ms is has e children = no_kind ms (or_false (lacks (codes "kind") ms) false has).0 e
by_kind schema (Some kind) ms is has e children =
    let h = or_false (lacks (codes "kind") ms) (lacks (codes "id") ms || lacks (needed_member kind) ms) has in
    let cs = children kind e in
    then (construct_in ms) (children_in ms) cs (of_kind schema kind ms cs.0 is (or_false (lacks (codes "id") ms) (lacks (needed_member kind) ms) h.1) e)

-- ---- children

child_here : (schema : Schema) (b : Bool) (frame : Frame) (k : List ℕ) (d : Data) (rest : Option Constructs) → bytes_eq k (codes "children") ≡ b → IsAllowed frame (codes "children") (roles.Constructs schema)
    → IsCleanAt (has_marker k) (member_role frame k) d → (IsCleanAt (has_marker (codes "children")) (roles.Constructs schema) d → Found (constructs_of d)) → Found rest → Found (cond b (constructs_of d) rest)
child_here schema true frame k d rest is may e here later =
    let same : k ≡ codes "children" = (bytes_eq-Decides k (codes "children")).0 is in
    allowed frame (codes "children") (roles.Constructs schema) d may (subst (λ x. IsCleanAt (has_marker x) (member_role frame x) d) same e) here
child_here schema false frame k d rest is may e here later = later

mutual
  construct_found : (schema : Schema) (marked : Bool) (d : Data) → IsCleanAt marked (roles.Construct schema) d → Found (construct_of d)
  construct_found schema marked (object ms) e =
      let c = clean marked (roles.Construct schema) (object ms) e in
      by_kind schema (kind_in ms) ms refl c.right c.deeper (λ kind ins. children_found schema (frames.Construct schema kind) ms (children_allowed schema kind) ins)
  construct_found schema marked null e = absurd (cc)
  construct_found schema marked (boolean b) e = absurd (cc)
  construct_found schema marked (number n) e = absurd (cc)
  construct_found schema marked (string s) e = absurd (cc)
  construct_found schema marked (array ds) e = absurd (cc)

  children_found : (schema : Schema) (frame : Frame) (ms : Members) → IsAllowed frame (codes "children") (roles.Constructs schema) → in_members frame ms ≡ [] → Found (children_in ms)
  children_found schema frame no_members may e = (_, refl)
  children_found schema frame (member k d ms) may e =
      child_here schema (bytes_eq k (codes "children")) frame k d (children_in ms) refl may (first_member frame k d ms e) (constructs_found schema (has_marker (codes "children")) d)
      (children_found schema frame ms may (rest_members frame k d ms e))

  constructs_found : (schema : Schema) (marked : Bool) (d : Data) → IsCleanAt marked (roles.Constructs schema) d → Found (constructs_of d)
  constructs_found schema marked (array ds) e = constructs_from_found schema ds 0 (clean marked (roles.Constructs schema) (array ds) e).deeper
  constructs_found schema marked null e = absurd (cc)
  constructs_found schema marked (boolean b) e = absurd (cc)
  constructs_found schema marked (number n) e = absurd (cc)
  constructs_found schema marked (string s) e = absurd (cc)
  constructs_found schema marked (object ms) e = absurd (cc)

  constructs_from_found : (schema : Schema) (ds : Items) (n : ℕ) → in_items (roles.Constructs schema) n ds ≡ [] → Found (constructs_from ds)
  constructs_from_found schema no_items n e = (_, refl)
  constructs_from_found schema (item d ds) n e =
      both construct.child (construct_of d) (constructs_from ds) (construct_found schema false d (first_item (roles.Constructs schema) n d ds e)) (constructs_from_found schema ds (n + 1) (rest_items (roles.Constructs schema) n d ds e))

-- ---- the root

root_found : (schema : Schema) (ms : Members) → in_members (frames.Document schema) ms ≡ [] → Found (root_in ms)
root_found schema ms e =
    let h = head_found schema (frames.Document schema) ms [] e (inl refl) (inr refl) in
    let cs = children_found schema (frames.Document schema) ms (inl refl) e in
    both (λ head children. construct.construct head construct.root children) (head_in ms []) (children_in ms) h cs

-- a document in which nothing is found has an application
pub application_found : (d : Data) → findings d ≡ [] → Found (application_of d)
application_found (object ms) e = root_found (schema_named (text_at (codes "app") ms)) ms (clean false roles.Document (object ms) e).deeper
application_found null e = absurd (cc)
application_found (boolean b) e = absurd (cc)
application_found (number n) e = absurd (cc)
application_found (string s) e = absurd (cc)
application_found (array ds) e = absurd (cc)
