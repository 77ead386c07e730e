-- The constructs of a document that is read, and in which nothing is found, have plain operands, each for itself.
use Rattle.std.proofs.Common.{◌≡◌, ℕ, ◌+◌, List, [], not, Bool, true, false, true≢false, cond, codes, ◌⊎◌, inl, inr, Option, Some, None, option_map, option_and_then, refl, sym, subst}
use Rattle.std.specs.Prelude.{◌||◌, ⊤}
use Rattle.std.specs.Option.{is_some}
use Rattle.std.specs.Str.{bytes_eq}
use Rattle.std.proofs.lemmas.Bool.{or_parts}
use Rattle.serde_json.specs.Data.{Data, array, object, Items, no_items, item, Members, no_members, member}
use Rattle.serde_json.specs.Find.{get_member}
use Rattle.cdk_base.specs.Marker.{has_marker}
use Rattle.cdk_premises.proofs.CleanPlaces.{ItemsStand, MembersStand, StandsAs, StandsAt, first_stands, is_right, items_in, member_stands, members_in, members_stand, nothing_there, rest_stand, same_key, stands_at}
use Rattle.cdk_language.specs.Application.{application_of, body_in, children_in, construct_in, construct_of, constructs_from, constructs_of, head_in, root_in, text_at}
use Rattle.cdk_language.specs.Construct as construct
use Rattle.cdk_language.specs.Construct.{Construct, Constructs}
use Rattle.cdk_language.specs.Schema.{construct_frame, kind_in, lacks, lacks_of_kind, member_role, schema_named}
use Rattle.cdk_language.specs.declared.schema.Frame.{Frame}
use Rattle.cdk_language.specs.declared.schema.Frame.TheVariants as frames
use Rattle.cdk_language.specs.declared.schema.KindName.{KindName}
use Rattle.cdk_language.specs.declared.schema.KindName.TheVariants as kinds
use Rattle.cdk_language.specs.declared.schema.Role.TheVariants as roles
use Rattle.cdk_language.specs.declared.schema.Schema.{Schema}
use Rattle.cdk_premises.proofs.ReadExpressions.{All, made_then, mapped, then}
use Rattle.cdk_premises.specs.Operands.{HasPlainOperands}
use Rattle.cdk_premises.proofs.PlainBodies.{IsNamed, body_read}

abbrev mutual
  pub IsPlainConstruct : Construct → Type 0
  IsPlainConstruct (construct.construct h b cs) = HasPlainOperands b × ArePlainConstructs cs

  pub ArePlainConstructs : Constructs → Type 0
  ArePlainConstructs construct.no_constructs = ⊤
  ArePlainConstructs (construct.child c cs) = IsPlainConstruct c × ArePlainConstructs cs

-- ---- one construct of a known kind, its children being read

itself : {A : Type 0} (o : Option A) → All (λ a. o ≡ Some a) o
itself None = tt
itself (Some a) = refl

construct_read : (schema : Schema) (kind : KindName) (ms : Members) (cs : Constructs) → kind_in ms ≡ Some kind → MembersStand (frames.Construct schema kind) ms → ArePlainConstructs cs → All IsPlainConstruct (construct_in ms cs)
construct_read schema kind ms cs is h children =
    let named = text_at (codes "kind") ms in
    let body = option_and_then (body_in ms) named in
    let frame : MembersStand (construct_frame schema (kind_in ms)) ms = subst (λ o. MembersStand (construct_frame schema o) ms) (sym is) h in
    made_then IsPlainConstruct (λ x. option_map (λ b. construct.construct x b cs) body) (option_and_then (head_in ms) (text_at (codes "id") ms))
    (λ x. mapped HasPlainOperands IsPlainConstruct (λ b. construct.construct x b cs) body (λ b plain. (plain, children))
    (then (IsNamed ms) HasPlainOperands (body_in ms) named (λ k name. body_read schema ms k name frame) (itself named)))

-- ---- children

-- they may stand there, or nothing may
abbrev MayHave : Schema → Frame → Type 0
MayHave schema frame = (member_role frame (codes "children") ≡ roles.Constructs schema) ⊎ (member_role frame (codes "children") ≡ roles.Nothing)

may_have : (schema : Schema) (kind : KindName) → MayHave schema (frames.Construct schema kind)
may_have schema kinds.Stage = inl refl
may_have schema kinds.Stack = inl refl
may_have schema kinds.Group = inl refl
may_have schema kinds.Resource = inr refl
may_have schema kinds.Parameter = inr refl
may_have schema kinds.Condition = inr refl
may_have schema kinds.Mapping = inr refl
may_have schema kinds.Output = inr refl
may_have schema kinds.Lazy = inr refl

child_there : {A : Type 0} (schema : Schema) (frame : Frame) (d : Data) → MayHave schema frame → StandsAs frame (codes "children") d → (StandsAt (has_marker (codes "children")) (roles.Constructs schema) d → A) → A
child_there schema frame d (inl is) h f = f (subst (λ r. StandsAt (has_marker (codes "children")) r d) is h)
child_there schema frame d (inr is) h f = nothing_there (has_marker (codes "children")) d (subst (λ r. StandsAt (has_marker (codes "children")) r d) is h)

child_here : (schema : Schema) (b : Bool) (frame : Frame) (k : List ℕ) (d : Data) (rest : Option Constructs) → bytes_eq k (codes "children") ≡ b → MayHave schema frame → StandsAs frame k d
    → (StandsAt (has_marker (codes "children")) (roles.Constructs schema) d → All ArePlainConstructs (constructs_of d)) → All ArePlainConstructs rest → All ArePlainConstructs (cond b (constructs_of d) rest)
child_here schema true frame k d rest is may h here later = child_there schema frame d may (subst (λ x. StandsAs frame x d) (same_key k (codes "children") is) h) here
child_here schema false frame k d rest is may h here later = later

there : {A : Type 0} (P : A → Type 0) (o : Option A) → not (is_some o) ≡ false → All P o → (a : A) × P a
there P None e h = absurd (true≢false e)
there P (Some a) e h = (a, h)

-- a construct of no known kind has a finding at its kind
no_kind : {A : Type 0} (ms : Members) → lacks (codes "kind") ms ≡ false → MembersStand frames.Unknown ms → A
no_kind ms has h =
    let k = there (StandsAs frames.Unknown (codes "kind")) (get_member (codes "kind") ms) has (stands_at frames.Unknown (codes "kind") ms h) in
    nothing_there (has_marker (codes "kind")) k.0 k.1

of_kind : (schema : Schema) (o : Option KindName) (ms : Members) → kind_in ms ≡ o → (lacks (codes "kind") ms || lacks_of_kind o ms) ≡ false → MembersStand (construct_frame schema o) ms
    → ((frame : Frame) → MayHave schema frame → MembersStand frame ms → All ArePlainConstructs (children_in ms)) → All IsPlainConstruct (option_and_then (construct_in ms) (children_in ms))
of_kind schema None ms is has h children = no_kind ms (or_parts (lacks (codes "kind") ms) false has).0 h
of_kind schema (Some kind) ms is has h children =
    then ArePlainConstructs IsPlainConstruct (construct_in ms) (children_in ms) (λ cs plain. construct_read schema kind ms cs is h plain)
    (children (frames.Construct schema kind) (may_have schema kind) h)

mutual
  one_read : (schema : Schema) (marked : Bool) (d : Data) → StandsAt marked (roles.Construct schema) d → All IsPlainConstruct (construct_of d)
  one_read schema marked (object ms) h =
      of_kind schema (kind_in ms) ms refl (is_right marked (roles.Construct schema) (object ms) h) (members_in marked (roles.Construct schema) ms h) (λ frame may ins. children_read schema frame ms may ins)
  one_read schema marked d h = tt

  children_read : (schema : Schema) (frame : Frame) (ms : Members) → MayHave schema frame → MembersStand frame ms → All ArePlainConstructs (children_in ms)
  children_read schema frame no_members may h = tt
  children_read schema frame (member k d ms) may h =
      child_here schema (bytes_eq k (codes "children")) frame k d (children_in ms) refl may (member_stands frame k d ms h) (constructs_read schema (has_marker (codes "children")) d)
      (children_read schema frame ms may (members_stand frame k d ms h))

  constructs_read : (schema : Schema) (marked : Bool) (d : Data) → StandsAt marked (roles.Constructs schema) d → All ArePlainConstructs (constructs_of d)
  constructs_read schema marked (array ds) h = items_read schema ds 0 (items_in marked (roles.Constructs schema) ds h)
  constructs_read schema marked d h = tt

  items_read : (schema : Schema) (ds : Items) (n : ℕ) → ItemsStand (roles.Constructs schema) n ds → All ArePlainConstructs (constructs_from ds)
  items_read schema no_items n h = tt
  items_read schema (item d ds) n h =
      then IsPlainConstruct ArePlainConstructs (λ c. option_map (construct.child c) (constructs_from ds)) (construct_of d)
      (λ c plain. mapped ArePlainConstructs ArePlainConstructs (construct.child c) (constructs_from ds) (λ cs plains. (plain, plains)) (items_read schema ds (n + 1) (rest_stand (roles.Constructs schema) n d ds h)))
      (one_read schema false d (first_stands (roles.Constructs schema) n d ds h))

-- ---- the root

root_read : (schema : Schema) (ms : Members) → MembersStand (frames.Document schema) ms → All IsPlainConstruct (root_in ms)
root_read schema ms h =
    made_then IsPlainConstruct (λ x. option_map (construct.construct x construct.root) (children_in ms)) (head_in ms [])
    (λ x. mapped ArePlainConstructs IsPlainConstruct (construct.construct x construct.root) (children_in ms) (λ cs plains. (tt, plains)) (children_read schema (frames.Document schema) ms (inl refl) h))

pub document_read : (d : Data) → StandsAt false roles.Document d → All IsPlainConstruct (application_of d)
document_read (object ms) h = root_read (schema_named (text_at (codes "app") ms)) ms (members_in false roles.Document ms h)
document_read d h = tt
