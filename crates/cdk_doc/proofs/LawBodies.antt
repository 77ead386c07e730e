-- What the constructs of a kind have, where nothing is found in their members.
use Rattle.std.proofs.Common.{◌≡◌, ℕ, List, [], Bool, true, false, cond, codes, Option, Some, None, option_map, option_and_then, refl, ap, ◌∙◌, subst}
use Rattle.std.specs.Prelude.{◌||◌}
use Rattle.serde_json.specs.Data.{Data, null, boolean, number, string, array, object, Members, no_members, member}
use Rattle.serde_json.specs.Find.{get_member, as_str, as_object}
use Rattle.cdk_base.specs.Json.{is_form_key}
use Rattle.cdk_base.specs.Marker.{has_marker}
use Rattle.cdk_language.specs.Application.{text_at, expression_of, fields_of, condition_of, policy_of, parameter_form_of, properties_of, resource_in, parameter_in, output_in, body_in}
use Rattle.cdk_language.specs.Construct as construct
use Rattle.cdk_language.specs.Construct.{Body}
use Rattle.cdk_language.specs.Expression as expression
use Rattle.cdk_language.specs.Expression.{Expression}
use Rattle.cdk_language.specs.Findings.{in_members}
use Rattle.cdk_language.specs.Schema.{is, member_role, lacks, kind_named, needed_member, is_filled, is_parameter_type}
use Rattle.cdk_language.specs.declared.construct.ParameterForm.{ParameterForm}
use Rattle.cdk_language.specs.declared.schema.Frame.{Frame}
use Rattle.cdk_language.specs.declared.schema.Frame.TheVariants as frames
use Rattle.cdk_language.specs.declared.schema.KindName.{KindName}
use Rattle.cdk_language.specs.declared.schema.KindName.TheVariants as kinds
use Rattle.cdk_language.specs.declared.schema.Role.TheVariants as roles
use Rattle.cdk_language.specs.declared.schema.Schema.{Schema}
use Rattle.cdk_language.specs.declared.schema.Within.TheVariants as within
use Rattle.cdk_doc.proofs.LawPlaces.{Found, IsCleanAt, clean, first_member, rest_members, mapped, both, then, along, such_text_found, nothing_there}
use Rattle.cdk_doc.proofs.LawMembers.{member_clean, there}
use Rattle.cdk_doc.proofs.LawExpressions.{expression_found, anywhere}
use Rattle.cdk_doc.proofs.LawConditions.{condition_found}

-- a member that is there, in its role
pub record Needed (frame : Frame) (k : List ℕ) (ms : Members) : Type 0 where
  pub value : Data
  pub got : get_member k ms ≡ Some value
  pub clean_at : IsCleanAt (has_marker k) (member_role frame k) value

pub needed : (frame : Frame) (k : List ℕ) (ms : Members) → in_members frame ms ≡ [] → lacks k ms ≡ false → Needed frame k ms
needed frame k ms e h = let d = there (get_member k ms) h in record { value = d.0; got = d.1; clean_at = member_clean frame k ms d.0 e d.1 }

-- what is read of a member that is there
pub read_of : {X : Type 0} (read : Data → Option X) (o : Option Data) (d : Data) → o ≡ Some d → Found (read d) → Found (option_and_then read o)
read_of read o d is h = along (option_and_then read o) (read d) (ap (option_and_then read) is) h

-- ---- properties

property_role : {A : Type 0} (b marked : Bool) (d : Data) → (IsCleanAt marked (roles.Expression within.Construct) d → A) → IsCleanAt marked (cond b roles.Nothing (roles.Expression within.Construct)) d → A
property_role true marked d f e = nothing_there marked d e
property_role false marked d f e = f e

property_fields_found : (ms : Members) → in_members frames.Properties ms ≡ [] → Found (fields_of ms)
property_fields_found no_members e = (_, refl)
property_fields_found (member k d ms) e =
    both (expression.field k) (expression_of d) (fields_of ms)
    (property_role (is_form_key k) (has_marker k) d (expression_found anywhere within.Construct (has_marker k) d) (first_member frames.Properties k d ms e))
    (property_fields_found ms (rest_members frames.Properties k d ms e))

properties_found : (marked : Bool) (o : Option Data) → ((d : Data) → o ≡ Some d → IsCleanAt marked roles.Properties d) → Found (properties_of o)
properties_found marked None h = (_, refl)
properties_found marked (Some (object ms)) h = mapped expression.object (fields_of ms) (property_fields_found ms (clean marked roles.Properties (object ms) (h (object ms) refl)).deeper)
properties_found marked (Some null) h = let e = h null refl in absurd (cc e)
properties_found marked (Some (boolean b)) h = let e = h (boolean b) refl in absurd (cc e)
properties_found marked (Some (number n)) h = let e = h (number n) refl in absurd (cc e)
properties_found marked (Some (string s)) h = let e = h (string s) refl in absurd (cc e)
properties_found marked (Some (array ds)) h = let e = h (array ds) refl in absurd (cc e)

-- ---- by kind

abbrev pub frame : Schema → KindName → Frame
frame schema kind = frames.Construct schema kind

-- what a kind's members have to meet
pub record Whole (schema : Schema) (ms : Members) (kind : KindName) : Type 0 where
  pub clean_members : in_members (frames.Construct schema kind) ms ≡ []
  pub has : lacks (needed_member kind) ms ≡ false

abbrev resource : Members → List ℕ → Expression → Body
resource ms t e = construct.resource (record {
  resource_type = t;
  properties = e;
  condition = text_at (codes "condition") ms;
  deletion = option_and_then policy_of (text_at (codes "deletionPolicy") ms);
  replace = option_and_then policy_of (text_at (codes "updateReplacePolicy") ms);
})

resource_found : (schema : Schema) (ms : Members) → Whole schema ms kinds.Resource → Found (resource_in ms)
resource_found schema ms h =
    let t = needed (frame schema kinds.Resource) (codes "type") ms h.clean_members h.has in
    let s = such_text_found is_filled t.value (clean (has_marker (codes "type")) roles.NonEmptyText t.value t.clean_at).right in
    let p = properties_found (has_marker (codes "properties")) (get_member (codes "properties") ms) (λ d got. member_clean (frame schema kinds.Resource) (codes "properties") ms d h.clean_members got) in
    both (resource ms) (text_at (codes "type") ms) (properties_of (get_member (codes "properties") ms)) (read_of as_str (get_member (codes "type") ms) t.value t.got (s.0, s.1)) p

form_found : (a b c : Bool) (x y z : ParameterForm) → (a || (b || c)) ≡ true → Found (cond a (Some x) (cond b (Some y) (cond c (Some z) None)))
form_found true b c x y z h = (x, refl)
form_found false true c x y z h = (y, refl)
form_found false false true x y z h = (z, refl)
form_found false false false x y z h = absurd (cc)

parameter_found : (schema : Schema) (ms : Members) → Whole schema ms kinds.Parameter → Found (parameter_in ms)
parameter_found schema ms h =
    let t = needed (frame schema kinds.Parameter) (codes "type") ms h.clean_members h.has in
    let s = such_text_found is_parameter_type t.value (clean (has_marker (codes "type")) roles.ParameterType t.value t.clean_at).right in
    let text : text_at (codes "type") ms ≡ Some s.0 = ap (option_and_then as_str) t.got ∙ s.1 in
    let f = form_found (is s.0 (codes "String")) (is s.0 (codes "Number")) (is s.0 (codes "CommaDelimitedList")) _ _ _ s.2 in
    mapped _ (option_and_then parameter_form_of (text_at (codes "type") ms)) (then parameter_form_of (text_at (codes "type") ms) (s.0, text) f)

condition_body_found : (schema : Schema) (ms : Members) → Whole schema ms kinds.Condition → Found (option_map construct.condition_body (option_and_then condition_of (get_member (codes "expression") ms)))
condition_body_found schema ms h =
    let t = needed (frame schema kinds.Condition) (codes "expression") ms h.clean_members h.has in
    mapped construct.condition_body _ (read_of condition_of (get_member (codes "expression") ms) t.value t.got (condition_found (has_marker (codes "expression")) t.value t.clean_at))

object_found : (marked : Bool) (d : Data) → IsCleanAt marked roles.Mapping d → Found (as_object d)
object_found marked (object ms) e = (ms, refl)
object_found marked null e = absurd (cc)
object_found marked (boolean b) e = absurd (cc)
object_found marked (number n) e = absurd (cc)
object_found marked (string s) e = absurd (cc)
object_found marked (array ds) e = absurd (cc)

mapping_found : (schema : Schema) (ms : Members) → Whole schema ms kinds.Mapping → Found (option_map construct.mapping (option_and_then as_object (get_member (codes "mappings") ms)))
mapping_found schema ms h =
    let t = needed (frame schema kinds.Mapping) (codes "mappings") ms h.clean_members h.has in
    mapped construct.mapping _ (read_of as_object (get_member (codes "mappings") ms) t.value t.got (object_found (has_marker (codes "mappings")) t.value t.clean_at))

output_found : (schema : Schema) (ms : Members) → Whole schema ms kinds.Output → Found (output_in ms)
output_found schema ms h =
    let t = needed (frame schema kinds.Output) (codes "value") ms h.clean_members h.has in
    mapped _ (option_and_then expression_of (get_member (codes "value") ms)) (read_of expression_of (get_member (codes "value") ms) t.value t.got (expression_found anywhere within.Construct (has_marker (codes "value")) t.value t.clean_at))

lazy_found : (schema : Schema) (ms : Members) → Whole schema ms kinds.Lazy → Found (option_map construct.lazy (option_and_then expression_of (get_member (codes "value") ms)))
lazy_found schema ms h =
    let t = needed (frame schema kinds.Lazy) (codes "value") ms h.clean_members h.has in
    mapped construct.lazy _ (read_of expression_of (get_member (codes "value") ms) t.value t.got (expression_found anywhere within.Construct (has_marker (codes "value")) t.value t.clean_at))

by_kind : (schema : Schema) (ms : Members) (b : Bool) (kind q : KindName) (named : Option KindName) (x rest : Option Body) → (Whole schema ms kind → Found x) → (named ≡ Some q → Found rest)
    → Whole schema ms q → cond b (Some kind) named ≡ Some q → Found (cond b x rest)
by_kind schema ms true kind q named x rest f g h e = let same : q ≡ kind = cc in f (subst (Whole schema ms) same h)
by_kind schema ms false kind q named x rest f g h e = g e

pub body_found : (schema : Schema) (ms : Members) (q : KindName) (s : List ℕ) → Whole schema ms q → kind_named s ≡ Some q → Found (body_in ms s)
body_found schema ms q s h e =
    by_kind schema ms (is s (codes "stage")) kinds.Stage q _ _ _ (λ w. (_, refl))
    (λ e1. by_kind schema ms (is s (codes "stack")) kinds.Stack q _ _ _ (λ w. (_, refl))
    (λ e2. by_kind schema ms (is s (codes "group")) kinds.Group q _ _ _ (λ w. (_, refl))
    (λ e3. by_kind schema ms (is s (codes "resource")) kinds.Resource q _ _ _ (λ w. resource_found schema ms w)
    (λ e4. by_kind schema ms (is s (codes "parameter")) kinds.Parameter q _ _ _ (λ w. parameter_found schema ms w)
    (λ e5. by_kind schema ms (is s (codes "condition")) kinds.Condition q _ _ _ (λ w. condition_body_found schema ms w)
    (λ e6. by_kind schema ms (is s (codes "mapping")) kinds.Mapping q _ _ _ (λ w. mapping_found schema ms w)
    (λ e7. by_kind schema ms (is s (codes "output")) kinds.Output q _ _ _ (λ w. output_found schema ms w)
    (λ e8. by_kind schema ms (is s (codes "lazy")) kinds.Lazy q _ _ _ (λ w. lazy_found schema ms w)
    (λ e9. absurd (cc e9)) h e8) h e7) h e6) h e5) h e4) h e3) h e2) h e1) h e
