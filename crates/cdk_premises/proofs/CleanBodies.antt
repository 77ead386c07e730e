-- What a construct of a kind has is clean, where nothing is found in its members.
use Rattle.std.proofs.Common.{◌≡◌, ℕ, List, Bool, true, false, cond, codes, Option, Some, None, option_map, option_and_then, refl, ap, ◌∙◌, subst}
use Rattle.std.specs.Prelude.{unwrap_or}
use Rattle.std.specs.Str.{bytes_eq}
use Rattle.serde_json.specs.Data.{Data, object, Members, no_members, member}
use Rattle.serde_json.specs.Find.{as_object, get_member}
use Rattle.cdk_base.specs.Json.{is_form_key}
use Rattle.cdk_base.specs.Marker.{has_marker}
use Rattle.cdk_premises.specs.CleanConstruct.{AreCleanAlone, IsCleanAlone, IsCleanContext}
use Rattle.cdk_premises.proofs.CleanConditions.{HasCleanOperands, condition_read}
use Rattle.cdk_premises.proofs.CleanExpressions.{expression_read}
use Rattle.cdk_premises.proofs.CleanForms.{FieldsAreCleanAlone, anywhere, told}
use Rattle.cdk_premises.proofs.CleanLiterals.{literals_clean}
use Rattle.cdk_premises.proofs.CleanPlaces.{MembersStand, StandsAt, member_stands, members_in, members_stand, nothing_there, same_key, stands_at}
use Rattle.cdk_language.specs.Application.{body_in, condition_of, context_in, entries_of, expression_of, fields_of, head_in, if_given, output_in, parameter_form_of, parameter_in, policy_of, properties_of, resource_in, text_at, texts_of}
use Rattle.cdk_language.specs.Construct as construct
use Rattle.cdk_language.specs.Construct.{AspectEntry, Body, Head}
use Rattle.cdk_language.specs.Expression as expression
use Rattle.cdk_language.specs.Expression.{Expression}
use Rattle.cdk_language.specs.Schema.{construct_frame, kind_in, kind_named, member_role}
use Rattle.cdk_language.specs.declared.construct.ParameterForm.{ParameterForm}
use Rattle.cdk_language.specs.declared.schema.Frame.{Frame}
use Rattle.cdk_language.specs.declared.schema.Frame.TheVariants as frames
use Rattle.cdk_language.specs.declared.schema.KindName.{KindName}
use Rattle.cdk_language.specs.declared.schema.KindName.TheVariants as kinds
use Rattle.cdk_language.specs.declared.schema.Role.{Role}
use Rattle.cdk_language.specs.declared.schema.Role.TheVariants as roles
use Rattle.cdk_language.specs.declared.schema.Schema.{Schema}
use Rattle.cdk_language.specs.declared.schema.Within.TheVariants as within
use Rattle.cdk_contexts.specs.Expressions.{expressions_in}
use Rattle.cdk_premises.proofs.ReadExpressions.{All, made, made_then, mapped, then}

-- ---- properties

property_role : {A : Type 0} (b marked : Bool) (d : Data) → StandsAt marked (cond b roles.Nothing (roles.Expression within.Construct)) d → (StandsAt marked (roles.Expression within.Construct) d → A) → A
property_role true marked d h f = nothing_there marked d h
property_role false marked d h f = f h

property_fields_read : (ms : Members) → MembersStand frames.Properties ms → All FieldsAreCleanAlone (fields_of ms)
property_fields_read no_members h = tt
property_fields_read (member k d ms) h =
    then IsCleanAlone FieldsAreCleanAlone (λ e. option_map (expression.field k e) (fields_of ms)) (expression_of d)
    (λ e c. mapped FieldsAreCleanAlone FieldsAreCleanAlone (expression.field k e) (fields_of ms) (λ fs cs. (c, cs)) (property_fields_read ms (members_stand frames.Properties k d ms h)))
    (property_role (is_form_key k) (has_marker k) d (member_stands frames.Properties k d ms h) (λ s. expression_read anywhere within.Construct (has_marker k) d s tt))

properties_read : (marked : Bool) (o : Option Data) → All (StandsAt marked roles.Properties) o → All IsCleanAlone (properties_of o)
properties_read marked None h = tt
properties_read marked (Some (object ms)) h =
    mapped FieldsAreCleanAlone IsCleanAlone expression.object (fields_of ms) (λ fs c. c) (property_fields_read ms (members_in marked roles.Properties ms h))
properties_read marked (Some d) h = tt

-- ---- bodies

abbrev pub IsCleanBody : Body → Type 0
IsCleanBody b = AreCleanAlone (expressions_in b)

abbrev resource : Members → List ℕ → Expression → Body
resource ms t e = construct.resource (record {
  resource_type = t;
  properties = e;
  condition = text_at (codes "condition") ms;
  deletion = option_and_then policy_of (text_at (codes "deletionPolicy") ms);
  replace = option_and_then policy_of (text_at (codes "updateReplacePolicy") ms);
})

resource_read : (schema : Schema) (ms : Members) → MembersStand (frames.Construct schema kinds.Resource) ms → All IsCleanBody (resource_in ms)
resource_read schema ms h =
    let properties = properties_of (get_member (codes "properties") ms) in
    let clean = properties_read (has_marker (codes "properties")) (get_member (codes "properties") ms) (stands_at (frames.Construct schema kinds.Resource) (codes "properties") ms h) in
    made_then IsCleanBody (λ t. option_map (resource ms t) properties) (text_at (codes "type") ms) (λ t. mapped IsCleanAlone IsCleanBody (resource ms t) properties (λ e c. (c, tt)) clean)

abbrev parameter : Members → ParameterForm → Body
parameter ms f = construct.parameter (record { form = f; default = text_at (codes "default") ms; description = text_at (codes "description") ms })

parameter_read : (ms : Members) → All IsCleanBody (parameter_in ms)
parameter_read ms = made IsCleanBody (parameter ms) (option_and_then parameter_form_of (text_at (codes "type") ms)) (λ f. tt)

condition_body_read : (schema : Schema) (ms : Members) → MembersStand (frames.Construct schema kinds.Condition) ms
    → All IsCleanBody (option_map construct.condition_body (option_and_then condition_of (get_member (codes "expression") ms)))
condition_body_read schema ms h =
    let o = get_member (codes "expression") ms in
    mapped HasCleanOperands IsCleanBody construct.condition_body (option_and_then condition_of o) (λ c g. g)
    (then (StandsAt (has_marker (codes "expression")) roles.Condition) HasCleanOperands condition_of o (λ d s. condition_read (has_marker (codes "expression")) d s)
    (stands_at (frames.Construct schema kinds.Condition) (codes "expression") ms h))

-- the value of an output or a lazy
value_read : (o : Option Data) → All (StandsAt (has_marker (codes "value")) (roles.Expression within.Construct)) o → All IsCleanAlone (option_and_then expression_of o)
value_read o h =
    then (StandsAt (has_marker (codes "value")) (roles.Expression within.Construct)) IsCleanAlone expression_of o (λ d s. expression_read anywhere within.Construct (has_marker (codes "value")) d s tt) h

abbrev output : Members → Expression → Body
output ms e = construct.output (record {
  value = e;
  description = text_at (codes "description") ms;
  export = text_at (codes "exportName") ms;
  condition = text_at (codes "condition") ms;
})

output_read : (schema : Schema) (ms : Members) → MembersStand (frames.Construct schema kinds.Output) ms → All IsCleanBody (output_in ms)
output_read schema ms h =
    mapped IsCleanAlone IsCleanBody (output ms) (option_and_then expression_of (get_member (codes "value") ms)) (λ e c. (c, tt))
    (value_read (get_member (codes "value") ms) (stands_at (frames.Construct schema kinds.Output) (codes "value") ms h))

lazy_read : (schema : Schema) (ms : Members) → MembersStand (frames.Construct schema kinds.Lazy) ms → All IsCleanBody (option_map construct.lazy (option_and_then expression_of (get_member (codes "value") ms)))
lazy_read schema ms h =
    mapped IsCleanAlone IsCleanBody construct.lazy (option_and_then expression_of (get_member (codes "value") ms)) (λ e c. (c, tt))
    (value_read (get_member (codes "value") ms) (stands_at (frames.Construct schema kinds.Lazy) (codes "value") ms h))

-- ---- by kind

abbrev pub IsNamed : Members → List ℕ → Type 0
IsNamed ms k = text_at (codes "kind") ms ≡ Some k

-- the frame of a construct whose kind is named so
frame_at : (schema : Schema) (ms : Members) (k name : List ℕ) (kind : KindName) → kind_named name ≡ Some kind → IsNamed ms k → MembersStand (construct_frame schema (kind_in ms)) ms → bytes_eq k name ≡ true
    → MembersStand (frames.Construct schema kind) ms
frame_at schema ms k name kind names named h e =
    subst (λ o. MembersStand (construct_frame schema o) ms) (ap (option_and_then kind_named) named ∙ (ap kind_named (same_key k name e) ∙ names)) h

pub body_read : (schema : Schema) (ms : Members) (k : List ℕ) → IsNamed ms k → MembersStand (construct_frame schema (kind_in ms)) ms → All IsCleanBody (body_in ms k)
body_read schema ms k named h =
    told IsCleanBody (bytes_eq k (codes "stage")) (Some construct.stage) _ (λ is. tt)
    (told IsCleanBody (bytes_eq k (codes "stack")) (Some (construct.stack (text_at (codes "description") ms))) _ (λ is. tt)
    (told IsCleanBody (bytes_eq k (codes "group")) (Some construct.group) _ (λ is. tt)
    (told IsCleanBody (bytes_eq k (codes "resource")) _ _ (λ is. resource_read schema ms (frame_at schema ms k (codes "resource") kinds.Resource refl named h is))
    (told IsCleanBody (bytes_eq k (codes "parameter")) _ _ (λ is. parameter_read ms)
    (told IsCleanBody (bytes_eq k (codes "condition")) _ _ (λ is. condition_body_read schema ms (frame_at schema ms k (codes "condition") kinds.Condition refl named h is))
    (told IsCleanBody (bytes_eq k (codes "mapping")) _ _ (λ is. made IsCleanBody construct.mapping (option_and_then as_object (get_member (codes "mappings") ms)) (λ m. tt))
    (told IsCleanBody (bytes_eq k (codes "output")) _ _ (λ is. output_read schema ms (frame_at schema ms k (codes "output") kinds.Output refl named h is))
    (told IsCleanBody (bytes_eq k (codes "lazy")) _ None (λ is. lazy_read schema ms (frame_at schema ms k (codes "lazy") kinds.Lazy refl named h is)) tt))))))))

-- ---- heads

abbrev pub HasCleanContext : Head → Type 0
HasCleanContext h = IsCleanContext h.context

given_clean : (marked : Bool) (o : Option Data) → All (StandsAt marked roles.Context) o → IsCleanContext (unwrap_or (option_and_then as_object o) no_members)
given_clean marked None h = tt
given_clean marked (Some (object ms)) h = literals_clean ms (members_in marked roles.Context ms h)
given_clean marked (Some d) h = tt

abbrev head : Members → List ℕ → List AspectEntry → List (List ℕ) → Head
head ms i es ds = record { id = i; context = context_in ms; aspects = es; depends = ds; logical = text_at (codes "logicalId") ms }

-- in a frame that has contexts
pub head_read : (frame : Frame) (ms : Members) (i : List ℕ) → member_role frame (codes "context") ≡ roles.Context → MembersStand frame ms → All HasCleanContext (head_in ms i)
head_read frame ms i may h =
    let depends = if_given texts_of (get_member (codes "dependsOn") ms) in
    let stands = subst (λ (r : Role). All (StandsAt (has_marker (codes "context")) r) (get_member (codes "context") ms)) may (stands_at frame (codes "context") ms h) in
    let clean : IsCleanContext (context_in ms) = given_clean (has_marker (codes "context")) (get_member (codes "context") ms) stands in
    made_then HasCleanContext (λ es. option_map (head ms i es) depends) (if_given entries_of (get_member (codes "aspects") ms)) (λ es. made HasCleanContext (head ms i es) depends (λ ds. clean))
