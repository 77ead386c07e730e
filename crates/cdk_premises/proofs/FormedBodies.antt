-- What a construct of a kind has is formed, where nothing is found in its members.
use Rattle.std.proofs.Common.{◌≡◌, ℕ, List, Bool, true, false, cond, codes, Option, Some, None, option_map, option_and_then, refl, ap, ◌∙◌, subst}
use Rattle.std.specs.Prelude.{unwrap_or}
use Rattle.std.specs.Str.{bytes_eq}
use Rattle.serde_json.specs.Data.{Data, null, boolean, number, string, array, object, Members, no_members, member}
use Rattle.serde_json.specs.Find.{as_object, get_member}
use Rattle.cdk_base.specs.Json.{is_form_key}
use Rattle.cdk_base.specs.Marker.{has_marker}
use Rattle.cdk_base.specs.Pretty.{IsCanonical, MembersAreCanonical}
use Rattle.cdk_premises.proofs.CleanForms.{anywhere, told}
use Rattle.cdk_premises.proofs.CleanPlaces.{MembersStand, StandsAt, is_right, member_stands, members_in, members_stand, no_fraction, nothing_there, same_key, stands_at}
use Rattle.cdk_expansion.proofs.LiteralFound.{whole_has_text}
use Rattle.cdk_premises.specs.Formed.{IsFormedMapping}
use Rattle.cdk_premises.specs.FormedConstruct.{IsFormedBodyAlone, IsFormedContext}
use Rattle.cdk_premises.proofs.FormedConditions.{IsConditionAlone, condition_read}
use Rattle.cdk_premises.proofs.FormedExpressions.{expression_read}
use Rattle.cdk_premises.proofs.FormedForms.{FieldsAreFormedAlone, IsFormedAlone}
use Rattle.cdk_premises.proofs.FormedLiterals.{context_formed, not_intrinsic, whole_read}
use Rattle.cdk_language.specs.Application.{body_in, condition_of, context_in, entries_of, expression_of, fields_of, head_in, if_given, output_in, parameter_form_of, parameter_in, policy_of, properties_of, resource_in, text_at, texts_of}
use Rattle.cdk_language.specs.Construct as construct
use Rattle.cdk_language.specs.Construct.{AspectEntry, Body, Head}
use Rattle.cdk_language.specs.Expression as expression
use Rattle.cdk_language.specs.Expression.{Expression}
use Rattle.cdk_language.specs.Schema.{construct_frame, kind_in, kind_named, member_role}
use Rattle.cdk_language.specs.declared.construct.ParameterForm.{ParameterForm}
use Rattle.cdk_language.specs.declared.schema.Frame.{Frame}
use Rattle.cdk_language.specs.declared.schema.Frame.TheVariants as frames
use Rattle.cdk_language.specs.declared.schema.KindName.{KindName}
use Rattle.cdk_language.specs.declared.schema.KindName.TheVariants as kinds
use Rattle.cdk_language.specs.declared.schema.Role.{Role}
use Rattle.cdk_language.specs.declared.schema.Role.TheVariants as roles
use Rattle.cdk_language.specs.declared.schema.Schema.{Schema}
use Rattle.cdk_language.specs.declared.schema.Within.TheVariants as within
use Rattle.cdk_meaning.specs.StackTemplate.{EachMember, IsLeaf, IsRow}
use Rattle.cdk_premises.specs.Written.{IsObject}
use Rattle.cdk_premises.proofs.ReadExpressions.{All, made, made_then, mapped, then}

-- ---- properties

abbrev ArePropertiesAlone : Expression → Type 0
ArePropertiesAlone e = IsObject e × IsFormedAlone e

property_role : {A : Type 0} (b marked : Bool) (d : Data) → StandsAt marked (cond b roles.Nothing (roles.Expression within.Construct)) d → (b ≡ false → StandsAt marked (roles.Expression within.Construct) d → A) → A
property_role true marked d h f = nothing_there marked d h
property_role false marked d h f = f refl h

property_fields_read : (ms : Members) → MembersStand frames.Properties ms → All FieldsAreFormedAlone (fields_of ms)
property_fields_read no_members h = tt
property_fields_read (member k d ms) h =
    property_role (is_form_key k) (has_marker k) d (member_stands frames.Properties k d ms h)
    (λ plain s. then IsFormedAlone FieldsAreFormedAlone (λ e. option_map (expression.field k e) (fields_of ms)) (expression_of d)
    (λ e c. mapped FieldsAreFormedAlone FieldsAreFormedAlone (expression.field k e) (fields_of ms) (λ fs cs. (not_intrinsic k plain, c, cs)) (property_fields_read ms (members_stand frames.Properties k d ms h)))
    (expression_read anywhere within.Construct (has_marker k) d s))

properties_read : (marked : Bool) (o : Option Data) → All (StandsAt marked roles.Properties) o → All ArePropertiesAlone (properties_of o)
properties_read marked None h = (tt, tt)
properties_read marked (Some (object ms)) h =
    mapped FieldsAreFormedAlone ArePropertiesAlone expression.object (fields_of ms) (λ fs c. (tt, c)) (property_fields_read ms (members_in marked roles.Properties ms h))
properties_read marked (Some d) h = tt

-- ---- mappings

abbrev IsFormedLeaf : Data → Type 0
IsFormedLeaf d = IsLeaf d × IsCanonical d

leaf_read : (marked : Bool) (d : Data) → StandsAt marked roles.MappingLeaf d → IsFormedLeaf d
leaf_read marked null h = let e = is_right marked roles.MappingLeaf null h in absurd (cc e)
leaf_read marked (boolean b) h = (refl, tt)
leaf_read marked (number n) h = let whole = no_fraction marked roles.MappingLeaf (number n) h in (whole_has_text n (whole_read n h.0 whole), h.0 whole)
leaf_read marked (string s) h = (refl, tt)
leaf_read marked (array ds) h = let e = is_right marked roles.MappingLeaf (array ds) h in absurd (cc e)
leaf_read marked (object ms) h = let e = is_right marked roles.MappingLeaf (object ms) h in absurd (cc e)

leaves_read : (ms : Members) → MembersStand frames.MappingRow ms → EachMember IsLeaf ms × MembersAreCanonical ms
leaves_read no_members h = (tt, tt)
leaves_read (member k d ms) h =
    let first = leaf_read (has_marker k) d (member_stands frames.MappingRow k d ms h) in
    let rest = leaves_read ms (members_stand frames.MappingRow k d ms h) in
    ((first.0, rest.0), (first.1, (h.0.1.0, rest.1)))

row_read : (marked : Bool) (d : Data) → StandsAt marked roles.MappingRow d → IsRow d × IsCanonical d
row_read marked (object ms) h = leaves_read ms (members_in marked roles.MappingRow ms h)
row_read marked null h = let e = is_right marked roles.MappingRow null h in absurd (cc e)
row_read marked (boolean b) h = let e = is_right marked roles.MappingRow (boolean b) h in absurd (cc e)
row_read marked (number n) h = let e = is_right marked roles.MappingRow (number n) h in absurd (cc e)
row_read marked (string s) h = let e = is_right marked roles.MappingRow (string s) h in absurd (cc e)
row_read marked (array ds) h = let e = is_right marked roles.MappingRow (array ds) h in absurd (cc e)

rows_read : (ms : Members) → MembersStand frames.Mapping ms → IsFormedMapping ms
rows_read no_members h = (tt, tt)
rows_read (member k d ms) h =
    let first = row_read (has_marker k) d (member_stands frames.Mapping k d ms h) in
    let rest = rows_read ms (members_stand frames.Mapping k d ms h) in
    ((first.0, rest.0), (first.1, (h.0.1.0, rest.1)))

mapping_object_read : (marked : Bool) (d : Data) → StandsAt marked roles.Mapping d → All IsFormedMapping (as_object d)
mapping_object_read marked (object ms) h = rows_read ms (members_in marked roles.Mapping ms h)
mapping_object_read marked d h = tt

-- ---- bodies

abbrev resource : Members → List ℕ → Expression → Body
resource ms t e = construct.resource (record {
  resource_type = t;
  properties = e;
  condition = text_at (codes "condition") ms;
  deletion = option_and_then policy_of (text_at (codes "deletionPolicy") ms);
  replace = option_and_then policy_of (text_at (codes "updateReplacePolicy") ms);
})

resource_read : (schema : Schema) (ms : Members) → MembersStand (frames.Construct schema kinds.Resource) ms → All IsFormedBodyAlone (resource_in ms)
resource_read schema ms h =
    let properties = properties_of (get_member (codes "properties") ms) in
    let formed = properties_read (has_marker (codes "properties")) (get_member (codes "properties") ms) (stands_at (frames.Construct schema kinds.Resource) (codes "properties") ms h) in
    made_then IsFormedBodyAlone (λ t. option_map (resource ms t) properties) (text_at (codes "type") ms) (λ t. mapped ArePropertiesAlone IsFormedBodyAlone (resource ms t) properties (λ e c. c) formed)

abbrev parameter : Members → ParameterForm → Body
parameter ms f = construct.parameter (record { form = f; default = text_at (codes "default") ms; description = text_at (codes "description") ms })

parameter_read : (ms : Members) → All IsFormedBodyAlone (parameter_in ms)
parameter_read ms = made IsFormedBodyAlone (parameter ms) (option_and_then parameter_form_of (text_at (codes "type") ms)) (λ f. tt)

condition_body_read : (schema : Schema) (ms : Members) → MembersStand (frames.Construct schema kinds.Condition) ms
    → All IsFormedBodyAlone (option_map construct.condition_body (option_and_then condition_of (get_member (codes "expression") ms)))
condition_body_read schema ms h =
    let o = get_member (codes "expression") ms in
    mapped IsConditionAlone IsFormedBodyAlone construct.condition_body (option_and_then condition_of o) (λ c g. g)
    (then (StandsAt (has_marker (codes "expression")) roles.Condition) IsConditionAlone condition_of o (λ d s. condition_read (has_marker (codes "expression")) d s)
    (stands_at (frames.Construct schema kinds.Condition) (codes "expression") ms h))

mapping_read : (schema : Schema) (ms : Members) → MembersStand (frames.Construct schema kinds.Mapping) ms → All IsFormedBodyAlone (option_map construct.mapping (option_and_then as_object (get_member (codes "mappings") ms)))
mapping_read schema ms h =
    let o = get_member (codes "mappings") ms in
    mapped IsFormedMapping IsFormedBodyAlone construct.mapping (option_and_then as_object o) (λ m g. g)
    (then (StandsAt (has_marker (codes "mappings")) roles.Mapping) IsFormedMapping as_object o (λ d s. mapping_object_read (has_marker (codes "mappings")) d s)
    (stands_at (frames.Construct schema kinds.Mapping) (codes "mappings") ms h))

-- the value of an output or a lazy
value_read : (o : Option Data) → All (StandsAt (has_marker (codes "value")) (roles.Expression within.Construct)) o → All IsFormedAlone (option_and_then expression_of o)
value_read o h =
    then (StandsAt (has_marker (codes "value")) (roles.Expression within.Construct)) IsFormedAlone expression_of o (λ d s. expression_read anywhere within.Construct (has_marker (codes "value")) d s) h

abbrev output : Members → Expression → Body
output ms e = construct.output (record {
  value = e;
  description = text_at (codes "description") ms;
  export = text_at (codes "exportName") ms;
  condition = text_at (codes "condition") ms;
})

output_read : (schema : Schema) (ms : Members) → MembersStand (frames.Construct schema kinds.Output) ms → All IsFormedBodyAlone (output_in ms)
output_read schema ms h =
    mapped IsFormedAlone IsFormedBodyAlone (output ms) (option_and_then expression_of (get_member (codes "value") ms)) (λ e c. c)
    (value_read (get_member (codes "value") ms) (stands_at (frames.Construct schema kinds.Output) (codes "value") ms h))

lazy_read : (schema : Schema) (ms : Members) → MembersStand (frames.Construct schema kinds.Lazy) ms → All IsFormedBodyAlone (option_map construct.lazy (option_and_then expression_of (get_member (codes "value") ms)))
lazy_read schema ms h =
    mapped IsFormedAlone IsFormedBodyAlone construct.lazy (option_and_then expression_of (get_member (codes "value") ms)) (λ e c. c)
    (value_read (get_member (codes "value") ms) (stands_at (frames.Construct schema kinds.Lazy) (codes "value") ms h))

-- ---- by kind

abbrev pub IsNamed : Members → List ℕ → Type 0
IsNamed ms k = text_at (codes "kind") ms ≡ Some k

-- the frame of a construct whose kind is named so
frame_at : (schema : Schema) (ms : Members) (k name : List ℕ) (kind : KindName) → kind_named name ≡ Some kind → IsNamed ms k → MembersStand (construct_frame schema (kind_in ms)) ms → bytes_eq k name ≡ true
    → MembersStand (frames.Construct schema kind) ms
frame_at schema ms k name kind names named h e =
    subst (λ o. MembersStand (construct_frame schema o) ms) (ap (option_and_then kind_named) named ∙ (ap kind_named (same_key k name e) ∙ names)) h

pub body_read : (schema : Schema) (ms : Members) (k : List ℕ) → IsNamed ms k → MembersStand (construct_frame schema (kind_in ms)) ms → All IsFormedBodyAlone (body_in ms k)
body_read schema ms k named h =
    told IsFormedBodyAlone (bytes_eq k (codes "stage")) (Some construct.stage) _ (λ is. tt)
    (told IsFormedBodyAlone (bytes_eq k (codes "stack")) (Some (construct.stack (text_at (codes "description") ms))) _ (λ is. tt)
    (told IsFormedBodyAlone (bytes_eq k (codes "group")) (Some construct.group) _ (λ is. tt)
    (told IsFormedBodyAlone (bytes_eq k (codes "resource")) _ _ (λ is. resource_read schema ms (frame_at schema ms k (codes "resource") kinds.Resource refl named h is))
    (told IsFormedBodyAlone (bytes_eq k (codes "parameter")) _ _ (λ is. parameter_read ms)
    (told IsFormedBodyAlone (bytes_eq k (codes "condition")) _ _ (λ is. condition_body_read schema ms (frame_at schema ms k (codes "condition") kinds.Condition refl named h is))
    (told IsFormedBodyAlone (bytes_eq k (codes "mapping")) _ _ (λ is. mapping_read schema ms (frame_at schema ms k (codes "mapping") kinds.Mapping refl named h is))
    (told IsFormedBodyAlone (bytes_eq k (codes "output")) _ _ (λ is. output_read schema ms (frame_at schema ms k (codes "output") kinds.Output refl named h is))
    (told IsFormedBodyAlone (bytes_eq k (codes "lazy")) _ None (λ is. lazy_read schema ms (frame_at schema ms k (codes "lazy") kinds.Lazy refl named h is)) tt))))))))

-- ---- heads

abbrev pub HasFormedContext : Head → Type 0
HasFormedContext h = IsFormedContext h.context

given_formed : (marked : Bool) (o : Option Data) → All (StandsAt marked roles.Context) o → IsFormedContext (unwrap_or (option_and_then as_object o) no_members)
given_formed marked None h = tt
given_formed marked (Some (object ms)) h = context_formed ms (members_in marked roles.Context ms h)
given_formed marked (Some d) h = tt

abbrev head : Members → List ℕ → List AspectEntry → List (List ℕ) → Head
head ms i es ds = record { id = i; context = context_in ms; aspects = es; depends = ds; logical = text_at (codes "logicalId") ms }

-- in a frame that has contexts
pub head_read : (frame : Frame) (ms : Members) (i : List ℕ) → member_role frame (codes "context") ≡ roles.Context → MembersStand frame ms → All HasFormedContext (head_in ms i)
head_read frame ms i may h =
    let depends = if_given texts_of (get_member (codes "dependsOn") ms) in
    let stands = subst (λ (r : Role). All (StandsAt (has_marker (codes "context")) r) (get_member (codes "context") ms)) may (stands_at frame (codes "context") ms h) in
    let formed : IsFormedContext (context_in ms) = given_formed (has_marker (codes "context")) (get_member (codes "context") ms) stands in
    made_then HasFormedContext (λ es. option_map (head ms i es) depends) (if_given entries_of (get_member (codes "aspects") ms)) (λ es. made HasFormedContext (head ms i es) depends (λ ds. formed))
