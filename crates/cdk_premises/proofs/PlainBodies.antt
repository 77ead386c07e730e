-- What a construct of a kind has: only a condition has operands, and theirs are plain where nothing is found in its members.
use Rattle.std.proofs.Common.{◌≡◌, ℕ, List, true, codes, Some, None, option_map, option_and_then, refl, ap, ◌∙◌, subst}
use Rattle.std.specs.Str.{bytes_eq}
use Rattle.serde_json.specs.Data.{Members}
use Rattle.serde_json.specs.Find.{as_object, get_member}
use Rattle.cdk_base.specs.Marker.{has_marker}
use Rattle.cdk_premises.proofs.CleanForms.{told}
use Rattle.cdk_premises.proofs.CleanPlaces.{MembersStand, StandsAt, same_key, stands_at}
use Rattle.cdk_language.specs.Application.{body_in, condition_of, expression_of, output_in, parameter_form_of, parameter_in, policy_of, properties_of, resource_in, text_at}
use Rattle.cdk_language.specs.Construct as construct
use Rattle.cdk_language.specs.Construct.{Body}
use Rattle.cdk_language.specs.Expression.{Expression}
use Rattle.cdk_language.specs.Schema.{construct_frame, kind_in, kind_named}
use Rattle.cdk_language.specs.declared.construct.ParameterForm.{ParameterForm}
use Rattle.cdk_language.specs.declared.schema.Frame.TheVariants as frames
use Rattle.cdk_language.specs.declared.schema.KindName.{KindName}
use Rattle.cdk_language.specs.declared.schema.KindName.TheVariants as kinds
use Rattle.cdk_language.specs.declared.schema.Role.TheVariants as roles
use Rattle.cdk_language.specs.declared.schema.Schema.{Schema}
use Rattle.cdk_premises.proofs.ReadExpressions.{All, made, made_then, mapped, then}
use Rattle.cdk_premises.specs.Operands.{HasPlainOperands}
use Rattle.cdk_premises.proofs.PlainConditions.{IsPlainCondition, plain_condition}

-- ---- bodies without operands

abbrev resource : Members → List ℕ → Expression → Body
resource ms t e = construct.resource (record {
  resource_type = t;
  properties = e;
  condition = text_at (codes "condition") ms;
  deletion = option_and_then policy_of (text_at (codes "deletionPolicy") ms);
  replace = option_and_then policy_of (text_at (codes "updateReplacePolicy") ms);
})

plain_resource : (ms : Members) → All HasPlainOperands (resource_in ms)
plain_resource ms =
    let properties = properties_of (get_member (codes "properties") ms) in
    made_then HasPlainOperands (λ t. option_map (resource ms t) properties) (text_at (codes "type") ms) (λ t. made HasPlainOperands (resource ms t) properties (λ e. tt))

abbrev parameter : Members → ParameterForm → Body
parameter ms f = construct.parameter (record { form = f; default = text_at (codes "default") ms; description = text_at (codes "description") ms })

plain_parameter : (ms : Members) → All HasPlainOperands (parameter_in ms)
plain_parameter ms = made HasPlainOperands (parameter ms) (option_and_then parameter_form_of (text_at (codes "type") ms)) (λ f. tt)

abbrev output : Members → Expression → Body
output ms e = construct.output (record {
  value = e;
  description = text_at (codes "description") ms;
  export = text_at (codes "exportName") ms;
  condition = text_at (codes "condition") ms;
})

plain_output : (ms : Members) → All HasPlainOperands (output_in ms)
plain_output ms = made HasPlainOperands (output ms) (option_and_then expression_of (get_member (codes "value") ms)) (λ e. tt)

-- ---- a condition

plain_body : (schema : Schema) (ms : Members) → MembersStand (frames.Construct schema kinds.Condition) ms → All HasPlainOperands (option_map construct.condition_body (option_and_then condition_of (get_member (codes "expression") ms)))
plain_body schema ms h =
    let o = get_member (codes "expression") ms in
    mapped IsPlainCondition HasPlainOperands construct.condition_body (option_and_then condition_of o) (λ c g. g)
    (then (StandsAt (has_marker (codes "expression")) roles.Condition) IsPlainCondition condition_of o (λ d s. plain_condition (has_marker (codes "expression")) d s)
    (stands_at (frames.Construct schema kinds.Condition) (codes "expression") ms h))

-- ---- by kind

abbrev pub IsNamed : Members → List ℕ → Type 0
IsNamed ms k = text_at (codes "kind") ms ≡ Some k

-- the frame of a construct whose kind is named so
frame_at : (schema : Schema) (ms : Members) (k name : List ℕ) (kind : KindName) → kind_named name ≡ Some kind → IsNamed ms k → MembersStand (construct_frame schema (kind_in ms)) ms → bytes_eq k name ≡ true
    → MembersStand (frames.Construct schema kind) ms
frame_at schema ms k name kind names named h e =
    subst (λ o. MembersStand (construct_frame schema o) ms) (ap (option_and_then kind_named) named ∙ (ap kind_named (same_key k name e) ∙ names)) h

pub body_read : (schema : Schema) (ms : Members) (k : List ℕ) → IsNamed ms k → MembersStand (construct_frame schema (kind_in ms)) ms → All HasPlainOperands (body_in ms k)
body_read schema ms k named h =
    told HasPlainOperands (bytes_eq k (codes "stage")) (Some construct.stage) _ (λ is. tt)
    (told HasPlainOperands (bytes_eq k (codes "stack")) (Some (construct.stack (text_at (codes "description") ms))) _ (λ is. tt)
    (told HasPlainOperands (bytes_eq k (codes "group")) (Some construct.group) _ (λ is. tt)
    (told HasPlainOperands (bytes_eq k (codes "resource")) _ _ (λ is. plain_resource ms)
    (told HasPlainOperands (bytes_eq k (codes "parameter")) _ _ (λ is. plain_parameter ms)
    (told HasPlainOperands (bytes_eq k (codes "condition")) _ _ (λ is. plain_body schema ms (frame_at schema ms k (codes "condition") kinds.Condition refl named h is))
    (told HasPlainOperands (bytes_eq k (codes "mapping")) _ _ (λ is. made HasPlainOperands construct.mapping (option_and_then as_object (get_member (codes "mappings") ms)) (λ m. tt))
    (told HasPlainOperands (bytes_eq k (codes "output")) _ _ (λ is. plain_output ms)
    (told HasPlainOperands (bytes_eq k (codes "lazy")) _ None (λ is. made HasPlainOperands construct.lazy (option_and_then expression_of (get_member (codes "value") ms)) (λ e. tt)) tt))))))))
