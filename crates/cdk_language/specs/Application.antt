-- Which application a JSON document is, by the schemas 1 and 2 of our own. It speaks of documents without findings: what
-- a document may not have, and what the schemas differ in, its findings tell.
use Rattle.std.specs.Prelude.{ℕ, ◌||◌, List, [], ◌∷◌, Bool, false, codes, nat_lt, if◌then◌else◌, Option, Some, None, option_map, option_and_then}
use Rattle.std.specs.Option.{unwrap_or}
use Rattle.std.specs.Str.{bytes_eq}
use Rattle.serde_json.specs.Data.{Data, null, boolean, number, string, array, object, Items, no_items, item, Members, no_members, member, put}
use Rattle.serde_json.specs.Find.{get_member, as_integer, as_number, as_u64, as_str, as_array, as_object}
use Rattle.cdk_base.specs.Json.{is_form_key}
use Rattle.cdk_base.specs.declared.Setting.{Setting}
use Rattle.cdk_language.specs.Condition as condition
use Rattle.cdk_language.specs.Condition.{Condition, Conditions}
use Rattle.cdk_language.specs.Construct as construct
use Rattle.cdk_language.specs.Construct.{Application, AspectEntry, Body, Construct, Constructs, Head}
use Rattle.cdk_language.specs.Expression as expression
use Rattle.cdk_language.specs.Expression.{Expression, Expressions, Fields}
use Rattle.cdk_language.specs.Sub.{Piece, literal, name, attribute, pieces_of}
use Rattle.cdk_language.specs.declared.construct.ParameterForm.{ParameterForm}
use Rattle.cdk_language.specs.declared.construct.ParameterForm.TheVariants as parameter_forms
use Rattle.cdk_language.specs.declared.construct.Policy.{Policy}
use Rattle.cdk_language.specs.declared.construct.Policy.TheVariants as policies
use Rattle.cdk_language.specs.declared.expression.Pseudo.{Pseudo}
use Rattle.cdk_language.specs.declared.expression.Pseudo.TheVariants as pseudos

-- ---- members

abbrev pub text_at : List ℕ → Members → Option (List ℕ)
text_at k ms = option_and_then as_str (get_member k ms)

-- an object has a key that only a form may have
abbrev pub has_form_key : Members → Bool
has_form_key no_members = false
has_form_key (member k d ms) = is_form_key k || has_form_key ms

abbrev pub texts_of : Items → Option (List (List ℕ))
texts_of no_items = Some []
texts_of (item d ds) = option_and_then (λ t. option_map (λ ts. t ∷ ts) (texts_of ds)) (as_str d)

-- ---- expressions

abbrev pub pseudo_of : List ℕ → Option Pseudo
pseudo_of s =
    if bytes_eq s (codes "AWS::AccountId") then Some pseudos.AccountId
    else if bytes_eq s (codes "AWS::Partition") then Some pseudos.Partition
    else if bytes_eq s (codes "AWS::Region") then Some pseudos.Region
    else if bytes_eq s (codes "AWS::StackId") then Some pseudos.StackId
    else if bytes_eq s (codes "AWS::StackName") then Some pseudos.StackName
    else if bytes_eq s (codes "AWS::URLSuffix") then Some pseudos.UrlSuffix
    else if bytes_eq s (codes "AWS::NoValue") then Some pseudos.NoValue
    else None

-- a pseudo parameter's name is never a path
abbrev pub ref_of : List ℕ → Expression
ref_of s = unwrap_or (option_map expression.pseudo (pseudo_of s)) (expression.ref s)

abbrev pub find_field : List ℕ → Fields → Option Expression
find_field k expression.no_fields = None
find_field k (expression.field l e fs) = if bytes_eq k l then Some e else find_field k fs

-- the pieces of a Sub's text: a name is its expression among the variables, else what `Ref` of it is
abbrev pub filled : Fields → List Piece → Expressions
filled fs [] = expression.no_expressions
filled fs (literal s ∷ ps) = expression.expression (expression.text s) (filled fs ps)
filled fs (name x ∷ ps) = expression.expression (unwrap_or (find_field x fs) (ref_of x)) (filled fs ps)
filled fs (attribute x a ∷ ps) = expression.expression (expression.get_att x a) (filled fs ps)

-- a Sub is the Concat of its text's pieces; variables that the text doesn't use are dropped
abbrev pub sub_of : List ℕ → Fields → Option Expression
sub_of s fs = option_map (λ ps. expression.concat (filled fs ps)) (pieces_of s)

abbrev pub get_att_of : Data → Option Expression
get_att_of (array (item d (item e no_items))) = option_and_then (λ t. option_map (expression.get_att t) (as_str e)) (as_str d)
get_att_of d = None

abbrev pub context_of : Data → Option Expression
context_of (array (item d no_items)) = option_map (λ k. expression.context k None) (as_str d)
context_of (array (item d (item e no_items))) = option_map (λ k. expression.context k (Some e)) (as_str d)
context_of d = None

abbrev mutual
  pub expression_of : Data → Option Expression
  expression_of null = None
  expression_of (boolean b) = Some (expression.truth b)
  expression_of (number n) = option_map expression.whole (as_integer n)
  expression_of (string s) = Some (expression.text s)
  expression_of (array ds) = option_map expression.list (expressions_of ds)
  expression_of (object ms) = if has_form_key ms then form_of ms else option_map expression.object (fields_of ms)

  pub expressions_of : Items → Option Expressions
  expressions_of no_items = Some expression.no_expressions
  expressions_of (item d ds) = option_and_then (λ e. option_map (expression.expression e) (expressions_of ds)) (expression_of d)

  pub fields_of : Members → Option Fields
  fields_of no_members = Some expression.no_fields
  fields_of (member k d ms) = option_and_then (λ e. option_map (expression.field k e) (fields_of ms)) (expression_of d)

  -- an object whose one key is that of a form
  pub form_of : Members → Option Expression
  form_of no_members = None
  form_of (member k d (member l e ms)) = None
  form_of (member k d no_members) =
      if bytes_eq k (codes "Ref") then option_map ref_of (as_str d)
      else if bytes_eq k (codes "Fn::GetAtt") then get_att_of d
      else if bytes_eq k (codes "Fn::Join") then join_of d
      else if bytes_eq k (codes "Fn::Select") then select_of d
      else if bytes_eq k (codes "Fn::Split") then split_of d
      else if bytes_eq k (codes "Fn::If") then choice_of d
      else if bytes_eq k (codes "Fn::FindInMap") then find_in_map_of d
      else if bytes_eq k (codes "Fn::ImportValue") then option_map expression.import_value (as_str d)
      else if bytes_eq k (codes "Fn::Sub") then substituted_of d
      else if bytes_eq k (codes "CDK::Concat") then concat_of d
      else if bytes_eq k (codes "CDK::Context") then context_of d
      else if bytes_eq k (codes "CDK::Lazy") then option_map expression.lazy (as_str d)
      else None

  pub join_of : Data → Option Expression
  join_of (array (item d (item e no_items))) = option_and_then (λ t. option_map (expression.join t) (expression_of e)) (as_str d)
  join_of d = None

  pub select_of : Data → Option Expression
  select_of (array (item d (item e no_items))) = option_and_then (λ n. option_map (expression.select n) (expression_of e)) (option_and_then as_u64 (as_number d))
  select_of d = None

  pub split_of : Data → Option Expression
  split_of (array (item d (item e no_items))) = option_and_then (λ t. option_map (expression.split t) (expression_of e)) (as_str d)
  split_of d = None

  pub choice_of : Data → Option Expression
  choice_of (array (item d (item e (item f no_items)))) = option_and_then (λ c. option_and_then (λ x. option_map (expression.choice c x) (expression_of f)) (expression_of e)) (as_str d)
  choice_of d = None

  pub find_in_map_of : Data → Option Expression
  find_in_map_of (array (item d (item e (item f no_items)))) = option_and_then (λ m. option_and_then (λ x. option_map (expression.find_in_map m x) (expression_of f)) (expression_of e)) (as_str d)
  find_in_map_of d = None

  pub concat_of : Data → Option Expression
  concat_of (array ds) = option_map expression.concat (expressions_of ds)
  concat_of d = None

  pub substituted_of : Data → Option Expression
  substituted_of (string s) = sub_of s expression.no_fields
  substituted_of (array (item d (item (object ms) no_items))) = option_and_then (λ s. option_and_then (sub_of s) (fields_of ms)) (as_str d)
  substituted_of d = None

-- ---- conditions

abbrev pub equals_of : Data → Option Condition
equals_of (array (item d (item e no_items))) = option_and_then (λ x. option_map (condition.equals x) (expression_of e)) (expression_of d)
equals_of d = None

abbrev mutual
  pub condition_of : Data → Option Condition
  condition_of (object (member k d no_members)) =
      if bytes_eq k (codes "Fn::Equals") then equals_of d
      else if bytes_eq k (codes "Fn::And") then option_map condition.all_of (conditions_of d)
      else if bytes_eq k (codes "Fn::Or") then option_map condition.any_of (conditions_of d)
      else if bytes_eq k (codes "Fn::Not") then negated_of d
      else if bytes_eq k (codes "Condition") then option_map condition.named (as_str d)
      else None
  condition_of d = None

  pub conditions_of : Data → Option Conditions
  conditions_of (array ds) = conditions_from ds
  conditions_of d = None

  pub conditions_from : Items → Option Conditions
  conditions_from no_items = Some condition.no_conditions
  conditions_from (item d ds) = option_and_then (λ c. option_map (condition.condition c) (conditions_from ds)) (condition_of d)

  pub negated_of : Data → Option Condition
  negated_of (array (item d no_items)) = option_map condition.negated (condition_of d)
  negated_of d = None

-- ---- constructs

abbrev pub policy_of : List ℕ → Option Policy
policy_of s =
    if bytes_eq s (codes "Delete") then Some policies.Delete
    else if bytes_eq s (codes "Retain") then Some policies.Retain
    else if bytes_eq s (codes "Snapshot") then Some policies.Snapshot
    else None

abbrev pub parameter_form_of : List ℕ → Option ParameterForm
parameter_form_of s =
    if bytes_eq s (codes "String") then Some parameter_forms.Text
    else if bytes_eq s (codes "Number") then Some parameter_forms.Number
    else if bytes_eq s (codes "CommaDelimitedList") then Some parameter_forms.List
    else None

-- the priority of an aspect entry, to 1,000,000: 500 where none is given
abbrev pub to_most : ℕ → ℕ → Option ℕ
to_most most n = if nat_lt most n then None else Some n

abbrev pub priority_of : Option Data → Option ℕ
priority_of None = Some 500
priority_of (Some d) = option_and_then (to_most 1000000) (option_and_then as_u64 (as_number d))

abbrev pub entry_in : Members → Option AspectEntry
entry_in ms =
    option_and_then (λ n. option_and_then (λ d. option_map (λ p. record { name = n; literal = d; priority = p })
    (priority_of (get_member (codes "priority") ms))) (get_member (codes "with") ms)) (text_at (codes "name") ms)

abbrev pub entries_of : Items → Option (List AspectEntry)
entries_of no_items = Some []
entries_of (item d ds) = option_and_then (λ e. option_map (λ es. e ∷ es) (entries_of ds)) (option_and_then entry_in (as_object d))

-- what an array that isn't given holds: nothing
abbrev pub if_given : {A : Type 0} → (Items → Option (List A)) → Option Data → Option (List A)
if_given read None = Some []
if_given read (Some d) = option_and_then read (as_array d)

abbrev pub context_in : Members → Members
context_in ms = unwrap_or (option_and_then as_object (get_member (codes "context") ms)) no_members

-- what a construct of an id has beside its body and its children
abbrev pub head_in : Members → List ℕ → Option Head
head_in ms i =
    option_and_then (λ es. option_map (λ ds. record { id = i; context = context_in ms; aspects = es; depends = ds; logical = text_at (codes "logicalId") ms })
    (if_given texts_of (get_member (codes "dependsOn") ms))) (if_given entries_of (get_member (codes "aspects") ms))

-- properties are an object of expressions that is no form; empty where they aren't given
abbrev pub properties_of : Option Data → Option Expression
properties_of None = Some (expression.object expression.no_fields)
properties_of (Some d) = option_and_then (λ ms. option_map expression.object (fields_of ms)) (as_object d)

abbrev pub resource_in : Members → Option Body
resource_in ms =
    option_and_then (λ t. option_map (λ e. construct.resource (record {
      resource_type = t;
      properties = e;
      condition = text_at (codes "condition") ms;
      deletion = option_and_then policy_of (text_at (codes "deletionPolicy") ms);
      replace = option_and_then policy_of (text_at (codes "updateReplacePolicy") ms);
    }))
    (properties_of (get_member (codes "properties") ms))) (text_at (codes "type") ms)

abbrev pub parameter_in : Members → Option Body
parameter_in ms =
    option_map (λ f. construct.parameter (record { form = f; default = text_at (codes "default") ms; description = text_at (codes "description") ms }))
    (option_and_then parameter_form_of (text_at (codes "type") ms))

abbrev pub output_in : Members → Option Body
output_in ms =
    option_map (λ e. construct.output (record {
      value = e;
      description = text_at (codes "description") ms;
      export = text_at (codes "exportName") ms;
      condition = text_at (codes "condition") ms;
    }))
    (option_and_then expression_of (get_member (codes "value") ms))

-- what a construct is, by the name of its kind
abbrev pub body_in : Members → List ℕ → Option Body
body_in ms k =
    if bytes_eq k (codes "stage") then Some construct.stage
    else if bytes_eq k (codes "stack") then Some (construct.stack (text_at (codes "description") ms))
    else if bytes_eq k (codes "group") then Some construct.group
    else if bytes_eq k (codes "resource") then resource_in ms
    else if bytes_eq k (codes "parameter") then parameter_in ms
    else if bytes_eq k (codes "condition") then option_map construct.condition_body (option_and_then condition_of (get_member (codes "expression") ms))
    else if bytes_eq k (codes "mapping") then option_map construct.mapping (option_and_then as_object (get_member (codes "mappings") ms))
    else if bytes_eq k (codes "output") then output_in ms
    else if bytes_eq k (codes "lazy") then option_map construct.lazy (option_and_then expression_of (get_member (codes "value") ms))
    else None

-- a construct of its members, its children being read
abbrev pub construct_in : Members → Constructs → Option Construct
construct_in ms cs =
    option_and_then (λ h. option_map (λ b. construct.construct h b cs)
    (option_and_then (body_in ms) (text_at (codes "kind") ms))) (option_and_then (head_in ms) (text_at (codes "id") ms))

abbrev mutual
  pub construct_of : Data → Option Construct
  construct_of (object ms) = option_and_then (construct_in ms) (children_in ms)
  construct_of d = None

  -- the children among the members: none where none are given
  pub children_in : Members → Option Constructs
  children_in no_members = Some construct.no_constructs
  children_in (member k d ms) = if bytes_eq k (codes "children") then constructs_of d else children_in ms

  pub constructs_of : Data → Option Constructs
  constructs_of (array ds) = constructs_from ds
  constructs_of d = None

  pub constructs_from : Items → Option Constructs
  constructs_from no_items = Some construct.no_constructs
  constructs_from (item d ds) = option_and_then (λ c. option_map (construct.child c) (constructs_from ds)) (construct_of d)

-- the root has the empty id
abbrev pub root_in : Members → Option Application
root_in ms = option_and_then (λ h. option_map (construct.construct h construct.root) (children_in ms)) (head_in ms [])

abbrev pub application_of : Data → Option Application
application_of d = option_and_then root_in (as_object d)

-- ---- settings

-- each setting in order replaces the key's value, so of two with one key the later counts
abbrev pub laid_over : Members → List Setting → Members
laid_over ms [] = ms
laid_over ms (s ∷ ss) = laid_over (put s.key (string s.value) ms) ss

-- an application with settings laid over its root's context
abbrev pub with_settings : Application → List Setting → Application
with_settings (construct.construct h b cs) ss = construct.construct (record h { context = laid_over h.context ss }) b cs
