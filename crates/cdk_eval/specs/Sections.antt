-- What the names of a template stand for, by its sections (CloudFormation's template anatomy; values are own).
use Rattle.std.specs.Prelude.{ℕ, ◌||◌, List, Bool, true, false, Option, Some, None, unwrap_or, option_and_then, nat_eq, bytes_eq, codes}
use Rattle.std.specs.Option.{option_or}
use Rattle.std.specs.List.{starts_with}
use Rattle.serde_json.specs.Data.{Data, string, array, Members, no_members}
use Rattle.serde_json.specs.Find.{get, get_member, as_object}
use Rattle.cdk_base.specs.Json.{text_of}
use Rattle.cdk_eval.specs.declared.fault.EvalFault.TheVariants.{NoMapping, NoParameter, NotMade, UnknownName, BadIntrinsic}
use Rattle.cdk_eval.specs.Values.{Values, physical_text, attribute_text, pseudo_text}
use Rattle.cdk_eval.specs.Outcomes.{Outcome, Value, Fault, Truth, Holds, Untold}
use Rattle.cdk_eval.specs.Texts.{list_items}
use Rattle.cdk_eval.specs.Template.{Scope, outcome}
use Rattle.cdk_eval.specs.Conditions.{named_truth}

-- the entries of a section; none where the template has no such object
abbrev pub section : List ℕ → Data → Members
section k d = unwrap_or (option_and_then as_object (get k d)) no_members

-- ---- parameters

abbrev pub is_list_type : Option Data → Bool
is_list_type (Some (string s)) = bytes_eq s (codes "CommaDelimitedList") || starts_with nat_eq s (codes "List<")
is_list_type _ = false

abbrev pub parameter_value : Bool → Option (List ℕ) → Outcome
parameter_value b None = Fault NoParameter
parameter_value true (Some t) = Value (array (list_items t))
parameter_value false (Some t) = Value (string t)

-- a value from outside stands before the default
abbrev pub parameter_outcome : Option (List ℕ) → Data → Outcome
parameter_outcome given e = parameter_value (is_list_type (get (codes "Type") e)) (option_or given (option_and_then text_of (get (codes "Default") e)))

-- ---- mappings

abbrev pub literal_or_bad : Data → Option (List ℕ) → Outcome
literal_or_bad d None = Fault BadIntrinsic
literal_or_bad d (Some t) = Value d

-- a text, a whole number or a truth value; never evaluated
abbrev pub leaf_value : Option Data → Outcome
leaf_value None = Fault NoMapping
leaf_value (Some d) = literal_or_bad d (text_of d)

abbrev pub leaf_outcome : Members → List ℕ → List ℕ → List ℕ → Outcome
leaf_outcome mappings m x y = leaf_value (option_and_then (get y) (option_and_then (get x) (get_member m mappings)))

-- ---- resources

-- the text of a resource that is made
abbrev pub made_text : Truth → List ℕ → Outcome
made_text (Holds true) t = Value (string t)
made_text (Holds false) t = Fault NotMade
made_text (Untold f) t = Fault f

-- `Ref` of a name in an operand, of no parameter: a resource is barred there
abbrev pub operand_resource : Option Data → Outcome
operand_resource None = Fault UnknownName
operand_resource (Some r) = Fault BadIntrinsic

-- a parameter of that name stands before a resource
abbrev pub parameter_else : Option (List ℕ) → Outcome → Option Data → Outcome
parameter_else given o None = o
parameter_else given o (Some e) = parameter_outcome given e

-- ---- the names, in a stack of that name with that template

module _ (v : Values) (stack : List ℕ) (template : Data) where
  -- in an operand of a condition
  abbrev pub operand_scope : Scope
  operand_scope = record {
    pseudo = pseudo_text v stack;
    target = λ n. parameter_else (v.parameter stack n) (operand_resource (get_member n (section (codes "Resources") template))) (get_member n (section (codes "Parameters") template));
    attribute = λ n a. Fault BadIntrinsic;
    condition = λ c. Untold BadIntrinsic;
    leaf = leaf_outcome (section (codes "Mappings") template);
    export = λ e. None;
    is_operand = true;
  }

  abbrev pub condition_truth : List ℕ → Truth
  condition_truth c = named_truth (outcome operand_scope) (section (codes "Conditions") template) c

  -- of a resource or an output by its `Condition`
  abbrev pub presence_by : Option Data → Truth
  presence_by None = Holds true
  presence_by (Some (string c)) = condition_truth c
  presence_by (Some _) = Untold BadIntrinsic

  abbrev pub presence : Data → Truth
  presence entry = presence_by (get (codes "Condition") entry)

  abbrev pub resource_outcome : List ℕ → Option Data → Outcome
  resource_outcome t None = Fault UnknownName
  resource_outcome t (Some r) = made_text (presence r) t

  abbrev pub attribute_outcome : List ℕ → List ℕ → Outcome
  attribute_outcome n a = resource_outcome (attribute_text v stack n a) (get_member n (section (codes "Resources") template))

  abbrev pub target_outcome : List ℕ → Outcome
  target_outcome n =
      parameter_else (v.parameter stack n) (resource_outcome (physical_text v stack n) (get_member n (section (codes "Resources") template))) (get_member n (section (codes "Parameters") template))

  -- in properties and outputs, under the exports that are there before the stack
  abbrev pub scope : (List ℕ → Option (List ℕ)) → Scope
  scope exports = record {
    pseudo = pseudo_text v stack;
    target = target_outcome;
    attribute = attribute_outcome;
    condition = condition_truth;
    leaf = leaf_outcome (section (codes "Mappings") template);
    export = exports;
    is_operand = false;
  }
