-- What a stack comes to: its resources, properties, outputs and exports (CloudFormation's stacks and exports; the
-- faults are own). All of it is evaluated under the exports that are there before the stack.
use Rattle.std.specs.Prelude.{ℕ, List, [], ◌∷◌, true, false, Option, Some, None, unwrap_or, option_map, option_and_then, if◌then◌else◌, bytes_eq, codes}
use Rattle.std.specs.Option.{option_or}
use Rattle.serde_json.specs.Data.{Data, null, Members, no_members, member}
use Rattle.serde_json.specs.Find.{get}
use Rattle.cdk_base.specs.Json.{text_of}
use Rattle.cdk_eval.specs.declared.fault.EvalFault.TheVariants.{NotText}
use Rattle.cdk_eval.specs.Values.{Values}
use Rattle.cdk_eval.specs.Outcomes.{Outcome, Value, Gone, Fault, Truth, Holds, Untold, OutputOutcome, OutputText, OutputNotMade, OutputFault}
use Rattle.cdk_eval.specs.Template.{Scope, outcome, each_member}
use Rattle.cdk_eval.specs.Sections.{section, presence, scope}

-- a stack's name and its template
pub record Stack : Type 0 where
  pub name : List ℕ
  pub template : Data

pub record ResourceOutcome : Type 0 where
  pub logical : List ℕ
  -- made where it holds
  pub presence : Truth
  -- by key; none where the resource isn't made
  pub properties : List (List ℕ × Outcome)

pub record StackOutcome : Type 0 where
  pub name : List ℕ
  -- by logical name
  pub resources : List ResourceOutcome
  pub outputs : List (List ℕ × OutputOutcome)

-- ---- resources

-- each property by itself: `Properties` is no intrinsic, whatever its keys
abbrev pub properties_of : Truth → List (List ℕ × Outcome) → List (List ℕ × Outcome)
properties_of (Holds true) ps = ps
properties_of (Holds false) ps = []
properties_of (Untold f) ps = []

abbrev pub resource_at : Truth → Scope → List ℕ → Data → ResourceOutcome
resource_at there s n r = record { logical = n; presence = there; properties = properties_of there (each_member s (section (codes "Properties") r)) }

abbrev pub resource_outcomes : (Data → Truth) → Scope → Members → List ResourceOutcome
resource_outcomes presence_of s no_members = []
resource_outcomes presence_of s (member n r ms) = resource_at (presence_of r) s n r ∷ resource_outcomes presence_of s ms

-- ---- outputs

abbrev pub some_text : Option (List ℕ) → OutputOutcome
some_text None = OutputFault NotText
some_text (Some t) = OutputText t

-- the text of a value; gone has none
abbrev pub text_outcome : Outcome → OutputOutcome
text_outcome (Value d) = some_text (text_of d)
text_outcome Gone = OutputFault NotText
text_outcome (Fault f) = OutputFault f

-- an output's value, then its export's name: a fault of the name comes after one of the value
abbrev pub value_and_name : OutputOutcome → Option OutputOutcome → OutputOutcome
value_and_name (OutputText t) (Some (OutputFault f)) = OutputFault f
value_and_name o n = o

abbrev pub made_output : Truth → OutputOutcome → OutputOutcome
made_output (Holds true) o = o
made_output (Holds false) o = OutputNotMade
made_output (Untold f) o = OutputFault f

-- a null is evaluated as `BadIntrinsic`, and an output without a value has no form
abbrev pub output_value : Scope → Data → OutputOutcome
output_value s o = text_outcome (outcome s (unwrap_or (get (codes "Value") o) null))

-- of the export's name, where the output has an export
abbrev pub export_name : Scope → Data → Option OutputOutcome
export_name s o = option_map (λ n. text_outcome (outcome s n)) (option_and_then (get (codes "Name")) (get (codes "Export") o))

abbrev pub output_at : Truth → Scope → Data → OutputOutcome
output_at there s o = made_output there (value_and_name (output_value s o) (export_name s o))

abbrev pub output_outcomes : (Data → Truth) → Scope → Members → List (List ℕ × OutputOutcome)
output_outcomes presence_of s no_members = []
output_outcomes presence_of s (member n o ms) = (n, output_at (presence_of o) s o) ∷ output_outcomes presence_of s ms

-- ---- exports

-- an output that is made, with a name and a text
abbrev pub export_entry : OutputOutcome → Option OutputOutcome → List (List ℕ × List ℕ) → List (List ℕ × List ℕ)
export_entry (OutputText t) (Some (OutputText n)) xs = (n, t) ∷ xs
export_entry _ _ xs = xs

-- names and texts, by the outputs' names
abbrev pub export_entries : (Data → Truth) → Scope → Members → List (List ℕ × List ℕ)
export_entries presence_of s no_members = []
export_entries presence_of s (member n o ms) = export_entry (output_at (presence_of o) s o) (export_name s o) (export_entries presence_of s ms)

-- the first of that name
abbrev pub lookup : List ℕ → List (List ℕ × List ℕ) → Option (List ℕ)
lookup e [] = None
lookup e (x ∷ xs) = if bytes_eq e x.0 then Some x.1 else lookup e xs

-- ---- the stack

module _ (v : Values) (exports : List ℕ → Option (List ℕ)) (s : Stack) where
  abbrev pub stack_scope : Scope
  stack_scope = scope v s.name s.template exports

  abbrev pub stack_outcome : StackOutcome
  stack_outcome = record {
    name = s.name;
    resources = resource_outcomes (presence v s.name s.template) stack_scope (section (codes "Resources") s.template);
    outputs = output_outcomes (presence v s.name s.template) stack_scope (section (codes "Outputs") s.template);
  }

  abbrev pub stack_exports : List (List ℕ × List ℕ)
  stack_exports = export_entries (presence v s.name s.template) stack_scope (section (codes "Outputs") s.template)

  -- what is there after the stack: a name that is there already keeps its value
  abbrev pub exports_after : List ℕ → Option (List ℕ)
  exports_after e = option_or (exports e) (lookup e stack_exports)
