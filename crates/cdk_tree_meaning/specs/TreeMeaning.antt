-- What the construct tree of an application means, and when what its assembly comes to agrees with it (own; the meaning of expressions
-- is told in cdk_meaning).
use Rattle.std.specs.Prelude.{◌≡◌, ℕ, List, length, Bool, Option, option_and_then}
use Rattle.cdk_eval.specs.Stack.{StackOutcome}
use Rattle.cdk_eval.specs.Values.{Values}
use Rattle.cdk_elements.specs.Elements.{constructs_in, name_of, own_value}
use Rattle.cdk_elements.specs.Kinds.{is_output, of_kind, stacks_of}
use Rattle.cdk_language.specs.Construct as language
use Rattle.cdk_language.specs.Construct.{Body}
use Rattle.cdk_meaning.specs.Constructs.{presence_of, source_of, truth}
use Rattle.cdk_meaning.specs.Meaning.{meaning}
use Rattle.cdk_meaning.specs.Names.{IsIn, Each}
use Rattle.cdk_plain.specs.Plain.{Plain, object_of, Fields, no_fields}
use Rattle.cdk_meaning.specs.ReportKept.{OutputMeaning, MeansNotMade, IsResourceTold, IsOutputTold, output_meaning}
use Rattle.cdk_meaning.specs.Source.{Source}
use Rattle.cdk_tree.specs.Expected.{is_condition, is_resource}
use Rattle.cdk_tree.specs.Placed.{Placed, construct_at, find_path}

-- ---- what a stack's constructs mean

abbrev pub condition_count : List Placed → ℕ → ℕ
condition_count cs stack = length (of_kind cs stack is_condition)

-- what expressions of the stack mean under these values
abbrev pub source_in : Values → List Placed → ℕ → Source
source_in v cs stack = source_of v (constructs_in cs) (condition_count cs stack) (name_of cs stack)

-- whether what has this condition is made
abbrev pub presence_in : Values → List Placed → ℕ → Option (List ℕ) → Option Bool
presence_in v cs stack condition = presence_of (truth v (constructs_in cs) (condition_count cs stack)) (option_and_then (find_path cs) condition)

abbrev pub fields_in : Plain → Fields
fields_in (object_of fs) = fs
fields_in e = no_fields

-- The resource of the body is told once, made as it is meant to be, and where it is made each of its properties agrees with its
-- meaning. Other bodies are no resources.
abbrev pub IsToldAs : Values → List Placed → ℕ → ℕ → Body → StackOutcome → Type 0
IsToldAs v cs stack n (language.resource r) own =
    IsResourceTold (source_in v cs stack) (presence_in v cs stack r.condition) (fields_in (own_value cs n r.properties)) ((constructs_in cs).logical n) own.resources
IsToldAs v cs stack n b own = ⊥

-- what an output of the body means
abbrev pub output_meaning_of : Values → List Placed → ℕ → ℕ → Body → OutputMeaning
output_meaning_of v cs stack n (language.output o) = output_meaning (presence_in v cs stack o.condition) (meaning (source_in v cs stack) (own_value cs n o.value))
output_meaning_of v cs stack n b = MeansNotMade

-- ---- agreement

-- Among the outcomes is the stack's own: with each of its resources and outputs once, by its logical name, and nothing else.
pub record IsStackTold (v : Values) (cs : List Placed) (outcomes : List StackOutcome) (stack : ℕ) : Type 0 where
  pub own : StackOutcome
  pub told : IsIn own outcomes
  pub named : own.name ≡ name_of cs stack
  pub counted : length own.resources ≡ length (of_kind cs stack is_resource)
  pub resources : Each (λ n. IsToldAs v cs stack n (construct_at cs n).body own) (of_kind cs stack is_resource)
  pub outputs_counted : length own.outputs ≡ length (of_kind cs stack is_output)
  pub outputs : Each (λ n. IsOutputTold (output_meaning_of v cs stack n (construct_at cs n).body) ((constructs_in cs).logical n) own.outputs) (of_kind cs stack is_output)

-- Each stack of the tree is told, and no other.
pub record AgreesWithTree (v : Values) (cs : List Placed) (outcomes : List StackOutcome) : Type 0 where
  pub counted : length outcomes ≡ length (stacks_of cs)
  pub each : Each (IsStackTold v cs outcomes) (stacks_of cs)
