-- What an assembly comes to: its stacks one after another, with the exports that each leaves (CloudFormation's exports;
-- that a name keeps its first value, and what outside exports count, is own).
use Rattle.std.specs.Prelude.{ℕ, List, [], ◌∷◌, Option, None, flat_map, filter_map, option_and_then, if◌then◌else◌, codes}
use Rattle.serde_json.specs.Data.{Data, Members, no_members, member}
use Rattle.serde_json.specs.Find.{get, as_str}
use Rattle.cdk_eval.specs.Values.{Values}
use Rattle.cdk_eval.specs.Reach.{is_among}
use Rattle.cdk_eval.specs.Sections.{section}
use Rattle.cdk_eval.specs.Stack.{Stack, StackOutcome, stack_outcome, exports_after}

abbrev pub entries : Members → List Data
entries no_members = []
entries (member k d ms) = d ∷ entries ms

-- an output's literal export name
abbrev pub literal_name : Data → Option (List ℕ)
literal_name o = option_and_then as_str (option_and_then (get (codes "Name")) (get (codes "Export") o))

-- the literal export names of the templates, also those of outputs that aren't made
abbrev pub literal_names : List Stack → List (List ℕ)
literal_names ss = flat_map (λ s. filter_map literal_name (entries (section (codes "Outputs") s.template))) ss

-- the exports from outside that no template names
abbrev pub outside_exports : Values → List Stack → List ℕ → Option (List ℕ)
outside_exports v ss e = if is_among e (literal_names ss) then None else v.export e

-- each stack under the exports that the stacks before it left
abbrev pub stack_outcomes : Values → (List ℕ → Option (List ℕ)) → List Stack → List StackOutcome
stack_outcomes v exports [] = []
stack_outcomes v exports (s ∷ ss) = stack_outcome v exports s ∷ stack_outcomes v (exports_after v exports s) ss

abbrev pub assembly_outcome : Values → List Stack → List StackOutcome
assembly_outcome v ss = stack_outcomes v (outside_exports v ss) ss
