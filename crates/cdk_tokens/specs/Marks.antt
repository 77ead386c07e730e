-- How the marking of an application answers.
use Rattle.std.specs.Prelude.{◌≡◌, List, [], Some, Result, Ok, Err}
use Rattle.cdk_tree.specs.PlaceFindings.{first}
use Rattle.cdk_tree.specs.Placed.{Placed}
use Rattle.cdk_tree.specs.declared.role.PassError.{PassError}
use Rattle.cdk_tree.specs.declared.role.PassError.TheVariants as errors
use Rattle.cdk_contexts.specs.Contexts.{context_findings}
use Rattle.cdk_tokens.specs.TableView.{marked_in, tokens_in}
use Rattle.cdk_tokens.specs.Whole.{marking, tokens_of}
use Rattle.cdk_tokens.specs.declared.marked.Marked.{Marked}
use Rattle.cdk_tokens.specs.declared.table.Table.{Table}

-- the marked values and the tokens of constructs with whose contexts nothing is wrong, or the first thing that is
abbrev pub Marks : Result (Marked × Table) PassError → List Placed → Type 0
Marks (Ok all) cs = (context_findings cs ≡ []) × ((marked_in all.0 ≡ marking cs) × (tokens_in all.1 ≡ tokens_of cs))
Marks (Err errors.Memory) cs = Unit {0}
Marks (Err (errors.Fault f)) cs = first (context_findings cs) ≡ Some f
