-- How a run of literals goes on, and what may be wrong with the contexts in an expression.
use Rattle.std.specs.Prelude.{◌≡◌, ℕ, ◌||◌, List, ◌++◌, Bool}
use Rattle.serde_json.specs.Data.{Members}
use Rattle.cdk_language.specs.Expression.{Expression}
use Rattle.cdk_language.specs.Runs.{Literals, is_marked_run}
use Rattle.cdk_contexts.specs.Contexts.{has_marked_run, misses_context}
use Rattle.cdk_contexts.specs.declared.contexts.Flaw.{Flaw}
use Rattle.cdk_contexts.specs.declared.contexts.Flaw.TheVariants as flaws

-- The run goes on with the literals: one that ended in them held the beginning of a marker, or the run is now the next one. What
-- comes after is whatever it is.
abbrev pub Scans : List ℕ → Literals → Bool → List ℕ → Type 0
Scans run literals found next = (rest : Literals) → is_marked_run run (literals ++ rest) ≡ (found || is_marked_run next rest)

abbrev pub has_flaw : Flaw → List Members → Expression → Bool
has_flaw flaws.MarkedRun scopes e = has_marked_run scopes e
has_flaw flaws.NoContext scopes e = misses_context scopes e
