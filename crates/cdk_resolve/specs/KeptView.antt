-- What a `Kept` stands for.
use Rattle.cdk_keeping.specs.Keeping.{IsSettled}
use Rattle.cdk_leaves.specs.Kept.{results_in}
use Rattle.cdk_leaves.specs.Lazies.{Results}
use Rattle.cdk_leaves.specs.Ready.{IsReady, Scope}
use Rattle.cdk_leaves.specs.Views.{scope_view}
use Rattle.cdk_resolve.specs.declared.kept.Kept.{Kept}

abbrev pub kept_scope : Kept → Scope
kept_scope k = scope_view k.scope

abbrev pub kept_results : Kept → Results
kept_results k = results_in k.results

-- the lazies are ready for rendering, and what is kept of them is their JSON
pub record IsRight (k : Kept) : Type 0 where
  pub ready : IsReady (kept_scope k).tokens (kept_scope k).bodies (kept_scope k).order
  pub settled : IsSettled (kept_scope k) (kept_results k)
