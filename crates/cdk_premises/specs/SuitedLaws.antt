-- The order of lazies of a sound application is what the check of sizes and rendering ask for (own).
use Rattle.std.specs.Prelude.{ℕ, List}
use Rattle.cdk_expansion.specs.Laws.{IsSound}
use Rattle.cdk_lazies.specs.LazyOrder.{IsLazyOrder}
use Rattle.cdk_leaves.specs.Ready.{IsReady}
use Rattle.cdk_value_measures.specs.Ordered.{SuitsLazies}
use Rattle.cdk_tokens.specs.Whole.{marking, tokens_of}
use Rattle.cdk_tree.specs.Placed.{Placed}

abbrev pub LazyOrdersSuit : Type 0
LazyOrdersSuit = (cs : List Placed) → IsSound cs → (order : List ℕ) → IsLazyOrder cs (tokens_of cs) (marking cs) order → SuitsLazies cs (tokens_of cs) (marking cs) order

abbrev pub LazyOrdersAreReady : Type 0
LazyOrdersAreReady = (cs : List Placed) → IsSound cs → (order : List ℕ) → IsLazyOrder cs (tokens_of cs) (marking cs) order → IsReady (tokens_of cs) (marking cs) order
