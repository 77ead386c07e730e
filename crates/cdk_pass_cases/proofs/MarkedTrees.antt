-- The tokens and marked values of a clean tree with right targets and contexts; their lazies' order suits the check of sizes
-- and rendering.
use Rattle.std.proofs.Common.{◌≡◌, ◌<◌, ◌^◌, ℕ, List, [], length, sym, subst}
use Rattle.std.specs.Prelude.{Result, Ok, Err, IfOk}
use Rattle.cdk_expansion.specs.Clean.{TreeIsClean}
use Rattle.cdk_expansion.specs.Laws.{IsSound}
use Rattle.cdk_lazies.specs.LazyOrder.{IsLazyOrder}
use Rattle.cdk_leaves.specs.Ready.{IsReady}
use Rattle.cdk_pass_cases.specs.Marked.{AreMarked}
use Rattle.cdk_value_measures.specs.Ordered.{SuitsLazies}
use Rattle.cdk_premises.proofs.SuitedOrders.{lazy_orders_are_ready, lazy_orders_suit}
use Rattle.cdk_tokens.specs.Marks.{Marks}
use Rattle.cdk_tokens.specs.TableView.{marked_in, tokens_in}
use Rattle.cdk_tokens.specs.Token.{Token}
use Rattle.cdk_tokens.specs.Whole.{MarkedBody, marking, tokens_of}
use Rattle.cdk_tokens.specs.declared.marked.Marked.{Marked}
use Rattle.cdk_tokens.specs.declared.table.Table.{Table}
use Rattle.cdk_tree.specs.Expected.{target_findings}
use Rattle.cdk_tree.specs.Placed.{Placed}
use Rattle.cdk_tree.specs.declared.role.PassError.{PassError}
use Rattle.cdk_tree.specs.declared.role.PassError.TheVariants as errors

pub are_marked : (r : Result (Marked × Table) PassError) (cs : List Placed) → TreeIsClean cs → target_findings cs ≡ [] → Marks r cs → IfOk r (λ all. AreMarked cs (tokens_in all.1) (marked_in all.0))
are_marked (Ok all) cs clean targets marks = record { clean = clean; targets = targets; contexts = marks.0; tokens = marks.1.1; marked = marks.1.0 }
are_marked (Err errors.Memory) cs clean targets marks = tt
are_marked (Err (errors.Fault f)) cs clean targets marks = tt

sound : (cs : List Placed) (ts : List Token) (ms : List MarkedBody) → AreMarked cs ts ms → length ts < 2 ^ 64 → IsSound cs
sound cs ts ms are few = record { clean = are.clean; targets = are.targets; contexts = are.contexts; few = subst (λ (us : List Token). length us < 2 ^ 64) are.tokens few }

-- an order of these tokens and values is one of those that marking makes
of_marking : (cs : List Placed) (ts : List Token) (ms : List MarkedBody) (order : List ℕ) → AreMarked cs ts ms → IsLazyOrder cs ts ms order → IsLazyOrder cs (tokens_of cs) (marking cs) order
of_marking cs ts ms order are is =
    subst (λ (ns : List MarkedBody). IsLazyOrder cs (tokens_of cs) ns order) are.marked (subst (λ (us : List Token). IsLazyOrder cs us ms order) are.tokens is)

pub suits : (cs : List Placed) (ts : List Token) (ms : List MarkedBody) (order : List ℕ) → AreMarked cs ts ms → length ts < 2 ^ 64 → IsLazyOrder cs ts ms order → SuitsLazies cs ts ms order
suits cs ts ms order are few is =
    let made = lazy_orders_suit cs (sound cs ts ms are few) order (of_marking cs ts ms order are is) in
    subst (λ (us : List Token). SuitsLazies cs us ms order) (sym are.tokens) (subst (λ (ns : List MarkedBody). SuitsLazies cs (tokens_of cs) ns order) (sym are.marked) made)

pub ready : (cs : List Placed) (ts : List Token) (ms : List MarkedBody) (order : List ℕ) → AreMarked cs ts ms → length ts < 2 ^ 64 → IsLazyOrder cs ts ms order → IsReady ts ms order
ready cs ts ms order are few is =
    let made = lazy_orders_are_ready cs (sound cs ts ms are few) order (of_marking cs ts ms order are is) in
    subst (λ (us : List Token). IsReady us ms order) (sym are.tokens) (subst (λ (ns : List MarkedBody). IsReady (tokens_of cs) ns order) (sym are.marked) made)
