-- What the passes find out about a tree, and that it is checked behind them.
use Rattle.std.proofs.Common.{◌≡◌, ◌<◌, ◌^◌, ℕ, List, [], length, sym, subst}
use Rattle.cdk_expansion.specs.Laws.{IsSound}
use Rattle.cdk_lazies.specs.CycleFindings.{cycle_findings}
use Rattle.cdk_lazies.specs.LazyOrder.{IsLazyOrder}
use Rattle.cdk_leaves.specs.Ready.{IsReady}
use Rattle.cdk_value_measures.specs.Ordered.{SuitsLazies}
use Rattle.cdk_sizes.specs.SizeFindings.{size_findings}
use Rattle.cdk_stacks.specs.Claims.{name_findings}
use Rattle.cdk_premises.proofs.SuitedOrders.{lazy_orders_are_ready, lazy_orders_suit}
use Rattle.cdk_contexts.specs.Contexts.{context_findings}
use Rattle.cdk_tokens.specs.Token.{Token}
use Rattle.cdk_tokens.specs.Whole.{MarkedBody, marking, tokens_of}
use Rattle.cdk_tree.specs.Expected.{target_findings}
use Rattle.cdk_tree.specs.Placed.{Placed}
use Rattle.cdk_tree_meaning.specs.Checked.{AreChecked}
use Rattle.cdk_synthesis.specs.Checks.{AreMarksOf, IsBuilt, IsMarked, IsOrdered}

-- what is so of a tree's own tokens and marked values is so of those that are made of it
pub of_marks : (P : List Token → List MarkedBody → Type 0) (cs : List Placed) (ms : List MarkedBody) (ts : List Token) → AreMarksOf cs ms ts → P (tokens_of cs) (marking cs) → P ts ms
of_marks P cs ms ts marks h =
    let Q : List Token → Type 0 = λ us. P us (marking cs) in
    let R : List MarkedBody → Type 0 = λ ns. P ts ns in
    subst R (sym marks.marks) (subst Q (sym marks.tokens) h)

pub to_marks : (P : List Token → List MarkedBody → Type 0) (cs : List Placed) (ms : List MarkedBody) (ts : List Token) → AreMarksOf cs ms ts → P ts ms → P (tokens_of cs) (marking cs)
to_marks P cs ms ts marks h =
    let Q : List Token → Type 0 = λ us. P us (marking cs) in
    let R : List MarkedBody → Type 0 = λ ns. P ts ns in
    subst Q marks.tokens (subst R marks.marks h)

-- ---- the steps

pub marked : (cs : List Placed) (ts : List Token) → IsBuilt cs → target_findings cs ≡ [] → context_findings cs ≡ [] → ts ≡ tokens_of cs → length ts < 2 ^ 64 → IsMarked cs
marked cs ts built targets contexts tokens few =
    let P : List Token → Type 0 = λ us. length us < 2 ^ 64 in
    record { built = built; sound = record { clean = built.clean; targets = targets; contexts = contexts; few = subst P tokens few } }

pub ordered : (cs : List Placed) (ms : List MarkedBody) (ts : List Token) → IsMarked cs → AreMarksOf cs ms ts → cycle_findings cs ts ms ≡ [] → IsOrdered cs
ordered cs ms ts is marks none = record { marked = is; cycles = to_marks (λ us ns. cycle_findings cs us ns ≡ []) cs ms ts marks none }

pub checked : (cs : List Placed) (ms : List MarkedBody) (ts : List Token) → IsOrdered cs → AreMarksOf cs ms ts → size_findings cs ts ms ≡ [] → name_findings cs ≡ [] → AreChecked cs
checked cs ms ts is marks sizes named =
    let b = is.marked.built in
    record {
      application = b.application;
      rooted = b.rooted;
      walked = b.walked;
      one = b.one;
      places = b.places;
      sound = is.marked.sound;
      formed = b.formed;
      operands = b.operands;
      cycles = is.cycles;
      sizes = to_marks (λ us ns. size_findings cs us ns ≡ []) cs ms ts marks sizes;
      named = named;
    }

-- ---- the order of lazies

pub order_suits : (cs : List Placed) (ms : List MarkedBody) (ts : List Token) (order : List ℕ) → IsSound cs → AreMarksOf cs ms ts → IsLazyOrder cs ts ms order → SuitsLazies cs ts ms order
order_suits cs ms ts order sound marks is =
    of_marks (λ us ns. SuitsLazies cs us ns order) cs ms ts marks (lazy_orders_suit cs sound order (to_marks (λ us ns. IsLazyOrder cs us ns order) cs ms ts marks is))

pub order_is_ready : (cs : List Placed) (ms : List MarkedBody) (ts : List Token) (order : List ℕ) → IsSound cs → AreMarksOf cs ms ts → IsLazyOrder cs ts ms order → IsReady ts ms order
order_is_ready cs ms ts order sound marks is =
    of_marks (λ us ns. IsReady us ns order) cs ms ts marks (lazy_orders_are_ready cs sound order (to_marks (λ us ns. IsLazyOrder cs us ns order) cs ms ts marks is))
