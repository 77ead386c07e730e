-- The laws that join the mention graph with what lazies mention, and the order with how often lazies have to be opened.
use Rattle.std.specs.Prelude.{◌≡◌, ◌<◌, ℕ, List, true, length}
use Rattle.cdk_expansion.specs.Laws.{IsSound}
use Rattle.cdk_expansion.specs.Mentions.{IsOrder, LazyMentions}
use Rattle.cdk_graphs.specs.Graph.{Reaches as ReachesIn, ReachesItself as ReachesItselfIn}
use Rattle.cdk_lazies.specs.LazyOrder.{AreDownward, IsLazy, IsLazyOrder}
use Rattle.cdk_lazies.specs.MentionGraph.{construct_node, mention_graph}
use Rattle.cdk_tokens.specs.Token.{Token}
use Rattle.cdk_tokens.specs.Whole.{MarkedBody, marking, tokens_of}
use Rattle.cdk_tree.specs.Placed.{Placed}

-- ---- lazies that reach themselves

-- by one or more mentions of lazies, one after another
pub data Reaches (cs : List Placed) (ts : List Token) (ms : List MarkedBody) : ℕ → ℕ → Type 0 where
  once : (n m : ℕ) → IsLazy cs m → LazyMentions ts ms n m → Reaches cs ts ms n m
  further : (n m l : ℕ) → IsLazy cs m → LazyMentions ts ms n m → Reaches cs ts ms m l → Reaches cs ts ms n l

-- A lazy reaches itself in the graph exactly where it does by mentions.
abbrev pub LazyCyclesAreMentions : Type 0
LazyCyclesAreMentions = (cs : List Placed) (ts : List Token) (ms : List MarkedBody) (n : ℕ) → IsLazy cs n
    → (ReachesItselfIn (mention_graph cs ts ms) (construct_node ts n) → Reaches cs ts ms n n) × (Reaches cs ts ms n n → ReachesItselfIn (mention_graph cs ts ms) (construct_node ts n))

-- ---- what marking gives

-- The arguments of a sound application's tokens hold lower tokens.
abbrev pub TokensAreDownward : Type 0
TokensAreDownward = (cs : List Placed) → IsSound cs → AreDownward (tokens_of cs)

-- What its lazies mention are lazies, so the order suits the bounds on how often lazies have to be opened.
abbrev pub LazyOrdersAreOrders : Type 0
LazyOrdersAreOrders = (cs : List Placed) → IsSound cs → (order : List ℕ) → IsLazyOrder cs (tokens_of cs) (marking cs) order → IsOrder (tokens_of cs) (marking cs) order
