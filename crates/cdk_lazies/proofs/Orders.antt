-- What the graph, the truth values and an order of its numbers give: the first fault, or the order of the lazies.
use Rattle.std.proofs.Common.{◌≡◌, ◌+◌, ℕ, List, [], length, Bool, false, Option, None, sym, ap, subst, ◌∙◌}
use Rattle.std.specs.List.{list_any}
use Rattle.cdk_graphs.specs.Graph.{AreLoops, Graph, IsClosed, OrdersAreWhole}
use Rattle.cdk_graphs.specs.Loops.{LoopsAreFound}
use Rattle.cdk_tokens.specs.Token.{Token}
use Rattle.cdk_tokens.specs.Whole.{MarkedBody}
use Rattle.cdk_tree.specs.PlaceFindings.{first}
use Rattle.cdk_tree.specs.Placed.{Placed}
use Rattle.cdk_tree.specs.declared.role.Found.{Found}
use Rattle.cdk_lazies.specs.CycleFindings.{cycle_findings}
use Rattle.cdk_lazies.specs.LazyOrder.{IsLazyOrder}
use Rattle.cdk_lazies.specs.MentionGraph.{mention_graph}
use Rattle.cdk_lazies.specs.Picked.{ArePicked}
use Rattle.cdk_lazies.specs.Told.{told_findings_from}
use Rattle.cdk_lazies.proofs.Closed.{mention_graph_closed}
use Rattle.cdk_lazies.proofs.Findings.{none_first, none_told, told_findings}
use Rattle.cdk_lazies.proofs.LazyPlaces.{picked_in_order}
use Rattle.cdk_lazies.proofs.Leads.{length-mention_graph}

module _ (cs : List Placed) (ts : List Token) (ms : List MarkedBody) where
  module _ (g : Graph) (is : g ≡ mention_graph cs ts ms) where
    pub is_closed : IsClosed g
    is_closed = subst IsClosed (sym is) (mention_graph_closed cs ts ms)

    pub loops_told : (told : List Bool) → AreLoops g told → AreLoops (mention_graph cs ts ms) told
    loops_told told are = let P : Graph → Type 0 = λ graph. AreLoops graph told in subst P is are

    pub lazies_picked : (lazies : List ℕ) → ArePicked g cs ts lazies → ArePicked (mention_graph cs ts ms) cs ts lazies
    lazies_picked lazies are = let P : Graph → Type 0 = λ graph. ArePicked graph cs ts lazies in subst P is are

  module _ (told : List Bool) (are : AreLoops (mention_graph cs ts ms) told) where
    pub told_length : length told ≡ length ts + length cs
    told_length = are.size ∙ length-mention_graph cs ts ms

    pub told_first : LoopsAreFound → (found : Option Found) → found ≡ first (told_findings_from ts told 0 cs) → first (cycle_findings cs ts ms) ≡ found
    told_first law found h = sym (h ∙ ap first (told_findings law cs ts ms told are))

    in_order : OrdersAreWhole → list_any (λ b. b) told ≡ false → (lazies : List ℕ) → ArePicked (mention_graph cs ts ms) cs ts lazies → IsLazyOrder cs ts ms lazies
    in_order law none lazies picked =
        let whole = law (mention_graph cs ts ms) picked.numbers (mention_graph_closed cs ts ms) picked.is_order (none_told (mention_graph cs ts ms) told are none) in
        subst (IsLazyOrder cs ts ms) (sym picked.picked) (picked_in_order cs ts ms picked.numbers picked.is_order whole)

    pub orders : LoopsAreFound → OrdersAreWhole → None ≡ first (told_findings_from ts told 0 cs) → list_any (λ b. b) told ≡ false → (lazies : List ℕ) → ArePicked (mention_graph cs ts ms) cs ts lazies
        → (cycle_findings cs ts ms ≡ []) × IsLazyOrder cs ts ms lazies
    orders law whole h none lazies picked = (none_first (cycle_findings cs ts ms) (told_first law None h), in_order whole none lazies picked)
