use Rattle.std.proofs.Common.{◌≡◌, [], Bool, true, false, length, refl, sym, ap, ap₂, ◌∙◌}
use Rattle.std.specs.Prelude.{◌&&◌, nat_eq, nat_lt, slice_index}
use Rattle.std.proofs.lemmas.List.{length-map}
use Rattle.cdk_graphs.specs.Graph.{graph_view, leads}
use Rattle.cdk_graphs.specs.Queued.{missing}
use Rattle.cdk_graphs.proofs.Counts.{count_at, missing_none}
use Rattle.cdk_graphs.proofs.queue.Queue.of_graph.Goals as goal

and_true : (b : Bool) → (b && true) ≡ b
and_true true = refl
and_true false = refl

pub returns : goal.returns
returns c =
    let graph = c.args.graph.now in
    record {
      waiting = λ k. ap (λ xs. slice_index xs k) c.in_ok-counts.ensures ∙ count_at graph k ∙ sym (missing_none (leads (graph_view graph) k));
      ready = λ k.
          let row = leads (graph_view graph) k in
          c.in_ok-ready.ensures k
          ∙ sym (ap (λ n. (nat_lt k n && true) && nat_eq (missing [] row) 0) (length-map graph (λ r. r.items))
          ∙ ap₂ (λ b m. b && nat_eq m 0) (and_true (nat_lt k (length graph))) (missing_none row));
    }
