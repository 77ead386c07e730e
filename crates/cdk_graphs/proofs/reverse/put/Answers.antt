use Rattle.std.proofs.Common.{◌≡◌, ◌≢◌, ◌<◌, ℕ, List, ◌∷◌, ◌++◌, [], length, true, false, Global, sym, ap, ◌∙◌, inl, inr}
use Rattle.std.specs.Prelude.{◌⊎◌, ◌&&◌, nat_eq}
use Rattle.std.specs.declared.vec.Vec.{Vec}
use Rattle.std.proofs.Math.ListN.{set}
use Rattle.std.proofs.lemmas.Bool.Decides.{eqb_tells}
use Rattle.cdk_graphs.specs.Graph.{graph_view, leads}
use Rattle.cdk_graphs.specs.Queued.{occurrences, plus_if}
use Rattle.cdk_graphs.proofs.Counts.{occurrences_push, row_at, row_other, row_set}
use Rattle.cdk_graphs.proofs.reverse.put.Goals as goal

-- the row of the number n, by whether the number is put there
put_at : (rows : List (Vec ℕ Global)) (target number n k : ℕ) (v : Vec ℕ Global) → target < length rows → v.items ≡ leads (graph_view rows) target ++ number ∷ []
    → ((nat_eq target n ≡ true) × (target ≡ n)) ⊎ ((nat_eq target n ≡ false) × (target ≢ n))
    → occurrences k (leads (graph_view (set rows target v)) n) ≡ plus_if (nat_eq target n && nat_eq number k) (occurrences k (leads (graph_view rows) n))
put_at rows target number n k v within pushed (inl h) =
    let before = leads (graph_view rows) n in
    let put : leads (graph_view (set rows target v)) n ≡ before ++ number ∷ [] =
    ap (leads (graph_view (set rows target v))) (sym h.1) ∙ row_set rows target v within ∙ pushed ∙ ap (λ m. leads (graph_view rows) m ++ number ∷ []) h.1 in
    ap (occurrences k) put ∙ occurrences_push k number before ∙ sym (ap (λ b. plus_if (b && nat_eq number k) (occurrences k before)) h.0)
put_at rows target number n k v within pushed (inr h) =
    ap (occurrences k) (row_other rows target n v h.1) ∙ sym (ap (λ b. plus_if (b && nat_eq number k) (occurrences k (leads (graph_view rows) n))) h.0)

pub returns : goal.returns
returns c n k =
    let rows = c.args.rows.now in
    let target = c.args.target in
    let was = row_at rows target c.index-rows-target.result c.requires in
    put_at rows target c.args.number n k c.push.new.self c.requires (c.in_ok-push.ensures.items ∙ ap (λ xs. xs ++ c.args.number ∷ []) (sym was)) (eqb_tells target n)
