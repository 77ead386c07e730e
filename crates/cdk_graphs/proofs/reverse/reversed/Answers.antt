use Rattle.std.proofs.Common.{◌≡◌, Bool, true, false, refl, ◌+◌, ◌++◌, ◌<◌, ◌≤◌, ℕ, List, get_or, take, drop, length, subst, sym, ap, ◌∙◌, inl, inr, arith}
use Rattle.std.specs.Prelude.{◌⊎◌, nat_eq, nat_lt, if◌then◌else◌}
use Rattle.std.specs.List.{Contains}
use Rattle.std.proofs.lemmas.Bool.{cases_lt, lt-ltb}
use Rattle.std.proofs.lemmas.List.{length-map}
use Rattle.std.proofs.Math.Seq.{take-append_seam}
use Rattle.std.proofs.lemmas.List.Elements.{Contains-get_or}
use Rattle.cdk_graphs.specs.Graph.{Graph, graph_view, leads}
use Rattle.cdk_graphs.specs.Queued.{occurrences}
use Rattle.cdk_graphs.proofs.Counts.{leads_past, row_at, row_step}
use Rattle.cdk_graphs.proofs.reverse.reversed.Goals as goal

-- the whole is written back
written : {X : Type 0} (n : ℕ) (new old : List X) → n ≡ length new → take n (new ++ drop (length new) old) ≡ new
written n new old e = ap (λ m. take m (new ++ drop (length new) old)) e ∙ take-append_seam new (drop (length new) old)

-- what every row has, once as many rows are done as there are
all_done : (g : Graph) (n k done : ℕ) → length g ≤ done → (k < length g) ⊎ (length g ≤ k) → (if nat_lt k done then occurrences n (leads g k) else 0) ≡ occurrences n (leads g k)
all_done g n k done h (inl l) = ap (λ b. if b then occurrences n (leads g k) else 0) (lt-ltb k done (omega arith))
all_done g n k done h (inr l) = past (nat_lt k done)
  where
    none : occurrences n (leads g k) ≡ 0
    none = ap (occurrences n) (leads_past g k l)

    past : (b : Bool) → (if b then occurrences n (leads g k) else 0) ≡ occurrences n (leads g k)
    past true = refl
    past false = sym none

pub put_all-requires : goal.put_all-requires
put_all-requires c j d h =
    let graph = c.args.graph.now in
    let i = c.loop-number.number in
    let row = c.index-graph-number.result in
    let targets = c.as_slice.result.now in
    let here : leads (graph_view graph) i ≡ targets = row_at graph i row (omega arith) ∙ sym (c.as_slice.ensures.value ∙ ap (λ r. r.items) c.index-graph-number.is) in
    let among = subst (λ (xs : List ℕ). Contains xs (get_or targets j d)) (sym here) (Contains-get_or targets j d h) in
    let within = c.requires i (get_or targets j d) among in
    omega (arith, within, length-map graph (λ r. r.items), c.loop-number.invariant.size, ap length c.as_mut_slice.ensures.value)

pub loop-number-preserved : goal.loop-number-preserved
loop-number-preserved c =
    let graph = c.args.graph.now in
    let i = c.loop-number.number in
    let row = c.index-graph-number.result in
    let targets = c.as_slice.result.now in
    let old = c.loop-number.rows in
    let new = c.put_all.new.rows in
    let here : leads (graph_view graph) i ≡ targets = row_at graph i row (omega arith) ∙ sym (c.as_slice.ensures.value ∙ ap (λ r. r.items) c.index-graph-number.is) in
    let same : old.len ≡ length new = omega (arith, old.ok.0, ap length c.as_mut_slice.ensures.value) in
    let whole = written old.len new old.items same in
    record {
      size = ap length whole ∙ omega (arith, ap length c.as_mut_slice.ensures.value, c.loop-number.invariant.size);
      counted = λ n k.
          ap (λ rs. occurrences k (leads (graph_view rs) n)) whole
          ∙ c.in_ok-put_all.ensures n k
          ∙ ap (λ rs. occurrences k (leads (graph_view rs) n) + (if nat_eq i k then occurrences n targets else 0)) c.as_mut_slice.ensures.value
          ∙ ap (λ m. m + (if nat_eq i k then occurrences n targets else 0)) (c.loop-number.invariant.counted n k)
          ∙ row_step i k (occurrences n (leads (graph_view graph) k)) (occurrences n targets) (λ e. ap (occurrences n) (sym here ∙ ap (leads (graph_view graph)) e));
    }

pub returns : goal.returns
returns c =
    let graph = c.args.graph.now in
    let long = length-map graph (λ r. r.items) in
    record {
      size = length-map c.loop-number.rows.items (λ r. r.items) ∙ c.loop-number.invariant.size ∙ sym long;
      counted = λ n k. c.loop-number.invariant.counted n k ∙ all_done (graph_view graph) n k c.loop-number.number (omega (arith, long)) (cases_lt k (length (graph_view graph)));
    }
