-- Where truth values tell which numbers of the mention graph reach themselves, the first that is told is the first finding.
use Rattle.std.proofs.Common.{◌≡◌, ◌<◌, ℕ, zero, suc, ◌+◌, List, [], ◌∷◌, ◌++◌, length, map, get_or, Bool, true, false, Some, None, refl, ap, subst, ◌∙◌, arith, inl, inr}
use Rattle.std.specs.Prelude.{Contains}
use Rattle.std.specs.Option.{unwrap_or}
use Rattle.std.specs.List.{list_any}
use Rattle.std.proofs.lemmas.Bool.{cases_lt}
use Rattle.std.proofs.lemmas.Option.{slice_get-get_or, slice_get_past}
use Rattle.cdk_expansion.proofs.MentionContains.{contains_no}
use Rattle.cdk_graphs.specs.Graph.{AreLoops, further, Graph, HasNoLoop, IsClosed, leads, once, Reaches, ReachesItself, Tells}
use Rattle.cdk_graphs.specs.Loops.{LoopsAreFound, reaches_itself}
use Rattle.cdk_tokens.specs.Token.{Token}
use Rattle.cdk_tokens.specs.Whole.{MarkedBody}
use Rattle.cdk_tree.specs.Expected.{target_at}
use Rattle.cdk_tree.specs.PlaceFindings.{first, when}
use Rattle.cdk_tree.specs.Placed.{Placed}
use Rattle.cdk_tree.specs.declared.role.Found.{Found}
use Rattle.cdk_lazies.specs.CycleFindings.{cycle_code, cycle_findings, cycle_findings_from}
use Rattle.cdk_lazies.specs.MentionGraph.{construct_node, mention_graph}
use Rattle.cdk_lazies.specs.Told.{told_findings_from}
use Rattle.cdk_lazies.proofs.Closed.{mention_graph_closed}
use Rattle.cdk_lazies.proofs.Leads.{length-mention_graph}

-- ---- what is told

same_telling : (a b : Bool) (P : Type 0) → Tells a P → Tells b P → a ≡ b
same_telling true true P h k = refl
same_telling true false P h k = absurd (k h)
same_telling false true P h k = absurd (h k)
same_telling false false P h k = refl

told_at : (g : Graph) (told : List Bool) → AreLoops g told → (n : ℕ) → n < length g → Tells (get_or told n false) (ReachesItself g n)
told_at g told are n within = are.told n (get_or told n false) (slice_get-get_or told n false (omega (arith, are.size)))

pub told_is_found : LoopsAreFound → (g : Graph) → IsClosed g → (told : List Bool) → AreLoops g told → (n : ℕ) → n < length g → get_or told n false ≡ reaches_itself g n
told_is_found law g closed told are n within = same_telling (get_or told n false) (reaches_itself g n) (ReachesItself g n) (told_at g told are n within) (law g closed n)

-- ---- none is told

none_holds : (bs : List Bool) (n : ℕ) → list_any (λ b. b) bs ≡ false → get_or bs n false ≡ false
none_holds [] n h = refl
none_holds (true ∷ bs) n h = absurd (cc h)
none_holds (false ∷ bs) zero h = refl
none_holds (false ∷ bs) (suc n) h = none_holds bs n h

leads_nowhere : (g : Graph) (n m : ℕ) → leads g n ≡ [] → Reaches g n m → ⊥
leads_nowhere g x y none (once n m c) = contains_no m (subst (λ xs. Contains xs m) none c)
leads_nowhere g x y none (further n m l c way) = contains_no m (subst (λ xs. Contains xs m) none c)

pub none_told : (g : Graph) (told : List Bool) → AreLoops g told → list_any (λ b. b) told ≡ false → HasNoLoop g
none_told g told are none n way = elim (cases_lt n (length g)) [
  | inl within ↦ subst (λ b. Tells b (ReachesItself g n)) (none_holds told n none) (told_at g told are n within) way
  | inr past ↦ leads_nowhere g n n (ap (λ o. unwrap_or o []) (slice_get_past g n past)) way
]

-- ---- the findings

module _ (cs : List Placed) (ts : List Token) (ms : List MarkedBody) (told : List Bool) (found : (n : ℕ) → n < length (mention_graph cs ts ms) → get_or told n false ≡ reaches_itself (mention_graph cs ts ms) n) where
  told_from : (n : ℕ) (rest : List Placed) → n + length rest ≡ length cs → told_findings_from ts told n rest ≡ cycle_findings_from cs ts ms n rest
  told_from n [] e = refl
  told_from n (c ∷ rest) e =
      let here : get_or told (construct_node ts n) false ≡ reaches_itself (mention_graph cs ts ms) (construct_node ts n) = found (construct_node ts n) (omega (arith, e, length-mention_graph cs ts ms)) in
      ap (λ b. map (target_at n) (when b (cycle_code c.body)) ++ told_findings_from ts told (n + 1) rest) here
      ∙ ap (λ fs. map (target_at n) (when (reaches_itself (mention_graph cs ts ms) (construct_node ts n)) (cycle_code c.body)) ++ fs) (told_from (n + 1) rest (omega (arith, e)))

pub told_findings : LoopsAreFound → (cs : List Placed) (ts : List Token) (ms : List MarkedBody) (told : List Bool) → AreLoops (mention_graph cs ts ms) told → told_findings_from ts told 0 cs ≡ cycle_findings cs ts ms
told_findings law cs ts ms told are = told_from cs ts ms told (told_is_found law (mention_graph cs ts ms) (mention_graph_closed cs ts ms) told are) 0 cs (omega arith)

pub none_first : (fs : List Found) → first fs ≡ None → fs ≡ []
none_first [] h = refl
none_first (f ∷ fs) h = absurd (cc h)

-- ---- the first that is told

-- the construct that isn't told adds nothing, and the one that is told comes first
pub not_told : (ts : List Token) (told : List Bool) (n : ℕ) (c : Placed) (rest : List Placed) → get_or told (construct_node ts n) false ≡ false → told_findings_from ts told n (c ∷ rest) ≡ told_findings_from ts told (n + 1) rest
not_told ts told n c rest h = ap (λ b. map (target_at n) (when b (cycle_code c.body)) ++ told_findings_from ts told (n + 1) rest) h

pub is_told : (ts : List Token) (told : List Bool) (n : ℕ) (c : Placed) (rest : List Placed) → get_or told (construct_node ts n) false ≡ true → first (told_findings_from ts told n (c ∷ rest)) ≡ Some (target_at n (cycle_code c.body))
is_told ts told n c rest h = ap (λ b. first (map (target_at n) (when b (cycle_code c.body)) ++ told_findings_from ts told (n + 1) rest)) h
