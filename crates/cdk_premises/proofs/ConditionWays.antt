-- A condition that reaches itself by the names of its plain form does so in the graph of mentions, where that was looked for.
use Rattle.std.proofs.Common.{◌≡◌, ◌<◌, ℕ, zero, suc, ◌+◌, List, [], ◌∷◌, map, length, Bool, true, false, true≢false, refl, sym, ap, ◌∙◌, subst, arith, inl, inr}
use Rattle.std.specs.Prelude.{◌||◌, ◌==◌, Contains, if◌then◌else◌}
use Rattle.std.proofs.lemmas.Bool.{eqb-true}
use Rattle.std.proofs.lemmas.List.Elements.{Contains-append_left, Contains-append_right}
use Rattle.cdk_base.specs.declared.code.Code.{Code}
use Rattle.cdk_elements.specs.Elements.{constructs_in, element_of, own_operand, parts_of}
use Rattle.cdk_expansion.proofs.MentionContains.{contains_first}
use Rattle.cdk_graphs.specs.Graph.{Graph, ReachesItself, Tells, leads}
use Rattle.cdk_graphs.specs.Graph as ways
use Rattle.cdk_graphs.specs.Loops.{LoopsAreFound, reaches_itself}
use Rattle.cdk_lazies.proofs.Closed.{mention_graph_closed}
use Rattle.cdk_lazies.proofs.Leads.{construct_leads}
use Rattle.cdk_lazies.specs.CycleFindings.{cycle_code, cycle_findings, cycle_findings_from, cycles_at}
use Rattle.cdk_lazies.specs.MentionGraph as graph
use Rattle.cdk_lazies.specs.MentionGraph.{body_mentions, condition_node, conditions_by, construct_node, mention_graph}
use Rattle.cdk_meaning.specs.Constructs.{condition_at, condition_in}
use Rattle.cdk_meaning.specs.Mentions.{names_in}
use Rattle.cdk_meaning.specs.Names.{Each, IsIn}
use Rattle.cdk_meaning.specs.Truth.{reaches}
use Rattle.cdk_tokens.specs.Marking.{target}
use Rattle.cdk_tokens.specs.Token.{Token}
use Rattle.cdk_tokens.specs.Whole.{MarkedBody, marking, tokens_of}
use Rattle.cdk_tree.specs.Expected.{is_condition, target_at}
use Rattle.cdk_tree.specs.PlaceFindings.{when}
use Rattle.cdk_tree.specs.Placed.{Placed, construct_at, find_path}
use Rattle.cdk_premises.specs.MentionsLaws.{ConditionsAreFree}
use Rattle.cdk_premises.specs.OneTree.{IsOneTree}
use Rattle.cdk_premises.proofs.ConditionNames.{IsFound, as_condition, each_condition, names_found, same_names}
use Rattle.cdk_premises.proofs.Lists.{found_in, map_nil}
use Rattle.cdk_premises.proofs.Targets.{BodyIsMet, body_is_met, kind_within}

-- ---- nothing was found

when_nil : (b : Bool) (c : Code) → when b c ≡ [] → b ≡ false
when_nil true c e = cc
when_nil false c e = refl

module _ (cs : List Placed) (ts : List Token) (ms : List MarkedBody) where
  no_cycle_from : (n : ℕ) (rest : List Placed) (i j : ℕ) → n + i ≡ j → i < length rest → cycle_findings_from cs ts ms n rest ≡ [] → reaches_itself (mention_graph cs ts ms) (construct_node ts j) ≡ false
  no_cycle_from n [] i j e within none = absurd (omega (arith, within))
  no_cycle_from n (c ∷ rest) zero j e within none =
      let own = (map_nil (target_at n) (cycles_at cs ts ms n c.body) (cycle_findings_from cs ts ms (n + 1) rest) none).0 in
      let same : n ≡ j = omega (arith, e) in
      ap (λ k. reaches_itself (mention_graph cs ts ms) (construct_node ts k)) (sym same) ∙ when_nil (reaches_itself (mention_graph cs ts ms) (construct_node ts n)) (cycle_code c.body) own
  no_cycle_from n (c ∷ rest) (suc i) j e within none =
      no_cycle_from (n + 1) rest i j (omega (arith, e)) (omega (arith, within)) (map_nil (target_at n) (cycles_at cs ts ms n c.body) (cycle_findings_from cs ts ms (n + 1) rest) none).1

  no_cycle : LoopsAreFound → cycle_findings cs ts ms ≡ [] → (n : ℕ) → n < length cs → ReachesItself (mention_graph cs ts ms) (construct_node ts n) → ⊥
  no_cycle law none n within =
      let g = mention_graph cs ts ms in
      subst (λ b. Tells b (ReachesItself g (construct_node ts n))) (no_cycle_from 0 cs n n (omega arith) within none) (law g (mention_graph_closed cs ts ms) (construct_node ts n))

  -- ---- names in the graph

  -- a path that is found leads to its condition
  node_there : (t : List ℕ) → IsFound cs true t → Contains (condition_node cs ts (find_path cs t)) (construct_node ts (target cs t))
  node_there t met =
      let node = construct_node ts (target cs t) in
      let same : condition_node cs ts (find_path cs t) ≡ node ∷ [] = ap (condition_node cs ts) met.found ∙ ap (λ b. if b then node ∷ [] else []) met.serving in
      subst (λ ks. Contains ks node) (sym same) (contains_first node [])

  names_lead : (paths : List (List ℕ)) → Each (IsFound cs true) paths → (d : ℕ) → IsIn d (map (target cs) paths) → Contains (conditions_by cs ts paths) (construct_node ts d) × (is_condition (construct_at cs d).body ≡ true)
  names_lead [] h d i = absurd i
  names_lead (t ∷ rest) h d (inl same) = (
    subst (λ k. Contains (conditions_by cs ts (t ∷ rest)) (construct_node ts k)) same
        (Contains-append_left (condition_node cs ts (find_path cs t)) (conditions_by cs ts rest) (construct_node ts (target cs t)) (node_there t h.0)),
    subst (λ k. is_condition (construct_at cs k).body ≡ true) same h.0.serving,
  )
  names_lead (t ∷ rest) h d (inr i) =
      let later = names_lead rest h.1 d i in
      (Contains-append_right (condition_node cs ts (find_path cs t)) (conditions_by cs ts rest) (construct_node ts d) later.0, later.1)

  -- what a condition names it leads to
  abbrev LeadsTo : ℕ → ℕ → Type 0
  LeadsTo n d = Contains (leads (mention_graph cs ts ms) (construct_node ts n)) (construct_node ts d) × (is_condition (construct_at cs d).body ≡ true)

  module _ (stack : ℕ) (tree : IsOneTree cs stack) where
    step : (n : ℕ) → is_condition (construct_at cs n).body ≡ true → (d : ℕ) → IsIn d (names_in (condition_at (constructs_in cs) n)) → LeadsTo n d
    step n is d i =
        let within = kind_within is_condition cs n refl is in
        let found : Contains (body_mentions cs ts ms n (construct_at cs n).body) (construct_node ts d) × (is_condition (construct_at cs d).body ≡ true) =
        as_condition (λ b. BodyIsMet cs b → IsIn d (names_in (condition_in n (element_of cs n b))) → Contains (body_mentions cs ts ms n b) (construct_node ts d) × (is_condition (construct_at cs d).body ≡ true))
        (construct_at cs n).body is (λ c same met j. names_lead (graph.names_in c) (names_found cs true c met) d (subst (IsIn d) (same_names cs (own_operand cs n c) 0 c) j))
        (body_is_met cs tree.sound n within) i in
        (subst (λ ks. Contains ks (construct_node ts d)) (sym (construct_leads cs ts ms n within)) found.0, found.1)

    -- the first step is the last, or there are more
    on : (n goal d : ℕ) → LeadsTo n d → (later : Bool) → (later ≡ true → ways.Reaches (mention_graph cs ts ms) (construct_node ts d) (construct_node ts goal))
        → (b : Bool) → (d == goal) ≡ b → (b || later) ≡ true → ways.Reaches (mention_graph cs ts ms) (construct_node ts n) (construct_node ts goal)
    on n goal d leading later rest true e h =
        ways.once (construct_node ts n) (construct_node ts goal) (subst (λ x. Contains (leads (mention_graph cs ts ms) (construct_node ts n)) (construct_node ts x)) (eqb-true d goal e) leading.0)
    on n goal d leading later rest false e h = ways.further (construct_node ts n) (construct_node ts d) (construct_node ts goal) leading.0 (rest h)

    -- a way by names is one in the graph
    way : (k n goal : ℕ) → is_condition (construct_at cs n).body ≡ true → reaches (condition_at (constructs_in cs)) k goal n ≡ true → ways.Reaches (mention_graph cs ts ms) (construct_node ts n) (construct_node ts goal)
    way zero n goal is h = absurd (true≢false (sym h))
    way (suc k) n goal is h =
        let found = found_in (λ d. (d == goal) || reaches (condition_at (constructs_in cs)) k goal d) (names_in (condition_at (constructs_in cs) n)) h in
        let leading = step n is found.0 found.1 in
        on n goal found.0 leading (reaches (condition_at (constructs_in cs)) k goal found.0) (way k found.0 goal leading.1) (found.0 == goal) refl found.2

not_true : (b : Bool) → (b ≡ true → ⊥) → b ≡ false
not_true true h = absurd (h refl)
not_true false h = refl

pub conditions_are_free : LoopsAreFound → ConditionsAreFree
conditions_are_free law cs stack tree none =
    let most = length (parts_of cs stack).conditions in
    each_condition (λ c. reaches (condition_at (constructs_in cs)) most c c ≡ false) cs stack
    (λ n within is. not_true (reaches (condition_at (constructs_in cs)) most n n) (λ h. no_cycle cs (tokens_of cs) (marking cs) law none n within (way cs (tokens_of cs) (marking cs) stack tree most n n is h)))
