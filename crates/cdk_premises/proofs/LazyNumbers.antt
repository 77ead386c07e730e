-- The numbers of the lazies, and that none reaches itself where no cycle is found.
use Rattle.std.proofs.Common.{◌≡◌, ◌<◌, ◌≤◌, ℕ, zero, suc, ◌+◌, List, [], ◌∷◌, ◌++◌, length, map, Bool, true, false, true≢false, refl, sym, ap, subst, arith, if◌then◌else◌}
use Rattle.std.specs.Prelude.{Contains, filter}
use Rattle.serde_json.specs.Data.{Data}
use Rattle.cdk_base.specs.declared.code.Code.{Code}
use Rattle.cdk_expansion.proofs.MentionContains.{contains_first, contains_later}
use Rattle.cdk_expansion.specs.Laws.{IsSound}
use Rattle.cdk_expansion.specs.Mentions.{further, Mentions, once, Reaches, ReachesItself}
use Rattle.cdk_graphs.specs.Graph.{Tells}
use Rattle.cdk_graphs.specs.Graph as graph
use Rattle.cdk_graphs.specs.Loops.{LoopsAreFound, reaches_itself}
use Rattle.cdk_lazies.proofs.Closed.{mention_graph_closed}
use Rattle.cdk_lazies.proofs.LawTargets.{mentioned_is_lazy}
use Rattle.cdk_lazies.proofs.LawWays.{lazy_cycles_are_mentions}
use Rattle.cdk_lazies.specs.CycleFindings.{cycle_code, cycle_findings_from}
use Rattle.cdk_lazies.specs.Laws as lazies
use Rattle.cdk_lazies.specs.LazyOrder.{IsLazy}
use Rattle.cdk_lazies.specs.MentionGraph.{construct_node, mention_graph}
use Rattle.cdk_premises.specs.RenderedLaws.{HasNoCycle}
use Rattle.cdk_value_measures.specs.Constructs.{lazy_count}
use Rattle.cdk_tokens.specs.Token.{Token}
use Rattle.cdk_tokens.specs.Whole.{MarkedBody, marking, tokens_of}
use Rattle.cdk_tree.specs.Expected.{is_lazy, target_at}
use Rattle.cdk_tree.specs.PlaceFindings.{when}
use Rattle.cdk_tree.specs.Placed.{Placed}
use Rattle.cdk_tree.specs.declared.role.Found.{Found}

-- ---- numbers of constructs

-- of the constructs from the number n on
abbrev lazies_from : ℕ → List Placed → List ℕ
lazies_from n [] = []
lazies_from n (c ∷ cs) = if is_lazy c.body then n ∷ lazies_from (suc n) cs else lazies_from (suc n) cs

abbrev pub lazies_in : List Placed → List ℕ
lazies_in cs = lazies_from 0 cs

one_more : {A B : Type 0} (b : Bool) (x : A) (xs : List A) (y : B) (ys : List B) → length xs ≡ length ys → length (if b then x ∷ xs else xs) ≡ length (if b then y ∷ ys else ys)
one_more true x xs y ys e = ap suc e
one_more false x xs y ys e = e

counted_from : (n : ℕ) (cs : List Placed) → length (lazies_from n cs) ≡ lazy_count cs
counted_from n [] = refl
counted_from n (c ∷ cs) = one_more (is_lazy c.body) n (lazies_from (suc n) cs) c (filter (λ d. is_lazy d.body) cs) (counted_from (suc n) cs)

pub lazies-length : (cs : List Placed) → length (lazies_in cs) ≡ lazy_count cs
lazies-length cs = counted_from 0 cs

at_most_one : (b : Bool) (c : Placed) (cs : List Placed) (m : ℕ) → length cs ≤ m → length (if b then c ∷ cs else cs) ≤ suc m
at_most_one true c cs m low = omega (arith, low)
at_most_one false c cs m low = omega (arith, low)

-- there are no more lazies than constructs
pub lazy_count-low : (cs : List Placed) → lazy_count cs ≤ length cs
lazy_count-low [] = omega arith
lazy_count-low (c ∷ cs) = at_most_one (is_lazy c.body) c (filter (λ d. is_lazy d.body) cs) (length cs) (lazy_count-low cs)

contains_here : (b : Bool) (n : ℕ) (ns : List ℕ) → b ≡ true → Contains (if b then n ∷ ns else ns) n
contains_here true n ns e = contains_first n ns
contains_here false n ns e = absurd (true≢false (sym e))

contains_there : (b : Bool) (n m : ℕ) (ns : List ℕ) → Contains ns m → Contains (if b then n ∷ ns else ns) m
contains_there true n m ns c = contains_later n ns m c
contains_there false n m ns c = c

listed_from : (n i m : ℕ) (cs : List Placed) → IsLazy cs i → m ≡ n + i → Contains (lazies_from n cs) m
listed_from n i m [] e at = absurd (true≢false (sym e))
listed_from n zero m (c ∷ cs) e at =
    let same : n ≡ m = omega (arith, at) in
    let ns : List ℕ = if is_lazy c.body then n ∷ lazies_from (suc n) cs else lazies_from (suc n) cs in
    subst (Contains ns) same (contains_here (is_lazy c.body) n (lazies_from (suc n) cs) e)
listed_from n (suc i) m (c ∷ cs) e at = contains_there (is_lazy c.body) n m (lazies_from (suc n) cs) (listed_from (suc n) i m cs e (omega (arith, at)))

-- what is mentioned anywhere is one of them
pub mentioned_is_listed : (cs : List Placed) → IsSound cs → (d : Data) (m : ℕ) → Mentions (tokens_of cs) d m → Contains (lazies_in cs) m
mentioned_is_listed cs sound d m mentioned = listed_from 0 m m cs (mentioned_is_lazy cs sound d m mentioned) (omega arith)

-- ---- cycles

no_code : (b : Bool) (c : Code) (n : ℕ) (fs : List Found) → map (target_at n) (when b c) ++ fs ≡ [] → (b ≡ false) × (fs ≡ [])
no_code true c n fs e = absurd (cc e)
no_code false c n fs e = (refl, e)

none_found : (cs : List Placed) (ts : List Token) (ms : List MarkedBody) (n : ℕ) (rest : List Placed) (i j : ℕ) → n + i ≡ j → i < length rest → cycle_findings_from cs ts ms n rest ≡ []
    → reaches_itself (mention_graph cs ts ms) (construct_node ts j) ≡ false
none_found cs ts ms n [] i j e within none = absurd (omega (arith, within))
none_found cs ts ms n (c ∷ rest) zero j e within none =
    let here = no_code (reaches_itself (mention_graph cs ts ms) (construct_node ts n)) (cycle_code c.body) n (cycle_findings_from cs ts ms (n + 1) rest) none in
    let same : n ≡ j = omega (arith, e) in
    subst (λ (k : ℕ). reaches_itself (mention_graph cs ts ms) (construct_node ts k) ≡ false) same (here.0)
none_found cs ts ms n (c ∷ rest) (suc i) j e within none =
    let here = no_code (reaches_itself (mention_graph cs ts ms) (construct_node ts n)) (cycle_code c.body) n (cycle_findings_from cs ts ms (n + 1) rest) none in
    none_found cs ts ms (n + 1) rest i j (omega (arith, e)) (omega (arith, within)) (here.1)

lazy_within : (cs : List Placed) (n : ℕ) → IsLazy cs n → n < length cs
lazy_within [] n e = absurd (true≢false (sym e))
lazy_within (c ∷ cs) zero e = omega arith
lazy_within (c ∷ cs) (suc n) e = let low = lazy_within cs n e in omega (arith, low)

module _ (cs : List Placed) (sound : IsSound cs) where
  reached_is_lazy : (n m : ℕ) → Reaches (tokens_of cs) (marking cs) n m → IsLazy cs m
  reached_is_lazy x y (once n m c) = mentioned_is_lazy cs sound _ m c
  reached_is_lazy x y (further n m l c r) = reached_is_lazy m l r

  -- all that is mentioned are lazies
  among_lazies : (n m : ℕ) → Reaches (tokens_of cs) (marking cs) n m → lazies.Reaches cs (tokens_of cs) (marking cs) n m
  among_lazies x y (once n m c) = lazies.once n m (mentioned_is_lazy cs sound _ m c) c
  among_lazies x y (further n m l c r) = lazies.further n m l (mentioned_is_lazy cs sound _ m c) c (among_lazies m l r)

  pub none_reaches_itself : LoopsAreFound → HasNoCycle cs → (n : ℕ) → ReachesItself (tokens_of cs) (marking cs) n → ⊥
  none_reaches_itself found none n r =
      let g = mention_graph cs (tokens_of cs) (marking cs) in
      let is : IsLazy cs n = reached_is_lazy n n r in
      let way = (lazy_cycles_are_mentions cs (tokens_of cs) (marking cs) n is).1 (among_lazies n n r) in
      let free : reaches_itself g (construct_node (tokens_of cs) n) ≡ false = none_found cs (tokens_of cs) (marking cs) 0 cs n n (omega arith) (lazy_within cs n is) none in
      let told = found g (mention_graph_closed cs (tokens_of cs) (marking cs)) (construct_node (tokens_of cs) n) in
      subst (λ b. Tells b (graph.ReachesItself g (construct_node (tokens_of cs) n))) free told way
