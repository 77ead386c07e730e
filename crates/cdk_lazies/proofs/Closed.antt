-- The mention graph leads only to numbers of its own.
use Rattle.std.proofs.Common.{◌≡◌, ◌<◌, ◌-◌, ℕ, ◌+◌, ◌∷◌, List, [], length, Bool, true, false, cond, Option, Some, None, refl, sym, ap, subst, ◌∙◌, arith, inl, inr}
use Rattle.std.specs.Prelude.{Contains}
use Rattle.std.specs.Option.{unwrap_or}
use Rattle.std.proofs.lemmas.Bool.{cases_lt}
use Rattle.std.proofs.lemmas.List.{get_or_past}
use Rattle.std.proofs.lemmas.List.Elements.{Contains-append_cases}
use Rattle.std.proofs.lemmas.Option.{slice_get_past}
use Rattle.cdk_expansion.specs.Mentions.{keys_in, lazy_value}
use Rattle.cdk_expansion.proofs.MentionContains.{contains_no, contains_one}
use Rattle.cdk_graphs.specs.Graph.{IsClosed, leads}
use Rattle.cdk_language.specs.Construct as construct
use Rattle.cdk_language.specs.Construct.{Body}
use Rattle.cdk_tokens.specs.Token.{Form, Token}
use Rattle.cdk_tokens.specs.Whole.{MarkedBody}
use Rattle.cdk_tree.specs.Expected.{is_condition}
use Rattle.cdk_tree.specs.Placed.{Placed, construct_at, find_path, nowhere}
use Rattle.cdk_lazies.specs.MentionGraph.{body_mentions, condition_node, conditions_by, construct_node, form_mentions, mention_graph, names_in, tokens_by}
use Rattle.cdk_lazies.proofs.Found.{form_leads, found_within, is_named, token_there}
use Rattle.cdk_lazies.proofs.Leads.{construct_leads, lazy_within, length-mention_graph, token_leads}

module _ (cs : List Placed) (ts : List Token) where
  form_within : (f : Form) (m : ℕ) → Contains (form_mentions cs ts f) m → m < length ts + length cs
  form_within f m c = elim (form_leads cs ts f m c) [
    | inl l ↦ omega (arith, lazy_within cs l.lazy l.is_lazy, l.node)
    | inr n ↦ omega (arith, found_within ts n.named.key m n.named.found)
  ]

  tokens_within : (ks : List (List ℕ)) (m : ℕ) → Contains (tokens_by ts ks) m → m < length ts + length cs
  tokens_within ks m c = let n = is_named ts ks m c in omega (arith, found_within ts n.key m n.found)

  condition_within : (n : ℕ) → is_condition (construct_at cs n).body ≡ true → n < length cs
  condition_within n is = elim (cases_lt n (length cs)) [
    | inl within ↦ within
    | inr past ↦ let none : is_condition nowhere.body ≡ true = ap (λ (c : Placed). is_condition c.body) (sym (get_or_past cs n nowhere past)) ∙ is in absurd (cc none)
  ]

  node_within : (o : Option ℕ) (m : ℕ) → Contains (condition_node cs ts o) m → m < length ts + length cs
  node_within None m c = absurd (contains_no m c)
  node_within (Some n) m c = at (is_condition (construct_at cs n).body) refl c
    where
      at : (b : Bool) → is_condition (construct_at cs n).body ≡ b → Contains (cond b (construct_node ts n ∷ []) []) m → m < length ts + length cs
      at true e c = omega (arith, contains_one (construct_node ts n) m c, condition_within n e)
      at false e c = absurd (contains_no m c)

  conditions_within : (paths : List (List ℕ)) (m : ℕ) → Contains (conditions_by cs ts paths) m → m < length ts + length cs
  conditions_within [] m c = absurd (contains_no m c)
  conditions_within (t ∷ rest) m c = elim (Contains-append_cases (condition_node cs ts (find_path cs t)) (conditions_by cs ts rest) m c) [
    | inl here ↦ node_within (find_path cs t) m here
    | inr later ↦ conditions_within rest m later
  ]

  module _ (ms : List MarkedBody) where
    body_within : (n : ℕ) (b : Body) (m : ℕ) → Contains (body_mentions cs ts ms n b) m → m < length ts + length cs
    body_within n (construct.lazy e) m c = tokens_within (keys_in (lazy_value ms n)) m c
    body_within n (construct.condition_body d) m c = conditions_within (names_in d) m c
    body_within n b m c = absurd (contains_no m c)

    token_within : (n m : ℕ) → n < length ts → Contains (leads (mention_graph cs ts ms) n) m → m < length ts + length cs
    token_within n m low c = let t = token_there ts n low in form_within t.0.form m (subst (λ xs. Contains xs m) (token_leads cs ts ms n t.0 t.1) c)

    place_within : (n k m : ℕ) → n ≡ construct_node ts k → Contains (leads (mention_graph cs ts ms) n) m → m < length ts + length cs
    place_within n k m e c = elim (cases_lt k (length cs)) [
      | inl within ↦ body_within k (construct_at cs k).body m (subst (λ xs. Contains xs m) (ap (leads (mention_graph cs ts ms)) e ∙ construct_leads cs ts ms k within) c)
      | inr past ↦
          let none : leads (mention_graph cs ts ms) n ≡ [] = ap (λ o. unwrap_or o []) (slice_get_past (mention_graph cs ts ms) n (omega (arith, length-mention_graph cs ts ms))) in
          absurd (contains_no m (subst (λ xs. Contains xs m) none c))
    ]

    pub mention_graph_closed : IsClosed (mention_graph cs ts ms)
    mention_graph_closed n m c =
        let within : m < length ts + length cs = elim (cases_lt n (length ts)) [
          | inl low ↦ token_within n m low c
          | inr high ↦ place_within n (n - length ts) m (omega arith) c
        ] in
        omega (arith, within, length-mention_graph cs ts ms)
