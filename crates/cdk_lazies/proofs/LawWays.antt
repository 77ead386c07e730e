-- A lazy reaches itself in the mention graph exactly where it does by mentions: each mention is a way from the lazy through tokens
-- to another lazy, and a way in the graph comes to a lazy wherever it leaves the tokens.
use Rattle.std.proofs.Common.{◌≡◌, ◌<◌, ℕ, ◌⊎◌, inl, inr, List, [], ◌∷◌, length, Some, refl, sym, ◌∙◌, subst, arith}
use Rattle.std.specs.Prelude.{Contains, slice_get}
use Rattle.serde_json.specs.Data.{Data}
use Rattle.cdk_expansion.proofs.MentionContains.{contains_first}
use Rattle.cdk_expansion.specs.Mentions.{arguments, directly, keys_in, lazy_value, LazyMentions, Mentions, through}
use Rattle.cdk_graphs.specs.Graph as graph
use Rattle.cdk_graphs.specs.Graph.{Graph, leads}
use Rattle.cdk_lazies.proofs.LawFound.{finds_by, found_by, found_within, IsFoundBy, IsFoundIn, IsToken, token_found, token_known}
use Rattle.cdk_lazies.proofs.LawRows.{finds_argument, IsOfLazy, lazy_leads, named_or_argument, names_lazy, token_leads}
use Rattle.cdk_lazies.specs.Laws.{further, LazyCyclesAreMentions, once, Reaches}
use Rattle.cdk_lazies.specs.LazyOrder.{IsLazy}
use Rattle.cdk_lazies.specs.MentionGraph.{construct_node, form_mentions, mention_graph, tokens_by}
use Rattle.cdk_tokens.specs.Token as token
use Rattle.cdk_tokens.specs.Token.{find_token, Form, Token}
use Rattle.cdk_tokens.specs.Whole.{MarkedBody}
use Rattle.cdk_tree.specs.Placed.{Placed}

-- the form is the lazy's, or an argument mentions it
abbrev FormMentions : List Token → Form → ℕ → Type 0
FormMentions ts f m = (f ≡ token.lazy m) ⊎ ((a : Data) × Contains (arguments f) a × Mentions ts a m)

-- a value mentions what its tokens do
by_token : (ts : List Token) (d : Data) (i m : ℕ) (k : List ℕ) (t : Token) → Contains (keys_in d) k → IsToken ts k i t → FormMentions ts t.form m → Mentions ts d m
by_token ts d i m k t c is (inl form) = directly d m k t c is.known form
by_token ts d i m k t c is (inr a) = through d (a.0) m k t c is.known (a.1) (a.2)

via : (g : Graph) (a b c : ℕ) → graph.Reaches g a b → graph.Reaches g b c → graph.Reaches g a c
via g a b c (graph.once n m i) h = graph.further a b c i h
via g a b c (graph.further n m l i k) h = graph.further a m c i (via g m b c k h)

module _ (cs : List Placed) (ts : List Token) (ms : List MarkedBody) where
  abbrev g : Graph
  g = mention_graph cs ts ms

  abbrev node : ℕ → ℕ
  node n = construct_node ts n

  -- ---- from the graph to mentions

  module _ (goal : ℕ) (is_there : IsLazy cs goal) where
    -- a token mentions a lazy that is the goal or reaches it
    record Leads (f : Form) : Type 0 where
      to : ℕ
      is_lazy : IsLazy cs to
      mentioned : FormMentions ts f to
      on : (to ≡ goal) ⊎ Reaches cs ts ms to goal

    -- what a way to the goal says of the number where it begins
    record Arrives (a : ℕ) : Type 0 where
      from_lazy : (n : ℕ) → a ≡ node n → IsLazy cs n → Reaches cs ts ms n goal
      from_token : (t : Token) → slice_get ts a ≡ Some t → Leads t.form

    mentions_on : (n m : ℕ) → IsLazy cs m → LazyMentions ts ms n m → (m ≡ goal) ⊎ Reaches cs ts ms m goal → Reaches cs ts ms n goal
    mentions_on n m is c (inl e) = once n goal is_there (subst (LazyMentions ts ms n) e c)
    mentions_on n m is c (inr r) = further n m goal is c r

    -- no token is a construct
    no_token : (b i : ℕ) → b ≡ node goal → b ≡ i → i < length ts → ⊥
    no_token b i e same low = omega (arith, e, same, low)

    led_by_lazy : (n b : ℕ) → IsLazy cs n → Contains (leads g (node n)) b → IsFoundBy ts (keys_in (lazy_value ms n)) b
    led_by_lazy n b is c = found_by ts (keys_in (lazy_value ms n)) b (subst (λ ns. Contains ns b) (lazy_leads cs ts ms n is) c)

    led_by_token : (a b : ℕ) (t : Token) → slice_get ts a ≡ Some t → Contains (leads g a) b → IsOfLazy cs ts t.form b ⊎ IsFoundIn ts (arguments t.form) b
    led_by_token a b t at c = named_or_argument cs ts t.form b (subst (λ ns. Contains ns b) (token_leads cs ts ms a t at) c)

    -- in one step, from a token
    last_step : (f : Form) (b : ℕ) → b ≡ node goal → IsOfLazy cs ts f b ⊎ IsFoundIn ts (arguments f) b → Leads f
    last_step f b e (inl is) = record { to = is.construct; is_lazy = is.there; mentioned = inl is.form; on = inl (omega (arith, e, is.number)) }
    last_step f b e (inr found) = absurd (no_token b b e refl (found_within ts ((found.2).0) b ((found.2).2)))

    -- and in one before others
    next_step : (f : Form) (b : ℕ) → Arrives b → IsOfLazy cs ts f b ⊎ IsFoundIn ts (arguments f) b → Leads f
    next_step f b rest (inl is) = record { to = is.construct; is_lazy = is.there; mentioned = inl is.form; on = inr (rest.from_lazy is.construct is.number is.there) }
    next_step f b rest (inr (a, among, (k, c, finds))) =
        let t = token_found ts k b finds in
        let later = rest.from_token (t.0) (t.1).there in
        record { to = later.to; is_lazy = later.is_lazy; mentioned = inr (a, among, by_token ts a b later.to k (t.0) c (t.1) later.mentioned); on = later.on }

    arrives : (a b : ℕ) → graph.Reaches g a b → b ≡ node goal → Arrives a
    arrives a b (graph.once x y c) e = record {
      from_lazy = λ n same is.
          let found = led_by_lazy n b is (subst (λ (z : ℕ). Contains (leads g z) b) same c) in
          absurd (no_token b b e refl (found_within ts (found.0) b (found.2)));
      from_token = λ t at. last_step t.form b e (led_by_token a b t at c);
    }
    arrives a b (graph.further x y z c r) e =
        let rest = arrives y b r e in record {
          from_lazy = λ n same is.
              let found = led_by_lazy n y is (subst (λ (z : ℕ). Contains (leads g z) y) same c) in
              let t = token_found ts (found.0) y (found.2) in
              let later = rest.from_token (t.0) (t.1).there in
              mentions_on n later.to later.is_lazy (by_token ts (lazy_value ms n) y later.to (found.0) (t.0) (found.1) (t.1) later.mentioned) later.on;
          from_token = λ t at. next_step t.form y rest (led_by_token a y t at c);
        }

  -- ---- from mentions to the graph

  -- a token of the value, from which one comes to the lazy
  record Starts (d : Data) (m : ℕ) : Type 0 where
    key : List ℕ
    stands : Contains (keys_in d) key
    number : ℕ
    finds : find_token ts key ≡ Some number
    way : graph.Reaches g number (node m)

  starts : (d : Data) (m : ℕ) → Mentions ts d m → IsLazy cs m → Starts d m
  starts x y (directly d m k t c known form) is =
      let i = token_known ts k t known in
      let row : leads g (i.0) ≡ node m ∷ [] = token_leads cs ts ms (i.0) t (i.1).there ∙ names_lazy cs ts t.form m form is in
      record { key = k; stands = c; number = i.0; finds = (i.1).finds; way = graph.once (i.0) (node m) (subst (λ ns. Contains ns (node m)) (sym row) (contains_first (node m) [])) }
  starts x y (through d a m k t c known among mentioned) is =
      let i = token_known ts k t known in
      let rest = starts a m mentioned is in
      let row : leads g (i.0) ≡ form_mentions cs ts t.form = token_leads cs ts ms (i.0) t (i.1).there in
      let step : Contains (form_mentions cs ts t.form) rest.number = finds_argument cs ts t.form a rest.key rest.number among rest.stands rest.finds in
      record { key = k; stands = c; number = i.0; finds = (i.1).finds; way = graph.further (i.0) rest.number (node m) (subst (λ ns. Contains ns rest.number) (sym row) step) rest.way }

  one_mention : (n m : ℕ) → IsLazy cs n → IsLazy cs m → LazyMentions ts ms n m → graph.Reaches g (node n) (node m)
  one_mention n m is there c =
      let s = starts (lazy_value ms n) m c there in
      let step : Contains (tokens_by ts (keys_in (lazy_value ms n))) s.number = finds_by ts (keys_in (lazy_value ms n)) s.key s.number s.stands s.finds in
      graph.further (node n) s.number (node m) (subst (λ ns. Contains ns s.number) (sym (lazy_leads cs ts ms n is)) step) s.way

  in_graph : (n m : ℕ) → Reaches cs ts ms n m → IsLazy cs n → graph.Reaches g (node n) (node m)
  in_graph x y (once n m there c) is = one_mention n m is there c
  in_graph x y (further n m l there c r) is = via g (node n) (node m) (node l) (one_mention n m is there c) (in_graph m l r there)

pub lazy_cycles_are_mentions : LazyCyclesAreMentions
lazy_cycles_are_mentions cs ts ms n is =
    ((λ r. (arrives cs ts ms n is (construct_node ts n) (construct_node ts n) r refl).from_lazy n refl is), (λ r. in_graph cs ts ms n n r is))
