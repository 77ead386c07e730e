-- Ways through tokens, in an order of the mention graph: what a value mentions stands before it, and what a token waits for is a lazy in the end.
use Rattle.std.proofs.Common.{◌≡◌, ◌<◌, ℕ, zero, suc, List, Some, sym, ap, subst, ◌∙◌, arith, inl, inr}
use Rattle.std.specs.Prelude.{◌⊎◌, slice_get, Contains}
use Rattle.std.specs.Option.{option_and_then}
use Rattle.serde_json.specs.Data.{Data}
use Rattle.cdk_expansion.specs.Mentions.{arguments, directly, keys_in, lazy_value, LazyMentions, Mentions, through}
use Rattle.cdk_graphs.specs.Graph.{IsHeld, IsOrder, IsWhole, StandsBefore, leads}
use Rattle.cdk_tokens.specs.Token.{find_token, Token}
use Rattle.cdk_tokens.specs.Values.{token_at}
use Rattle.cdk_tokens.specs.Whole.{MarkedBody}
use Rattle.cdk_tree.specs.Placed.{Placed}
use Rattle.cdk_lazies.specs.LazyOrder.{IsLazy}
use Rattle.cdk_lazies.specs.MentionGraph.{construct_node, form_mentions, mention_graph}
use Rattle.cdk_lazies.proofs.Found.{argument_there, form_leads, found_at, found_within, is_named, lazy_node_there, LeadsToLazy, named_is_there, NamedIn, token_there}
use Rattle.cdk_lazies.proofs.Leads.{lazy_leads, length-mention_graph, token_leads}

-- what stands before an earlier place stands before a later one
pub stands_later : (order : List ℕ) (q p m : ℕ) → q < p → StandsBefore order q m → StandsBefore order p m
stands_later order q p m low s = record { place = s.place; before = omega (arith, low, s.before); there = s.there }

module _ (cs : List Placed) (ts : List Token) (ms : List MarkedBody) (order : List ℕ) (is : IsOrder (mention_graph cs ts ms) order) where
  -- each token of the value stands before the place
  abbrev TokensStand : ℕ → Data → Type 0
  TokensStand p d = (i : ℕ) (k : List ℕ) → Contains (keys_in d) k → find_token ts k ≡ Some i → StandsBefore order p i

  token_lead : (i j : ℕ) (t : Token) → slice_get ts i ≡ Some t → Contains (form_mentions cs ts t.form) j → Contains (leads (mention_graph cs ts ms) i) j
  token_lead i j t at c = subst (λ xs. Contains xs j) (sym (token_leads cs ts ms i t at)) c

  mention_stands : (d : Data) (m p : ℕ) → Mentions ts d m → IsLazy cs m → TokensStand p d → StandsBefore order p (construct_node ts m)
  mention_stands x y p (directly d m k t c at form) lazy stand =
      let f = found_at ts k t at in
      let s = stand f.number k c f.found in
      let lead = token_lead f.number (construct_node ts m) t f.there (subst (λ g. Contains (form_mentions cs ts g) (construct_node ts m)) (sym form) (lazy_node_there cs ts m lazy)) in
      stands_later order s.place p (construct_node ts m) s.before (is.behind s.place f.number (construct_node ts m) s.there lead)
  mention_stands x y p (through d a m k t c at among mentioned) lazy stand =
      let f = found_at ts k t at in
      let s = stand f.number k c f.found in
      stands_later order s.place p (construct_node ts m) s.before
      (mention_stands a m s.place mentioned lazy (λ j l there found. is.behind s.place f.number j s.there (token_lead f.number j t f.there (argument_there cs ts t.form a l j among there found))))

  -- each lazy stands behind those that it mentions
  pub mentioned_before : (p n m : ℕ) → slice_get order p ≡ Some (construct_node ts n) → IsLazy cs n → LazyMentions ts ms n m → IsLazy cs m → StandsBefore order p (construct_node ts m)
  mentioned_before p n m at lazy mentioned also =
      mention_stands (lazy_value ms n) m p mentioned also
      (λ i k c found. is.behind p (construct_node ts n) i at (subst (λ xs. Contains xs i) (sym (lazy_leads cs ts ms n lazy)) (named_is_there ts (keys_in (lazy_value ms n)) k i c found)))

  -- the value mentions a lazy that doesn't stand before the place
  pub record Waits (p : ℕ) (d : Data) : Type 0 where
    pub by : ℕ
    pub is_lazy : IsLazy cs by
    pub mentioned : Mentions ts d by
    pub later : StandsBefore order p (construct_node ts by) → ⊥

  waits_through : (p : ℕ) (d a : Data) (k : List ℕ) (t : Token) → Contains (keys_in d) k → token_at ts k ≡ Some t → Contains (arguments t.form) a → Waits p a → Waits p d
  waits_through p d a k t c at among w = record { by = w.by; is_lazy = w.is_lazy; mentioned = through d a w.by k t c at among w.mentioned; later = w.later }

  -- the lazy that the token is of, or what its argument waits for
  waits_by : (p q : ℕ) (d : Data) (k : List ℕ) (t : Token) (by : ℕ) → Contains (keys_in d) k → token_at ts k ≡ Some t → (StandsBefore order p by → ⊥)
      → ((a : Data) (j : List ℕ) → Contains (keys_in a) j → find_token ts j ≡ Some by → Waits p a) → LeadsToLazy cs ts t.form by ⊎ NamedIn ts (arguments t.form) by → Waits p d
  waits_by p q d k t by c token after argument (inl l) = record {
    by = l.lazy;
    is_lazy = l.is_lazy;
    mentioned = directly d l.lazy k t c token l.form;
    later = λ before. after (subst (StandsBefore order p) (sym l.node) before);
  }
  waits_by p q d k t by c token after argument (inr a) = waits_through p d a.argument k t c token a.among (argument a.argument a.named.key a.named.is_there a.named.found)

  -- A value waits where one of its tokens doesn't stand before a construct's place: tokens have lower numbers, so each is held by one
  -- that stands before itself, until a lazy comes.
  token_waits : (p n : ℕ) → slice_get order p ≡ Some (construct_node ts n) → (b q i : ℕ) (k : List ℕ) (d : Data) → q < b → slice_get order q ≡ Some i → Contains (keys_in d) k → find_token ts k ≡ Some i → (StandsBefore order p i → ⊥) → Waits p d
  token_waits p n at zero q i k d low there c found later = absurd (omega (arith, low))
  token_waits p n at (suc b) q i k d low there c found later =
      let within = found_within ts k i found in
      let t = token_there ts i within in
      let token : token_at ts k ≡ Some t.0 = ap (option_and_then (slice_get ts)) found ∙ t.1 in
      elim (is.least p (construct_node ts n) i at (omega (arith, within))) [
        | inl before ↦ absurd (later before)
        | inr h ↦
            let s = is.behind q i h.by there h.leads_there in
            waits_by p q d k t.0 h.by c token h.later
            (λ a j named also. token_waits p n at b s.place h.by j a (omega (arith, low, s.before)) s.there named also h.later)
            (form_leads cs ts t.0.form h.by (subst (λ xs. Contains xs h.by) (token_leads cs ts ms i t.0 t.1) h.leads_there))
      ]

  -- a lazy before which a construct with a higher number stands waits for one
  pub lazy_waits : IsWhole (mention_graph cs ts ms) order → (p n m : ℕ) → slice_get order p ≡ Some (construct_node ts n) → IsLazy cs m → IsHeld (mention_graph cs ts ms) order p (construct_node ts m) → Waits p (lazy_value ms m)
  lazy_waits whole p n m at lazy h =
      let named = is_named ts (keys_in (lazy_value ms m)) h.by (subst (λ xs. Contains xs h.by) (lazy_leads cs ts ms m lazy) h.leads_there) in
      let within = found_within ts named.key h.by named.found in
      let s = whole h.by (omega (arith, within, length-mention_graph cs ts ms)) in
      token_waits p n at (suc s.place) s.place h.by named.key (lazy_value ms m) (omega arith) s.there named.is_there named.found h.later
