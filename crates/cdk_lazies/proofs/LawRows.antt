-- What tokens and lazies lead to in the mention graph.
use Rattle.std.proofs.Common.{◌≡◌, ℕ, zero, suc, ◌+◌, ◌⊎◌, inl, inr, List, [], ◌∷◌, ◌++◌, length, Bool, true, false, true≢false, Some, if◌then◌else◌, refl, sym, ap, ◌∙◌, arith}
use Rattle.std.specs.Prelude.{Contains, slice_get}
use Rattle.serde_json.specs.Data.{Data}
use Rattle.cdk_expansion.proofs.MentionContains.{contains_no, contains_one}
use Rattle.cdk_expansion.specs.Mentions.{arguments, keys_in, lazy_value}
use Rattle.cdk_graphs.specs.Graph.{Graph, leads}
use Rattle.cdk_language.specs.Construct as language
use Rattle.cdk_language.specs.Construct.{Body}
use Rattle.cdk_lazies.proofs.LawFound.{finds_in, found_in, IsFoundIn}
use Rattle.cdk_lazies.specs.LazyOrder.{IsLazy}
use Rattle.cdk_lazies.specs.MentionGraph.{body_mentions, construct_node, construct_rows, form_mentions, mention_graph, token_rows, tokens_by}
use Rattle.cdk_tokens.specs.Token as token
use Rattle.cdk_tokens.specs.Token.{find_token, Form, Token}
use Rattle.cdk_tokens.specs.Whole.{MarkedBody}
use Rattle.cdk_tree.proofs.Tests.{same_some}
use Rattle.cdk_tree.specs.Expected.{is_lazy}
use Rattle.cdk_tree.specs.Placed.{construct_at, Placed}

-- ---- rows

token_row : (cs : List Placed) (ts us : List Token) (rows : Graph) (i : ℕ) (t : Token) → slice_get us i ≡ Some t → leads (token_rows cs ts us ++ rows) i ≡ form_mentions cs ts t.form
token_row cs ts [] rows i t at = absurd (cc at)
token_row cs ts (u ∷ us) rows zero t at = ap (λ (v : Token). form_mentions cs ts v.form) (same_some u t at)
token_row cs ts (u ∷ us) rows (suc i) t at = token_row cs ts us rows i t at

past_tokens : (cs : List Placed) (ts us : List Token) (rows : Graph) (n : ℕ) → leads (token_rows cs ts us ++ rows) (length us + n) ≡ leads rows n
past_tokens cs ts [] rows n = let same : 0 + n ≡ n = omega arith in ap (leads rows) same
past_tokens cs ts (u ∷ us) rows n =
    let same : length (u ∷ us) + n ≡ suc (length us + n) = omega arith in
    ap (leads (token_rows cs ts (u ∷ us) ++ rows)) same ∙ past_tokens cs ts us rows n

construct_row : (cs : List Placed) (ts : List Token) (ms : List MarkedBody) (at : ℕ) (rest : List Placed) (i j : ℕ) → at + i ≡ j → leads (construct_rows cs ts ms at rest) i ≡ body_mentions cs ts ms j (construct_at rest i).body
construct_row cs ts ms at [] i j e = refl
construct_row cs ts ms at (c ∷ rest) zero j e = let same : at ≡ j = omega (arith, e) in ap (λ n. body_mentions cs ts ms n c.body) same
construct_row cs ts ms at (c ∷ rest) (suc i) j e = construct_row cs ts ms (at + 1) rest i j (omega (arith, e))

lazy_body : (cs : List Placed) (ts : List Token) (ms : List MarkedBody) (n : ℕ) (b : Body) → is_lazy b ≡ true → body_mentions cs ts ms n b ≡ tokens_by ts (keys_in (lazy_value ms n))
lazy_body cs ts ms n (language.lazy e) is = refl
lazy_body cs ts ms n b is = absurd (true≢false (sym is))

module _ (cs : List Placed) (ts : List Token) (ms : List MarkedBody) where
  pub token_leads : (i : ℕ) (t : Token) → slice_get ts i ≡ Some t → leads (mention_graph cs ts ms) i ≡ form_mentions cs ts t.form
  token_leads i t at = token_row cs ts ts (construct_rows cs ts ms 0 cs) i t at

  -- a lazy leads to the tokens in its value
  pub lazy_leads : (n : ℕ) → IsLazy cs n → leads (mention_graph cs ts ms) (construct_node ts n) ≡ tokens_by ts (keys_in (lazy_value ms n))
  lazy_leads n is =
      past_tokens cs ts ts (construct_rows cs ts ms 0 cs) n ∙ construct_row cs ts ms 0 cs n n (omega arith) ∙ lazy_body cs ts ms n (construct_at cs n).body is

-- ---- forms

-- the form is that of a lazy, of the number in the graph
pub record IsOfLazy (cs : List Placed) (ts : List Token) (f : Form) (i : ℕ) : Type 0 where
  pub construct : ℕ
  pub form : f ≡ token.lazy construct
  pub there : IsLazy cs construct
  pub number : i ≡ construct_node ts construct

module _ (cs : List Placed) (ts : List Token) where
  -- the token of a lazy leads to it
  pub names_lazy : (f : Form) (n : ℕ) → f ≡ token.lazy n → IsLazy cs n → form_mentions cs ts f ≡ construct_node ts n ∷ []
  names_lazy f n e is = ap (form_mentions cs ts) e ∙ ap (λ b. if b then construct_node ts n ∷ [] else []) is

  -- and that of another expression to the tokens in its arguments
  pub finds_argument : (f : Form) (a : Data) (k : List ℕ) (i : ℕ) → Contains (arguments f) a → Contains (keys_in a) k → find_token ts k ≡ Some i → Contains (form_mentions cs ts f) i
  finds_argument (token.lazy n) a k i among c e = absurd (contains_no a among)
  finds_argument f a k i among c e = finds_in ts (arguments f) a k i among c e

  lazy_named : (n i : ℕ) (b : Bool) → is_lazy (construct_at cs n).body ≡ b → Contains (if b then construct_node ts n ∷ [] else []) i → IsOfLazy cs ts (token.lazy n) i
  lazy_named n i true is c = record { construct = n; form = refl; there = is; number = contains_one (construct_node ts n) i c }
  lazy_named n i false is c = absurd (contains_no i c)

  -- to nothing else
  pub named_or_argument : (f : Form) (i : ℕ) → Contains (form_mentions cs ts f) i → IsOfLazy cs ts f i ⊎ IsFoundIn ts (arguments f) i
  named_or_argument (token.lazy n) i c = inl (lazy_named n i (is_lazy (construct_at cs n).body) refl c)
  named_or_argument f i c = inr (found_in ts (arguments f) i c)
