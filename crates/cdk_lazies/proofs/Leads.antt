-- What the numbers of the mention graph lead to: a token to what its form mentions, a construct to what its body mentions.
use Rattle.std.proofs.Common.{◌≡◌, ◌<◌, ◌≤◌, ℕ, zero, suc, ◌+◌, ◌∷◌, ◌++◌, List, [], length, Some, true, refl, sym, ap, ◌∙◌, arith}
use Rattle.std.specs.Prelude.{◌⊎◌, slice_get}
use Rattle.std.specs.Option.{unwrap_or}
use Rattle.std.proofs.Common.{inl, inr}
use Rattle.std.proofs.lemmas.Bool.{cases_lt}
use Rattle.std.proofs.lemmas.List.{get_or_past, length-append}
use Rattle.cdk_expansion.specs.Mentions.{keys_in, lazy_value}
use Rattle.cdk_graphs.specs.Graph.{Graph, leads}
use Rattle.cdk_language.specs.Construct as construct
use Rattle.cdk_language.specs.Construct.{Body}
use Rattle.cdk_tokens.specs.Token.{Token}
use Rattle.cdk_tokens.specs.Whole.{MarkedBody}
use Rattle.cdk_tree.specs.Expected.{is_lazy}
use Rattle.cdk_tree.specs.Placed.{Placed, construct_at, nowhere}
use Rattle.cdk_lazies.specs.LazyOrder.{IsLazy}
use Rattle.cdk_lazies.specs.MentionGraph.{body_mentions, construct_node, construct_rows, form_mentions, mention_graph, token_rows, tokens_by}

module _ (cs : List Placed) (ts : List Token) where
  token_rows_then : (us : List Token) (rows : Graph) (i : ℕ) (t : Token) → slice_get us i ≡ Some t → slice_get (token_rows cs ts us ++ rows) i ≡ Some (form_mentions cs ts t.form)
  token_rows_then [] rows i t at = absurd (cc at)
  token_rows_then (u ∷ us) rows zero t at = let same : u ≡ t = cc in ap (λ (v : Token). Some (form_mentions cs ts v.form)) same
  token_rows_then (u ∷ us) rows (suc i) t at = token_rows_then us rows i t at

  length-token_rows : (us : List Token) → length (token_rows cs ts us) ≡ length us
  length-token_rows [] = refl
  length-token_rows (u ∷ us) = ap suc (length-token_rows us)

  rows_after_tokens : (us : List Token) (rows : Graph) (i : ℕ) → slice_get (token_rows cs ts us ++ rows) (length us + i) ≡ slice_get rows i
  rows_after_tokens [] rows i = ap (slice_get rows) (omega arith)
  rows_after_tokens (u ∷ us) rows i =
      let next : suc (length us) + i ≡ suc (length us + i) = omega arith in ap (slice_get (token_rows cs ts (u ∷ us) ++ rows)) next ∙ rows_after_tokens us rows i

  module _ (ms : List MarkedBody) where
    construct_rows_at : (n : ℕ) (rest : List Placed) (i j : ℕ) → n + i ≡ j → i < length rest → slice_get (construct_rows cs ts ms n rest) i ≡ Some (body_mentions cs ts ms j (construct_at rest i).body)
    construct_rows_at n [] i j e within = absurd (omega arith)
    construct_rows_at n (c ∷ rest) zero j e within = let same : n ≡ j = omega arith in ap (λ k. Some (body_mentions cs ts ms k c.body)) same
    construct_rows_at n (c ∷ rest) (suc i) j e within = construct_rows_at (n + 1) rest i j (omega arith) (omega arith)

    length-construct_rows : (n : ℕ) (rest : List Placed) → length (construct_rows cs ts ms n rest) ≡ length rest
    length-construct_rows n [] = refl
    length-construct_rows n (c ∷ rest) = ap suc (length-construct_rows (n + 1) rest)

    pub length-mention_graph : length (mention_graph cs ts ms) ≡ length ts + length cs
    length-mention_graph =
        length-append (token_rows cs ts ts) (construct_rows cs ts ms 0 cs) ∙ ap (λ n. n + length (construct_rows cs ts ms 0 cs)) (length-token_rows ts)
        ∙ ap (λ n. length ts + n) (length-construct_rows 0 cs)

    pub token_leads : (i : ℕ) (t : Token) → slice_get ts i ≡ Some t → leads (mention_graph cs ts ms) i ≡ form_mentions cs ts t.form
    token_leads i t at = ap (λ o. unwrap_or o []) (token_rows_then ts (construct_rows cs ts ms 0 cs) i t at)

    pub construct_leads : (n : ℕ) → n < length cs → leads (mention_graph cs ts ms) (construct_node ts n) ≡ body_mentions cs ts ms n (construct_at cs n).body
    construct_leads n within =
        ap (λ o. unwrap_or o []) (rows_after_tokens ts (construct_rows cs ts ms 0 cs) n ∙ construct_rows_at 0 cs n n (omega arith) within)

-- ---- lazies

lazy_body_mentions : (cs : List Placed) (ts : List Token) (ms : List MarkedBody) (n : ℕ) (b : Body) → is_lazy b ≡ true → body_mentions cs ts ms n b ≡ tokens_by ts (keys_in (lazy_value ms n))
lazy_body_mentions cs ts ms n (construct.lazy e) h = refl
lazy_body_mentions cs ts ms n b h = absurd (cc h)

-- a lazy is one of the constructs
pub lazy_within : (cs : List Placed) (n : ℕ) → IsLazy cs n → n < length cs
lazy_within cs n is = at (cases_lt n (length cs))
  where
    at : (n < length cs) ⊎ (length cs ≤ n) → n < length cs
    at (inl within) = within
    at (inr past) = let none : is_lazy nowhere.body ≡ true = ap (λ (c : Placed). is_lazy c.body) (sym (get_or_past cs n nowhere past)) ∙ is in absurd (cc none)

pub lazy_leads : (cs : List Placed) (ts : List Token) (ms : List MarkedBody) (n : ℕ) → IsLazy cs n → leads (mention_graph cs ts ms) (construct_node ts n) ≡ tokens_by ts (keys_in (lazy_value ms n))
lazy_leads cs ts ms n is = construct_leads cs ts ms n (lazy_within cs n is) ∙ lazy_body_mentions cs ts ms n (construct_at cs n).body is
