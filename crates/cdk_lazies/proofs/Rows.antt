-- Rows of the mention graph that were put at the end of those before.
use Rattle.std.proofs.Common.{◌≡◌, ◌<◌, ℕ, ◌+◌, List, [], ◌∷◌, ◌++◌, map, length, drop, Bool, true, false, cond, Some, None, sym, ap, ◌∙◌, append_assoc}
use Rattle.std.specs.Prelude.{slice_get}
use Rattle.std.specs.declared.vec.Vec.{Vec}
use Rattle.std.proofs.lemmas.List.{drop_more, map-append}
use Rattle.std.proofs.lemmas.Option.{get_or_from_slice_get, slice_get_within}
use Rattle.cdk_graphs.specs.Graph.{Graph, graph_view}
use Rattle.cdk_tokens.specs.Token.{Token}
use Rattle.cdk_tokens.specs.Whole.{MarkedBody}
use Rattle.cdk_tree.specs.Placed.{Placed, construct_at, nowhere}
use Rattle.cdk_lazies.specs.MentionGraph.{body_mentions, construct_rows, form_mentions, token_rows}

-- the number of a construct that there is
pub same_number : (b : Bool) (n m : ℕ) → Some m ≡ cond b (Some n) None → m ≡ n
same_number true n m h = cc
same_number false n m h = cc

-- the row of the first stands at the end, so only the rest is left
row_put : {A : Type 0} (rows new : List (Vec ℕ A)) (row : Vec ℕ A) (first : List ℕ) (rest : Graph) → row.items ≡ first → new ≡ rows ++ row ∷ [] → graph_view rows ++ first ∷ rest ≡ graph_view new ++ rest
row_put {A} rows new row first rest is put =
    let view : Vec ℕ A → List ℕ = λ r. r.items in
    ap (λ r. map view rows ++ r ∷ rest) (sym is)
    ∙ sym (append_assoc (map view rows) (row.items ∷ []) rest)
    ∙ ap (λ g. g ++ rest) (sym (map-append view rows (row ∷ [])) ∙ ap (map view) (sym put))

token_here : (ts : List Token) (n : ℕ) (t : Token) → slice_get ts n ≡ Some t → drop n ts ≡ t ∷ drop (n + 1) ts
token_here ts n t at = drop_more ts n t (slice_get_within ts n t at) ∙ ap (λ u. u ∷ drop (n + 1) ts) (get_or_from_slice_get ts n t t at)

pub token_row_put : {A : Type 0} (cs : List Placed) (ts us : List Token) (n : ℕ) (t : Token) (rows : List (Vec ℕ A)) (row : Vec ℕ A) (new : List (Vec ℕ A))
    → Some t ≡ slice_get us n → row.items ≡ form_mentions cs ts t.form → new ≡ rows ++ row ∷ []
    → graph_view rows ++ token_rows cs ts (drop n us) ≡ graph_view new ++ token_rows cs ts (drop (n + 1) us)
token_row_put cs ts us n t rows row new at is put =
    ap (λ us. graph_view rows ++ token_rows cs ts us) (token_here us n t (sym at)) ∙ row_put rows new row (form_mentions cs ts t.form) (token_rows cs ts (drop (n + 1) us)) is put

pub construct_row_put : {A : Type 0} (cs : List Placed) (ts : List Token) (ms : List MarkedBody) (n : ℕ) (rows : List (Vec ℕ A)) (row : Vec ℕ A) (new : List (Vec ℕ A))
    → n < length cs → row.items ≡ body_mentions cs ts ms n (construct_at cs n).body → new ≡ rows ++ row ∷ []
    → graph_view rows ++ construct_rows cs ts ms n (drop n cs) ≡ graph_view new ++ construct_rows cs ts ms (n + 1) (drop (n + 1) cs)
construct_row_put cs ts ms n rows row new within is put =
    ap (λ ps. graph_view rows ++ construct_rows cs ts ms n ps) (drop_more cs n nowhere within)
    ∙ row_put rows new row (body_mentions cs ts ms n (construct_at cs n).body) (construct_rows cs ts ms (n + 1) (drop (n + 1) cs)) is put
