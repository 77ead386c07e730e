-- Lists of numbers at whose end more were put: what is mentioned by the first, and then by the rest.
use Rattle.std.proofs.Common.{◌≡◌, ℕ, List, [], ◌∷◌, ◌++◌, Option, Some, None, refl, sym, ap, ◌∙◌, append_assoc}
use Rattle.cdk_tokens.specs.Token.{find_token, Token}
use Rattle.cdk_tree.specs.Placed.{Placed, find_path}
use Rattle.cdk_lazies.specs.MentionGraph.{condition_node, conditions_by, onto, tokens_by}

onto-append : (o : Option ℕ) (a b : List ℕ) → onto o (a ++ b) ≡ onto o a ++ b
onto-append None a b = refl
onto-append (Some n) a b = refl

pub tokens_by-append : (ts : List Token) (a b : List (List ℕ)) → tokens_by ts (a ++ b) ≡ tokens_by ts a ++ tokens_by ts b
tokens_by-append ts [] b = refl
tokens_by-append ts (k ∷ a) b = ap (onto (find_token ts k)) (tokens_by-append ts a b) ∙ onto-append (find_token ts k) (tokens_by ts a) (tokens_by ts b)

pub conditions_by-append : (cs : List Placed) (ts : List Token) (a b : List (List ℕ)) → conditions_by cs ts (a ++ b) ≡ conditions_by cs ts a ++ conditions_by cs ts b
conditions_by-append cs ts [] b = refl
conditions_by-append cs ts (t ∷ a) b =
    let here = condition_node cs ts (find_path cs t) in ap (λ ns. here ++ ns) (conditions_by-append cs ts a b) ∙ sym (append_assoc here (conditions_by cs ts a) (conditions_by cs ts b))

-- done, and then the first and the rest, is what is there now, and then the rest
pub then_rest : {X : Type 0} (done now first rest : List X) → now ≡ done ++ first → done ++ (first ++ rest) ≡ now ++ rest
then_rest done now first rest e = sym (append_assoc done first rest) ∙ ap (λ ns. ns ++ rest) (sym e)

pub tokens_then : (ts : List Token) (done now : List ℕ) (a b : List (List ℕ)) → now ≡ done ++ tokens_by ts a → done ++ tokens_by ts (a ++ b) ≡ now ++ tokens_by ts b
tokens_then ts done now a b e = ap (λ ns. done ++ ns) (tokens_by-append ts a b) ∙ then_rest done now (tokens_by ts a) (tokens_by ts b) e

pub conditions_then : (cs : List Placed) (ts : List Token) (done now : List ℕ) (a b : List (List ℕ)) → now ≡ done ++ conditions_by cs ts a → done ++ conditions_by cs ts (a ++ b) ≡ now ++ conditions_by cs ts b
conditions_then cs ts done now a b e = ap (λ ns. done ++ ns) (conditions_by-append cs ts a b) ∙ then_rest done now (conditions_by cs ts a) (conditions_by cs ts b) e
