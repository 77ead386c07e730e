-- Tokens are known where each key of an expression's tokens stands for that expression's own plain form.
use Rattle.std.specs.Prelude.{◌≡◌, ℕ, ◌+◌, List, [], ◌∷◌, ◌++◌, Some, ⊤}
use Rattle.cdk_language.specs.Expression as expression
use Rattle.cdk_language.specs.Expression.{Expression, Expressions, Fields}
use Rattle.cdk_plain.specs.Plain.{Plain}
use Rattle.cdk_tree.specs.Placed.{Placed}
use Rattle.cdk_tokens.specs.Marking.{count, hint}
use Rattle.cdk_tokens.specs.Token.{key_of}
use Rattle.cdk_expansion.specs.Expanded.{Known}
use Rattle.cdk_expansion.specs.Own.{own}

-- the key of the token n of the expression stands for its own plain form
abbrev pub KnowsOne : Known → (ℕ → Plain) → List Placed → ℕ → ℕ → Expression → Type 0
KnowsOne known lazies cs at n e = known (key_of (hint e) n) ≡ Some (own lazies cs at e)

-- of an expression of the construct `at`, whose tokens are numbered from n on
abbrev mutual
  pub Knows : Known → (ℕ → Plain) → List Placed → ℕ → ℕ → Expression → Type 0
  Knows known lazies cs at n (expression.text s) = ⊤
  Knows known lazies cs at n (expression.whole z) = ⊤
  Knows known lazies cs at n (expression.truth b) = ⊤
  Knows known lazies cs at n (expression.list es) = KnowsAll known lazies cs at n es
  Knows known lazies cs at n (expression.object fs) = KnowsFields known lazies cs at n fs
  Knows known lazies cs at n (expression.pseudo p) = KnowsOne known lazies cs at n (expression.pseudo p)
  Knows known lazies cs at n (expression.ref t) = KnowsOne known lazies cs at n (expression.ref t)
  Knows known lazies cs at n (expression.get_att t a) = KnowsOne known lazies cs at n (expression.get_att t a)
  Knows known lazies cs at n (expression.concat es) = KnowsAll known lazies cs at n es
  Knows known lazies cs at n (expression.join d e) = Knows known lazies cs at n e × KnowsOne known lazies cs at (n + count e) (expression.join d e)
  Knows known lazies cs at n (expression.select i e) = Knows known lazies cs at n e × KnowsOne known lazies cs at (n + count e) (expression.select i e)
  Knows known lazies cs at n (expression.split d e) = Knows known lazies cs at n e × KnowsOne known lazies cs at (n + count e) (expression.split d e)
  Knows known lazies cs at n (expression.choice c x y) =
      Knows known lazies cs at n x × Knows known lazies cs at (n + count x) y × KnowsOne known lazies cs at (n + (count x + count y)) (expression.choice c x y)
  Knows known lazies cs at n (expression.find_in_map m x y) =
      Knows known lazies cs at n x × Knows known lazies cs at (n + count x) y × KnowsOne known lazies cs at (n + (count x + count y)) (expression.find_in_map m x y)
  Knows known lazies cs at n (expression.import_value t) = KnowsOne known lazies cs at n (expression.import_value t)
  Knows known lazies cs at n (expression.context k d) = ⊤
  Knows known lazies cs at n (expression.lazy t) = KnowsOne known lazies cs at n (expression.lazy t)

  pub KnowsAll : Known → (ℕ → Plain) → List Placed → ℕ → ℕ → Expressions → Type 0
  KnowsAll known lazies cs at n expression.no_expressions = ⊤
  KnowsAll known lazies cs at n (expression.expression e es) = Knows known lazies cs at n e × KnowsAll known lazies cs at (n + count e) es

  pub KnowsFields : Known → (ℕ → Plain) → List Placed → ℕ → ℕ → Fields → Type 0
  KnowsFields known lazies cs at n expression.no_fields = ⊤
  KnowsFields known lazies cs at n (expression.field k e fs) = Knows known lazies cs at n e × KnowsFields known lazies cs at (n + count e) fs

-- ---- the own plain forms of an expression's tokens, in the order of their numbers

abbrev mutual
  pub own_tokens : (ℕ → Plain) → List Placed → ℕ → Expression → List Plain
  own_tokens lazies cs at (expression.text s) = []
  own_tokens lazies cs at (expression.whole z) = []
  own_tokens lazies cs at (expression.truth b) = []
  own_tokens lazies cs at (expression.list es) = all_own_tokens lazies cs at es
  own_tokens lazies cs at (expression.object fs) = fields_own_tokens lazies cs at fs
  own_tokens lazies cs at (expression.pseudo p) = own lazies cs at (expression.pseudo p) ∷ []
  own_tokens lazies cs at (expression.ref t) = own lazies cs at (expression.ref t) ∷ []
  own_tokens lazies cs at (expression.get_att t a) = own lazies cs at (expression.get_att t a) ∷ []
  own_tokens lazies cs at (expression.concat es) = all_own_tokens lazies cs at es
  own_tokens lazies cs at (expression.join d e) = own_tokens lazies cs at e ++ own lazies cs at (expression.join d e) ∷ []
  own_tokens lazies cs at (expression.select i e) = own_tokens lazies cs at e ++ own lazies cs at (expression.select i e) ∷ []
  own_tokens lazies cs at (expression.split d e) = own_tokens lazies cs at e ++ own lazies cs at (expression.split d e) ∷ []
  own_tokens lazies cs at (expression.choice c x y) = own_tokens lazies cs at x ++ (own_tokens lazies cs at y ++ own lazies cs at (expression.choice c x y) ∷ [])
  own_tokens lazies cs at (expression.find_in_map m x y) = own_tokens lazies cs at x ++ (own_tokens lazies cs at y ++ own lazies cs at (expression.find_in_map m x y) ∷ [])
  own_tokens lazies cs at (expression.import_value t) = own lazies cs at (expression.import_value t) ∷ []
  own_tokens lazies cs at (expression.context k d) = []
  own_tokens lazies cs at (expression.lazy t) = own lazies cs at (expression.lazy t) ∷ []

  pub all_own_tokens : (ℕ → Plain) → List Placed → ℕ → Expressions → List Plain
  all_own_tokens lazies cs at expression.no_expressions = []
  all_own_tokens lazies cs at (expression.expression e es) = own_tokens lazies cs at e ++ all_own_tokens lazies cs at es

  pub fields_own_tokens : (ℕ → Plain) → List Placed → ℕ → Fields → List Plain
  fields_own_tokens lazies cs at expression.no_fields = []
  fields_own_tokens lazies cs at (expression.field k e fs) = own_tokens lazies cs at e ++ fields_own_tokens lazies cs at fs
