-- The expressions of a construct are right that are clean and in which no test finds anything.
use Rattle.std.proofs.Common.{◌≡◌, ℕ, List, [], ◌∷◌, ◌++◌, Bool, false}
use Rattle.std.specs.Prelude.{⊤}
use Rattle.std.specs.List.{list_any}
use Rattle.std.proofs.lemmas.Bool.{or_parts}
use Rattle.serde_json.specs.Data.{Members}
use Rattle.cdk_language.specs.Condition as condition
use Rattle.cdk_language.specs.Condition.{Condition, Conditions}
use Rattle.cdk_language.specs.Construct as construct
use Rattle.cdk_language.specs.Construct.{Body}
use Rattle.cdk_language.specs.Expression.{Expression}
use Rattle.cdk_tree.specs.Expected.{expected, expected_body, expected_condition, expected_conditions, expected_when}
use Rattle.cdk_tree.specs.Placed.{Placed, construct_at}
use Rattle.cdk_contexts.specs.Contexts.{has_marked_run, misses_context}
use Rattle.cdk_contexts.specs.Expressions.{expressions_in, operands_of, operands_of_all}
use Rattle.cdk_expansion.specs.Clean.{ListIsClean}
use Rattle.cdk_expansion.specs.Right.{ListIsRight}
use Rattle.cdk_expansion.proofs.RightExpressions.{asks_wrongly, is_right, is_wrong_here, none_in_parts, text_parts}

module _ (cs : List Placed) (at : ℕ) (in_condition : Bool) where
  abbrev scopes : List Members
  scopes = (construct_at cs at).contexts

  -- none of the expressions asks for a wrong target
  abbrev AskRightly : List Expression → Type 0
  AskRightly [] = ⊤
  AskRightly (e ∷ es) = (asks_wrongly cs at in_condition (expected e) ≡ false) × AskRightly es

  both_ask_rightly : (es fs : List Expression) → AskRightly es → AskRightly fs → AskRightly (es ++ fs)
  both_ask_rightly [] fs a b = b
  both_ask_rightly (e ∷ es) fs a b = (a.0, both_ask_rightly es fs a.1 b)

  mutual
    operands_ask_rightly : (c : Condition) → asks_wrongly cs at in_condition (expected_condition c) ≡ false → AskRightly (operands_of c)
    operands_ask_rightly (condition.equals x y) t = let ts = text_parts cs at in_condition x y t in (ts.0, (ts.1, tt))
    operands_ask_rightly (condition.all_of ds) t = all_operands_ask_rightly ds t
    operands_ask_rightly (condition.any_of ds) t = all_operands_ask_rightly ds t
    operands_ask_rightly (condition.negated c) t = operands_ask_rightly c t
    operands_ask_rightly (condition.named x) t = tt

    all_operands_ask_rightly : (ds : Conditions) → asks_wrongly cs at in_condition (expected_conditions ds) ≡ false → AskRightly (operands_of_all ds)
    all_operands_ask_rightly condition.no_conditions t = tt
    all_operands_ask_rightly (condition.condition c ds) t =
        let ts = none_in_parts (is_wrong_here cs at in_condition) (expected_condition c) (expected_conditions ds) t in
        both_ask_rightly (operands_of c) (operands_of_all ds) (operands_ask_rightly c ts.0) (all_operands_ask_rightly ds ts.1)

  body_asks_rightly : (b : Body) → asks_wrongly cs at in_condition (expected_body b) ≡ false → AskRightly (expressions_in b)
  body_asks_rightly construct.root t = tt
  body_asks_rightly construct.stage t = tt
  body_asks_rightly (construct.stack d) t = tt
  body_asks_rightly construct.group t = tt
  body_asks_rightly (construct.resource r) t = ((none_in_parts (is_wrong_here cs at in_condition) (expected r.properties) (expected_when r.condition) t).0, tt)
  body_asks_rightly (construct.parameter p) t = tt
  body_asks_rightly (construct.condition_body c) t = operands_ask_rightly c t
  body_asks_rightly (construct.mapping m) t = tt
  body_asks_rightly (construct.output o) t = ((none_in_parts (is_wrong_here cs at in_condition) (expected o.value) (expected_when o.condition) t).0, tt)
  body_asks_rightly (construct.lazy e) t = (t, tt)

  list_is_right : (es : List Expression) → ListIsClean cs at es → AskRightly es → list_any (has_marked_run scopes) es ≡ false
      → list_any (misses_context scopes) es ≡ false → ListIsRight cs at es
  list_is_right [] c t r m = tt
  list_is_right (e ∷ es) c t r m =
      let rs = or_parts (has_marked_run scopes e) (list_any (has_marked_run scopes) es) r in
      let ms = or_parts (misses_context scopes e) (list_any (misses_context scopes) es) m in
      (is_right cs at in_condition e c.0 t.0 rs.0 ms.0, list_is_right es c.1 t.1 rs.1 ms.1)

  pub body_is_right : (b : Body) → ListIsClean cs at (expressions_in b) → asks_wrongly cs at in_condition (expected_body b) ≡ false
      → list_any (has_marked_run scopes) (expressions_in b) ≡ false
      → list_any (misses_context scopes) (expressions_in b) ≡ false → ListIsRight cs at (expressions_in b)
  body_is_right b c t r m = list_is_right (expressions_in b) c (body_asks_rightly b t) r m
