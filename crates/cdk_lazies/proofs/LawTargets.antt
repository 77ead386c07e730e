-- In a sound application what lazies mention are lazies: each target of a Lazy was found to be one.
use Rattle.std.proofs.Common.{◌≡◌, ◌<◌, ℕ, zero, suc, ◌+◌, List, [], ◌∷◌, ◌++◌, map, length, Bool, false, true≢false, Option, Some, None, subst, slice_get, unwrap_or, arith}
use Rattle.std.specs.Prelude.{◌||◌, ◌&&◌, is_none, not, ⊤}
use Rattle.std.specs.List.{list_any}
use Rattle.std.specs.Option.{option_map_or}
use Rattle.std.proofs.lemmas.Bool.{not-false, or_parts}
use Rattle.serde_json.specs.Data.{Data, Members}
use Rattle.cdk_expansion.proofs.RightExpressions.{none_in_parts}
use Rattle.cdk_expansion.proofs.SoundFindings.{no_wrong_targets}
use Rattle.cdk_expansion.specs.Laws.{IsSound}
use Rattle.cdk_expansion.specs.Mentions.{directly, Mentions, through}
use Rattle.cdk_language.specs.Condition as condition
use Rattle.cdk_language.specs.Condition.{Condition, Conditions}
use Rattle.cdk_language.specs.Construct as language
use Rattle.cdk_language.specs.Construct.{Body}
use Rattle.cdk_language.specs.Expression as expression
use Rattle.cdk_language.specs.Expression.{Expression, Expressions, Fields}
use Rattle.cdk_lazies.proofs.LawFound.{token_known}
use Rattle.cdk_lazies.specs.Laws.{LazyOrdersAreOrders}
use Rattle.cdk_lazies.specs.LazyOrder.{IsLazy}
use Rattle.cdk_tokens.specs.Marking.{all_tokens, count, fields_tokens, marked, target, token_of, tokens}
use Rattle.cdk_tokens.specs.Token as token
use Rattle.cdk_tokens.specs.Token.{Form, Token}
use Rattle.cdk_contexts.specs.Expressions.{expressions_in, operands_of, operands_of_all}
use Rattle.cdk_tokens.specs.Whole.{count_in, tokens_from, tokens_of, tokens_of_list}
use Rattle.cdk_tree.specs.Expected as asked
use Rattle.cdk_tree.specs.Expected.{Expected, expected, expected_all, expected_body, expected_condition, expected_conditions, expected_fields, expected_pieces, expected_when, is_condition, is_lazy, is_missing, is_resource, is_wrong, text_place}
use Rattle.cdk_tree.specs.Lists.{list_lazies}
use Rattle.cdk_tree.specs.Placed.{construct_at, find_path, Placed}
use Rattle.cdk_tree.specs.declared.role.TargetRole.TheVariants as roles

-- ---- what is asked

-- where a Lazy is asked for there is one
abbrev IsThere : List Placed → Expected → Type 0
IsThere cs (asked.target roles.Lazy t) = IsLazy cs (target cs t)
IsThere cs x = ⊤

abbrev AreThere : List Placed → List Expected → Type 0
AreThere cs [] = ⊤
AreThere cs (x ∷ xs) = IsThere cs x × AreThere cs xs

AreThere-apart : (cs : List Placed) (xs ys : List Expected) → AreThere cs (xs ++ ys) → AreThere cs xs × AreThere cs ys
AreThere-apart cs [] ys h = (tt, h)
AreThere-apart cs (x ∷ xs) ys h = let rest = AreThere-apart cs xs ys (h.1) in ((h.0, rest.0), rest.1)

module _ (cs : List Placed) (lazies : List Bool) (in_condition : Bool) (scopes : List Members) where
  found_lazy : (o : Option ℕ) → is_none o ≡ false
      → option_map_or (λ n. not (is_lazy (construct_at cs n).body) || (in_condition && is_resource (construct_at cs n).body)) o false ≡ false → IsLazy cs (unwrap_or o 0)
  found_lazy None there right = absurd (true≢false there)
  found_lazy (Some n) there right = not-false (is_lazy (construct_at cs n).body) ((or_parts (not (is_lazy (construct_at cs n).body)) (in_condition && is_resource (construct_at cs n).body) right).0)

  is_there : (x : Expected) → is_missing cs x ≡ false → is_wrong cs lazies in_condition scopes x ≡ false → IsThere cs x
  is_there (asked.target roles.Lazy t) there right = found_lazy (find_path cs t) there right
  is_there x there right = tt

  are_there : (xs : List Expected) → list_any (is_missing cs) xs ≡ false → list_any (is_wrong cs lazies in_condition scopes) xs ≡ false → AreThere cs xs
  are_there [] there right = tt
  are_there (x ∷ xs) there right =
      let t = or_parts (is_missing cs x) (list_any (is_missing cs) xs) there in
      let r = or_parts (is_wrong cs lazies in_condition scopes x) (list_any (is_wrong cs lazies in_condition scopes) xs) right in
      (is_there x (t.0) (r.0), are_there xs (t.1) (r.1))

-- ---- tokens

-- a lazy's token is that of a lazy
abbrev IsNamed : List Placed → Form → Type 0
IsNamed cs (token.lazy n) = IsLazy cs n
IsNamed cs f = ⊤

abbrev AreNamed : List Placed → List Token → Type 0
AreNamed cs [] = ⊤
AreNamed cs (t ∷ ts) = IsNamed cs t.form × AreNamed cs ts

AreNamed-both : (cs : List Placed) (ts us : List Token) → AreNamed cs ts → AreNamed cs us → AreNamed cs (ts ++ us)
AreNamed-both cs [] us h k = k
AreNamed-both cs (t ∷ ts) us h k = (h.0, AreNamed-both cs ts us (h.1) k)

named_at : (cs : List Placed) (ts : List Token) (i : ℕ) (t : Token) → AreNamed cs ts → slice_get ts i ≡ Some t → IsNamed cs t.form
named_at cs [] i t h at = absurd (cc at)
named_at cs (u ∷ ts) zero t h at = let same : u ≡ t = cc at in subst (λ (v : Token). IsNamed cs v.form) same (h.0)
named_at cs (u ∷ ts) (suc i) t h at = named_at cs ts i t (h.1) at

-- ---- the tokens of expressions

module _ (cs : List Placed) (at : ℕ) where
  -- tokens, and one that is no lazy's
  then_one : (ts : List Token) (t : Token) → AreNamed cs ts → IsNamed cs t.form → AreNamed cs (ts ++ t ∷ [])
  then_one ts t h k = AreNamed-both cs ts (t ∷ []) h (k, tt)

  two_then_one : (ts us : List Token) (t : Token) → AreNamed cs ts → AreNamed cs us → IsNamed cs t.form → AreNamed cs (ts ++ (us ++ t ∷ []))
  two_then_one ts us t h k l = AreNamed-both cs ts (us ++ t ∷ []) h (then_one us t k l)

  mutual
    named : (n : ℕ) (e : Expression) → AreThere cs (expected e) → AreNamed cs (tokens cs at n e)
    named n (expression.text s) h = tt
    named n (expression.whole z) h = tt
    named n (expression.truth b) h = tt
    named n (expression.list es) h = all_named n es h
    named n (expression.object fs) h = fields_named n fs h
    named n (expression.pseudo p) h = (tt, tt)
    named n (expression.ref t) h = (tt, tt)
    named n (expression.get_att t a) h = (tt, tt)
    named n (expression.concat es) h = pieces_named n es h
    named n (expression.join d e) h = then_one (tokens cs at n e) (token_of cs at (n + count e) (expression.join d e) (token.join d (marked cs at n e))) (named n e (h.1)) tt
    named n (expression.select i e) h = then_one (tokens cs at n e) (token_of cs at (n + count e) (expression.select i e) (token.select i (marked cs at n e))) (named n e (h.1)) tt
    named n (expression.split d e) h = then_one (tokens cs at n e) (token_of cs at (n + count e) (expression.split d e) (token.split d (marked cs at n e))) (named n e (h.1)) tt
    named n (expression.choice c x y) h =
        let both = AreThere-apart cs (expected x) (expected y) (h.1) in
        let t : Token = token_of cs at (n + (count x + count y)) (expression.choice c x y) (token.choice (target cs c) (marked cs at n x) (marked cs at (n + count x) y)) in
        two_then_one (tokens cs at n x) (tokens cs at (n + count x) y) t (named n x (both.0)) (named (n + count x) y (both.1)) tt
    named n (expression.find_in_map m x y) h =
        let both = AreThere-apart cs (text_place x ∷ expected x) (text_place y ∷ expected y) (h.1) in
        let t : Token = token_of cs at (n + (count x + count y)) (expression.find_in_map m x y) (token.find_in_map (target cs m) (marked cs at n x) (marked cs at (n + count x) y)) in
        two_then_one (tokens cs at n x) (tokens cs at (n + count x) y) t (named n x ((both.0).1)) (named (n + count x) y ((both.1).1)) tt
    named n (expression.import_value t) h = (tt, tt)
    named n (expression.context k d) h = tt
    named n (expression.lazy t) h = (h.0, tt)

    all_named : (n : ℕ) (es : Expressions) → AreThere cs (expected_all es) → AreNamed cs (all_tokens cs at n es)
    all_named n expression.no_expressions h = tt
    all_named n (expression.expression e es) h =
        let both = AreThere-apart cs (expected e) (expected_all es) h in
        AreNamed-both cs (tokens cs at n e) (all_tokens cs at (n + count e) es) (named n e (both.0)) (all_named (n + count e) es (both.1))

    fields_named : (n : ℕ) (fs : Fields) → AreThere cs (expected_fields fs) → AreNamed cs (fields_tokens cs at n fs)
    fields_named n expression.no_fields h = tt
    fields_named n (expression.field k e fs) h =
        let both = AreThere-apart cs (expected e) (expected_fields fs) h in
        AreNamed-both cs (tokens cs at n e) (fields_tokens cs at (n + count e) fs) (named n e (both.0)) (fields_named (n + count e) fs (both.1))

    pieces_named : (n : ℕ) (es : Expressions) → AreThere cs (expected_pieces es) → AreNamed cs (all_tokens cs at n es)
    pieces_named n expression.no_expressions h = tt
    pieces_named n (expression.expression e es) h =
        let both = AreThere-apart cs (text_place e ∷ expected e) (expected_pieces es) h in
        AreNamed-both cs (tokens cs at n e) (all_tokens cs at (n + count e) es) (named n e ((both.0).1)) (pieces_named (n + count e) es (both.1))

-- ---- the tokens of constructs

module _ (cs : List Placed) where
  -- what each of the expressions asks for is there
  abbrev AskThere : List Expression → Type 0
  AskThere [] = ⊤
  AskThere (e ∷ es) = AreThere cs (expected e) × AskThere es

  AskThere-both : (es fs : List Expression) → AskThere es → AskThere fs → AskThere (es ++ fs)
  AskThere-both [] fs h k = k
  AskThere-both (e ∷ es) fs h k = (h.0, AskThere-both es fs (h.1) k)

  mutual
    operands_ask : (c : Condition) → AreThere cs (expected_condition c) → AskThere (operands_of c)
    operands_ask (condition.equals x y) h =
        let both = AreThere-apart cs (text_place x ∷ expected x) (text_place y ∷ expected y) h in ((both.0).1, ((both.1).1, tt))
    operands_ask (condition.all_of ds) h = all_operands_ask ds h
    operands_ask (condition.any_of ds) h = all_operands_ask ds h
    operands_ask (condition.negated c) h = operands_ask c h
    operands_ask (condition.named t) h = tt

    all_operands_ask : (ds : Conditions) → AreThere cs (expected_conditions ds) → AskThere (operands_of_all ds)
    all_operands_ask condition.no_conditions h = tt
    all_operands_ask (condition.condition c ds) h =
        let both = AreThere-apart cs (expected_condition c) (expected_conditions ds) h in
        AskThere-both (operands_of c) (operands_of_all ds) (operands_ask c (both.0)) (all_operands_ask ds (both.1))

  body_asks : (b : Body) → AreThere cs (expected_body b) → AskThere (expressions_in b)
  body_asks language.root h = tt
  body_asks language.stage h = tt
  body_asks (language.stack d) h = tt
  body_asks language.group h = tt
  body_asks (language.resource r) h = ((AreThere-apart cs (expected r.properties) (expected_when r.condition) h).0, tt)
  body_asks (language.parameter p) h = tt
  body_asks (language.condition_body c) h = operands_ask c h
  body_asks (language.mapping m) h = tt
  body_asks (language.output o) h = ((AreThere-apart cs (expected o.value) (expected_when o.condition) h).0, tt)
  body_asks (language.lazy e) h = (h, tt)

  list_named : (at n : ℕ) (es : List Expression) → AskThere es → AreNamed cs (tokens_of_list cs at n es)
  list_named at n [] h = tt
  list_named at n (e ∷ es) h = AreNamed-both cs (tokens cs at n e) (tokens_of_list cs at (n + count e) es) (named cs at n e (h.0)) (list_named at (n + count e) es (h.1))

  from_named : (at n : ℕ) (rest : List Placed) → ((i : ℕ) → i < length rest → AreThere cs (expected_body (construct_at rest i).body)) → AreNamed cs (tokens_from cs at n rest)
  from_named at n [] h = tt
  from_named at n (c ∷ rest) h =
      AreNamed-both cs (tokens_of_list cs at n (expressions_in c.body)) (tokens_from cs (at + 1) (n + count_in c.body) rest) (list_named at n (expressions_in c.body) (body_asks c.body (h 0 (omega arith))))
      (from_named (at + 1) (n + count_in c.body) rest (λ i within. h (suc i) (omega (arith, within))))

-- ---- of the whole application

module _ (cs : List Placed) (sound : IsSound cs) where
  body_is_there : (i : ℕ) → i < length cs → AreThere cs (expected_body (construct_at cs i).body)
  body_is_there i within =
      let c = construct_at cs i in
      let none = no_wrong_targets cs i within sound.targets in
      let there = none_in_parts (is_missing cs) (map (asked.target roles.Dependable) c.head.depends) (expected_body c.body) (none.0) in
      let right = none_in_parts (is_wrong cs (list_lazies cs) (is_condition c.body) c.contexts) (map (asked.target roles.Dependable) c.head.depends) (expected_body c.body) (none.1) in
      are_there cs (list_lazies cs) (is_condition c.body) c.contexts (expected_body c.body) (there.1) (right.1)

  all_named_there : AreNamed cs (tokens_of cs)
  all_named_there = from_named cs 0 0 cs body_is_there

  pub mentioned_is_lazy : (d : Data) (m : ℕ) → Mentions (tokens_of cs) d m → IsLazy cs m
  mentioned_is_lazy x y (directly d m k t c known form) =
      let i = token_known (tokens_of cs) k t known in
      subst (IsNamed cs) form (named_at cs (tokens_of cs) (i.0) t all_named_there (i.1).there)
  mentioned_is_lazy x y (through d a m k t c known among mentioned) = mentioned_is_lazy a m mentioned

pub lazy_orders_are_orders : LazyOrdersAreOrders
lazy_orders_are_orders cs sound order is p n m at mentioned = is.behind p n m at mentioned (mentioned_is_lazy cs sound _ m mentioned)
