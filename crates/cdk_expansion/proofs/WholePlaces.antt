-- Where the tokens of an application are known, each marked value has the plain form of its expression.
use Rattle.std.proofs.Common.{◌≡◌, ℕ, zero, suc, ◌+◌, ◌<◌, ◌≤◌, ◌^◌, List, [], ◌∷◌, length, Option, Some, None, refl, sym, ap, ◌∙◌, inl, inr, subst, slice_get, sum_by, arith}
use Rattle.std.specs.Prelude.{◌⊎◌}
use Rattle.std.specs.Option.{option_and_then, option_map_or, unwrap_or}
use Rattle.std.proofs.lemmas.Bool.{cases_lt}
use Rattle.std.proofs.lemmas.List.{get_or_past}
use Rattle.std.proofs.lemmas.List.Sums.{sum_by-cons}
use Rattle.std.proofs.lemmas.Option.{slice_get_past}
use Rattle.serde_json.specs.Data.{Data, null}
use Rattle.cdk_language.specs.Construct as construct
use Rattle.cdk_language.specs.Construct.{Body}
use Rattle.cdk_language.specs.Expression.{Expression}
use Rattle.cdk_plain.specs.Plain.{Plain, text}
use Rattle.cdk_tree.specs.Placed.{Placed, construct_at, nowhere}
use Rattle.cdk_tree.proofs.Tests.{same_some}
use Rattle.cdk_tokens.specs.Marking.{count, marked, tokens}
use Rattle.cdk_tokens.specs.Whole as whole
use Rattle.cdk_contexts.specs.Expressions.{expressions_in, operands_of}
use Rattle.cdk_tokens.specs.Whole.{MarkedBody, count_in, marked_body, marked_from, marked_list, marking, operand_at, operand_in, tokens_from, tokens_of, tokens_of_list, value_at}
use Rattle.cdk_expansion.specs.Expanded.{Known, known_in, value_plain}
use Rattle.cdk_expansion.specs.Knows.{own_tokens}
use Rattle.cdk_expansion.specs.Own.{operands_in, own, value_in}
use Rattle.cdk_expansion.specs.Right.{ListIsRight}
use Rattle.cdk_expansion.proofs.TokenForms.{FewAreOwn}
use Rattle.cdk_expansion.proofs.TokenKnows.{Agree, Agree-apart, agreed, same_length}
use Rattle.cdk_expansion.proofs.WholeTokens.{AllRight, count_from, from-length, own_from, own_list, same_list-length, whole_agrees}

-- the construct's marked body, whose tokens are known
record Stands (known : Known) (lazies : ℕ → Plain) (cs : List Placed) (at : ℕ) (b : Body) (o : Option MarkedBody) : Type 0 where
  number : ℕ
  marked : o ≡ Some (marked_body cs at number b)
  few : number + count_in b < 2 ^ 64
  agree : Agree known (tokens_of_list cs at number (expressions_in b)) (own_list lazies cs at (expressions_in b))

module _ (known : Known) (lazies : ℕ → Plain) (cs : List Placed) where
  stands : (at n : ℕ) (rest : List Placed) (i j : ℕ) → at + i ≡ j → i < length rest → n + count_from rest < 2 ^ 64 → Agree known (tokens_from cs at n rest) (own_from lazies cs at rest)
      → Stands known lazies cs j (construct_at rest i).body (slice_get (marked_from cs at n rest) i)
  stands at n [] i j e within few agree = absurd (omega arith)
  stands at n (c ∷ rest) zero j e within few agree =
      let parts = Agree-apart known (tokens_of_list cs at n (expressions_in c.body)) (tokens_from cs (at + 1) (n + count_in c.body) rest)
      (own_list lazies cs at (expressions_in c.body)) (own_from lazies cs (at + 1) rest) (same_list-length lazies cs at n (expressions_in c.body)) agree in
      let P : ℕ → Type 0 = λ k. Stands known lazies cs k c.body (Some (marked_body cs at n c.body)) in
      let same : at ≡ j = omega arith in
      let below : n + count_in c.body < 2 ^ 64 = omega arith in
      subst P same (record { number = n; marked = refl; few = below; agree = parts.0 })
  stands at n (c ∷ rest) (suc i) j e within few agree =
      let parts = Agree-apart known (tokens_of_list cs at n (expressions_in c.body)) (tokens_from cs (at + 1) (n + count_in c.body) rest)
      (own_list lazies cs at (expressions_in c.body)) (own_from lazies cs (at + 1) rest) (same_list-length lazies cs at n (expressions_in c.body)) agree in
      stands (at + 1) (n + count_in c.body) rest i j (omega arith) (omega arith) (omega arith) (parts.1)

  module _ (same : FewAreOwn) (at : ℕ) where
    listed : (n : ℕ) (es : List Expression) (i : ℕ) (e : Expression) (d : Data) → n + sum_by count es < 2 ^ 64 → ListIsRight cs at es
        → Agree known (tokens_of_list cs at n es) (own_list lazies cs at es) → slice_get es i ≡ Some e → slice_get (marked_list cs at n es) i ≡ Some d → value_plain known d ≡ own lazies cs at e
    listed n [] i e d few right agree is shown = absurd (cc)
    listed n (f ∷ es) zero e d few right agree is shown =
        let parts = Agree-apart known (tokens cs at n f) (tokens_of_list cs at (n + count f) es) (own_tokens lazies cs at f) (own_list lazies cs at es) (same_length lazies cs at n f) agree in
        let below : n + count f < 2 ^ 64 = omega (arith, sum_by-cons count f es, few) in
        ap (value_plain known) (sym (same_some (marked cs at n f) d shown)) ∙ same known lazies cs at n f below (right.0) (agreed known lazies cs at n f (parts.0)) ∙ ap (own lazies cs at) (same_some f e is)
    listed n (f ∷ es) (suc i) e d few right agree is shown =
        let parts = Agree-apart known (tokens cs at n f) (tokens_of_list cs at (n + count f) es) (own_tokens lazies cs at f) (own_list lazies cs at es) (same_length lazies cs at n f) agree in
        listed (n + count f) es i e d (omega (arith, sum_by-cons count f es, few)) (right.1) (parts.1) is shown

    body_value : (n : ℕ) (b : Body) → n + count_in b < 2 ^ 64 → ListIsRight cs at (expressions_in b) → Agree known (tokens_of_list cs at n (expressions_in b)) (own_list lazies cs at (expressions_in b))
        → value_plain known (unwrap_or (whole.value_in (marked_body cs at n b)) null) ≡ option_map_or (own lazies cs at) (value_in b) (text [])
    body_value n construct.root few right agree = refl
    body_value n construct.stage few right agree = refl
    body_value n (construct.stack d) few right agree = refl
    body_value n construct.group few right agree = refl
    body_value n (construct.resource r) few right agree = listed n (r.properties ∷ []) 0 r.properties (marked cs at n r.properties) few right agree refl refl
    body_value n (construct.parameter p) few right agree = refl
    body_value n (construct.condition_body c) few right agree = refl
    body_value n (construct.mapping ms) few right agree = refl
    body_value n (construct.output o) few right agree = listed n (o.value ∷ []) 0 o.value (marked cs at n o.value) few right agree refl refl
    body_value n (construct.lazy e) few right agree = listed n (e ∷ []) 0 e (marked cs at n e) few right agree refl refl

    body_operand : (n : ℕ) (b : Body) (i : ℕ) (e : Expression) (d : Data) → n + count_in b < 2 ^ 64 → ListIsRight cs at (expressions_in b)
        → Agree known (tokens_of_list cs at n (expressions_in b)) (own_list lazies cs at (expressions_in b)) → slice_get (operands_in b) i ≡ Some e → operand_in i (marked_body cs at n b) ≡ Some d → value_plain known d ≡ own lazies cs at e
    body_operand n construct.root i e d few right agree is shown = absurd (cc)
    body_operand n construct.stage i e d few right agree is shown = absurd (cc)
    body_operand n (construct.stack t) i e d few right agree is shown = absurd (cc)
    body_operand n construct.group i e d few right agree is shown = absurd (cc)
    body_operand n (construct.resource r) i e d few right agree is shown = absurd (cc)
    body_operand n (construct.parameter p) i e d few right agree is shown = absurd (cc)
    body_operand n (construct.condition_body c) i e d few right agree is shown = listed n (operands_of c) i e d few right agree is shown
    body_operand n (construct.mapping ms) i e d few right agree is shown = absurd (cc)
    body_operand n (construct.output o) i e d few right agree is shown = absurd (cc)
    body_operand n (construct.lazy x) i e d few right agree is shown = absurd (cc)

-- ---- of the whole application

marked-length : (cs : List Placed) (at n : ℕ) (rest : List Placed) → length (marked_from cs at n rest) ≡ length rest
marked-length cs at n [] = refl
marked-length cs at n (c ∷ rest) = ap suc (marked-length cs (at + 1) (n + count_in c.body) rest)

module _ (same : FewAreOwn) (lazies : ℕ → Plain) (cs : List Placed) (few : length (tokens_of cs) < 2 ^ 64) (right : AllRight cs) where
  abbrev known : Known
  known = known_in lazies (tokens_of cs)

  at_construct : (at : ℕ) → at < length cs → Stands (known_in lazies (tokens_of cs)) lazies cs at (construct_at cs at).body (slice_get (marking cs) at)
  at_construct at within = stands known lazies cs 0 0 cs at at (omega arith) within (omega (arith, from-length cs 0 0 cs, few)) (whole_agrees same lazies cs few right)

  value_by : (at : ℕ) → (at < length cs) ⊎ (length cs ≤ at)
      → value_plain (known_in lazies (tokens_of cs)) (unwrap_or (value_at (marking cs) at) null) ≡ option_map_or (own lazies cs at) (value_in (construct_at cs at).body) (text [])
  value_by at (inl within) =
      let s = at_construct at within in
      ap (λ o. value_plain known (unwrap_or (option_and_then whole.value_in o) null)) s.marked ∙ body_value known lazies cs same at s.number (construct_at cs at).body s.few (right at within) s.agree
  value_by at (inr past) =
      let none : slice_get (marking cs) at ≡ None = slice_get_past (marking cs) at (omega (arith, marked-length cs 0 0 cs, past)) in
      ap (λ o. value_plain known (unwrap_or (option_and_then whole.value_in o) null)) none ∙ ap (λ (c : Placed). option_map_or (own lazies cs at) (value_in c.body) (text [])) (sym (get_or_past cs at nowhere past))

  -- a construct without a value has an empty text on both sides
  pub value_is : (at : ℕ) → value_plain (known_in lazies (tokens_of cs)) (unwrap_or (value_at (marking cs) at) null) ≡ option_map_or (own lazies cs at) (value_in (construct_at cs at).body) (text [])
  value_is at = value_by at (cases_lt at (length cs))

  operand_by : (at n : ℕ) (e : Expression) (d : Data) → (at < length cs) ⊎ (length cs ≤ at)
      → slice_get (operands_in (construct_at cs at).body) n ≡ Some e → operand_at (marking cs) at n ≡ Some d → value_plain (known_in lazies (tokens_of cs)) d ≡ own lazies cs at e
  operand_by at n e d (inl within) is shown =
      let s = at_construct at within in
      body_operand known lazies cs same at s.number (construct_at cs at).body n e d s.few (right at within) s.agree is (sym (ap (option_and_then (operand_in n)) s.marked) ∙ shown)
  operand_by at n e d (inr past) is shown =
      let nothing : None ≡ Some e = sym (ap (λ (c : Placed). slice_get (operands_in c.body) n) (get_or_past cs at nowhere past)) ∙ is in
      absurd (cc nothing)

  pub operand_is : (at n : ℕ) (e : Expression) (d : Data) → slice_get (operands_in (construct_at cs at).body) n ≡ Some e → operand_at (marking cs) at n ≡ Some d → value_plain (known_in lazies (tokens_of cs)) d ≡ own lazies cs at e
  operand_is at n e d is shown = operand_by at n e d (cases_lt at (length cs)) is shown
