-- What stands in the marking at the place of a construct.
use Rattle.std.proofs.Common.{◌≡◌, ◌<◌, ℕ, zero, suc, ◌+◌, List, [], ◌∷◌, length, Option, Some, None, refl, sym, ap, ◌∙◌, subst, slice_get, inl, inr, arith}
use Rattle.std.specs.Option.{option_and_then, option_map_or}
use Rattle.std.proofs.lemmas.Bool.{cases_lt}
use Rattle.std.proofs.lemmas.List.{get_or_past}
use Rattle.serde_json.specs.Data.{Data}
use Rattle.cdk_expansion.specs.Own.{value_in}
use Rattle.cdk_language.specs.Condition.{Condition}
use Rattle.cdk_language.specs.Construct as construct
use Rattle.cdk_language.specs.Construct.{Body}
use Rattle.cdk_language.specs.Expression.{Expression}
use Rattle.cdk_tokens.specs.Marking.{count, marked}
use Rattle.cdk_tokens.specs.Whole as whole
use Rattle.cdk_contexts.specs.Expressions.{operands_of}
use Rattle.cdk_tokens.specs.Whole.{count_in, marked_body, marked_from, marked_list, MarkedBody, marking, operand_at, operand_in, value_at}
use Rattle.cdk_tree.specs.Placed.{construct_at, nowhere, Placed}

-- marked from the body, with some number for its first token
record IsMarkedAs (cs : List Placed) (at : ℕ) (b : Body) (o : Option MarkedBody) : Type 0 where
  number : ℕ
  is : o ≡ Some (marked_body cs at number b)

marked_in : (cs : List Placed) (at n : ℕ) (rest : List Placed) (i j : ℕ) → at + i ≡ j → i < length rest → IsMarkedAs cs j (construct_at rest i).body (slice_get (marked_from cs at n rest) i)
marked_in cs at n [] i j e within = absurd (omega (arith, within))
marked_in cs at n (c ∷ rest) zero j e within =
    let same : at ≡ j = omega (arith, e) in
    let P : ℕ → Type 0 = λ k. IsMarkedAs cs k c.body (Some (marked_body cs at n c.body)) in
    subst P same (record { number = n; is = refl })
marked_in cs at n (c ∷ rest) (suc i) j e within = marked_in cs (at + 1) (n + count_in c.body) rest i j (omega (arith, e)) (omega (arith, within))

marked_at : (cs : List Placed) (at : ℕ) → at < length cs → IsMarkedAs cs at (construct_at cs at).body (slice_get (marking cs) at)
marked_at cs at within = marked_in cs 0 0 cs at at (omega arith) within

-- ---- values

value_within : (cs : List Placed) (at : ℕ) (e : Expression) → value_in (construct_at cs at).body ≡ Some e → at < length cs
value_within cs at e is = elim (cases_lt at (length cs)) [
  | inl within ↦ within
  | inr past ↦ let nothing : None ≡ Some e = sym (ap (λ (c : Placed). value_in c.body) (get_or_past cs at nowhere past)) ∙ is in absurd (cc nothing)
]

marked_value : (cs : List Placed) (at n : ℕ) (b : Body) (e : Expression) → value_in b ≡ Some e → whole.value_in (marked_body cs at n b) ≡ Some (marked cs at n e)
marked_value cs at n (construct.resource r) e is = let same : r.properties ≡ e = cc is in ap (λ f. Some (marked cs at n f)) same
marked_value cs at n (construct.output o) e is = let same : o.value ≡ e = cc is in ap (λ f. Some (marked cs at n f)) same
marked_value cs at n (construct.lazy f) e is = let same : f ≡ e = cc is in ap (λ f. Some (marked cs at n f)) same
marked_value cs at n b e is = absurd (cc is)

pub record HasValue (cs : List Placed) (at : ℕ) : Type 0 where
  pub datum : Data
  pub there : value_at (marking cs) at ≡ Some datum

-- a construct with an expression has a marked value
pub value_there : (cs : List Placed) (at : ℕ) (e : Expression) → value_in (construct_at cs at).body ≡ Some e → HasValue cs at
value_there cs at e is =
    let m = marked_at cs at (value_within cs at e is) in
    record { datum = marked cs at m.number e; there = ap (option_and_then whole.value_in) m.is ∙ marked_value cs at m.number (construct_at cs at).body e is }

-- ---- operands

condition_within : (cs : List Placed) (at : ℕ) (c : Condition) → (construct_at cs at).body ≡ construct.condition_body c → at < length cs
condition_within cs at c is = elim (cases_lt at (length cs)) [
  | inl within ↦ within
  | inr past ↦ let nothing : construct.root ≡ construct.condition_body c = sym (ap (λ (p : Placed). p.body) (get_or_past cs at nowhere past)) ∙ is in absurd (cc nothing)
]

pub record HasOperands (cs : List Placed) (at : ℕ) (c : Condition) : Type 0 where
  pub number : ℕ
  pub there : (i : ℕ) → operand_at (marking cs) at i ≡ slice_get (marked_list cs at number (operands_of c)) i

-- a condition's marked operands are those of its operands in written order
pub operands_there : (cs : List Placed) (at : ℕ) (c : Condition) → (construct_at cs at).body ≡ construct.condition_body c → HasOperands cs at c
operands_there cs at c is =
    let m = marked_at cs at (condition_within cs at c is) in
    let known : slice_get (marking cs) at ≡ Some (whole.operands (marked_list cs at m.number (operands_of c))) = m.is ∙ ap (λ b. Some (marked_body cs at m.number b)) is in
    record { number = m.number; there = λ i. ap (option_and_then (operand_in i)) known }

-- what is found of a marked operand is what is found of its expression, where there is one
pub same_operand : {X : Type 0} (cs : List Placed) (at n : ℕ) (es : List Expression) (i : ℕ) (f : Data → X) (g : Expression → X) (none : X)
    → ((e : Expression) (d : Data) → slice_get es i ≡ Some e → slice_get (marked_list cs at n es) i ≡ Some d → f d ≡ g e)
    → option_map_or f (slice_get (marked_list cs at n es) i) none ≡ option_map_or g (slice_get es i) none
same_operand cs at n [] i f g none same = refl
same_operand cs at n (e ∷ es) zero f g none same = same e (marked cs at n e) refl refl
same_operand cs at n (e ∷ es) (suc i) f g none same = same_operand cs at (n + count e) es i f g none same
