-- Marking makes right markers: in the value of each construct, and in each operand of a condition.
use Rattle.std.proofs.Common.{◌≡◌, ℕ, zero, suc, ◌+◌, List, [], ◌∷◌, Option, Some, subst, slice_get, arith}
use Rattle.std.specs.Option.{option_and_then}
use Rattle.serde_json.specs.Data.{Data}
use Rattle.cdk_language.specs.Construct as construct
use Rattle.cdk_language.specs.Construct.{Body}
use Rattle.cdk_language.specs.Expression.{Expression}
use Rattle.cdk_tree.specs.Placed.{Placed, construct_at}
use Rattle.cdk_tree.proofs.Tests.{same_some}
use Rattle.cdk_tokens.specs.Marking.{count, marked, tokens}
use Rattle.cdk_tokens.specs.Token.{Token}
use Rattle.cdk_tokens.specs.Whole as whole
use Rattle.cdk_contexts.specs.Expressions.{expressions_in, operands_of}
use Rattle.cdk_tokens.specs.Whole.{MarkedBody, count_in, marked_body, marked_from, marked_list, operand_in, tokens_from, tokens_of, tokens_of_list}
use Rattle.cdk_expansion.specs.Laws.{IsSound}
use Rattle.cdk_expansion.specs.MarkerForms.{HasRightMarkers, OperandsHaveRightMarkers, ValuesHaveRightMarkers}
use Rattle.cdk_expansion.specs.Right.{ListIsRight}
use Rattle.cdk_expansion.proofs.FormMade.{AreFound, AreFound-apart, made, row_is_found}
use Rattle.cdk_expansion.proofs.FormPieces.{IsFine}
use Rattle.cdk_expansion.proofs.FormValues.{value_is_fine}
use Rattle.cdk_expansion.proofs.SoundLaw.{sound_is_right}
use Rattle.cdk_expansion.proofs.WholeTokens.{RightFrom, from-numbered, right_from}

module _ (ts : List Token) (cs : List Placed) where
  list_is_fine : (at n : ℕ) (es : List Expression) → ListIsRight cs at es → AreFound ts (tokens_of_list cs at n es) → (i : ℕ) (d : Data) → slice_get (marked_list cs at n es) i ≡ Some d → IsFine ts d
  list_is_fine at n [] right found i d shown = absurd (cc)
  list_is_fine at n (e ∷ es) right found zero d shown =
      let parts = AreFound-apart ts (tokens cs at n e) (tokens_of_list cs at (n + count e) es) found in
      subst (IsFine ts) (same_some (marked cs at n e) d shown) (value_is_fine ts cs at n e (right.0) (made ts cs at n e (parts.0)))
  list_is_fine at n (e ∷ es) right found (suc i) d shown =
      let parts = AreFound-apart ts (tokens cs at n e) (tokens_of_list cs at (n + count e) es) found in
      list_is_fine at (n + count e) es (right.1) (parts.1) i d shown

  -- ---- of one construct

  abbrev BodyIsRight : ℕ → ℕ → Body → Type 0
  BodyIsRight at n b = ListIsRight cs at (expressions_in b) × AreFound ts (tokens_of_list cs at n (expressions_in b))

  body_value : (at n : ℕ) (b : Body) → BodyIsRight at n b → (d : Data) → whole.value_in (marked_body cs at n b) ≡ Some d → IsFine ts d
  body_value at n construct.root h d shown = absurd (cc)
  body_value at n construct.stage h d shown = absurd (cc)
  body_value at n (construct.stack t) h d shown = absurd (cc)
  body_value at n construct.group h d shown = absurd (cc)
  body_value at n (construct.resource r) h d shown = list_is_fine at n (r.properties ∷ []) (h.0) (h.1) 0 d shown
  body_value at n (construct.parameter p) h d shown = absurd (cc)
  body_value at n (construct.condition_body c) h d shown = absurd (cc)
  body_value at n (construct.mapping ms) h d shown = absurd (cc)
  body_value at n (construct.output o) h d shown = list_is_fine at n (o.value ∷ []) (h.0) (h.1) 0 d shown
  body_value at n (construct.lazy e) h d shown = list_is_fine at n (e ∷ []) (h.0) (h.1) 0 d shown

  body_operand : (at n : ℕ) (b : Body) → BodyIsRight at n b → (i : ℕ) (d : Data) → operand_in i (marked_body cs at n b) ≡ Some d → IsFine ts d
  body_operand at n construct.root h i d shown = absurd (cc)
  body_operand at n construct.stage h i d shown = absurd (cc)
  body_operand at n (construct.stack t) h i d shown = absurd (cc)
  body_operand at n construct.group h i d shown = absurd (cc)
  body_operand at n (construct.resource r) h i d shown = absurd (cc)
  body_operand at n (construct.parameter p) h i d shown = absurd (cc)
  body_operand at n (construct.condition_body c) h i d shown = list_is_fine at n (operands_of c) (h.0) (h.1) i d shown
  body_operand at n (construct.mapping ms) h i d shown = absurd (cc)
  body_operand at n (construct.output o) h i d shown = absurd (cc)
  body_operand at n (construct.lazy e) h i d shown = absurd (cc)

  -- ---- of constructs one after another, whatever is taken from a marked body

  module _ (taken : MarkedBody → Option Data) (body : (at n : ℕ) (b : Body) → BodyIsRight at n b → (d : Data) → taken (marked_body cs at n b) ≡ Some d → IsFine ts d) where
    from_is_fine : (at n : ℕ) (rest : List Placed) → RightFrom cs at rest → AreFound ts (tokens_from cs at n rest) → (i : ℕ) (d : Data) → option_and_then taken (slice_get (marked_from cs at n rest) i) ≡ Some d → IsFine ts d
    from_is_fine at n [] right found i d shown = absurd (cc)
    from_is_fine at n (c ∷ rest) right found zero d shown =
        let parts = AreFound-apart ts (tokens_of_list cs at n (expressions_in c.body)) (tokens_from cs (at + 1) (n + count_in c.body) rest) found in
        body at n c.body (right.0, parts.0) d shown
    from_is_fine at n (c ∷ rest) right found (suc i) d shown =
        let parts = AreFound-apart ts (tokens_of_list cs at n (expressions_in c.body)) (tokens_from cs (at + 1) (n + count_in c.body) rest) found in
        from_is_fine (at + 1) (n + count_in c.body) rest (right.1) (parts.1) i d shown

-- ---- of the whole application

all_right : (cs : List Placed) → IsSound cs → RightFrom cs 0 cs
all_right cs sound =
    right_from cs 0 cs (λ i j e within.
    let P : ℕ → Type 0 = λ k. ListIsRight cs k (expressions_in (construct_at cs i).body) in
    let same : i ≡ j = omega arith in subst P same (sound_is_right cs sound i within))

all_found : (cs : List Placed) → IsSound cs → AreFound (tokens_of cs) (tokens_of cs)
all_found cs sound = row_is_found (tokens_of cs) (record { numbered = from-numbered cs 0 0 cs; few = sound.few })

has_right_markers : (cs : List Placed) (d : Data) → IsFine (tokens_of cs) d → HasRightMarkers cs d
has_right_markers cs d fine = record { known = fine.0; apart = fine.1 }

pub values_have_right_markers : ValuesHaveRightMarkers
values_have_right_markers cs sound at d shown =
    let ts : List Token = tokens_of cs in
    has_right_markers cs d (from_is_fine ts cs whole.value_in (body_value ts cs) 0 0 cs (all_right cs sound) (all_found cs sound) at d shown)

pub operands_have_right_markers : OperandsHaveRightMarkers
operands_have_right_markers cs sound at n d shown =
    let ts : List Token = tokens_of cs in
    has_right_markers cs d (from_is_fine ts cs (operand_in n) (λ at m b h d s. body_operand ts cs at m b h n d s) 0 0 cs (all_right cs sound) (all_found cs sound) at d shown)
