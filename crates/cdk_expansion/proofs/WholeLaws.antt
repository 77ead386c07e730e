-- Marking keeps plain forms: of values and of operands, however often lazies are opened.
use Rattle.std.proofs.Common.{◌≡◌, ℕ, zero, suc, List, [], refl, sym, ap, ◌∙◌}
use Rattle.std.specs.Option.{option_map_or, unwrap_or}
use Rattle.std.proofs.Math.Path.{fun_ext}
use Rattle.serde_json.specs.Data.{null}
use Rattle.cdk_plain.specs.Plain.{Plain, text}
use Rattle.cdk_tree.specs.Placed.{Placed}
use Rattle.cdk_tokens.specs.Whole.{marking, tokens_of, value_at}
use Rattle.cdk_expansion.specs.Expanded.{known_in, opened, value_plain}
use Rattle.cdk_expansion.specs.Laws.{IsSound, MarkedIsOwn, MarkingKeepsForms, MarkingKeepsOperands, SoundIsRight}
use Rattle.cdk_expansion.specs.Own.{own, own_opened}
use Rattle.cdk_expansion.proofs.TokenForms.{FewAreOwn}
use Rattle.cdk_expansion.proofs.WholePlaces.{operand_is, value_is}

few_are_own : MarkedIsOwn → FewAreOwn
few_are_own same known lazies cs at n e few right knows = same known lazies cs at n e right knows

module _ (right : SoundIsRight) (same : MarkedIsOwn) (cs : List Placed) (sound : IsSound cs) where
  lazies_same : (k n : ℕ) → opened k (tokens_of cs) (marking cs) n ≡ own_opened k cs n
  lazies_same zero n = refl
  lazies_same (suc k) n =
      let lower : opened k (tokens_of cs) (marking cs) ≡ own_opened k cs = fun_ext (lazies_same k) in
      ap (λ lazies. value_plain (known_in lazies (tokens_of cs)) (unwrap_or (value_at (marking cs) n) null)) lower
      ∙ value_is (few_are_own same) (own_opened k cs) cs sound.few (right cs sound) n

  lazies_are : (k : ℕ) → opened k (tokens_of cs) (marking cs) ≡ own_opened k cs
  lazies_are k = fun_ext (lazies_same k)

pub marking_keeps_forms : SoundIsRight → MarkedIsOwn → MarkingKeepsForms
marking_keeps_forms right same cs sound k at e d is shown =
    let lazies : ℕ → Plain = own_opened k cs in
    ap (λ f. value_plain (known_in f (tokens_of cs)) d) (lazies_are right same cs sound k)
    ∙ ap (λ o. value_plain (known_in lazies (tokens_of cs)) (unwrap_or o null)) (sym shown)
    ∙ value_is (few_are_own same) lazies cs sound.few (right cs sound) at
    ∙ ap (λ o. option_map_or (own lazies cs at) o (text [])) is

pub marking_keeps_operands : SoundIsRight → MarkedIsOwn → MarkingKeepsOperands
marking_keeps_operands right same cs sound k at n e d is shown =
    ap (λ f. value_plain (known_in f (tokens_of cs)) d) (lazies_are right same cs sound k)
    ∙ operand_is (few_are_own same) (own_opened k cs) cs sound.few (right cs sound) at n e d is shown
