-- The plain forms of marked values and of operands are the constructs' own, and no more openings are needed than there are lazies.
use Rattle.std.proofs.Common.{◌≡◌, ◌≤◌, ℕ, List, [], length, Option, Some, None, refl, sym, ap, ◌∙◌, slice_get, arith}
use Rattle.std.specs.Option.{option_map_or}
use Rattle.std.proofs.Math.Path.{fun_ext}
use Rattle.serde_json.specs.Data.{Data}
use Rattle.cdk_elements.specs.Elements.{own_condition, own_value}
use Rattle.cdk_expansion.proofs.BoundLazies.{lazies_suffice}
use Rattle.cdk_expansion.proofs.Joined.{marking_keeps_forms, marking_keeps_operands}
use Rattle.cdk_expansion.specs.Conditions.{condition_of, condition_plain, operand_plain}
use Rattle.cdk_expansion.specs.Expanded.{plain_of}
use Rattle.cdk_expansion.specs.Laws.{IsSound}
use Rattle.cdk_expansion.specs.Own.{operands_in, own_of, value_in}
use Rattle.cdk_graphs.specs.Loops.{LoopsAreFound}
use Rattle.cdk_language.specs.Condition.{Condition}
use Rattle.cdk_language.specs.Construct as construct
use Rattle.cdk_language.specs.Construct.{Body}
use Rattle.cdk_language.specs.Expression.{Expression}
use Rattle.cdk_plain.specs.Plain.{text}
use Rattle.cdk_premises.proofs.LazyNumbers.{lazies-length, lazies_in, lazy_count-low, mentioned_is_listed, none_reaches_itself}
use Rattle.cdk_premises.proofs.MarkedPlaces.{operands_there, same_operand, value_there}
use Rattle.cdk_premises.specs.RenderedLaws.{ConditionFormsAreOwn, ConditionsNeedNoMore, HasNoCycle, ValuesNeedNoMore}
use Rattle.cdk_premises.specs.Own.{operand_of}
use Rattle.cdk_value_measures.specs.Constructs.{lazy_count}
use Rattle.cdk_contexts.specs.Expressions.{operands_of}
use Rattle.cdk_tokens.specs.Whole.{marking, operand_at, tokens_of, value_at}
use Rattle.cdk_tree.specs.Placed.{construct_at, Placed}

-- ---- the operands of a condition

module _ (cs : List Placed) (sound : IsSound cs) (k n : ℕ) (c : Condition) (is : (construct_at cs n).body ≡ construct.condition_body c) where
  own_operands : (i : ℕ) → operand_plain k (tokens_of cs) (marking cs) n i ≡ operand_of k cs n c i
  own_operands i =
      let o = operands_there cs n c is in
      let known : operands_in (construct_at cs n).body ≡ operands_of c = ap operands_in is in
      ap (λ d. option_map_or (plain_of k (tokens_of cs) (marking cs)) d (text [])) (o.there i)
      ∙ same_operand cs n o.number (operands_of c) i (plain_of k (tokens_of cs) (marking cs)) (own_of k cs n) (text [])
      (λ e d at shown. marking_keeps_operands cs sound k n i e d (ap (λ es. slice_get es i) known ∙ at) (o.there i ∙ shown))

pub condition_forms_are_own : ConditionFormsAreOwn
condition_forms_are_own cs sound k n c is = ap (λ f. condition_plain cs f 0 c) (fun_ext (own_operands cs sound k n c is))

-- ---- openings

module _ (found : LoopsAreFound) (cs : List Placed) (sound : IsSound cs) (none : HasNoCycle cs) where
  pub same_openings : (d : Data) (k l : ℕ) → lazy_count cs ≤ k → lazy_count cs ≤ l → plain_of k (tokens_of cs) (marking cs) d ≡ plain_of l (tokens_of cs) (marking cs) d
  same_openings d k l more also =
      let count = lazies-length cs in
      lazies_suffice (tokens_of cs) (marking cs) (lazies_in cs) (mentioned_is_listed cs sound) (none_reaches_itself cs sound found none) d k l (omega (arith, count, more)) (omega (arith, count, also))

  -- a construct's marked value
  pub value_is_own : (k n : ℕ) (e : Expression) (d : Data) → lazy_count cs ≤ k → value_in (construct_at cs n).body ≡ Some e → value_at (marking cs) n ≡ Some d
      → plain_of k (tokens_of cs) (marking cs) d ≡ own_value cs n e
  value_is_own k n e d more is shown = same_openings d k (length cs) more (lazy_count-low cs) ∙ marking_keeps_forms cs sound (length cs) n e d is shown

  same_operands : (k l n : ℕ) (o : Option Data) → lazy_count cs ≤ k → lazy_count cs ≤ l
      → option_map_or (plain_of k (tokens_of cs) (marking cs)) o (text []) ≡ option_map_or (plain_of l (tokens_of cs) (marking cs)) o (text [])
  same_operands k l n None more also = refl
  same_operands k l n (Some d) more also = same_openings d k l more also

  pub condition_is_own : (k n : ℕ) (c : Condition) → lazy_count cs ≤ k → (construct_at cs n).body ≡ construct.condition_body c → condition_of k cs (tokens_of cs) (marking cs) n c ≡ own_condition cs n c
  condition_is_own k n c more is =
      ap (λ f. condition_plain cs f 0 c) (fun_ext (λ i. same_operands k (length cs) n (operand_at (marking cs) n i) more (lazy_count-low cs)))
      ∙ condition_forms_are_own cs sound (length cs) n c is

pub values_need_no_more : LoopsAreFound → ValuesNeedNoMore
values_need_no_more found cs sound none k n e more is =
    let v = value_there cs n e is in
    sym (marking_keeps_forms cs sound k n e v.datum is v.there) ∙ value_is_own found cs sound none k n e v.datum more is v.there

pub conditions_need_no_more : LoopsAreFound → ConditionsNeedNoMore
conditions_need_no_more found cs sound none k n c more is = condition_is_own found cs sound none k n c more is
