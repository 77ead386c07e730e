-- The plain forms of conditions of a formed tree are well, and their operands are ordered.
use Rattle.std.proofs.Common.{◌≡◌, ℕ, zero, suc, ◌+◌, List, [], ◌∷◌, ◌++◌, length, true, codes, refl, ap, ◌∙◌, subst}
use Rattle.std.specs.Prelude.{◌&&◌, nat_le, slice_get, ⊤}
use Rattle.std.specs.Option.{option_map_or}
use Rattle.std.proofs.lemmas.Bool.{and_from, le-leb}
use Rattle.serde_json.specs.Data.{array, item, no_items, string}
use Rattle.cdk_elements.specs.Elements.{own_condition, own_operand, own_value}
use Rattle.cdk_expansion.specs.Clean.{ListIsClean, TreeIsClean}
use Rattle.cdk_expansion.specs.Conditions.{condition_plain, conditions_plain}
use Rattle.cdk_premises.specs.Formed.{AreFew, AreFormedConditions, IsFormed, IsFormedBody, IsFormedCondition, TreeIsFormed, part_count}
use Rattle.cdk_premises.specs.FormedLaws.{ConditionsAreCanonical, ConditionsAreWell, ConditionsHaveOneMember}
use Rattle.cdk_premises.proofs.FitFields.{IsFit}
use Rattle.cdk_premises.proofs.FitForms.{expression_fit}
use Rattle.cdk_language.specs.Condition as condition
use Rattle.cdk_language.specs.Condition.{Condition, Conditions}
use Rattle.cdk_language.specs.Expression.{Expression}
use Rattle.cdk_meaning.specs.Canonical.{HasOrderedOperands, HaveOrderedOperands}
use Rattle.cdk_meaning.proofs.Canonical.{rendered_condition_is_canonical}
use Rattle.cdk_plain.specs.Plain as plain
use Rattle.cdk_plain.specs.Plain.{AreWellConditions, IsWellCondition, Plain, are_few, condition_count, text}
use Rattle.cdk_plain.specs.Rendered.{rendered, rendered_condition, rendered_conditions, two}
use Rattle.cdk_contexts.specs.Expressions.{expressions_in, operands_of, operands_of_all}
use Rattle.cdk_tree.specs.Placed.{Placed}

-- ---- operands

abbrev ListIsFormed : List Placed → ℕ → List Expression → Type 0
ListIsFormed cs at [] = ⊤
ListIsFormed cs at (e ∷ es) = IsFormed cs at e × ListIsFormed cs at es

module _ (cs : List Placed) (at : ℕ) where
  both_formed : (es fs : List Expression) → ListIsFormed cs at es → ListIsFormed cs at fs → ListIsFormed cs at (es ++ fs)
  both_formed [] fs h g = g
  both_formed (e ∷ es) fs h g = (h.0, both_formed es fs h.1 g)

  mutual
    operands_formed : (c : Condition) → IsFormedCondition cs at c → ListIsFormed cs at (operands_of c)
    operands_formed (condition.equals x y) h = (h.0, (h.1, tt))
    operands_formed (condition.all_of ds) h = all_operands_formed ds h.1
    operands_formed (condition.any_of ds) h = all_operands_formed ds h.1
    operands_formed (condition.negated c) h = operands_formed c h
    operands_formed (condition.named t) h = tt

    all_operands_formed : (ds : Conditions) → AreFormedConditions cs at ds → ListIsFormed cs at (operands_of_all ds)
    all_operands_formed condition.no_conditions h = tt
    all_operands_formed (condition.condition d ds) h = both_formed (operands_of d) (operands_of_all ds) (operands_formed d h.0) (all_operands_formed ds h.1)

module _ (cs : List Placed) (clean : TreeIsClean cs) (formed : TreeIsFormed cs) (at : ℕ) where
  -- one that isn't there is an empty text
  listed_fit : (es : List Expression) → ListIsClean cs at es → ListIsFormed cs at es → (n : ℕ) → IsFit (option_map_or (own_value cs at) (slice_get es n) (text []))
  listed_fit [] c f n = (tt, tt)
  listed_fit (e ∷ es) c f zero = expression_fit cs clean formed (length cs) at e c.0 f.0
  listed_fit (e ∷ es) c f (suc n) = listed_fit es c.1 f.1 n

-- ---- conditions of such operands

abbrev IsFitCondition : plain.Condition → Type 0
IsFitCondition c = IsWellCondition c × HasOrderedOperands c

abbrev AreFitConditions : plain.Conditions → Type 0
AreFitConditions cs = AreWellConditions cs × HaveOrderedOperands cs

module _ (cs : List Placed) (at : ℕ) (operand : ℕ → Plain) (fit : (n : ℕ) → IsFit (operand n)) where
  same_count : (n : ℕ) (ds : Conditions) → condition_count (conditions_plain cs operand n ds) ≡ part_count ds
  same_count n condition.no_conditions = refl
  same_count n (condition.condition d ds) = ap suc (same_count (n + length (operands_of d)) ds)

  few : (n : ℕ) (ds : Conditions) → AreFew ds → are_few (conditions_plain cs operand n ds) ≡ true
  few n ds h =
      ap (λ m. nat_le 2 m && nat_le m 10) (same_count n ds) ∙ and_from (nat_le 2 (part_count ds)) (nat_le (part_count ds) 10) (le-leb 2 (part_count ds) h.0) (le-leb (part_count ds) 10 h.1)

  mutual
    condition_fit : (n : ℕ) (c : Condition) → IsFormedCondition cs at c → IsFitCondition (condition_plain cs operand n c)
    condition_fit n (condition.equals x y) h = (((fit n).0, (fit (n + 1)).0), ((fit n).1, (fit (n + 1)).1))
    condition_fit n (condition.all_of ds) h = let parts = conditions_fit n ds h.1 in ((few n ds h.0, parts.0), parts.1)
    condition_fit n (condition.any_of ds) h = let parts = conditions_fit n ds h.1 in ((few n ds h.0, parts.0), parts.1)
    condition_fit n (condition.negated c) h = condition_fit n c h
    condition_fit n (condition.named t) h = (tt, tt)

    conditions_fit : (n : ℕ) (ds : Conditions) → AreFormedConditions cs at ds → AreFitConditions (conditions_plain cs operand n ds)
    conditions_fit n condition.no_conditions h = (tt, tt)
    conditions_fit n (condition.condition d ds) h =
        let first = condition_fit n d h.0 in
        let rest = conditions_fit (n + length (operands_of d)) ds h.1 in
        ((first.0, rest.0), (first.1, rest.1))

-- ---- the laws

pub conditions_are_well : ConditionsAreWell
conditions_are_well cs sound formed n c within is =
    let clean : ListIsClean cs n (operands_of c) = subst (λ b. ListIsClean cs n (expressions_in b)) is (sound.clean n within) in
    let here : IsFormedCondition cs n c = subst (IsFormedBody cs n) is (formed n within) in
    condition_fit cs n (own_operand cs n c) (listed_fit cs sound.clean formed n (operands_of c) clean (operands_formed cs n c here)) 0 c here

pub conditions_are_canonical : ConditionsAreCanonical
conditions_are_canonical cs sound formed n c within is h =
    let fit = conditions_are_well cs sound formed n c within is in
    rendered_condition_is_canonical h (own_condition cs n c) fit.0 fit.1

pub conditions_have_one_member : ConditionsHaveOneMember
conditions_have_one_member h (plain.equals x y) = (codes "Fn::Equals", two (rendered h x) (rendered h y), refl)
conditions_have_one_member h (plain.all_of cs) = (codes "Fn::And", array (rendered_conditions h cs), refl)
conditions_have_one_member h (plain.any_of cs) = (codes "Fn::Or", array (rendered_conditions h cs), refl)
conditions_have_one_member h (plain.negation c) = (codes "Fn::Not", array (item (rendered_condition h c) no_items), refl)
conditions_have_one_member h (plain.named c) = (codes "Condition", string (h.condition c), refl)
