-- The truth that a condition means, over constructs alone (CloudFormation's condition functions).
use Rattle.std.specs.Prelude.{ℕ, zero, suc, List, Bool, true, false, not, ◌&&◌, ◌||◌, ◌==◌, Option, Some, None, bytes_eq}
use Rattle.std.specs.List.{list_any}
use Rattle.cdk_plain.specs.Plain.{Plain, Condition, equals, all_of, any_of, negation, named, Conditions, no_conditions, condition}
use Rattle.cdk_meaning.specs.Mentions.{names_in}

abbrev pub same_texts : Option (List ℕ) → Option (List ℕ) → Option Bool
same_texts (Some a) (Some b) = Some (bytes_eq a b)
same_texts _ _ = None

-- All parts are evaluated: undefined where one is.
abbrev pub with_both : (Bool → Bool → Bool) → Option Bool → Option Bool → Option Bool
with_both f (Some a) (Some b) = Some (f a b)
with_both f _ _ = None

abbrev pub negated : Option Bool → Option Bool
negated None = None
negated (Some b) = Some (not b)

-- With the text of an operand, and the truth of a condition that is named.
module _ (text_at : Plain → Option (List ℕ)) (of_name : ℕ → Option Bool) where
  abbrev mutual
    pub condition_meaning : Condition → Option Bool
    condition_meaning (equals x y) = same_texts (text_at x) (text_at y)
    condition_meaning (all_of cs) = meaning_folded (λ a b. a && b) true cs
    condition_meaning (any_of cs) = meaning_folded (λ a b. a || b) false cs
    condition_meaning (negation c) = negated (condition_meaning c)
    condition_meaning (named c) = of_name c

    pub meaning_folded : (Bool → Bool → Bool) → Bool → Conditions → Option Bool
    meaning_folded f b no_conditions = Some b
    meaning_folded f b (condition c cs) = with_both f (condition_meaning c) (meaning_folded f b cs)

-- The truth of a condition by its number, where names are opened at most so many times, one inside another. An operand is read at the
-- condition that holds it. From the number of conditions on the bound makes no difference, unless one reaches itself.
abbrev pub truth_within : (ℕ → Plain → Option (List ℕ)) → (ℕ → Condition) → ℕ → ℕ → Option Bool
truth_within text_at conditions zero c = None
truth_within text_at conditions (suc n) c = condition_meaning (text_at c) (truth_within text_at conditions n) (conditions c)

-- From the condition `c` one comes to `goal` by at most so many steps, each from a condition to one that it names.
abbrev pub reaches : (ℕ → Condition) → ℕ → ℕ → ℕ → Bool
reaches conditions zero goal c = false
reaches conditions (suc n) goal c = list_any (λ d. (d == goal) || reaches conditions n goal d) (names_in (conditions c))
