-- One condition keeps its truth, where the conditions that it names do.
use Rattle.std.proofs.Common.{◌≡◌, ℕ, suc, List, [], ◌∷◌, ◌++◌, length, map, Bool, true, false, ◌&&◌, ◌||◌, Option, Some, None, refl, sym, ap, ◌∙◌, append-nil}
use Rattle.std.specs.Prelude.{if◌then◌else◌}
use Rattle.cdk_base.specs.Json.{text_of}
use Rattle.cdk_eval.specs.declared.fault.EvalFault.TheVariants.{BadIntrinsic}
use Rattle.cdk_eval.specs.Outcomes.{Outcome, Value, Gone, Fault, Truth, Holds, Untold}
use Rattle.cdk_eval.specs.Template.{Scope, outcome}
use Rattle.cdk_eval.specs.Conditions.{equal_texts, equal_outcomes, both_hold, all_hold, is_few, few_form, negated as untrue, truth_of, item_truths, item_count, names_in as json_names, item_names}
use Rattle.cdk_plain.specs.Plain.{Condition, equals, all_of, any_of, negation, named, Conditions, no_conditions, condition, condition_count, are_few, IsWellCondition, AreWellConditions}
use Rattle.cdk_meaning.specs.Mentions.{mentions, operand_mentions, all_operand_mentions, names_in, all_names_in}
use Rattle.cdk_meaning.specs.Source.{Source}
use Rattle.cdk_meaning.specs.Meaning.{text_in, meaning}
use Rattle.cdk_meaning.specs.Truth.{same_texts, with_both, negated, condition_meaning, meaning_folded}
use Rattle.cdk_meaning.specs.Agreement.{seen, seen_truth}
use Rattle.cdk_plain.specs.Rendered.{Homes, rendered, rendered_condition, rendered_conditions}
use Rattle.cdk_meaning.specs.Kept.{MentionKept, Keeps, PseudosKept}
use Rattle.cdk_meaning.specs.Names.{Each}
use Rattle.cdk_meaning.proofs.Kept.{kept}
use Rattle.cdk_meaning.proofs.NameLists.{each_front, each_back}

seen_texts : (a b : Option (List ℕ)) → seen_truth (equal_texts a b) ≡ same_texts a b
seen_texts None b = refl
seen_texts (Some a) None = refl
seen_texts (Some a) (Some b) = refl

no_text : (a : Option (List ℕ)) → same_texts a None ≡ None
no_text None = refl
no_text (Some a) = refl

seen_equal : (o p : Outcome) → seen_truth (equal_outcomes o p) ≡ same_texts (text_in (seen o)) (text_in (seen p))
seen_equal (Value d) (Value e) = seen_texts (text_of d) (text_of e)
seen_equal (Value d) Gone = sym (no_text (text_of d))
seen_equal (Value d) (Fault f) = sym (no_text (text_of d))
seen_equal Gone (Value e) = refl
seen_equal Gone Gone = refl
seen_equal Gone (Fault f) = refl
seen_equal (Fault f) p = refl

seen_both : (f : Bool → Bool → Bool) (a b : Truth) → seen_truth (both_hold f a b) ≡ with_both f (seen_truth a) (seen_truth b)
seen_both f (Untold g) b = refl
seen_both f (Holds a) (Untold g) = refl
seen_both f (Holds a) (Holds b) = refl

seen_not : (a : Truth) → seen_truth (untrue a) ≡ negated (seen_truth a)
seen_not (Untold g) = refl
seen_not (Holds a) = refl

module _ (src : Source) (h : Homes) (t : Scope) (same : PseudosKept src t) (names : List ℕ → Truth) (of_name : ℕ → Option Bool) where
  -- a name's truth is what it means
  abbrev pub NameKept : ℕ → Type 0
  NameKept c = seen_truth (names (h.condition c)) ≡ of_name c

  as_many : (cs : Conditions) → length (item_truths (outcome t) names (rendered_conditions h cs)) ≡ condition_count cs
  as_many no_conditions = refl
  as_many (condition c cs) = ap suc (as_many cs)

  few : (f : Bool → Bool → Bool) (b : Bool) (cs : Conditions) → are_few cs ≡ true → few_form f b (item_truths (outcome t) names (rendered_conditions h cs)) ≡ all_hold f b (item_truths (outcome t) names (rendered_conditions h cs))
  few f b cs w = ap (λ c. if c then all_hold f b (item_truths (outcome t) names (rendered_conditions h cs)) else Untold BadIntrinsic) (ap is_few (as_many cs) ∙ w)

  mutual
    pub truth_kept : (c : Condition) → IsWellCondition c → Keeps src h t (operand_mentions c) → Each NameKept (names_in c) → seen_truth (truth_of (outcome t) names (rendered_condition h c)) ≡ condition_meaning (λ e. text_in (meaning src e)) of_name c
    truth_kept (equals x y) w k m =
        seen_equal (outcome t (rendered h x)) (outcome t (rendered h y)) ∙ rw (kept src h t same x w.0 (each_front (MentionKept src h t) (mentions x) (mentions y) k), kept src h t same y w.1 (each_back (MentionKept src h t) (mentions x) (mentions y) k))
    truth_kept (all_of cs) w k m = ap seen_truth (few (λ a b. a && b) true cs w.0) ∙ truths_kept (λ a b. a && b) true cs w.1 k m
    truth_kept (any_of cs) w k m = ap seen_truth (few (λ a b. a || b) false cs w.0) ∙ truths_kept (λ a b. a || b) false cs w.1 k m
    truth_kept (negation c) w k m = seen_not (truth_of (outcome t) names (rendered_condition h c)) ∙ ap negated (truth_kept c w k m)
    truth_kept (named c) w k m = m.0

    truths_kept : (f : Bool → Bool → Bool) (b : Bool) (cs : Conditions) → AreWellConditions cs → Keeps src h t (all_operand_mentions cs) → Each NameKept (all_names_in cs) → seen_truth (all_hold f b (item_truths (outcome t) names (rendered_conditions h cs))) ≡ meaning_folded (λ e. text_in (meaning src e)) of_name f b cs
    truths_kept f b no_conditions w k m = refl
    truths_kept f b (condition c cs) w k m =
        seen_both f (truth_of (outcome t) names (rendered_condition h c)) (all_hold f b (item_truths (outcome t) names (rendered_conditions h cs)))
        ∙ rw (truth_kept c w.0 (each_front (MentionKept src h t) (operand_mentions c) (all_operand_mentions cs) k) (each_front NameKept (names_in c) (all_names_in cs) m), truths_kept f b cs w.1 (each_back (MentionKept src h t) (operand_mentions c) (all_operand_mentions cs) k) (each_back NameKept (names_in c) (all_names_in cs) m))

pub map_append : (f : ℕ → List ℕ) (xs ys : List ℕ) → map f (xs ++ ys) ≡ map f xs ++ map f ys
map_append f [] ys = refl
map_append f (x ∷ xs) ys = ap (λ l. f x ∷ l) (map_append f xs ys)

module _ (h : Homes) where
  items_counted : (cs : Conditions) → item_count (rendered_conditions h cs) ≡ condition_count cs
  items_counted no_conditions = refl
  items_counted (condition c cs) = ap suc (items_counted cs)

  mutual
    -- the names in the JSON are those of the conditions that are named
    pub names_kept : (c : Condition) → IsWellCondition c → json_names (rendered_condition h c) ≡ map (λ n. h.condition n) (names_in c)
    names_kept (equals x y) w = refl
    names_kept (all_of cs) w = ap (λ b. if b then item_names (rendered_conditions h cs) else []) (ap is_few (items_counted cs) ∙ w.0) ∙ all_names_kept cs w.1
    names_kept (any_of cs) w = ap (λ b. if b then item_names (rendered_conditions h cs) else []) (ap is_few (items_counted cs) ∙ w.0) ∙ all_names_kept cs w.1
    names_kept (negation c) w = append-nil _ ∙ names_kept c w
    names_kept (named n) w = refl

    all_names_kept : (cs : Conditions) → AreWellConditions cs → item_names (rendered_conditions h cs) ≡ map (λ n. h.condition n) (all_names_in cs)
    all_names_kept no_conditions w = refl
    all_names_kept (condition c cs) w = rw (names_kept c w.0, all_names_kept cs w.1) (sym (map_append (λ n. h.condition n) (names_in c) (all_names_in cs)))
