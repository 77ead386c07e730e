-- The operands of a stack's conditions mention its parameters and mappings alone: what may stand in them names no resource, and what
-- else is named there is no form of an operand.
use Rattle.std.proofs.Common.{◌≡◌, ◌<◌, ℕ, zero, suc, ◌+◌, List, [], ◌∷◌, length, slice_get, Bool, true, false, refl}
use Rattle.std.specs.Prelude.{◌||◌}
use Rattle.std.specs.Option.{option_map_or}
use Rattle.cdk_elements.specs.Elements.{constructs_in, element_of, own_homes, own_operand, own_value, parts_of}
use Rattle.cdk_expansion.specs.Conditions.{condition_plain, conditions_plain}
use Rattle.cdk_expansion.specs.Own.{own_opened}
use Rattle.cdk_language.specs.Condition as condition
use Rattle.cdk_language.specs.Condition.{Condition, Conditions}
use Rattle.cdk_language.specs.Expression as expression
use Rattle.cdk_language.specs.Expression.{Expression, Expressions, Fields}
use Rattle.cdk_meaning.proofs.NameLists.{each_back, each_front}
use Rattle.cdk_meaning.specs.Constructs.{condition_at, condition_in}
use Rattle.cdk_meaning.specs.Mentions.{Mention, all_operand_mentions, mentions, operand_mentions}
use Rattle.cdk_meaning.specs.Names.{Each}
use Rattle.cdk_meaning.specs.StackTemplate.{IsOperandMention}
use Rattle.cdk_plain.specs.Plain as plain
use Rattle.cdk_plain.specs.Plain.{Plain}
use Rattle.cdk_tokens.specs.Marking.{target}
use Rattle.cdk_contexts.specs.Expressions.{operands_of, operands_of_all}
use Rattle.cdk_tree.specs.Expected as asked
use Rattle.cdk_tree.specs.Expected.{Expected, expected, expected_all, expected_condition, expected_conditions, expected_fields, expected_pieces, is_condition, is_parameter, is_resource}
use Rattle.cdk_tree.specs.Placed.{Placed, construct_at}
use Rattle.cdk_premises.specs.MentionsLaws.{OperandsMentionTheirs}
use Rattle.cdk_premises.specs.OneTree.{IsOneTree}
use Rattle.cdk_premises.specs.Operands.{ArePlainOperands, FieldsArePlainOperands, HasPlainOperands, IsPlainOperand, OperandsArePlain}
use Rattle.cdk_premises.proofs.ConditionNames.{as_condition, each_condition}
use Rattle.cdk_premises.proofs.Lists.{each_append, placed_at}
use Rattle.cdk_premises.proofs.OwnMentions.{AllName, FieldsName, MentionsAre, Names, own_mentions}
use Rattle.cdk_premises.proofs.Targets.{BodyIsMet, IsMetAt, body_is_met, mapping_there, parameter_there}

-- ---- a condition, of its operands

module _ (P : Mention → Type 0) (cs : List Placed) (operand : ℕ → Plain) (each : (n : ℕ) → MentionsAre P (operand n)) where
  mutual
    condition_mentions : (n : ℕ) (c : Condition) → Each P (operand_mentions (condition_plain cs operand n c))
    condition_mentions n (condition.equals x y) = each_append P (mentions (operand n)) (mentions (operand (n + 1))) (each n) (each (n + 1))
    condition_mentions n (condition.all_of ds) = conditions_mention n ds
    condition_mentions n (condition.any_of ds) = conditions_mention n ds
    condition_mentions n (condition.negated c) = condition_mentions n c
    condition_mentions n (condition.named t) = tt

    conditions_mention : (n : ℕ) (ds : Conditions) → Each P (all_operand_mentions (conditions_plain cs operand n ds))
    conditions_mention n condition.no_conditions = tt
    conditions_mention n (condition.condition c ds) =
        let later = n + length (operands_of c) in
        each_append P (operand_mentions (condition_plain cs operand n c)) (all_operand_mentions (conditions_plain cs operand later ds)) (condition_mentions n c) (conditions_mention later ds)

-- what holds of each operand holds of the one of a number
one_of : (P : Mention → Type 0) (f : Expression → Plain) (es : List Expression) (n : ℕ) → Each (λ e. MentionsAre P (f e)) es → MentionsAre P (option_map_or f (slice_get es n) (plain.text []))
one_of P f [] zero h = tt
one_of P f [] (suc n) h = tt
one_of P f (e ∷ es) zero h = h.0
one_of P f (e ∷ es) (suc n) h = one_of P f es n h.1

parameter_left : (a b : Bool) → (a || b) ≡ true → a ≡ false → b ≡ true
parameter_left true b h e = absurd (cc e)
parameter_left false b h e = h

-- ---- an operand

module _ (cs : List Placed) (stack : ℕ) (tree : IsOneTree cs stack) where
  abbrev P : Mention → Type 0
  P m = IsOperandMention (constructs_in cs) (parts_of cs stack) (own_homes cs) m

  abbrev AreMet : List Expected → Type 0
  AreMet xs = Each (IsMetAt cs true) xs

  abbrev lazies : ℕ → Plain
  lazies n = own_opened (length cs) cs n

  mutual
    operand_names : (e : Expression) → IsPlainOperand e → AreMet (expected e) → Names P lazies cs e
    operand_names (expression.text s) p h = tt
    operand_names (expression.whole z) p h = tt
    operand_names (expression.truth b) p h = tt
    operand_names (expression.list es) p h = all_operand_names es p h
    operand_names (expression.object fs) p h = field_operand_names fs p h
    operand_names (expression.pseudo s) p h = tt
    operand_names (expression.ref t) p h =
        let b = (construct_at cs (target cs t)).body in (parameter_there cs stack tree (target cs t) (parameter_left (is_resource b) (is_parameter b) h.0.serving h.0.barred), refl)
    operand_names (expression.get_att t a) p h = absurd p
    operand_names (expression.concat es) p h = piece_operand_names es p h
    operand_names (expression.join d e) p h = operand_names e p h.1
    operand_names (expression.select i e) p h = operand_names e p h.1
    operand_names (expression.split d e) p h = operand_names e p h.1
    operand_names (expression.choice c x y) p h = absurd p
    operand_names (expression.find_in_map m x y) p h =
        let first = each_front (IsMetAt cs true) (asked.text_place x ∷ expected x) (asked.text_place y ∷ expected y) h.1 in
        let other = each_back (IsMetAt cs true) (asked.text_place x ∷ expected x) (asked.text_place y ∷ expected y) h.1 in
        (mapping_there cs stack tree (target cs m) h.0.serving, operand_names x p.0 first.1, operand_names y p.1 other.1)
    operand_names (expression.import_value t) p h = absurd p
    operand_names (expression.context k d) p h = tt
    operand_names (expression.lazy t) p h = absurd p

    all_operand_names : (es : Expressions) → ArePlainOperands es → AreMet (expected_all es) → AllName P lazies cs es
    all_operand_names expression.no_expressions p h = tt
    all_operand_names (expression.expression e es) p h =
        (operand_names e p.0 (each_front (IsMetAt cs true) (expected e) (expected_all es) h), all_operand_names es p.1 (each_back (IsMetAt cs true) (expected e) (expected_all es) h))

    field_operand_names : (fs : Fields) → FieldsArePlainOperands fs → AreMet (expected_fields fs) → FieldsName P lazies cs fs
    field_operand_names expression.no_fields p h = tt
    field_operand_names (expression.field k e fs) p h =
        (operand_names e p.0 (each_front (IsMetAt cs true) (expected e) (expected_fields fs) h), field_operand_names fs p.1 (each_back (IsMetAt cs true) (expected e) (expected_fields fs) h))

    piece_operand_names : (es : Expressions) → ArePlainOperands es → AreMet (expected_pieces es) → AllName P lazies cs es
    piece_operand_names expression.no_expressions p h = tt
    piece_operand_names (expression.expression e es) p h = (
      operand_names e p.0 (each_front (IsMetAt cs true) (asked.text_place e ∷ expected e) (expected_pieces es) h).1,
      piece_operand_names es p.1 (each_back (IsMetAt cs true) (asked.text_place e ∷ expected e) (expected_pieces es) h),
    )

  -- ---- the operands of a condition, numbered

  module _ (at : ℕ) where
    abbrev OperandsAre : List Expression → Type 0
    OperandsAre es = Each (λ e. MentionsAre P (own_value cs at e)) es

    operand_is : (e : Expression) → IsPlainOperand e → AreMet (expected e) → MentionsAre P (own_value cs at e)
    operand_is e p h = own_mentions P lazies cs at e (operand_names e p h)

    mutual
      operands_are : (c : Condition) → Each IsPlainOperand (operands_of c) → AreMet (expected_condition c) → OperandsAre (operands_of c)
      operands_are (condition.equals x y) p h =
          let first = each_front (IsMetAt cs true) (asked.text_place x ∷ expected x) (asked.text_place y ∷ expected y) h in
          let other = each_back (IsMetAt cs true) (asked.text_place x ∷ expected x) (asked.text_place y ∷ expected y) h in
          (operand_is x p.0 first.1, (operand_is y p.1.0 other.1, tt))
      operands_are (condition.all_of ds) p h = all_operands_are ds p h
      operands_are (condition.any_of ds) p h = all_operands_are ds p h
      operands_are (condition.negated c) p h = operands_are c p h
      operands_are (condition.named t) p h = tt

      all_operands_are : (ds : Conditions) → Each IsPlainOperand (operands_of_all ds) → AreMet (expected_conditions ds) → OperandsAre (operands_of_all ds)
      all_operands_are condition.no_conditions p h = tt
      all_operands_are (condition.condition c ds) p h =
          each_append (λ e. MentionsAre P (own_value cs at e)) (operands_of c) (operands_of_all ds)
          (operands_are c (each_front IsPlainOperand (operands_of c) (operands_of_all ds) p) (each_front (IsMetAt cs true) (expected_condition c) (expected_conditions ds) h))
          (all_operands_are ds (each_back IsPlainOperand (operands_of c) (operands_of_all ds) p) (each_back (IsMetAt cs true) (expected_condition c) (expected_conditions ds) h))

  operands_at : OperandsArePlain cs → (n : ℕ) → n < length cs → is_condition (construct_at cs n).body ≡ true → Each P (operand_mentions (condition_at (constructs_in cs) n))
  operands_at plain_all n within is =
      as_condition (λ b. BodyIsMet cs b → HasPlainOperands b → Each P (operand_mentions (condition_in n (element_of cs n b)))) (construct_at cs n).body is
      (λ c same met forms. condition_mentions P cs (own_operand cs n c) (λ i. one_of P (own_value cs n) (operands_of c) i (operands_are n c forms met)) 0 c)
      (body_is_met cs tree.sound n within) (placed_at (λ c. HasPlainOperands c.body) cs n within plain_all)

pub operands_mention_theirs : OperandsMentionTheirs
operands_mention_theirs cs stack tree forms =
    each_condition (λ c. Each (IsOperandMention (constructs_in cs) (parts_of cs stack) (own_homes cs)) (operand_mentions (condition_at (constructs_in cs) c))) cs stack (operands_at cs stack tree forms)
