-- The operands of a condition that is read in a place where nothing is found have only forms that operands may have.
use Rattle.std.proofs.Common.{◌≡◌, ℕ, ◌+◌, List, Bool, true, false, codes, None, option_map, subst}
use Rattle.std.specs.Str.{bytes_eq}
use Rattle.serde_json.specs.Data.{Data, array, object, Items, no_items, item, no_members, member}
use Rattle.serde_json.specs.Find.{as_str}
use Rattle.cdk_base.specs.Marker.{has_marker}
use Rattle.cdk_premises.proofs.CleanForms.{text_place, told}
use Rattle.cdk_premises.proofs.CleanPlaces.{ItemsStand, StandsAt, first_stands, items_in, member_stands, members_in, rest_stand, same_key, second_stands}
use Rattle.cdk_language.specs.Application.{condition_of, conditions_from, conditions_of, equals_of, expression_of, negated_of}
use Rattle.cdk_language.specs.Condition as condition
use Rattle.cdk_language.specs.Condition.{Condition, Conditions}
use Rattle.cdk_language.specs.Schema.{condition_member}
use Rattle.cdk_language.specs.declared.schema.Frame.TheVariants as frames
use Rattle.cdk_language.specs.declared.schema.Role.TheVariants as roles
use Rattle.cdk_meaning.specs.Names.{Each}
use Rattle.cdk_contexts.specs.Expressions.{operands_of, operands_of_all}
use Rattle.cdk_premises.proofs.ReadExpressions.{All, made, mapped, then}
use Rattle.cdk_premises.specs.Operands.{IsPlainOperand}
use Rattle.cdk_premises.proofs.Lists.{each_append}
use Rattle.cdk_premises.proofs.PlainExpressions.{plain_read}

abbrev pub IsPlainCondition : Condition → Type 0
IsPlainCondition c = Each IsPlainOperand (operands_of c)

abbrev ArePlainConditions : Conditions → Type 0
ArePlainConditions cs = Each IsPlainOperand (operands_of_all cs)

condition_at : (k name : List ℕ) (d : Data) → bytes_eq k name ≡ true → StandsAt (has_marker k) (condition_member k) d → StandsAt (has_marker name) (condition_member name) d
condition_at k name d e h = subst (λ x. StandsAt (has_marker x) (condition_member x) d) (same_key k name e) h

plain_equals : (marked : Bool) (d : Data) → StandsAt marked roles.EqualsArguments d → All IsPlainCondition (equals_of d)
plain_equals marked (array (item a (item b no_items))) h =
    let ins = items_in marked roles.EqualsArguments (item a (item b no_items)) h in
    let left = plain_read text_place false a (first_stands roles.EqualsArguments 0 a (item b no_items) ins) in
    let right = plain_read text_place false b (second_stands roles.EqualsArguments a b no_items ins) in
    then IsPlainOperand IsPlainCondition (λ x. option_map (condition.equals x) (expression_of b)) (expression_of a)
    (λ x c. mapped IsPlainOperand IsPlainCondition (condition.equals x) (expression_of b) (λ y g. (c, (g, tt))) right) left
plain_equals marked d h = tt

mutual
  pub plain_condition : (marked : Bool) (d : Data) → StandsAt marked roles.Condition d → All IsPlainCondition (condition_of d)
  plain_condition marked (object (member k d no_members)) h =
      let here = member_stands frames.Condition k d no_members (members_in marked roles.Condition (member k d no_members) h) in
      told IsPlainCondition (bytes_eq k (codes "Fn::Equals")) _ _ (λ is. plain_equals (has_marker (codes "Fn::Equals")) d (condition_at k (codes "Fn::Equals") d is here))
      (told IsPlainCondition (bytes_eq k (codes "Fn::And")) _ _
      (λ is. mapped ArePlainConditions IsPlainCondition condition.all_of (conditions_of d) (λ cs c. c) (plain_conditions (has_marker (codes "Fn::And")) d (condition_at k (codes "Fn::And") d is here)))
      (told IsPlainCondition (bytes_eq k (codes "Fn::Or")) _ _
      (λ is. mapped ArePlainConditions IsPlainCondition condition.any_of (conditions_of d) (λ cs c. c) (plain_conditions (has_marker (codes "Fn::Or")) d (condition_at k (codes "Fn::Or") d is here)))
      (told IsPlainCondition (bytes_eq k (codes "Fn::Not")) _ _ (λ is. plain_negated (has_marker (codes "Fn::Not")) d (condition_at k (codes "Fn::Not") d is here))
      (told IsPlainCondition (bytes_eq k (codes "Condition")) _ None (λ is. made IsPlainCondition condition.named (as_str d) (λ t. tt)) tt))))
  plain_condition marked d h = tt

  plain_conditions : (marked : Bool) (d : Data) → StandsAt marked roles.ConditionArguments d → All ArePlainConditions (conditions_of d)
  plain_conditions marked (array ds) h = all_plain ds 0 (items_in marked roles.ConditionArguments ds h)
  plain_conditions marked d h = tt

  all_plain : (ds : Items) (n : ℕ) → ItemsStand roles.ConditionArguments n ds → All ArePlainConditions (conditions_from ds)
  all_plain no_items n h = tt
  all_plain (item d ds) n h =
      then IsPlainCondition ArePlainConditions (λ c. option_map (condition.condition c) (conditions_from ds)) (condition_of d)
      (λ c g. mapped ArePlainConditions ArePlainConditions (condition.condition c) (conditions_from ds) (λ cs gs. each_append IsPlainOperand (operands_of c) (operands_of_all cs) g gs)
      (all_plain ds (n + 1) (rest_stand roles.ConditionArguments n d ds h))) (plain_condition false d (first_stands roles.ConditionArguments n d ds h))

  plain_negated : (marked : Bool) (d : Data) → StandsAt marked roles.NotArguments d → All IsPlainCondition (negated_of d)
  plain_negated marked (array (item d no_items)) h =
      mapped IsPlainCondition IsPlainCondition condition.negated (condition_of d) (λ c g. g) (plain_condition false d (first_stands roles.NotArguments 0 d no_items (items_in marked roles.NotArguments (item d no_items) h)))
  plain_negated marked d h = tt
