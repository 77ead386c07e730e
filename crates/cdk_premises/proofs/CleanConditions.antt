-- The operands of a condition that is read in a place where nothing is found are clean before any context is told.
use Rattle.std.proofs.Common.{◌≡◌, ℕ, ◌+◌, List, [], ◌∷◌, ◌++◌, Bool, true, false, codes, None, option_map, subst}
use Rattle.std.specs.Str.{bytes_eq}
use Rattle.serde_json.specs.Data.{Data, array, object, Items, no_items, item, no_members, member}
use Rattle.serde_json.specs.Find.{as_str}
use Rattle.cdk_base.specs.Marker.{has_marker}
use Rattle.cdk_premises.specs.CleanConstruct.{AreCleanAlone}
use Rattle.cdk_premises.proofs.CleanExpressions.{expression_read}
use Rattle.cdk_premises.proofs.CleanForms.{IsCleanPiece, text_place, told}
use Rattle.cdk_premises.proofs.CleanPlaces.{ItemsStand, StandsAt, first_stands, items_in, member_stands, members_in, rest_stand, same_key, second_stands}
use Rattle.cdk_language.specs.Application.{condition_of, conditions_from, conditions_of, equals_of, expression_of, negated_of}
use Rattle.cdk_language.specs.Condition as condition
use Rattle.cdk_language.specs.Condition.{Condition, Conditions}
use Rattle.cdk_language.specs.Expression.{Expression}
use Rattle.cdk_language.specs.Schema.{condition_member}
use Rattle.cdk_language.specs.declared.schema.Frame.TheVariants as frames
use Rattle.cdk_language.specs.declared.schema.Role.TheVariants as roles
use Rattle.cdk_language.specs.declared.schema.Within.TheVariants as within
use Rattle.cdk_contexts.specs.Expressions.{operands_of, operands_of_all}
use Rattle.cdk_premises.proofs.ReadExpressions.{All, made, mapped, then}

abbrev pub HasCleanOperands : Condition → Type 0
HasCleanOperands c = AreCleanAlone (operands_of c)

abbrev HaveCleanOperands : Conditions → Type 0
HaveCleanOperands cs = AreCleanAlone (operands_of_all cs)

both_clean : (es fs : List Expression) → AreCleanAlone es → AreCleanAlone fs → AreCleanAlone (es ++ fs)
both_clean [] fs h g = g
both_clean (e ∷ es) fs h g = (h.0, both_clean es fs h.1 g)

condition_at : (k name : List ℕ) (d : Data) → bytes_eq k name ≡ true → StandsAt (has_marker k) (condition_member k) d → StandsAt (has_marker name) (condition_member name) d
condition_at k name d e h = subst (λ x. StandsAt (has_marker x) (condition_member x) d) (same_key k name e) h

equals_read : (marked : Bool) (d : Data) → StandsAt marked roles.EqualsArguments d → All HasCleanOperands (equals_of d)
equals_read marked (array (item a (item b no_items))) h =
    let ins = items_in marked roles.EqualsArguments (item a (item b no_items)) h in
    let left = expression_read text_place within.Condition false a (first_stands roles.EqualsArguments 0 a (item b no_items) ins) tt in
    let right = expression_read text_place within.Condition false b (second_stands roles.EqualsArguments a b no_items ins) tt in
    then IsCleanPiece HasCleanOperands (λ x. option_map (condition.equals x) (expression_of b)) (expression_of a)
    (λ x c. mapped IsCleanPiece HasCleanOperands (condition.equals x) (expression_of b) (λ y g. (c.1, (g.1, tt))) right) left
equals_read marked d h = tt

mutual
  pub condition_read : (marked : Bool) (d : Data) → StandsAt marked roles.Condition d → All HasCleanOperands (condition_of d)
  condition_read marked (object (member k d no_members)) h =
      let here = member_stands frames.Condition k d no_members (members_in marked roles.Condition (member k d no_members) h) in
      told HasCleanOperands (bytes_eq k (codes "Fn::Equals")) _ _ (λ is. equals_read (has_marker (codes "Fn::Equals")) d (condition_at k (codes "Fn::Equals") d is here))
      (told HasCleanOperands (bytes_eq k (codes "Fn::And")) _ _
      (λ is. mapped HaveCleanOperands HasCleanOperands condition.all_of (conditions_of d) (λ cs c. c) (conditions_read (has_marker (codes "Fn::And")) d (condition_at k (codes "Fn::And") d is here)))
      (told HasCleanOperands (bytes_eq k (codes "Fn::Or")) _ _
      (λ is. mapped HaveCleanOperands HasCleanOperands condition.any_of (conditions_of d) (λ cs c. c) (conditions_read (has_marker (codes "Fn::Or")) d (condition_at k (codes "Fn::Or") d is here)))
      (told HasCleanOperands (bytes_eq k (codes "Fn::Not")) _ _ (λ is. negated_read (has_marker (codes "Fn::Not")) d (condition_at k (codes "Fn::Not") d is here))
      (told HasCleanOperands (bytes_eq k (codes "Condition")) _ None (λ is. made HasCleanOperands condition.named (as_str d) (λ t. tt)) tt))))
  condition_read marked d h = tt

  conditions_read : (marked : Bool) (d : Data) → StandsAt marked roles.ConditionArguments d → All HaveCleanOperands (conditions_of d)
  conditions_read marked (array ds) h = all_read ds 0 (items_in marked roles.ConditionArguments ds h)
  conditions_read marked d h = tt

  all_read : (ds : Items) (n : ℕ) → ItemsStand roles.ConditionArguments n ds → All HaveCleanOperands (conditions_from ds)
  all_read no_items n h = tt
  all_read (item d ds) n h =
      then HasCleanOperands HaveCleanOperands (λ c. option_map (condition.condition c) (conditions_from ds)) (condition_of d)
      (λ c g. mapped HaveCleanOperands HaveCleanOperands (condition.condition c) (conditions_from ds) (λ cs gs. both_clean (operands_of c) (operands_of_all cs) g gs)
      (all_read ds (n + 1) (rest_stand roles.ConditionArguments n d ds h))) (condition_read false d (first_stands roles.ConditionArguments n d ds h))

  negated_read : (marked : Bool) (d : Data) → StandsAt marked roles.NotArguments d → All HasCleanOperands (negated_of d)
  negated_read marked (array (item d no_items)) h =
      mapped HasCleanOperands HasCleanOperands condition.negated (condition_of d) (λ c g. g) (condition_read false d (first_stands roles.NotArguments 0 d no_items (items_in marked roles.NotArguments (item d no_items) h)))
  negated_read marked d h = tt
