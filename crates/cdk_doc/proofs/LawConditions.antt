-- A condition, where nothing is found in its place.
use Rattle.std.proofs.Common.{◌≡◌, ℕ, ◌+◌, [], suc, Bool, false, codes, refl, arith}
use Rattle.serde_json.specs.Data.{Data, null, boolean, number, string, array, object, Items, no_items, item, no_members, member}
use Rattle.serde_json.specs.Find.{as_str}
use Rattle.cdk_base.specs.Marker.{has_marker}
use Rattle.cdk_language.specs.Application.{expression_of, equals_of, condition_of, conditions_of, conditions_from, negated_of}
use Rattle.cdk_language.specs.Condition as condition
use Rattle.cdk_language.specs.Condition.{Condition, Conditions}
use Rattle.cdk_language.specs.Findings.{in_items}
use Rattle.cdk_language.specs.Schema.{is, items_count}
use Rattle.cdk_language.specs.declared.schema.Frame.TheVariants as frames
use Rattle.cdk_language.specs.declared.schema.Role.TheVariants as roles
use Rattle.cdk_language.specs.declared.schema.Within.TheVariants as within
use Rattle.cdk_doc.proofs.LawPlaces.{Found, IsCleanAt, clean, first_item, rest_items, first_member, mapped, both, text_found, too_many, by_test, nothing_there}
use Rattle.cdk_doc.proofs.LawExpressions.{expression_found, text_place}

equals_found : (marked : Bool) (d : Data) → IsCleanAt marked roles.EqualsArguments d → Found (equals_of d)
equals_found marked (array (item a (item b no_items))) e =
    let ins = (clean marked roles.EqualsArguments (array (item a (item b no_items))) e).deeper in
    both condition.equals (expression_of a) (expression_of b) (expression_found text_place within.Condition false a (first_item roles.EqualsArguments 0 a (item b no_items) ins))
    (expression_found text_place within.Condition false b (first_item roles.EqualsArguments 1 b no_items (rest_items roles.EqualsArguments 0 a (item b no_items) ins)))
equals_found marked null e = absurd (cc)
equals_found marked (boolean b) e = absurd (cc)
equals_found marked (number n) e = absurd (cc)
equals_found marked (string s) e = absurd (cc)
equals_found marked (object ms) e = absurd (cc)
equals_found marked (array no_items) e = absurd (cc)
equals_found marked (array (item a no_items)) e = absurd (cc)
equals_found marked (array (item a (item b (item c ds)))) e = too_many (suc (suc (suc (items_count ds)))) 2 2 (omega arith) (clean marked roles.EqualsArguments (array (item a (item b (item c ds)))) e).right

mutual
  pub condition_found : (marked : Bool) (d : Data) → IsCleanAt marked roles.Condition d → Found (condition_of d)
  condition_found marked null e = absurd (cc)
  condition_found marked (boolean b) e = absurd (cc)
  condition_found marked (number n) e = absurd (cc)
  condition_found marked (string s) e = absurd (cc)
  condition_found marked (array ds) e = absurd (cc)
  condition_found marked (object no_members) e = absurd (cc)
  condition_found marked (object (member k d (member l f ms))) e = absurd (cc)
  condition_found marked (object (member k d no_members)) e =
      let m = has_marker k in
      let ins = (clean marked roles.Condition (object (member k d no_members)) e).deeper in
      by_test (is k (codes "Fn::Equals")) m roles.EqualsArguments _ d _ _ (λ a. equals_found m d a)
      (λ a0. by_test (is k (codes "Fn::And")) m roles.ConditionArguments _ d _ _ (λ a. mapped condition.all_of (conditions_of d) (conditions_found m d a))
      (λ a0. by_test (is k (codes "Fn::Or")) m roles.ConditionArguments _ d _ _ (λ a. mapped condition.any_of (conditions_of d) (conditions_found m d a))
      (λ a0. by_test (is k (codes "Fn::Not")) m roles.NotArguments _ d _ _ (λ a. negated_found m d a)
      (λ a0. by_test (is k (codes "Condition")) m roles.Text _ d _ _ (λ a. mapped condition.named (as_str d) (text_found m d a))
      (λ z. nothing_there m d z) a0) a0) a0) a0) (first_member frames.Condition k d no_members ins)

  conditions_found : (marked : Bool) (d : Data) → IsCleanAt marked roles.ConditionArguments d → Found (conditions_of d)
  conditions_found marked (array ds) e = conditions_from_found ds 0 (clean marked roles.ConditionArguments (array ds) e).deeper
  conditions_found marked null e = absurd (cc)
  conditions_found marked (boolean b) e = absurd (cc)
  conditions_found marked (number n) e = absurd (cc)
  conditions_found marked (string s) e = absurd (cc)
  conditions_found marked (object ms) e = absurd (cc)

  conditions_from_found : (ds : Items) (n : ℕ) → in_items roles.ConditionArguments n ds ≡ [] → Found (conditions_from ds)
  conditions_from_found no_items n e = (_, refl)
  conditions_from_found (item d ds) n e =
      both condition.condition (condition_of d) (conditions_from ds) (condition_found false d (first_item roles.ConditionArguments n d ds e)) (conditions_from_found ds (n + 1) (rest_items roles.ConditionArguments n d ds e))

  negated_found : (marked : Bool) (d : Data) → IsCleanAt marked roles.NotArguments d → Found (negated_of d)
  negated_found marked (array (item a no_items)) e =
      mapped condition.negated (condition_of a) (condition_found false a (first_item roles.NotArguments 0 a no_items (clean marked roles.NotArguments (array (item a no_items)) e).deeper))
  negated_found marked null e = absurd (cc)
  negated_found marked (boolean b) e = absurd (cc)
  negated_found marked (number n) e = absurd (cc)
  negated_found marked (string s) e = absurd (cc)
  negated_found marked (object ms) e = absurd (cc)
  negated_found marked (array no_items) e = absurd (cc)
  negated_found marked (array (item a (item b ds))) e = too_many (suc (suc (items_count ds))) 1 1 (omega arith) (clean marked roles.NotArguments (array (item a (item b ds))) e).right
