-- A condition that is read in a place where nothing is found is formed before any context is told.
use Rattle.std.proofs.Common.{◌≡◌, ◌≤◌, ℕ, suc, ◌+◌, List, [], Bool, true, false, codes, Option, Some, None, option_map, refl, ap, subst, arith}
use Rattle.std.specs.Prelude.{◌||◌, nat_lt}
use Rattle.std.specs.Str.{bytes_eq}
use Rattle.std.proofs.lemmas.Bool.{ltb-false}
use Rattle.serde_json.specs.Data.{Data, array, object, Items, no_items, item, no_members, member}
use Rattle.serde_json.specs.Find.{as_str}
use Rattle.cdk_base.specs.Marker.{has_marker}
use Rattle.cdk_premises.proofs.CleanForms.{text_place, told}
use Rattle.cdk_premises.proofs.CleanPlaces.{ItemsStand, StandsAt, first_stands, is_right, items_in, member_stands, members_in, rest_stand, same_key, second_stands}
use Rattle.cdk_premises.specs.Formed.{AreFew, AreFormedConditions, IsFormedCondition, part_count}
use Rattle.cdk_premises.proofs.FormedExpressions.{expression_read}
use Rattle.cdk_premises.proofs.FormedForms.{IsFormedAlone}
use Rattle.cdk_language.specs.Application.{condition_of, conditions_from, conditions_of, equals_of, expression_of, negated_of}
use Rattle.cdk_language.specs.Condition as condition
use Rattle.cdk_language.specs.Condition.{Condition, Conditions}
use Rattle.cdk_language.specs.Schema.{condition_member, items_count}
use Rattle.cdk_language.specs.declared.schema.Frame.TheVariants as frames
use Rattle.cdk_language.specs.declared.schema.Role.TheVariants as roles
use Rattle.cdk_language.specs.declared.schema.Within.TheVariants as within
use Rattle.cdk_premises.proofs.ReadExpressions.{All, made, made_then, mapped, then}
use Rattle.cdk_premises.proofs.Unmarked.{or_false}

abbrev pub IsConditionAlone : Condition → Type 0
IsConditionAlone c = IsFormedCondition [] 0 c

abbrev pub AreConditionsAlone : Conditions → Type 0
AreConditionsAlone cs = AreFormedConditions [] 0 cs

-- ---- how many there are

abbrev HasParts : ℕ → Conditions → Type 0
HasParts n cs = part_count cs ≡ n

counted : (ds : Items) → All (HasParts (items_count ds)) (conditions_from ds)
counted no_items = refl
counted (item d ds) =
    made_then (HasParts (suc (items_count ds))) (λ c. option_map (condition.condition c) (conditions_from ds)) (condition_of d)
    (λ c. mapped (HasParts (items_count ds)) (HasParts (suc (items_count ds))) (condition.condition c) (conditions_from ds) (λ cs e. ap suc e) (counted ds))

few_parts : (cs : Conditions) (m : ℕ) → HasParts m cs → (nat_lt m 2 || nat_lt 10 m) ≡ false → AreFew cs
few_parts cs m same e =
    let two = or_false (nat_lt m 2) (nat_lt 10 m) e in
    let low : 2 ≤ m = ltb-false m 2 two.0 in
    let high : m ≤ 10 = ltb-false 10 m two.1 in
    (omega (arith, same, low), omega (arith, same, high))

-- what is known of an option's value in two ways
both_known : {A : Type 0} (P Q R : A → Type 0) (o : Option A) → ((a : A) → P a → Q a → R a) → All P o → All Q o → All R o
both_known P Q R None f p q = tt
both_known P Q R (Some a) f p q = f a p q

-- ---- conditions

condition_at : (k name : List ℕ) (d : Data) → bytes_eq k name ≡ true → StandsAt (has_marker k) (condition_member k) d → StandsAt (has_marker name) (condition_member name) d
condition_at k name d e h = subst (λ x. StandsAt (has_marker x) (condition_member x) d) (same_key k name e) h

equals_read : (marked : Bool) (d : Data) → StandsAt marked roles.EqualsArguments d → All IsConditionAlone (equals_of d)
equals_read marked (array (item a (item b no_items))) h =
    let ins = items_in marked roles.EqualsArguments (item a (item b no_items)) h in
    let left = expression_read text_place within.Condition false a (first_stands roles.EqualsArguments 0 a (item b no_items) ins) in
    let right = expression_read text_place within.Condition false b (second_stands roles.EqualsArguments a b no_items ins) in
    then IsFormedAlone IsConditionAlone (λ x. option_map (condition.equals x) (expression_of b)) (expression_of a)
    (λ x c. mapped IsFormedAlone IsConditionAlone (condition.equals x) (expression_of b) (λ y g. (c, g)) right) left
equals_read marked d h = tt

-- the parts of `Fn::And` or `Fn::Or`
abbrev ArePartsAlone : Conditions → Type 0
ArePartsAlone cs = AreFew cs × AreConditionsAlone cs

parts_of : (marked : Bool) (ds : Items) → StandsAt marked roles.ConditionArguments (array ds) → All AreConditionsAlone (conditions_from ds) → All ArePartsAlone (conditions_from ds)
parts_of marked ds h formed =
    both_known (HasParts (items_count ds)) AreConditionsAlone ArePartsAlone (conditions_from ds)
    (λ cs n c. (few_parts cs (items_count ds) n (is_right marked roles.ConditionArguments (array ds) h), c)) (counted ds) formed

mutual
  pub condition_read : (marked : Bool) (d : Data) → StandsAt marked roles.Condition d → All IsConditionAlone (condition_of d)
  condition_read marked (object (member k d no_members)) h =
      let here = member_stands frames.Condition k d no_members (members_in marked roles.Condition (member k d no_members) h) in
      told IsConditionAlone (bytes_eq k (codes "Fn::Equals")) _ _ (λ is. equals_read (has_marker (codes "Fn::Equals")) d (condition_at k (codes "Fn::Equals") d is here))
      (told IsConditionAlone (bytes_eq k (codes "Fn::And")) _ _
      (λ is. mapped ArePartsAlone IsConditionAlone condition.all_of (conditions_of d) (λ cs c. c) (conditions_read (has_marker (codes "Fn::And")) d (condition_at k (codes "Fn::And") d is here)))
      (told IsConditionAlone (bytes_eq k (codes "Fn::Or")) _ _
      (λ is. mapped ArePartsAlone IsConditionAlone condition.any_of (conditions_of d) (λ cs c. c) (conditions_read (has_marker (codes "Fn::Or")) d (condition_at k (codes "Fn::Or") d is here)))
      (told IsConditionAlone (bytes_eq k (codes "Fn::Not")) _ _ (λ is. negated_read (has_marker (codes "Fn::Not")) d (condition_at k (codes "Fn::Not") d is here))
      (told IsConditionAlone (bytes_eq k (codes "Condition")) _ None (λ is. made IsConditionAlone condition.named (as_str d) (λ t. tt)) tt))))
  condition_read marked d h = tt

  conditions_read : (marked : Bool) (d : Data) → StandsAt marked roles.ConditionArguments d → All ArePartsAlone (conditions_of d)
  conditions_read marked (array ds) h = parts_of marked ds h (all_read ds 0 (items_in marked roles.ConditionArguments ds h))
  conditions_read marked d h = tt

  all_read : (ds : Items) (n : ℕ) → ItemsStand roles.ConditionArguments n ds → All AreConditionsAlone (conditions_from ds)
  all_read no_items n h = tt
  all_read (item d ds) n h =
      then IsConditionAlone AreConditionsAlone (λ c. option_map (condition.condition c) (conditions_from ds)) (condition_of d)
      (λ c g. mapped AreConditionsAlone AreConditionsAlone (condition.condition c) (conditions_from ds) (λ cs gs. (g, gs))
      (all_read ds (n + 1) (rest_stand roles.ConditionArguments n d ds h))) (condition_read false d (first_stands roles.ConditionArguments n d ds h))

  negated_read : (marked : Bool) (d : Data) → StandsAt marked roles.NotArguments d → All IsConditionAlone (negated_of d)
  negated_read marked (array (item d no_items)) h =
      mapped IsConditionAlone IsConditionAlone condition.negated (condition_of d) (λ c g. g) (condition_read false d (first_stands roles.NotArguments 0 d no_items (items_in marked roles.NotArguments (item d no_items) h)))
  negated_read marked d h = tt
