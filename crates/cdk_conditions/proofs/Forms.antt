-- Forms by their keys.
use Rattle.std.proofs.Common.{◌≡◌, ℕ, List, [], Bool, true, false, Some, None, refl, sym, ap, subst}
use Rattle.std.specs.Prelude.{◌||◌, ◌&&◌, bytes_eq, codes, if◌then◌else◌}
use Rattle.serde_json.specs.Data.{Data}
use Rattle.cdk_eval.specs.declared.fault.EvalFault.TheVariants.{BadIntrinsic}
use Rattle.cdk_eval.specs.Conditions.{has_items, is_few, is_one, part_names, one_name, equals_form, not_form, name_form, part_truths}
use Rattle.cdk_eval.specs.Outcomes.{Outcome, Truth, Untold}
use Rattle.cdk_eval.proofs.Reach.{bytes_same}
use Rattle.cdk_conditions.specs.Kept.{has_parts, form_names, junction_of, few_by, form_truth}

-- ---- the names in a form

module _ {X : Type 0} (x y z : X) where
  parts_at : (few_key not_key few one named : Bool) → (if few_key then few else not_key && one) ≡ true
      → (if few_key then (if few then x else z) else (if not_key then (if one then x else z) else (if named then y else z))) ≡ x
  parts_at true m true o n h = refl
  parts_at true m false o n h = cc
  parts_at false true f true n h = refl
  parts_at false true f false n h = cc
  parts_at false false f o n h = cc

  others_at : (few_key not_key few one named : Bool) → (if few_key then few else not_key && one) ≡ false → named ≡ false
      → (if few_key then (if few then x else z) else (if not_key then (if one then x else z) else (if named then y else z))) ≡ z
  others_at true m true o n h e = cc
  others_at true m false o n h e = refl
  others_at false true f true n h e = cc
  others_at false true f false n h e = refl
  others_at false false f o true h e = cc
  others_at false false f o false h e = refl

pub names_of_parts : (k : List ℕ) (d : Data) → has_parts k d ≡ true → form_names k d ≡ part_names d
names_of_parts k d h = parts_at (part_names d) (one_name d) [] (bytes_eq k (codes "Fn::And") || bytes_eq k (codes "Fn::Or")) (bytes_eq k (codes "Fn::Not")) (has_items is_few d) (has_items is_one d) (bytes_eq k (codes "Condition")) h

pub names_of_others : (k : List ℕ) (d : Data) → has_parts k d ≡ false → bytes_eq k (codes "Condition") ≡ false → form_names k d ≡ []
names_of_others k d h e = others_at (part_names d) (one_name d) [] (bytes_eq k (codes "Fn::And") || bytes_eq k (codes "Fn::Or")) (bytes_eq k (codes "Fn::Not")) (has_items is_few d) (has_items is_one d) (bytes_eq k (codes "Condition")) h e

pub names_of_name : (k : List ℕ) (d : Data) → bytes_eq k (codes "Condition") ≡ true → form_names k d ≡ one_name d
names_of_name k d h = subst (λ (m : List ℕ). form_names m d ≡ one_name d) (sym (bytes_same k (codes "Condition") h)) refl

-- ---- the truth of a form

module _ (operand : Data → Outcome) (of_name : List ℕ → Truth) (k : List ℕ) (d : Data) where
  pub truth_of_junction : (is_all : Bool) → Some is_all ≡ junction_of k → form_truth operand of_name k d ≡ few_by is_all (part_truths operand of_name d)
  truth_of_junction is_all h = at (bytes_eq k (codes "Fn::And")) refl (bytes_eq k (codes "Fn::Or")) refl h
    where
      at : (a : Bool) → bytes_eq k (codes "Fn::And") ≡ a → (b : Bool) → bytes_eq k (codes "Fn::Or") ≡ b → Some is_all ≡ (if a then Some true else (if b then Some false else None))
          → form_truth operand of_name k d ≡ few_by is_all (part_truths operand of_name d)
      at true e b f s =
          let all : true ≡ is_all = cc in
          subst (λ (m : List ℕ). form_truth operand of_name m d ≡ few_by is_all (part_truths operand of_name d)) (sym (bytes_same k (codes "Fn::And") e)) (ap (λ i. few_by i (part_truths operand of_name d)) all)
      at false e true f s =
          let all : false ≡ is_all = cc in
          subst (λ (m : List ℕ). form_truth operand of_name m d ≡ few_by is_all (part_truths operand of_name d)) (sym (bytes_same k (codes "Fn::Or") f)) (ap (λ i. few_by i (part_truths operand of_name d)) all)
      at false e false f s = cc

  pub truth_of_not : bytes_eq k (codes "Fn::Not") ≡ true → form_truth operand of_name k d ≡ not_form (part_truths operand of_name d)
  truth_of_not h = subst (λ (m : List ℕ). form_truth operand of_name m d ≡ not_form (part_truths operand of_name d)) (sym (bytes_same k (codes "Fn::Not") h)) refl

  pub truth_of_equals : bytes_eq k (codes "Fn::Equals") ≡ true → form_truth operand of_name k d ≡ equals_form operand d
  truth_of_equals h = subst (λ (m : List ℕ). form_truth operand of_name m d ≡ equals_form operand d) (sym (bytes_same k (codes "Fn::Equals") h)) refl

  pub truth_of_name : bytes_eq k (codes "Condition") ≡ true → form_truth operand of_name k d ≡ name_form of_name d
  truth_of_name h = subst (λ (m : List ℕ). form_truth operand of_name m d ≡ name_form of_name d) (sym (bytes_same k (codes "Condition") h)) refl

  none_at : {X : Type 0} (u v w x y z : X) (equals all any other named : Bool) → equals ≡ false → (if all then Some true else (if any then Some false else None)) ≡ None → other ≡ false → named ≡ false
      → (if equals then u else (if all then v else (if any then w else (if other then x else (if named then y else z))))) ≡ z
  none_at u v w x y z true a b o n e j f g = cc
  none_at u v w x y z false true b o n e j f g = cc
  none_at u v w x y z false false true o n e j f g = cc
  none_at u v w x y z false false false true n e j f g = cc
  none_at u v w x y z false false false false true e j f g = cc
  none_at u v w x y z false false false false false e j f g = refl

  pub truth_of_none : bytes_eq k (codes "Fn::Equals") ≡ false → junction_of k ≡ None → bytes_eq k (codes "Fn::Not") ≡ false → bytes_eq k (codes "Condition") ≡ false → form_truth operand of_name k d ≡ Untold BadIntrinsic
  truth_of_none e j f g = none_at _ _ _ _ _ _ (bytes_eq k (codes "Fn::Equals")) (bytes_eq k (codes "Fn::And")) (bytes_eq k (codes "Fn::Or")) (bytes_eq k (codes "Fn::Not")) (bytes_eq k (codes "Condition")) e j f g
