-- An expression that is read in a place where nothing is found is formed before any context is told.
use Rattle.std.proofs.Common.{◌≡◌, ℕ, ◌+◌, Bool, true, false, cond, codes, None, option_map, option_and_then, refl, subst}
use Rattle.std.specs.Str.{bytes_eq}
use Rattle.serde_json.specs.Data.{Data, null, boolean, number, string, array, object, Items, no_items, item, Members, no_members, member}
use Rattle.serde_json.specs.Find.{as_integer, as_number, as_str, as_u64}
use Rattle.cdk_base.specs.Json.{is_form_key}
use Rattle.cdk_base.specs.Marker.{has_marker}
use Rattle.cdk_premises.proofs.CleanForms.{Place, anywhere, form_at, list_place, piece, role_of, text_place, told}
use Rattle.cdk_premises.proofs.CleanPlaces.{ItemsStand, MembersStand, StandsAt, first_stands, is_right, items_in, member_stands, members_in, members_stand, nothing_there, rest_stand, second_stands, third_stands}
use Rattle.cdk_premises.proofs.FormedForms.{AllAreFormedAlone, FieldsAreFormedAlone, IsFormedAlone, IsIndex, VariablesAreFormed, context_read, delimiter_read, get_att_read, index_read, object_read, ref_read, sub_read, with_variables}
use Rattle.cdk_premises.proofs.FormedLiterals.{not_intrinsic}
use Rattle.cdk_language.specs.Application.{choice_of, concat_of, expression_of, expressions_of, fields_of, find_in_map_of, form_of, has_form_key, join_of, ref_of, select_of, split_of, substituted_of}
use Rattle.cdk_language.specs.Expression as expression
use Rattle.cdk_language.specs.Schema.{item_role}
use Rattle.cdk_language.specs.Sub.{is_variable_name}
use Rattle.cdk_language.specs.declared.schema.Frame.TheVariants as frames
use Rattle.cdk_language.specs.declared.schema.Role.{Role}
use Rattle.cdk_language.specs.declared.schema.Role.TheVariants as roles
use Rattle.cdk_language.specs.declared.schema.Within.{Within}
use Rattle.cdk_plain.specs.Plain.{IsNonEmpty}
use Rattle.cdk_premises.proofs.ReadExpressions.{All, made, made_then, mapped, then}
use Rattle.cdk_premises.proofs.Unmarked.{or_false}

variable_role : {A : Type 0} (b marked : Bool) (w : Within) (d : Data) → (StandsAt marked (roles.TextPlace w) d → A) → StandsAt marked (cond b (roles.TextPlace w) roles.Nothing) d → A
variable_role true marked w d f h = f h
variable_role false marked w d f h = nothing_there marked d h

-- an array in its place, its items being read; where a text stands there is none
array_read : (p : Place) (w : Within) (marked : Bool) (ds : Items) → StandsAt marked (role_of p w) (array ds)
    → ((role : Role) → ((n : ℕ) → item_role role n ≡ roles.Expression w) → ItemsStand role 0 ds → All AllAreFormedAlone (expressions_of ds)) → All IsFormedAlone (option_map expression.list (expressions_of ds))
array_read anywhere w marked ds h items = mapped AllAreFormedAlone IsFormedAlone expression.list (expressions_of ds) (λ es c. c) (items (roles.Expression w) (λ n. refl) (items_in marked (roles.Expression w) ds h))
array_read list_place w marked ds h items = mapped AllAreFormedAlone IsFormedAlone expression.list (expressions_of ds) (λ es c. c) (items (roles.ListPlace w) (λ n. refl) (items_in marked (roles.ListPlace w) ds h))
array_read text_place w marked ds h items = let e = is_right marked (roles.TextPlace w) (array ds) h in absurd (cc e)
array_read piece w marked ds h items = let e = is_right marked (roles.Piece w) (array ds) h in absurd (cc e)

mutual
  pub expression_read : (p : Place) (w : Within) (marked : Bool) (d : Data) → StandsAt marked (role_of p w) d → All IsFormedAlone (expression_of d)
  expression_read p w marked null h = tt
  expression_read p w marked (boolean b) h = tt
  expression_read p w marked (number n) h = made IsFormedAlone expression.whole (as_integer n) (λ z. tt)
  expression_read p w marked (string s) h = tt
  expression_read p w marked (array ds) h = array_read p w marked ds h (λ role same ins. items_read anywhere w role same ds 0 ins)
  expression_read p w marked (object ms) h = object_read p w marked ms h (fields_read w ms) (form_read w ms)

  -- items that all stand in the same place
  items_read : (p : Place) (w : Within) (role : Role) → ((n : ℕ) → item_role role n ≡ role_of p w) → (ds : Items) (n : ℕ) → ItemsStand role n ds → All AllAreFormedAlone (expressions_of ds)
  items_read p w role same no_items n h = tt
  items_read p w role same (item d ds) n h =
      then IsFormedAlone AllAreFormedAlone (λ e. option_map (expression.expression e) (expressions_of ds)) (expression_of d)
      (λ e c. mapped AllAreFormedAlone AllAreFormedAlone (expression.expression e) (expressions_of ds) (λ es cs. (c, cs)) (items_read p w role same ds (n + 1) (rest_stand role n d ds h)))
      (expression_read p w false d (subst (λ (r : Role). StandsAt false r d) (same n) (first_stands role n d ds h)))

  pub fields_read : (w : Within) (ms : Members) → has_form_key ms ≡ false → MembersStand (frames.Fields w) ms → All FieldsAreFormedAlone (fields_of ms)
  fields_read w no_members f h = tt
  fields_read w (member k d ms) f h =
      let plain = or_false (is_form_key k) (has_form_key ms) f in
      then IsFormedAlone FieldsAreFormedAlone (λ e. option_map (expression.field k e) (fields_of ms)) (expression_of d)
      (λ e c. mapped FieldsAreFormedAlone FieldsAreFormedAlone (expression.field k e) (fields_of ms) (λ fs cs. (not_intrinsic k plain.0, c, cs)) (fields_read w ms plain.1 (members_stand (frames.Fields w) k d ms h)))
      (expression_read anywhere w (has_marker k) d (member_stands (frames.Fields w) k d ms h))

  variables_read : (w : Within) (ms : Members) → MembersStand (frames.SubVariables w) ms → All VariablesAreFormed (fields_of ms)
  variables_read w no_members h = tt
  variables_read w (member k d ms) h =
      then IsFormedAlone VariablesAreFormed (λ e. option_map (expression.field k e) (fields_of ms)) (expression_of d)
      (λ e c. mapped VariablesAreFormed VariablesAreFormed (expression.field k e) (fields_of ms) (λ fs cs. (c, cs)) (variables_read w ms (members_stand (frames.SubVariables w) k d ms h)))
      (variable_role (is_variable_name k) (has_marker k) w d (λ s. expression_read text_place w (has_marker k) d s) (member_stands (frames.SubVariables w) k d ms h))

  form_read : (w : Within) (ms : Members) → MembersStand (frames.Form w) ms → All IsFormedAlone (form_of ms)
  form_read w no_members h = tt
  form_read w (member k d (member l e ms)) h = tt
  form_read w (member k d no_members) h =
      let here = member_stands (frames.Form w) k d no_members h in
      told IsFormedAlone (bytes_eq k (codes "Ref")) _ _ (λ is. made IsFormedAlone ref_of (as_str d) ref_read)
      (told IsFormedAlone (bytes_eq k (codes "Fn::GetAtt")) _ _ (λ is. get_att_read d)
      (told IsFormedAlone (bytes_eq k (codes "Fn::Join")) _ _ (λ is. join_read w (has_marker (codes "Fn::Join")) d (form_at w k (codes "Fn::Join") d is here))
      (told IsFormedAlone (bytes_eq k (codes "Fn::Select")) _ _ (λ is. select_read w (has_marker (codes "Fn::Select")) d (form_at w k (codes "Fn::Select") d is here))
      (told IsFormedAlone (bytes_eq k (codes "Fn::Split")) _ _ (λ is. split_read w (has_marker (codes "Fn::Split")) d (form_at w k (codes "Fn::Split") d is here))
      (told IsFormedAlone (bytes_eq k (codes "Fn::If")) _ _ (λ is. choice_read w (has_marker (codes "Fn::If")) d (form_at w k (codes "Fn::If") d is here))
      (told IsFormedAlone (bytes_eq k (codes "Fn::FindInMap")) _ _ (λ is. find_in_map_read w (has_marker (codes "Fn::FindInMap")) d (form_at w k (codes "Fn::FindInMap") d is here))
      (told IsFormedAlone (bytes_eq k (codes "Fn::ImportValue")) _ _ (λ is. made IsFormedAlone expression.import_value (as_str d) (λ t. tt))
      (told IsFormedAlone (bytes_eq k (codes "Fn::Sub")) _ _ (λ is. substituted_read w (has_marker (codes "Fn::Sub")) d (form_at w k (codes "Fn::Sub") d is here))
      (told IsFormedAlone (bytes_eq k (codes "CDK::Concat")) _ _ (λ is. concat_read w (has_marker (codes "CDK::Concat")) d (form_at w k (codes "CDK::Concat") d is here))
      (told IsFormedAlone (bytes_eq k (codes "CDK::Context")) _ _ (λ is. context_read (has_marker (codes "CDK::Context")) d (form_at w k (codes "CDK::Context") d is here))
      (told IsFormedAlone (bytes_eq k (codes "CDK::Lazy")) _ None (λ is. made IsFormedAlone expression.lazy (as_str d) (λ t. tt)) tt)))))))))))

  join_read : (w : Within) (marked : Bool) (d : Data) → StandsAt marked (roles.JoinArguments w) d → All IsFormedAlone (join_of d)
  join_read w marked (array (item a (item b no_items))) h =
      let list = expression_read list_place w false b (second_stands (roles.JoinArguments w) a b no_items (items_in marked (roles.JoinArguments w) (item a (item b no_items)) h)) in
      made_then IsFormedAlone (λ t. option_map (expression.join t) (expression_of b)) (as_str a) (λ t. mapped IsFormedAlone IsFormedAlone (expression.join t) (expression_of b) (λ x c. c) list)
  join_read w marked d h = tt

  select_read : (w : Within) (marked : Bool) (d : Data) → StandsAt marked (roles.SelectArguments w) d → All IsFormedAlone (select_of d)
  select_read w marked (array (item a (item b no_items))) h =
      let ins = items_in marked (roles.SelectArguments w) (item a (item b no_items)) h in
      let list = expression_read list_place w false b (second_stands (roles.SelectArguments w) a b no_items ins) in
      then IsIndex IsFormedAlone (λ n. option_map (expression.select n) (expression_of b)) (option_and_then as_u64 (as_number a))
      (λ n index. mapped IsFormedAlone IsFormedAlone (expression.select n) (expression_of b) (λ x c. (index, c)) list) (index_read a ins.0.0)
  select_read w marked d h = tt

  split_read : (w : Within) (marked : Bool) (d : Data) → StandsAt marked (roles.SplitArguments w) d → All IsFormedAlone (split_of d)
  split_read w marked (array (item a (item b no_items))) h =
      let ins = items_in marked (roles.SplitArguments w) (item a (item b no_items)) h in
      let text = expression_read text_place w false b (second_stands (roles.SplitArguments w) a b no_items ins) in
      let delimiter = delimiter_read a (is_right false roles.NonEmptyText a (first_stands (roles.SplitArguments w) 0 a (item b no_items) ins)) in
      then IsNonEmpty IsFormedAlone (λ t. option_map (expression.split t) (expression_of b)) (as_str a)
      (λ t filled. mapped IsFormedAlone IsFormedAlone (expression.split t) (expression_of b) (λ x c. (filled, c)) text) delimiter
  split_read w marked d h = tt

  choice_read : (w : Within) (marked : Bool) (d : Data) → StandsAt marked (roles.IfArguments w) d → All IsFormedAlone (choice_of d)
  choice_read w marked (array (item a (item b (item c no_items)))) h =
      let ins = items_in marked (roles.IfArguments w) (item a (item b (item c no_items))) h in
      let first = expression_read anywhere w false b (second_stands (roles.IfArguments w) a b (item c no_items) ins) in
      let other = expression_read anywhere w false c (third_stands (roles.IfArguments w) a b c no_items ins) in
      made_then IsFormedAlone (λ t. option_and_then (λ x. option_map (expression.choice t x) (expression_of c)) (expression_of b)) (as_str a)
      (λ t. then IsFormedAlone IsFormedAlone (λ x. option_map (expression.choice t x) (expression_of c)) (expression_of b)
      (λ x s. mapped IsFormedAlone IsFormedAlone (expression.choice t x) (expression_of c) (λ y u. (s, u)) other) first)
  choice_read w marked d h = tt

  find_in_map_read : (w : Within) (marked : Bool) (d : Data) → StandsAt marked (roles.FindInMapArguments w) d → All IsFormedAlone (find_in_map_of d)
  find_in_map_read w marked (array (item a (item b (item c no_items)))) h =
      let ins = items_in marked (roles.FindInMapArguments w) (item a (item b (item c no_items))) h in
      let first = expression_read text_place w false b (second_stands (roles.FindInMapArguments w) a b (item c no_items) ins) in
      let other = expression_read text_place w false c (third_stands (roles.FindInMapArguments w) a b c no_items ins) in
      made_then IsFormedAlone (λ m. option_and_then (λ x. option_map (expression.find_in_map m x) (expression_of c)) (expression_of b)) (as_str a)
      (λ m. then IsFormedAlone IsFormedAlone (λ x. option_map (expression.find_in_map m x) (expression_of c)) (expression_of b)
      (λ x s. mapped IsFormedAlone IsFormedAlone (expression.find_in_map m x) (expression_of c) (λ y u. (s, u)) other) first)
  find_in_map_read w marked d h = tt

  concat_read : (w : Within) (marked : Bool) (d : Data) → StandsAt marked (roles.ConcatArguments w) d → All IsFormedAlone (concat_of d)
  concat_read w marked (array ds) h =
      mapped AllAreFormedAlone IsFormedAlone expression.concat (expressions_of ds) (λ es c. c) (items_read piece w (roles.ConcatArguments w) (λ n. refl) ds 0 (items_in marked (roles.ConcatArguments w) ds h))
  concat_read w marked d h = tt

  substituted_read : (w : Within) (marked : Bool) (d : Data) → StandsAt marked (roles.SubArgument w) d → All IsFormedAlone (substituted_of d)
  substituted_read w marked (string s) h = sub_read s expression.no_fields tt
  substituted_read w marked (array (item a (item (object ms) no_items))) h =
      let variables = second_stands (roles.SubArgument w) a (object ms) no_items (items_in marked (roles.SubArgument w) (item a (item (object ms) no_items)) h) in
      with_variables (as_str a) (fields_of ms) (variables_read w ms (members_in false (roles.SubVariables w) ms variables))
  substituted_read w marked d h = tt
