-- An expression that is read in a place where nothing is found is clean before any context is told.
use Rattle.std.proofs.Common.{ℕ, ◌+◌, [], Bool, true, false, cond, codes, None, option_map, option_and_then}
use Rattle.std.specs.Str.{bytes_eq}
use Rattle.serde_json.specs.Data.{Data, null, boolean, number, string, array, object, Items, no_items, item, Members, no_members, member}
use Rattle.serde_json.specs.Find.{as_integer, as_number, as_str, as_u64}
use Rattle.cdk_base.specs.Marker.{has_marker}
use Rattle.cdk_premises.specs.CleanConstruct.{IsCleanAlone}
use Rattle.cdk_premises.proofs.CleanForms.{AllAreCleanAlone, FieldsAreCleanAlone, IsCleanPiece, IsReadIn, IsRunIn, PiecesAreCleanAlone, Place, VariablesAreClean, anywhere, array_read, context_read, form_at, get_att_read, list_place, object_read, piece, read_in, ref_read, role_of, run_at, sub_read, text_place, told, with_variables}
use Rattle.cdk_premises.proofs.CleanLiterals.{IsWholeOf64, whole_read}
use Rattle.cdk_premises.proofs.CleanPlaces.{ItemsStand, MembersStand, StandsAt, first_stands, items_in, member_stands, members_in, members_stand, nothing_there, rest_stand, second_stands, third_stands, unmarked}
use Rattle.cdk_premises.proofs.CleanRuns.{AreUnmarked, unmarked_apart}
use Rattle.cdk_language.specs.Application.{choice_of, concat_of, expression_of, expressions_of, fields_of, find_in_map_of, form_of, join_of, ref_of, select_of, split_of, substituted_of}
use Rattle.cdk_language.specs.Expression as expression
use Rattle.cdk_language.specs.Expression.{Expression, Expressions, Fields}
use Rattle.cdk_language.specs.Runs.{concat_literals, form_literals, items_literals, literals_of, substituted_literals, variables_literals}
use Rattle.cdk_language.specs.Sub.{is_variable_name}
use Rattle.cdk_language.specs.declared.schema.Frame.TheVariants as frames
use Rattle.cdk_language.specs.declared.schema.Role.TheVariants as roles
use Rattle.cdk_language.specs.declared.schema.Within.{Within}
use Rattle.cdk_premises.proofs.ReadExpressions.{All, made, made_then, mapped, then}

variable_role : {A : Type 0} (b marked : Bool) (w : Within) (d : Data) → (StandsAt marked (roles.TextPlace w) d → A) → StandsAt marked (cond b (roles.TextPlace w) roles.Nothing) d → A
variable_role true marked w d f h = f h
variable_role false marked w d f h = nothing_there marked d h

mutual
  pub expression_read : (p : Place) (w : Within) (marked : Bool) (d : Data) → StandsAt marked (role_of p w) d → IsRunIn p (literals_of d) → All (IsReadIn p) (expression_of d)
  expression_read p w marked null h r = tt
  expression_read p w marked (boolean b) h r = read_in p (expression.truth b) tt tt
  expression_read p w marked (number n) h r = mapped IsWholeOf64 (IsReadIn p) expression.whole (as_integer n) (λ z is. read_in p (expression.whole z) tt is) (whole_read n h.0)
  expression_read p w marked (string s) h r = read_in p (expression.text s) tt (unmarked marked (role_of p w) (string s) h)
  expression_read p w marked (array ds) h r = array_read p w marked ds h (items_read w ds 0) (listed_read w ds 0)
  expression_read p w marked (object ms) h r = object_read p w marked ms h r (fields_read w ms) (form_read w ms)

  items_read : (w : Within) (ds : Items) (n : ℕ) → ItemsStand (roles.Expression w) n ds → All AllAreCleanAlone (expressions_of ds)
  items_read w no_items n h = tt
  items_read w (item d ds) n h =
      then IsCleanAlone AllAreCleanAlone (λ e. option_map (expression.expression e) (expressions_of ds)) (expression_of d)
      (λ e c. mapped AllAreCleanAlone AllAreCleanAlone (expression.expression e) (expressions_of ds) (λ es cs. (c, cs)) (items_read w ds (n + 1) (rest_stand (roles.Expression w) n d ds h)))
      (expression_read anywhere w false d (first_stands (roles.Expression w) n d ds h) tt)

  listed_read : (w : Within) (ds : Items) (n : ℕ) → ItemsStand (roles.ListPlace w) n ds → All AllAreCleanAlone (expressions_of ds)
  listed_read w no_items n h = tt
  listed_read w (item d ds) n h =
      then IsCleanAlone AllAreCleanAlone (λ e. option_map (expression.expression e) (expressions_of ds)) (expression_of d)
      (λ e c. mapped AllAreCleanAlone AllAreCleanAlone (expression.expression e) (expressions_of ds) (λ es cs. (c, cs)) (listed_read w ds (n + 1) (rest_stand (roles.ListPlace w) n d ds h)))
      (expression_read anywhere w false d (first_stands (roles.ListPlace w) n d ds h) tt)

  pieces_read : (w : Within) (ds : Items) (n : ℕ) → ItemsStand (roles.ConcatArguments w) n ds → AreUnmarked (items_literals ds) → All PiecesAreCleanAlone (expressions_of ds)
  pieces_read w no_items n h r = tt
  pieces_read w (item d ds) n h r =
      let runs = unmarked_apart (literals_of d) (items_literals ds) r in
      then IsCleanPiece PiecesAreCleanAlone (λ e. option_map (expression.expression e) (expressions_of ds)) (expression_of d)
      (λ e c. mapped PiecesAreCleanAlone PiecesAreCleanAlone (expression.expression e) (expressions_of ds) (λ es cs. (c.0, c.1, cs)) (pieces_read w ds (n + 1) (rest_stand (roles.ConcatArguments w) n d ds h) runs.1))
      (expression_read piece w false d (first_stands (roles.ConcatArguments w) n d ds h) runs.0)

  pub fields_read : (w : Within) (ms : Members) → MembersStand (frames.Fields w) ms → All FieldsAreCleanAlone (fields_of ms)
  fields_read w no_members h = tt
  fields_read w (member k d ms) h =
      then IsCleanAlone FieldsAreCleanAlone (λ e. option_map (expression.field k e) (fields_of ms)) (expression_of d)
      (λ e c. mapped FieldsAreCleanAlone FieldsAreCleanAlone (expression.field k e) (fields_of ms) (λ fs cs. (c, cs)) (fields_read w ms (members_stand (frames.Fields w) k d ms h)))
      (expression_read anywhere w (has_marker k) d (member_stands (frames.Fields w) k d ms h) tt)

  variables_read : (w : Within) (ms : Members) → MembersStand (frames.SubVariables w) ms → All VariablesAreClean (fields_of ms)
  variables_read w no_members h = tt
  variables_read w (member k d ms) h =
      then IsCleanPiece VariablesAreClean (λ e. option_map (expression.field k e) (fields_of ms)) (expression_of d)
      (λ e c. mapped VariablesAreClean VariablesAreClean (expression.field k e) (fields_of ms) (λ fs cs. (c, cs)) (variables_read w ms (members_stand (frames.SubVariables w) k d ms h)))
      (variable_role (is_variable_name k) (has_marker k) w d (λ s. expression_read text_place w (has_marker k) d s tt) (member_stands (frames.SubVariables w) k d ms h))

  form_read : (w : Within) (ms : Members) → MembersStand (frames.Form w) ms → AreUnmarked (form_literals ms) → All IsCleanPiece (form_of ms)
  form_read w no_members h r = tt
  form_read w (member k d (member l e ms)) h r = tt
  form_read w (member k d no_members) h r =
      let here = member_stands (frames.Form w) k d no_members h in
      told IsCleanPiece (bytes_eq k (codes "Ref")) _ _ (λ is. made IsCleanPiece ref_of (as_str d) ref_read)
      (told IsCleanPiece (bytes_eq k (codes "Fn::GetAtt")) _ _ (λ is. get_att_read d)
      (told IsCleanPiece (bytes_eq k (codes "Fn::Join")) _ _ (λ is. join_read w (has_marker (codes "Fn::Join")) d (form_at w k (codes "Fn::Join") d is here))
      (told IsCleanPiece (bytes_eq k (codes "Fn::Select")) _ _ (λ is. select_read w (has_marker (codes "Fn::Select")) d (form_at w k (codes "Fn::Select") d is here))
      (told IsCleanPiece (bytes_eq k (codes "Fn::Split")) _ _ (λ is. split_read w (has_marker (codes "Fn::Split")) d (form_at w k (codes "Fn::Split") d is here))
      (told IsCleanPiece (bytes_eq k (codes "Fn::If")) _ _ (λ is. choice_read w (has_marker (codes "Fn::If")) d (form_at w k (codes "Fn::If") d is here))
      (told IsCleanPiece (bytes_eq k (codes "Fn::FindInMap")) _ _ (λ is. find_in_map_read w (has_marker (codes "Fn::FindInMap")) d (form_at w k (codes "Fn::FindInMap") d is here))
      (told IsCleanPiece (bytes_eq k (codes "Fn::ImportValue")) _ _ (λ is. made IsCleanPiece expression.import_value (as_str d) (λ t. (tt, tt)))
      (told IsCleanPiece (bytes_eq k (codes "Fn::Sub")) _ _ (λ is. substituted_read w (has_marker (codes "Fn::Sub")) d (form_at w k (codes "Fn::Sub") d is here) (run_at k (codes "Fn::Sub") d is r))
      (told IsCleanPiece (bytes_eq k (codes "CDK::Concat")) _ _ (λ is. concat_read w (has_marker (codes "CDK::Concat")) d (form_at w k (codes "CDK::Concat") d is here) (run_at k (codes "CDK::Concat") d is r))
      (told IsCleanPiece (bytes_eq k (codes "CDK::Context")) _ _ (λ is. context_read (has_marker (codes "CDK::Context")) d (form_at w k (codes "CDK::Context") d is here))
      (told IsCleanPiece (bytes_eq k (codes "CDK::Lazy")) _ None (λ is. made IsCleanPiece expression.lazy (as_str d) (λ t. (tt, tt))) tt)))))))))))

  join_read : (w : Within) (marked : Bool) (d : Data) → StandsAt marked (roles.JoinArguments w) d → All IsCleanPiece (join_of d)
  join_read w marked (array (item a (item b no_items))) h =
      let list = expression_read list_place w false b (second_stands (roles.JoinArguments w) a b no_items (items_in marked (roles.JoinArguments w) (item a (item b no_items)) h)) tt in
      made_then IsCleanPiece (λ t. option_map (expression.join t) (expression_of b)) (as_str a) (λ t. mapped IsCleanAlone IsCleanPiece (expression.join t) (expression_of b) (λ x c. (tt, c)) list)
  join_read w marked d h = tt

  select_read : (w : Within) (marked : Bool) (d : Data) → StandsAt marked (roles.SelectArguments w) d → All IsCleanPiece (select_of d)
  select_read w marked (array (item a (item b no_items))) h =
      let list = expression_read list_place w false b (second_stands (roles.SelectArguments w) a b no_items (items_in marked (roles.SelectArguments w) (item a (item b no_items)) h)) tt in
      made_then IsCleanPiece (λ n. option_map (expression.select n) (expression_of b)) (option_and_then as_u64 (as_number a))
      (λ n. mapped IsCleanAlone IsCleanPiece (expression.select n) (expression_of b) (λ x c. (tt, c)) list)
  select_read w marked d h = tt

  split_read : (w : Within) (marked : Bool) (d : Data) → StandsAt marked (roles.SplitArguments w) d → All IsCleanPiece (split_of d)
  split_read w marked (array (item a (item b no_items))) h =
      let text = expression_read text_place w false b (second_stands (roles.SplitArguments w) a b no_items (items_in marked (roles.SplitArguments w) (item a (item b no_items)) h)) tt in
      made_then IsCleanPiece (λ t. option_map (expression.split t) (expression_of b)) (as_str a) (λ t. mapped IsCleanPiece IsCleanPiece (expression.split t) (expression_of b) (λ x c. (tt, c.1)) text)
  split_read w marked d h = tt

  choice_read : (w : Within) (marked : Bool) (d : Data) → StandsAt marked (roles.IfArguments w) d → All IsCleanPiece (choice_of d)
  choice_read w marked (array (item a (item b (item c no_items)))) h =
      let ins = items_in marked (roles.IfArguments w) (item a (item b (item c no_items))) h in
      let first = expression_read anywhere w false b (second_stands (roles.IfArguments w) a b (item c no_items) ins) tt in
      let other = expression_read anywhere w false c (third_stands (roles.IfArguments w) a b c no_items ins) tt in
      made_then IsCleanPiece (λ t. option_and_then (λ x. option_map (expression.choice t x) (expression_of c)) (expression_of b)) (as_str a)
      (λ t. then IsCleanAlone IsCleanPiece (λ x. option_map (expression.choice t x) (expression_of c)) (expression_of b)
      (λ x s. mapped IsCleanAlone IsCleanPiece (expression.choice t x) (expression_of c) (λ y u. (tt, (s, u))) other) first)
  choice_read w marked d h = tt

  find_in_map_read : (w : Within) (marked : Bool) (d : Data) → StandsAt marked (roles.FindInMapArguments w) d → All IsCleanPiece (find_in_map_of d)
  find_in_map_read w marked (array (item a (item b (item c no_items)))) h =
      let ins = items_in marked (roles.FindInMapArguments w) (item a (item b (item c no_items))) h in
      let first = expression_read text_place w false b (second_stands (roles.FindInMapArguments w) a b (item c no_items) ins) tt in
      let other = expression_read text_place w false c (third_stands (roles.FindInMapArguments w) a b c no_items ins) tt in
      made_then IsCleanPiece (λ m. option_and_then (λ x. option_map (expression.find_in_map m x) (expression_of c)) (expression_of b)) (as_str a)
      (λ m. then IsCleanPiece IsCleanPiece (λ x. option_map (expression.find_in_map m x) (expression_of c)) (expression_of b)
      (λ x s. mapped IsCleanPiece IsCleanPiece (expression.find_in_map m x) (expression_of c) (λ y u. (tt, (s.1, u.1))) other) first)
  find_in_map_read w marked d h = tt

  concat_read : (w : Within) (marked : Bool) (d : Data) → StandsAt marked (roles.ConcatArguments w) d → AreUnmarked (concat_literals d) → All IsCleanPiece (concat_of d)
  concat_read w marked (array ds) h r = mapped PiecesAreCleanAlone IsCleanPiece expression.concat (expressions_of ds) (λ es c. (tt, c)) (pieces_read w ds 0 (items_in marked (roles.ConcatArguments w) ds h) r)
  concat_read w marked d h r = tt

  substituted_read : (w : Within) (marked : Bool) (d : Data) → StandsAt marked (roles.SubArgument w) d → AreUnmarked (substituted_literals d) → All IsCleanPiece (substituted_of d)
  substituted_read w marked (string s) h r = sub_read [] s expression.no_fields tt r
  substituted_read w marked (array (item a (item (object ms) no_items))) h r =
      let variables = second_stands (roles.SubArgument w) a (object ms) no_items (items_in marked (roles.SubArgument w) (item a (item (object ms) no_items)) h) in
      with_variables (variables_literals ms) (as_str a) (fields_of ms) r (variables_read w ms (members_in false (roles.SubVariables w) ms variables))
  substituted_read w marked d h r = tt
