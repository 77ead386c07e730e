-- An expression that is read in an operand of a condition, in a place where nothing is found, has only forms that an operand may have.
use Rattle.std.proofs.Common.{◌≡◌, ℕ, ◌+◌, Bool, true, false, cond, codes, None, option_map, option_and_then}
use Rattle.std.specs.Str.{bytes_eq}
use Rattle.serde_json.specs.Data.{Data, null, boolean, number, string, array, object, Items, no_items, item, Members, no_members, member}
use Rattle.serde_json.specs.Find.{as_integer, as_number, as_str, as_u64}
use Rattle.cdk_base.specs.Marker.{has_marker}
use Rattle.cdk_premises.proofs.CleanForms.{Place, anywhere, form_at, list_place, piece, role_of, text_place, told}
use Rattle.cdk_premises.proofs.CleanPlaces.{ItemsStand, MembersStand, StandsAt, first_stands, is_right, items_in, member_stands, members_in, members_stand, nothing_there, rest_stand, second_stands, third_stands}
use Rattle.cdk_language.specs.Application.{concat_of, expression_of, expressions_of, fields_of, find_in_map_of, form_of, join_of, select_of, split_of, substituted_of}
use Rattle.cdk_language.specs.Expression as expression
use Rattle.cdk_language.specs.Expression.{Expression, Expressions, Fields}
use Rattle.cdk_language.specs.Schema.{is_form}
use Rattle.cdk_language.specs.Sub.{is_variable_name}
use Rattle.cdk_language.specs.declared.schema.Frame.TheVariants as frames
use Rattle.cdk_language.specs.declared.schema.Role.TheVariants as roles
use Rattle.cdk_language.specs.declared.schema.Within.TheVariants as within
use Rattle.cdk_premises.proofs.ReadExpressions.{All, made, made_then, mapped, then}
use Rattle.cdk_premises.specs.Operands.{ArePlainOperands, FieldsArePlainOperands, IsPlainOperand}
use Rattle.cdk_premises.proofs.PlainForms.{is_allowed, never, plain_array, plain_context, plain_object, plain_refs, plain_sub, with_variables}

variable_role : {A : Type 0} (b marked : Bool) (d : Data) → (StandsAt marked (roles.TextPlace within.Condition) d → A) → StandsAt marked (cond b (roles.TextPlace within.Condition) roles.Nothing) d → A
variable_role true marked d f h = f h
variable_role false marked d f h = nothing_there marked d h

mutual
  pub plain_read : (p : Place) (marked : Bool) (d : Data) → StandsAt marked (role_of p within.Condition) d → All IsPlainOperand (expression_of d)
  plain_read p marked null h = tt
  plain_read p marked (boolean b) h = tt
  plain_read p marked (number n) h = made IsPlainOperand expression.whole (as_integer n) (λ z. tt)
  plain_read p marked (string s) h = tt
  plain_read p marked (array ds) h = plain_array p marked ds h (plain_items ds 0) (plain_listed ds 0)
  plain_read p marked (object ms) h = plain_object p marked ms h (plain_fields ms) (plain_form ms)

  plain_items : (ds : Items) (n : ℕ) → ItemsStand (roles.Expression within.Condition) n ds → All ArePlainOperands (expressions_of ds)
  plain_items no_items n h = tt
  plain_items (item d ds) n h =
      then IsPlainOperand ArePlainOperands (λ e. option_map (expression.expression e) (expressions_of ds)) (expression_of d)
      (λ e c. mapped ArePlainOperands ArePlainOperands (expression.expression e) (expressions_of ds) (λ es cs. (c, cs)) (plain_items ds (n + 1) (rest_stand (roles.Expression within.Condition) n d ds h)))
      (plain_read anywhere false d (first_stands (roles.Expression within.Condition) n d ds h))

  plain_listed : (ds : Items) (n : ℕ) → ItemsStand (roles.ListPlace within.Condition) n ds → All ArePlainOperands (expressions_of ds)
  plain_listed no_items n h = tt
  plain_listed (item d ds) n h =
      then IsPlainOperand ArePlainOperands (λ e. option_map (expression.expression e) (expressions_of ds)) (expression_of d)
      (λ e c. mapped ArePlainOperands ArePlainOperands (expression.expression e) (expressions_of ds) (λ es cs. (c, cs)) (plain_listed ds (n + 1) (rest_stand (roles.ListPlace within.Condition) n d ds h)))
      (plain_read anywhere false d (first_stands (roles.ListPlace within.Condition) n d ds h))

  plain_pieces : (ds : Items) (n : ℕ) → ItemsStand (roles.ConcatArguments within.Condition) n ds → All ArePlainOperands (expressions_of ds)
  plain_pieces no_items n h = tt
  plain_pieces (item d ds) n h =
      then IsPlainOperand ArePlainOperands (λ e. option_map (expression.expression e) (expressions_of ds)) (expression_of d)
      (λ e c. mapped ArePlainOperands ArePlainOperands (expression.expression e) (expressions_of ds) (λ es cs. (c, cs)) (plain_pieces ds (n + 1) (rest_stand (roles.ConcatArguments within.Condition) n d ds h)))
      (plain_read piece false d (first_stands (roles.ConcatArguments within.Condition) n d ds h))

  plain_fields : (ms : Members) → MembersStand (frames.Fields within.Condition) ms → All FieldsArePlainOperands (fields_of ms)
  plain_fields no_members h = tt
  plain_fields (member k d ms) h =
      then IsPlainOperand FieldsArePlainOperands (λ e. option_map (expression.field k e) (fields_of ms)) (expression_of d)
      (λ e c. mapped FieldsArePlainOperands FieldsArePlainOperands (expression.field k e) (fields_of ms) (λ fs cs. (c, cs)) (plain_fields ms (members_stand (frames.Fields within.Condition) k d ms h)))
      (plain_read anywhere (has_marker k) d (member_stands (frames.Fields within.Condition) k d ms h))

  plain_variables : (ms : Members) → MembersStand (frames.SubVariables within.Condition) ms → All FieldsArePlainOperands (fields_of ms)
  plain_variables no_members h = tt
  plain_variables (member k d ms) h =
      then IsPlainOperand FieldsArePlainOperands (λ e. option_map (expression.field k e) (fields_of ms)) (expression_of d)
      (λ e c. mapped FieldsArePlainOperands FieldsArePlainOperands (expression.field k e) (fields_of ms) (λ fs cs. (c, cs)) (plain_variables ms (members_stand (frames.SubVariables within.Condition) k d ms h)))
      (variable_role (is_variable_name k) (has_marker k) d (λ s. plain_read text_place (has_marker k) d s) (member_stands (frames.SubVariables within.Condition) k d ms h))

  plain_form : (ms : Members) → is_form within.Condition ms ≡ true → MembersStand (frames.Form within.Condition) ms → All IsPlainOperand (form_of ms)
  plain_form no_members may h = tt
  plain_form (member k d (member l e ms)) may h = tt
  plain_form (member k d no_members) may h =
      let here = member_stands (frames.Form within.Condition) k d no_members h in
      let allowed = is_allowed k d may in
      told IsPlainOperand (bytes_eq k (codes "Ref")) _ _ (λ is. plain_refs (as_str d) (bytes_eq k (codes "Ref")) is allowed.no_gap)
      (told IsPlainOperand (bytes_eq k (codes "Fn::GetAtt")) _ _ (never (bytes_eq k (codes "Fn::GetAtt")) allowed.no_attribute)
      (told IsPlainOperand (bytes_eq k (codes "Fn::Join")) _ _ (λ is. plain_join (has_marker (codes "Fn::Join")) d (form_at within.Condition k (codes "Fn::Join") d is here))
      (told IsPlainOperand (bytes_eq k (codes "Fn::Select")) _ _ (λ is. plain_select (has_marker (codes "Fn::Select")) d (form_at within.Condition k (codes "Fn::Select") d is here))
      (told IsPlainOperand (bytes_eq k (codes "Fn::Split")) _ _ (λ is. plain_split (has_marker (codes "Fn::Split")) d (form_at within.Condition k (codes "Fn::Split") d is here))
      (told IsPlainOperand (bytes_eq k (codes "Fn::If")) _ _ (never (bytes_eq k (codes "Fn::If")) allowed.no_choice)
      (told IsPlainOperand (bytes_eq k (codes "Fn::FindInMap")) _ _ (λ is. plain_find_in_map (has_marker (codes "Fn::FindInMap")) d (form_at within.Condition k (codes "Fn::FindInMap") d is here))
      (told IsPlainOperand (bytes_eq k (codes "Fn::ImportValue")) _ _ (never (bytes_eq k (codes "Fn::ImportValue")) allowed.no_import)
      (told IsPlainOperand (bytes_eq k (codes "Fn::Sub")) _ _ (λ is. plain_substituted (has_marker (codes "Fn::Sub")) d (form_at within.Condition k (codes "Fn::Sub") d is here))
      (told IsPlainOperand (bytes_eq k (codes "CDK::Concat")) _ _ (λ is. plain_concat (has_marker (codes "CDK::Concat")) d (form_at within.Condition k (codes "CDK::Concat") d is here))
      (told IsPlainOperand (bytes_eq k (codes "CDK::Context")) _ _ (λ is. plain_context d)
      (told IsPlainOperand (bytes_eq k (codes "CDK::Lazy")) _ None (never (bytes_eq k (codes "CDK::Lazy")) allowed.no_lazy) tt)))))))))))

  plain_join : (marked : Bool) (d : Data) → StandsAt marked (roles.JoinArguments within.Condition) d → All IsPlainOperand (join_of d)
  plain_join marked (array (item a (item b no_items))) h =
      let list = plain_read list_place false b (second_stands (roles.JoinArguments within.Condition) a b no_items (items_in marked (roles.JoinArguments within.Condition) (item a (item b no_items)) h)) in
      made_then IsPlainOperand (λ t. option_map (expression.join t) (expression_of b)) (as_str a) (λ t. mapped IsPlainOperand IsPlainOperand (expression.join t) (expression_of b) (λ x c. c) list)
  plain_join marked d h = tt

  plain_select : (marked : Bool) (d : Data) → StandsAt marked (roles.SelectArguments within.Condition) d → All IsPlainOperand (select_of d)
  plain_select marked (array (item a (item b no_items))) h =
      let list = plain_read list_place false b (second_stands (roles.SelectArguments within.Condition) a b no_items (items_in marked (roles.SelectArguments within.Condition) (item a (item b no_items)) h)) in
      made_then IsPlainOperand (λ n. option_map (expression.select n) (expression_of b)) (option_and_then as_u64 (as_number a)) (λ n. mapped IsPlainOperand IsPlainOperand (expression.select n) (expression_of b) (λ x c. c) list)
  plain_select marked d h = tt

  plain_split : (marked : Bool) (d : Data) → StandsAt marked (roles.SplitArguments within.Condition) d → All IsPlainOperand (split_of d)
  plain_split marked (array (item a (item b no_items))) h =
      let text = plain_read text_place false b (second_stands (roles.SplitArguments within.Condition) a b no_items (items_in marked (roles.SplitArguments within.Condition) (item a (item b no_items)) h)) in
      made_then IsPlainOperand (λ t. option_map (expression.split t) (expression_of b)) (as_str a) (λ t. mapped IsPlainOperand IsPlainOperand (expression.split t) (expression_of b) (λ x c. c) text)
  plain_split marked d h = tt

  plain_find_in_map : (marked : Bool) (d : Data) → StandsAt marked (roles.FindInMapArguments within.Condition) d → All IsPlainOperand (find_in_map_of d)
  plain_find_in_map marked (array (item a (item b (item c no_items)))) h =
      let ins = items_in marked (roles.FindInMapArguments within.Condition) (item a (item b (item c no_items))) h in
      let first = plain_read text_place false b (second_stands (roles.FindInMapArguments within.Condition) a b (item c no_items) ins) in
      let other = plain_read text_place false c (third_stands (roles.FindInMapArguments within.Condition) a b c no_items ins) in
      made_then IsPlainOperand (λ m. option_and_then (λ x. option_map (expression.find_in_map m x) (expression_of c)) (expression_of b)) (as_str a)
      (λ m. then IsPlainOperand IsPlainOperand (λ x. option_map (expression.find_in_map m x) (expression_of c)) (expression_of b)
      (λ x s. mapped IsPlainOperand IsPlainOperand (expression.find_in_map m x) (expression_of c) (λ y u. (s, u)) other) first)
  plain_find_in_map marked d h = tt

  plain_concat : (marked : Bool) (d : Data) → StandsAt marked (roles.ConcatArguments within.Condition) d → All IsPlainOperand (concat_of d)
  plain_concat marked (array ds) h = mapped ArePlainOperands IsPlainOperand expression.concat (expressions_of ds) (λ es c. c) (plain_pieces ds 0 (items_in marked (roles.ConcatArguments within.Condition) ds h))
  plain_concat marked d h = tt

  plain_substituted : (marked : Bool) (d : Data) → StandsAt marked (roles.SubArgument within.Condition) d → All IsPlainOperand (substituted_of d)
  plain_substituted marked (string s) h = plain_sub s expression.no_fields tt (is_right marked (roles.SubArgument within.Condition) (string s) h)
  plain_substituted marked (array (item a (item (object ms) no_items))) h =
      let ins = items_in marked (roles.SubArgument within.Condition) (item a (item (object ms) no_items)) h in
      let text = is_right false (roles.SubText within.Condition) a (first_stands (roles.SubArgument within.Condition) 0 a (item (object ms) no_items) ins) in
      let variables = second_stands (roles.SubArgument within.Condition) a (object ms) no_items ins in
      with_variables a (fields_of ms) text (plain_variables ms (members_in false (roles.SubVariables within.Condition) ms variables))
  plain_substituted marked d h = tt
