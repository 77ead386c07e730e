-- An expression, where nothing is found in its place.
use Rattle.std.proofs.Common.{◌≡◌, ℕ, ◌+◌, List, [], suc, not, Bool, true, false, cond, codes, Option, Some, option_map, option_and_then, refl, ap, ◌∙◌, arith}
use Rattle.std.specs.Prelude.{◌||◌, ◌&&◌}
use Rattle.std.proofs.lemmas.Slice.Eq.{bytes_eq-Decides}
use Rattle.serde_json.specs.Data.{Data, null, boolean, number, string, array, object, Items, no_items, item, Members, no_members, member}
use Rattle.serde_json.specs.Find.{as_str, as_number, as_u64}
use Rattle.cdk_base.specs.Json.{is_form_key}
use Rattle.cdk_base.specs.Marker.{has_marker}
use Rattle.cdk_language.specs.Application.{expression_of, expressions_of, fields_of, form_of, has_form_key, ref_of, join_of, select_of, split_of, choice_of, find_in_map_of, concat_of, substituted_of, sub_of}
use Rattle.cdk_language.specs.Expression as expression
use Rattle.cdk_language.specs.Expression.{Expression, Fields}
use Rattle.cdk_language.specs.Findings.{in_items, in_members}
use Rattle.cdk_language.specs.Schema.{is, is_form, is_form_name, is_barred, is_filled, items_count, is_wrong_sub_text, is_no_object}
use Rattle.cdk_language.specs.Sub.{is_variable_name}
use Rattle.cdk_language.specs.declared.schema.Frame.TheVariants as frames
use Rattle.cdk_language.specs.declared.schema.Role.{Role}
use Rattle.cdk_language.specs.declared.schema.Role.TheVariants as roles
use Rattle.cdk_language.specs.declared.schema.Within.{Within}
use Rattle.cdk_doc.proofs.LawPlaces.{Found, IsCleanAt, clean, first_item, rest_items, first_member, rest_members, mapped, both, then, along, not_not, and_true, false_true, whole_found, text_found, such_text_found, index_found, too_many, by_test, nothing_there}
use Rattle.cdk_doc.proofs.LawArguments.{get_att_found, context_found, sub_found}

-- the places where an expression stands
pub data Place : Type 0 where
  anywhere : Place
  text_place : Place
  piece : Place
  list_place : Place

abbrev pub role_of : Place → Within → Role
role_of anywhere w = roles.Expression w
role_of text_place w = roles.TextPlace w
role_of piece w = roles.Piece w
role_of list_place w = roles.ListPlace w

-- a key of a form makes the object one
form_key : (k text : List ℕ) → is_form_key text ≡ true → is k text ≡ true → is_form_key k ≡ true
form_key k text h e = ap is_form_key ((bytes_eq-Decides k text).0 e) ∙ h

name_is_key : (k : List ℕ) (a b c d e f g h i j l m : Bool)
    → is k (codes "Ref") ≡ a → is k (codes "Fn::GetAtt") ≡ b → is k (codes "Fn::Join") ≡ c → is k (codes "Fn::Select") ≡ d → is k (codes "Fn::Split") ≡ e → is k (codes "Fn::If") ≡ f
    → is k (codes "Fn::FindInMap") ≡ g → is k (codes "Fn::ImportValue") ≡ h → is k (codes "Fn::Sub") ≡ i → is k (codes "CDK::Concat") ≡ j → is k (codes "CDK::Context") ≡ l → is k (codes "CDK::Lazy") ≡ m
    → (a || (b || (c || (d || (e || (f || (g || (h || (i || (j || (l || (m || false)))))))))))) ≡ true → is_form_key k ≡ true
name_is_key k true b c d e f g h i j l m p0 p1 p2 p3 p4 p5 p6 p7 p8 p9 p10 p11 q = form_key k (codes "Ref") refl p0
name_is_key k false true c d e f g h i j l m p0 p1 p2 p3 p4 p5 p6 p7 p8 p9 p10 p11 q = form_key k (codes "Fn::GetAtt") refl p1
name_is_key k false false true d e f g h i j l m p0 p1 p2 p3 p4 p5 p6 p7 p8 p9 p10 p11 q = form_key k (codes "Fn::Join") refl p2
name_is_key k false false false true e f g h i j l m p0 p1 p2 p3 p4 p5 p6 p7 p8 p9 p10 p11 q = form_key k (codes "Fn::Select") refl p3
name_is_key k false false false false true f g h i j l m p0 p1 p2 p3 p4 p5 p6 p7 p8 p9 p10 p11 q = form_key k (codes "Fn::Split") refl p4
name_is_key k false false false false false true g h i j l m p0 p1 p2 p3 p4 p5 p6 p7 p8 p9 p10 p11 q = form_key k (codes "Fn::If") refl p5
name_is_key k false false false false false false true h i j l m p0 p1 p2 p3 p4 p5 p6 p7 p8 p9 p10 p11 q = form_key k (codes "Fn::FindInMap") refl p6
name_is_key k false false false false false false false true i j l m p0 p1 p2 p3 p4 p5 p6 p7 p8 p9 p10 p11 q = form_key k (codes "Fn::ImportValue") refl p7
name_is_key k false false false false false false false false true j l m p0 p1 p2 p3 p4 p5 p6 p7 p8 p9 p10 p11 q = form_key k (codes "Fn::Sub") refl p8
name_is_key k false false false false false false false false false true l m p0 p1 p2 p3 p4 p5 p6 p7 p8 p9 p10 p11 q = form_key k (codes "CDK::Concat") refl p9
name_is_key k false false false false false false false false false false true m p0 p1 p2 p3 p4 p5 p6 p7 p8 p9 p10 p11 q = form_key k (codes "CDK::Context") refl p10
name_is_key k false false false false false false false false false false false true p0 p1 p2 p3 p4 p5 p6 p7 p8 p9 p10 p11 q = form_key k (codes "CDK::Lazy") refl p11
name_is_key k false false false false false false false false false false false false p0 p1 p2 p3 p4 p5 p6 p7 p8 p9 p10 p11 q = absurd (cc)

is_form_key_there : (w : Within) (ms : Members) → is_form w ms ≡ true → has_form_key ms ≡ true
is_form_key_there w no_members h = absurd (cc)
is_form_key_there w (member k d no_members) h = ap (λ b. b || false) (name_is_key k _ _ _ _ _ _ _ _ _ _ _ _ refl refl refl refl refl refl refl refl refl refl refl refl (and_true (is_form_name k) (not (is_barred w k d)) h).0)
is_form_key_there w (member k d (member l e ms)) h = absurd (cc)

-- an object, by whether it has a key of a form
abbrev Object : Members → Option Expression
Object ms = expression_of (object ms)

plain_or_form : (b : Bool) (w : Within) (ms : Members) → (b && not (is_form w ms)) ≡ false → in_members (cond b (frames.Form w) (frames.Fields w)) ms ≡ []
    → (in_members (frames.Fields w) ms ≡ [] → Found (fields_of ms)) → (is_form w ms ≡ true → in_members (frames.Form w) ms ≡ [] → Found (form_of ms))
    → Found (cond b (form_of ms) (option_map expression.object (fields_of ms)))
plain_or_form false w ms h e fields form = mapped expression.object (fields_of ms) (fields e)
plain_or_form true w ms h e fields form = form (not_not (is_form w ms) h) e

only_form : (w : Within) (ms : Members) → not (is_form w ms) ≡ false → in_members (frames.Form w) ms ≡ []
    → (is_form w ms ≡ true → in_members (frames.Form w) ms ≡ [] → Found (form_of ms)) → Found (Object ms)
only_form w ms h e form =
    let is = not_not (is_form w ms) h in
    along _ _ (ap (λ b. cond b (form_of ms) (option_map expression.object (fields_of ms))) (is_form_key_there w ms is)) (form is e)

object_found : (p : Place) (w : Within) (marked : Bool) (ms : Members) → IsCleanAt marked (role_of p w) (object ms)
    → (in_members (frames.Fields w) ms ≡ [] → Found (fields_of ms)) → (is_form w ms ≡ true → in_members (frames.Form w) ms ≡ [] → Found (form_of ms)) → Found (Object ms)
object_found anywhere w marked ms e fields form = let c = clean marked (roles.Expression w) (object ms) e in plain_or_form (has_form_key ms) w ms c.right c.deeper fields form
object_found text_place w marked ms e fields form = let c = clean marked (roles.TextPlace w) (object ms) e in only_form w ms c.right c.deeper form
object_found piece w marked ms e fields form = let c = clean marked (roles.Piece w) (object ms) e in only_form w ms c.right c.deeper form
object_found list_place w marked ms e fields form = let c = clean marked (roles.ListPlace w) (object ms) e in only_form w ms c.right c.deeper form

-- where an array may stand, its items are expressions
array_found : (p : Place) (w : Within) (marked : Bool) (ds : Items) → IsCleanAt marked (role_of p w) (array ds)
    → (in_items (roles.Expression w) 0 ds ≡ [] → Found (expressions_of ds)) → (in_items (roles.ListPlace w) 0 ds ≡ [] → Found (expressions_of ds)) → Found (option_map expression.list (expressions_of ds))
array_found anywhere w marked ds e items listed = mapped expression.list (expressions_of ds) (items (clean marked (roles.Expression w) (array ds) e).deeper)
array_found text_place w marked ds e items listed = absurd (cc)
array_found piece w marked ds e items listed = absurd (cc)
array_found list_place w marked ds e items listed = mapped expression.list (expressions_of ds) (listed (clean marked (roles.ListPlace w) (array ds) e).deeper)

text_held : (w : Within) (d : Data) → IsCleanAt false (roles.SubText w) d → (s : List ℕ) × (as_str d ≡ Some s) × (is_wrong_sub_text w s ≡ false)
text_held w (string s) e = (s, refl, (clean false (roles.SubText w) (string s) e).right)
text_held w null e = absurd (cc)
text_held w (boolean b) e = absurd (cc)
text_held w (number n) e = absurd (cc)
text_held w (array ds) e = absurd (cc)
text_held w (object ms) e = absurd (cc)

variable_role : {A : Type 0} (b marked : Bool) (w : Within) (d : Data) → (IsCleanAt marked (roles.TextPlace w) d → A) → IsCleanAt marked (cond b (roles.TextPlace w) roles.Nothing) d → A
variable_role true marked w d f e = f e
variable_role false marked w d f e = nothing_there marked d e

filled_text : (marked : Bool) (d : Data) → IsCleanAt marked roles.NonEmptyText d → Found (as_str d)
filled_text marked d e = let t = such_text_found is_filled d (clean marked roles.NonEmptyText d e).right in (t.0, t.1)

filled_found : (marked : Bool) (d : Data) → IsCleanAt marked roles.NonEmptyText d → Found (option_map expression.import_value (as_str d))
filled_found marked d e = mapped expression.import_value (as_str d) (filled_text marked d e)

three : {A B C X : Type 0} (f : A → B → C → X) (x : Option A) (y : Option B) (z : Option C) → Found x → Found y → Found z → Found (option_and_then (λ a. option_and_then (λ b. option_map (f a b) z) y) x)
three f x y z h k l = then (λ a. option_and_then (λ b. option_map (f a b) z) y) x h (both (f h.0) y z k l)

with_variables : (w : Within) (o : Option (List ℕ)) (vs : Option Fields) → (s : List ℕ) × (o ≡ Some s) × (is_wrong_sub_text w s ≡ false) → Found vs → Found (option_and_then (λ s. option_and_then (sub_of s) vs) o)
with_variables w o vs t h = then (λ s. option_and_then (sub_of s) vs) o (t.0, t.1) (then (sub_of t.0) vs h (sub_found w t.0 h.0 t.2))

not_object : {A : Type 0} (w : Within) (d : Data) → IsCleanAt false (roles.SubVariables w) d → is_no_object d ≡ true → A
not_object w d e h = false_true (is_no_object d) (clean false (roles.SubVariables w) d e).right h

mutual
  pub expression_found : (p : Place) (w : Within) (marked : Bool) (d : Data) → IsCleanAt marked (role_of p w) d → Found (expression_of d)
  expression_found p w marked (boolean b) e = (_, refl)
  expression_found p w marked (string s) e = (_, refl)
  expression_found p w marked (number n) e = mapped expression.whole _ (whole_found n (clean marked (role_of p w) (number n) e).whole)
  expression_found anywhere w marked null e = absurd (cc)
  expression_found text_place w marked null e = absurd (cc)
  expression_found piece w marked null e = absurd (cc)
  expression_found list_place w marked null e = absurd (cc)
  expression_found p w marked (array ds) e = array_found p w marked ds e (items_found w ds 0) (listed_found w ds 0)
  expression_found p w marked (object ms) e = object_found p w marked ms e (fields_found w ms) (form_found w ms)

  items_found : (w : Within) (ds : Items) (n : ℕ) → in_items (roles.Expression w) n ds ≡ [] → Found (expressions_of ds)
  items_found w no_items n e = (_, refl)
  items_found w (item d ds) n e = both expression.expression (expression_of d) (expressions_of ds) (expression_found anywhere w false d (first_item (roles.Expression w) n d ds e)) (items_found w ds (n + 1) (rest_items (roles.Expression w) n d ds e))

  listed_found : (w : Within) (ds : Items) (n : ℕ) → in_items (roles.ListPlace w) n ds ≡ [] → Found (expressions_of ds)
  listed_found w no_items n e = (_, refl)
  listed_found w (item d ds) n e = both expression.expression (expression_of d) (expressions_of ds) (expression_found anywhere w false d (first_item (roles.ListPlace w) n d ds e)) (listed_found w ds (n + 1) (rest_items (roles.ListPlace w) n d ds e))

  pieces_found : (w : Within) (ds : Items) (n : ℕ) → in_items (roles.ConcatArguments w) n ds ≡ [] → Found (expressions_of ds)
  pieces_found w no_items n e = (_, refl)
  pieces_found w (item d ds) n e = both expression.expression (expression_of d) (expressions_of ds) (expression_found piece w false d (first_item (roles.ConcatArguments w) n d ds e)) (pieces_found w ds (n + 1) (rest_items (roles.ConcatArguments w) n d ds e))

  pub fields_found : (w : Within) (ms : Members) → in_members (frames.Fields w) ms ≡ [] → Found (fields_of ms)
  fields_found w no_members e = (_, refl)
  fields_found w (member k d ms) e = both (expression.field k) (expression_of d) (fields_of ms) (expression_found anywhere w (has_marker k) d (first_member (frames.Fields w) k d ms e)) (fields_found w ms (rest_members (frames.Fields w) k d ms e))

  variables_found : (w : Within) (ms : Members) → in_members (frames.SubVariables w) ms ≡ [] → Found (fields_of ms)
  variables_found w no_members e = (_, refl)
  variables_found w (member k d ms) e =
      both (expression.field k) (expression_of d) (fields_of ms) (variable_role (is_variable_name k) (has_marker k) w d (expression_found text_place w (has_marker k) d) (first_member (frames.SubVariables w) k d ms e)) (variables_found w ms (rest_members (frames.SubVariables w) k d ms e))

  form_found : (w : Within) (ms : Members) → is_form w ms ≡ true → in_members (frames.Form w) ms ≡ [] → Found (form_of ms)
  form_found w no_members h e = absurd (cc)
  form_found w (member k d (member l f ms)) h e = absurd (cc)
  form_found w (member k d no_members) h e =
      let m = has_marker k in
      by_test (is k (codes "Ref")) m roles.Text _ d _ _ (λ a. mapped ref_of (as_str d) (text_found m d a))
      (λ a0. by_test (is k (codes "Fn::GetAtt")) m roles.GetAttArguments _ d _ _ (λ a. get_att_found m d a)
      (λ a0. by_test (is k (codes "Fn::Join")) m (roles.JoinArguments w) _ d _ _ (λ a. join_found w m d a)
      (λ a0. by_test (is k (codes "Fn::Select")) m (roles.SelectArguments w) _ d _ _ (λ a. select_found w m d a)
      (λ a0. by_test (is k (codes "Fn::Split")) m (roles.SplitArguments w) _ d _ _ (λ a. split_found w m d a)
      (λ a0. by_test (is k (codes "Fn::If")) m (roles.IfArguments w) _ d _ _ (λ a. choice_found w m d a)
      (λ a0. by_test (is k (codes "Fn::FindInMap")) m (roles.FindInMapArguments w) _ d _ _ (λ a. find_in_map_found w m d a)
      (λ a0. by_test (is k (codes "Fn::ImportValue")) m roles.NonEmptyText _ d _ _ (λ a. filled_found m d a)
      (λ a0. by_test (is k (codes "Fn::Sub")) m (roles.SubArgument w) _ d _ _ (λ a. substituted_found w m d a)
      (λ a0. by_test (is k (codes "CDK::Concat")) m (roles.ConcatArguments w) _ d _ _ (λ a. concat_found w m d a)
      (λ a0. by_test (is k (codes "CDK::Context")) m roles.ContextArguments _ d _ _ (λ a. context_found m d a)
      (λ a0. by_test (is k (codes "CDK::Lazy")) m roles.Text _ d _ _ (λ a. mapped expression.lazy (as_str d) (text_found m d a))
      (λ z. nothing_there m d z) a0) a0) a0) a0) a0) a0) a0) a0) a0) a0) a0) (first_member (frames.Form w) k d no_members e)

  join_found : (w : Within) (marked : Bool) (d : Data) → IsCleanAt marked (roles.JoinArguments w) d → Found (join_of d)
  join_found w marked (array (item a (item b no_items))) e =
      let ins = (clean marked (roles.JoinArguments w) (array (item a (item b no_items))) e).deeper in
      both expression.join (as_str a) (expression_of b) (text_found false a (first_item (roles.JoinArguments w) 0 a (item b no_items) ins)) (expression_found list_place w false b (first_item (roles.JoinArguments w) 1 b no_items (rest_items (roles.JoinArguments w) 0 a (item b no_items) ins)))
  join_found w marked null e = absurd (cc)
  join_found w marked (boolean b) e = absurd (cc)
  join_found w marked (number n) e = absurd (cc)
  join_found w marked (string s) e = absurd (cc)
  join_found w marked (object ms) e = absurd (cc)
  join_found w marked (array no_items) e = absurd (cc)
  join_found w marked (array (item a no_items)) e = absurd (cc)
  join_found w marked (array (item a (item b (item c ds)))) e = too_many (suc (suc (suc (items_count ds)))) 2 2 (omega arith) (clean marked (roles.JoinArguments w) (array (item a (item b (item c ds)))) e).right

  select_found : (w : Within) (marked : Bool) (d : Data) → IsCleanAt marked (roles.SelectArguments w) d → Found (select_of d)
  select_found w marked (array (item a (item b no_items))) e =
      let ins = (clean marked (roles.SelectArguments w) (array (item a (item b no_items))) e).deeper in
      both expression.select (option_and_then as_u64 (as_number a)) (expression_of b) (index_found false a (first_item (roles.SelectArguments w) 0 a (item b no_items) ins)) (expression_found list_place w false b (first_item (roles.SelectArguments w) 1 b no_items (rest_items (roles.SelectArguments w) 0 a (item b no_items) ins)))
  select_found w marked null e = absurd (cc)
  select_found w marked (boolean b) e = absurd (cc)
  select_found w marked (number n) e = absurd (cc)
  select_found w marked (string s) e = absurd (cc)
  select_found w marked (object ms) e = absurd (cc)
  select_found w marked (array no_items) e = absurd (cc)
  select_found w marked (array (item a no_items)) e = absurd (cc)
  select_found w marked (array (item a (item b (item c ds)))) e = too_many (suc (suc (suc (items_count ds)))) 2 2 (omega arith) (clean marked (roles.SelectArguments w) (array (item a (item b (item c ds)))) e).right

  split_found : (w : Within) (marked : Bool) (d : Data) → IsCleanAt marked (roles.SplitArguments w) d → Found (split_of d)
  split_found w marked (array (item a (item b no_items))) e =
      let ins = (clean marked (roles.SplitArguments w) (array (item a (item b no_items))) e).deeper in
      both expression.split (as_str a) (expression_of b) (filled_text false a (first_item (roles.SplitArguments w) 0 a (item b no_items) ins)) (expression_found text_place w false b (first_item (roles.SplitArguments w) 1 b no_items (rest_items (roles.SplitArguments w) 0 a (item b no_items) ins)))
  split_found w marked null e = absurd (cc)
  split_found w marked (boolean b) e = absurd (cc)
  split_found w marked (number n) e = absurd (cc)
  split_found w marked (string s) e = absurd (cc)
  split_found w marked (object ms) e = absurd (cc)
  split_found w marked (array no_items) e = absurd (cc)
  split_found w marked (array (item a no_items)) e = absurd (cc)
  split_found w marked (array (item a (item b (item c ds)))) e = too_many (suc (suc (suc (items_count ds)))) 2 2 (omega arith) (clean marked (roles.SplitArguments w) (array (item a (item b (item c ds)))) e).right

  choice_found : (w : Within) (marked : Bool) (d : Data) → IsCleanAt marked (roles.IfArguments w) d → Found (choice_of d)
  choice_found w marked (array (item a (item b (item c no_items)))) e =
      let ins = (clean marked (roles.IfArguments w) (array (item a (item b (item c no_items)))) e).deeper in
      let later = rest_items (roles.IfArguments w) 0 a (item b (item c no_items)) ins in
      three expression.choice (as_str a) (expression_of b) (expression_of c) (text_found false a (first_item (roles.IfArguments w) 0 a (item b (item c no_items)) ins)) (expression_found anywhere w false b (first_item (roles.IfArguments w) 1 b (item c no_items) later))
      (expression_found anywhere w false c (first_item (roles.IfArguments w) 2 c no_items (rest_items (roles.IfArguments w) 1 b (item c no_items) later)))
  choice_found w marked null e = absurd (cc)
  choice_found w marked (boolean b) e = absurd (cc)
  choice_found w marked (number n) e = absurd (cc)
  choice_found w marked (string s) e = absurd (cc)
  choice_found w marked (object ms) e = absurd (cc)
  choice_found w marked (array no_items) e = absurd (cc)
  choice_found w marked (array (item a no_items)) e = absurd (cc)
  choice_found w marked (array (item a (item b no_items))) e = absurd (cc)
  choice_found w marked (array (item a (item b (item c (item d ds))))) e = too_many (suc (suc (suc (suc (items_count ds))))) 3 3 (omega arith) (clean marked (roles.IfArguments w) (array (item a (item b (item c (item d ds))))) e).right

  find_in_map_found : (w : Within) (marked : Bool) (d : Data) → IsCleanAt marked (roles.FindInMapArguments w) d → Found (find_in_map_of d)
  find_in_map_found w marked (array (item a (item b (item c no_items)))) e =
      let ins = (clean marked (roles.FindInMapArguments w) (array (item a (item b (item c no_items)))) e).deeper in
      let later = rest_items (roles.FindInMapArguments w) 0 a (item b (item c no_items)) ins in
      three expression.find_in_map (as_str a) (expression_of b) (expression_of c) (text_found false a (first_item (roles.FindInMapArguments w) 0 a (item b (item c no_items)) ins)) (expression_found text_place w false b (first_item (roles.FindInMapArguments w) 1 b (item c no_items) later))
      (expression_found text_place w false c (first_item (roles.FindInMapArguments w) 2 c no_items (rest_items (roles.FindInMapArguments w) 1 b (item c no_items) later)))
  find_in_map_found w marked null e = absurd (cc)
  find_in_map_found w marked (boolean b) e = absurd (cc)
  find_in_map_found w marked (number n) e = absurd (cc)
  find_in_map_found w marked (string s) e = absurd (cc)
  find_in_map_found w marked (object ms) e = absurd (cc)
  find_in_map_found w marked (array no_items) e = absurd (cc)
  find_in_map_found w marked (array (item a no_items)) e = absurd (cc)
  find_in_map_found w marked (array (item a (item b no_items))) e = absurd (cc)
  find_in_map_found w marked (array (item a (item b (item c (item d ds))))) e = too_many (suc (suc (suc (suc (items_count ds))))) 3 3 (omega arith) (clean marked (roles.FindInMapArguments w) (array (item a (item b (item c (item d ds))))) e).right

  concat_found : (w : Within) (marked : Bool) (d : Data) → IsCleanAt marked (roles.ConcatArguments w) d → Found (concat_of d)
  concat_found w marked (array ds) e = mapped expression.concat (expressions_of ds) (pieces_found w ds 0 (clean marked (roles.ConcatArguments w) (array ds) e).deeper)
  concat_found w marked null e = absurd (cc)
  concat_found w marked (boolean b) e = absurd (cc)
  concat_found w marked (number n) e = absurd (cc)
  concat_found w marked (string s) e = absurd (cc)
  concat_found w marked (object ms) e = absurd (cc)

  substituted_found : (w : Within) (marked : Bool) (d : Data) → IsCleanAt marked (roles.SubArgument w) d → Found (substituted_of d)
  substituted_found w marked (string s) e = sub_found w s expression.no_fields (clean marked (roles.SubArgument w) (string s) e).right
  substituted_found w marked (array (item a (item (object ms) no_items))) e =
      let ins = (clean marked (roles.SubArgument w) (array (item a (item (object ms) no_items))) e).deeper in
      let t = text_held w a (first_item (roles.SubArgument w) 0 a (item (object ms) no_items) ins) in
      let vs = variables_found w ms (clean false (roles.SubVariables w) (object ms) (first_item (roles.SubArgument w) 1 (object ms) no_items (rest_items (roles.SubArgument w) 0 a (item (object ms) no_items) ins))).deeper in
      with_variables w (as_str a) (fields_of ms) t vs
  substituted_found w marked null e = absurd (cc)
  substituted_found w marked (boolean b) e = absurd (cc)
  substituted_found w marked (number n) e = absurd (cc)
  substituted_found w marked (object ms) e = absurd (cc)
  substituted_found w marked (array no_items) e = absurd (cc)
  substituted_found w marked (array (item a no_items)) e = absurd (cc)
  substituted_found w marked (array (item a (item null no_items))) e = not_object w null (first_item (roles.SubArgument w) 1 null no_items (rest_items (roles.SubArgument w) 0 a (item null no_items) (clean marked (roles.SubArgument w) (array (item a (item null no_items))) e).deeper)) refl
  substituted_found w marked (array (item a (item (boolean b) no_items))) e = not_object w (boolean b) (first_item (roles.SubArgument w) 1 (boolean b) no_items (rest_items (roles.SubArgument w) 0 a (item (boolean b) no_items) (clean marked (roles.SubArgument w) (array (item a (item (boolean b) no_items))) e).deeper)) refl
  substituted_found w marked (array (item a (item (number n) no_items))) e = not_object w (number n) (first_item (roles.SubArgument w) 1 (number n) no_items (rest_items (roles.SubArgument w) 0 a (item (number n) no_items) (clean marked (roles.SubArgument w) (array (item a (item (number n) no_items))) e).deeper)) refl
  substituted_found w marked (array (item a (item (string s) no_items))) e = not_object w (string s) (first_item (roles.SubArgument w) 1 (string s) no_items (rest_items (roles.SubArgument w) 0 a (item (string s) no_items) (clean marked (roles.SubArgument w) (array (item a (item (string s) no_items))) e).deeper)) refl
  substituted_found w marked (array (item a (item (array ds) no_items))) e = not_object w (array ds) (first_item (roles.SubArgument w) 1 (array ds) no_items (rest_items (roles.SubArgument w) 0 a (item (array ds) no_items) (clean marked (roles.SubArgument w) (array (item a (item (array ds) no_items))) e).deeper)) refl
  substituted_found w marked (array (item a (item b (item c ds)))) e = too_many (suc (suc (suc (items_count ds)))) 2 2 (omega arith) (clean marked (roles.SubArgument w) (array (item a (item b (item c ds)))) e).right
