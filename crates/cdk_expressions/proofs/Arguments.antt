-- The forms by what stands in their arrays.
use Rattle.std.proofs.Common.{◌≡◌, ℕ, List, Option, Some, None, Box, Global, rules, option_map, option_and_then, Result, Err, refl, ap, sym, subst, ◌∙◌}
use Rattle.serde_json.specs.Data.{Data, null, boolean, number, string, array, object, Items, no_items, item, Members}
use Rattle.serde_json.specs.Find.{as_str, as_number, as_u64, as_object}
use Rattle.cdk_language.specs.Application.{expression_of, fields_of, context_of, join_of, select_of, split_of, choice_of, find_in_map_of, substituted_of, sub_of}
use Rattle.cdk_language.specs.Expression as expression
use Rattle.cdk_language.specs.Expression.{Expression, view}
use Rattle.cdk_language.specs.declared.expression.Expr.{Expr, Join, Select, Split, If, FindInMap, the_lemmas}
use Rattle.cdk_members.specs.Gives.{Gives}
use Rattle.cdk_members.specs.declared.error.ReadError.{ReadError}
use Rattle.cdk_members.specs.declared.error.ReadError.TheVariants as errors
use Rattle.cdk_members.specs.Arrays.{lone_text, text_then, index_then}
use Rattle.cdk_expressions.specs.Arguments.{both, text_then_expression, text_then_two_expressions}

-- ---- what follows from a first item that may be missing

mapped_with_second : {X Y Z : Type 0} (f : X → Y → Z) (o : Option X) (y : Y) → option_map (λ x. f x y) o ≡ option_map (λ (p : X × Y). f p.0 p.1) (option_map (λ x. (x, y)) o)
mapped_with_second f None y = refl
mapped_with_second f (Some x) y = refl

paired_once : (f : List ℕ → Expression → Expression) (s : List ℕ) (x : Option Expression)
    → option_map (f s) x ≡ option_map (λ (p : List ℕ × Expression). f p.0 p.1) (option_map (λ e. (s, e)) x)
paired_once f s None = refl
paired_once f s (Some e) = refl

paired_twice : (f : List ℕ → Expression → Expression → Expression) (s : List ℕ) (x y : Option Expression)
    → option_and_then (λ a. option_map (f s a) y) x ≡ option_map (λ (p : List ℕ × (Expression × Expression)). f p.0 p.1.0 p.1.1) (option_map (λ e. (s, e)) (both x y))
paired_twice f s None y = refl
paired_twice f s (Some a) None = refl
paired_twice f s (Some a) (Some b) = refl

before_one : (f : List ℕ → Expression → Expression) (o : Option (List ℕ)) (d : Data)
    → option_and_then (λ s. option_map (f s) (expression_of d)) o
    ≡ option_map (λ (p : List ℕ × Expression). f p.0 p.1) (option_and_then (λ (p : List ℕ × Data). option_map (λ e. (p.0, e)) (expression_of p.1)) (option_map (λ s. (s, d)) o))
before_one f None d = refl
before_one f (Some s) d = paired_once f s (expression_of d)

before_two : (f : List ℕ → Expression → Expression → Expression) (o : Option (List ℕ)) (d e : Data)
    → option_and_then (λ s. option_and_then (λ a. option_map (f s a) (expression_of e)) (expression_of d)) o
    ≡ option_map (λ (p : List ℕ × (Expression × Expression)). f p.0 p.1.0 p.1.1)
    (option_and_then (λ (p : List ℕ × (Data × Data)). option_map (λ x. (p.0, x)) (both (expression_of p.1.0) (expression_of p.1.1))) (option_map (λ s. (s, (d, e))) o))
before_two f None d e = refl
before_two f (Some s) d e = paired_twice f s (expression_of d) (expression_of e)

with_second : {X Y Z : Type 0} (f : X → Y → Option Z) (o : Option X) (y : Y) → option_and_then (λ x. f x y) o ≡ option_and_then (λ (p : X × Y). f p.0 p.1) (option_map (λ x. (x, y)) o)
with_second f None y = refl
with_second f (Some x) y = refl

-- what is refused of a part is refused of the whole
pub refused : {X Y V W : Type 0} (v : X → V) (w : Y → W) (f : V → W) (r : Result Y ReadError) (e : ReadError) (part : Option V) (whole : Option W)
    → whole ≡ option_map f part → r ≡ Err e → Gives v (Err e) part → Gives w r whole
refused v w f r errors.Memory part whole is same h = subst (λ x. Gives w x whole) (sym same) tt
refused v w f r errors.Shape part whole is same h = subst (λ x. Gives w x whole) (sym same) (is ∙ ap (option_map f) h)

-- ---- what is read, as it is seen

abbrev pub boxed_view : Box Expr Global → Expression
boxed_view x = view x.value

abbrev pub pair_view : List ℕ × Box Expr Global → List ℕ × Expression
pair_view p = (p.0, view p.1.value)

abbrev pub triple_view : List ℕ × (Box Expr Global × Box Expr Global) → List ℕ × (Expression × Expression)
triple_view p = (p.0, (view p.1.0.value, view p.1.1.value))

pub view-Join : (d : List ℕ) (x : Box Expr Global) → view (Join d x) ≡ expression.join d (view x.value)
view-Join d x = search (rules, the_lemmas)

pub view-Select : (n : ℕ) (x : Box Expr Global) → view (Select n x) ≡ expression.select n (view x.value)
view-Select n x = search (rules, the_lemmas)

pub view-Split : (d : List ℕ) (x : Box Expr Global) → view (Split d x) ≡ expression.split d (view x.value)
view-Split d x = search (rules, the_lemmas)

pub view-If : (c : List ℕ) (x y : Box Expr Global) → view (If c x y) ≡ expression.choice c (view x.value) (view y.value)
view-If c x y = search (rules, the_lemmas)

pub view-FindInMap : (m : List ℕ) (x y : Box Expr Global) → view (FindInMap m x y) ≡ expression.find_in_map m (view x.value) (view y.value)
view-FindInMap m x y = search (rules, the_lemmas)

-- ---- each form

pub lone_context : (d : Data) (k : List ℕ) → Some k ≡ lone_text d → context_of d ≡ Some (expression.context k None)
lone_context null k h = absurd (cc)
lone_context (boolean b) k h = absurd (cc)
lone_context (number n) k h = absurd (cc)
lone_context (string s) k h = absurd (cc)
lone_context (object ms) k h = absurd (cc)
lone_context (array no_items) k h = absurd (cc)
lone_context (array (item d no_items)) k h = ap (option_map (λ s. expression.context s None)) (sym h)
lone_context (array (item d (item e ds))) k h = absurd (cc)

pub context_by : (d : Data) → None ≡ lone_text d → context_of d ≡ option_map (λ p. expression.context p.0 (Some p.1)) (text_then d)
context_by null h = refl
context_by (boolean b) h = refl
context_by (number n) h = refl
context_by (string s) h = refl
context_by (object ms) h = refl
context_by (array no_items) h = refl
context_by (array (item d no_items)) h = ap (option_map (λ s. expression.context s None)) (sym h)
context_by (array (item d (item e no_items))) h = mapped_with_second (λ s x. expression.context s (Some x)) (as_str d) e
context_by (array (item d (item e (item f ds)))) h = refl

select_by : (d : Data) → select_of d ≡ option_and_then (λ (p : ℕ × Data). option_map (expression.select p.0) (expression_of p.1)) (index_then d)
select_by null = refl
select_by (boolean b) = refl
select_by (number n) = refl
select_by (string s) = refl
select_by (object ms) = refl
select_by (array no_items) = refl
select_by (array (item d no_items)) = refl
select_by (array (item d (item e no_items))) = with_second (λ n x. option_map (expression.select n) (expression_of x)) (option_and_then as_u64 (as_number d)) e
select_by (array (item d (item e (item f ds)))) = refl

pub select_at : (d : Data) (n : ℕ) (e : Data) → Some (n, e) ≡ index_then d → select_of d ≡ option_map (expression.select n) (expression_of e)
select_at d n e h = select_by d ∙ ap (option_and_then (λ (p : ℕ × Data). option_map (expression.select p.0) (expression_of p.1))) (sym h)

abbrev pub join_with : List ℕ × Expression → Expression
join_with p = expression.join p.0 p.1

pub join_by : (d : Data) → join_of d ≡ option_map join_with (text_then_expression d)
join_by null = refl
join_by (boolean b) = refl
join_by (number n) = refl
join_by (string s) = refl
join_by (object ms) = refl
join_by (array no_items) = refl
join_by (array (item d no_items)) = refl
join_by (array (item d (item e no_items))) = before_one expression.join (as_str d) e
join_by (array (item d (item e (item f ds)))) = refl

abbrev pub split_with : List ℕ × Expression → Expression
split_with p = expression.split p.0 p.1

pub split_by : (d : Data) → split_of d ≡ option_map split_with (text_then_expression d)
split_by null = refl
split_by (boolean b) = refl
split_by (number n) = refl
split_by (string s) = refl
split_by (object ms) = refl
split_by (array no_items) = refl
split_by (array (item d no_items)) = refl
split_by (array (item d (item e no_items))) = before_one expression.split (as_str d) e
split_by (array (item d (item e (item f ds)))) = refl

abbrev pub choice_with : List ℕ × (Expression × Expression) → Expression
choice_with p = expression.choice p.0 p.1.0 p.1.1

pub choice_by : (d : Data) → choice_of d ≡ option_map choice_with (text_then_two_expressions d)
choice_by null = refl
choice_by (boolean b) = refl
choice_by (number n) = refl
choice_by (string s) = refl
choice_by (object ms) = refl
choice_by (array no_items) = refl
choice_by (array (item d no_items)) = refl
choice_by (array (item d (item e no_items))) = refl
choice_by (array (item d (item e (item f no_items)))) = before_two expression.choice (as_str d) e f
choice_by (array (item d (item e (item f (item g ds))))) = refl

abbrev pub find_in_map_with : List ℕ × (Expression × Expression) → Expression
find_in_map_with p = expression.find_in_map p.0 p.1.0 p.1.1

pub find_in_map_by : (d : Data) → find_in_map_of d ≡ option_map find_in_map_with (text_then_two_expressions d)
find_in_map_by null = refl
find_in_map_by (boolean b) = refl
find_in_map_by (number n) = refl
find_in_map_by (string s) = refl
find_in_map_by (object ms) = refl
find_in_map_by (array no_items) = refl
find_in_map_by (array (item d no_items)) = refl
find_in_map_by (array (item d (item e no_items))) = refl
find_in_map_by (array (item d (item e (item f no_items)))) = before_two expression.find_in_map (as_str d) e f
find_in_map_by (array (item d (item e (item f (item g ds))))) = refl

-- a text with the variables behind it
abbrev text_then_members : Data → Option (List ℕ × Members)
text_then_members d = option_and_then (λ p. option_map (λ ms. (p.0, ms)) (as_object p.1)) (text_then d)

abbrev with_fields : List ℕ × Members → Option Expression
with_fields p = option_and_then (sub_of p.0) (fields_of p.1)

no_variables : (o : Option (List ℕ)) (d : Data) → as_object d ≡ None → None ≡ option_and_then with_fields (option_and_then (λ (p : List ℕ × Data). option_map (λ ms. (p.0, ms)) (as_object p.1)) (option_map (λ s. (s, d)) o))
no_variables None d h = refl
no_variables (Some s) d h = ap (λ x. option_and_then with_fields (option_map (λ ms. (s, ms)) x)) (sym h)

variables : (o : Option (List ℕ)) (ms : Members) → option_and_then (λ s. option_and_then (sub_of s) (fields_of ms)) o ≡ option_and_then with_fields (option_and_then (λ (p : List ℕ × Data). option_map (λ ms. (p.0, ms)) (as_object p.1)) (option_map (λ s. (s, object ms)) o))
variables None ms = refl
variables (Some s) ms = refl

two_with_variables : (d e : Data) → substituted_of (array (item d (item e no_items))) ≡ option_and_then with_fields (text_then_members (array (item d (item e no_items))))
two_with_variables d null = no_variables (as_str d) null refl
two_with_variables d (boolean b) = no_variables (as_str d) (boolean b) refl
two_with_variables d (number n) = no_variables (as_str d) (number n) refl
two_with_variables d (string s) = no_variables (as_str d) (string s) refl
two_with_variables d (array es) = no_variables (as_str d) (array es) refl
two_with_variables d (object ms) = variables (as_str d) ms

more_than_two : (d e f : Data) (ds : Items) → substituted_of (array (item d (item e (item f ds)))) ≡ None
more_than_two d null f ds = refl
more_than_two d (boolean b) f ds = refl
more_than_two d (number n) f ds = refl
more_than_two d (string s) f ds = refl
more_than_two d (array es) f ds = refl
more_than_two d (object ms) f ds = refl

substituted_by : (d : Data) → None ≡ as_str d → substituted_of d ≡ option_and_then with_fields (text_then_members d)
substituted_by null h = refl
substituted_by (boolean b) h = refl
substituted_by (number n) h = refl
substituted_by (string s) h = absurd (cc)
substituted_by (object ms) h = refl
substituted_by (array no_items) h = refl
substituted_by (array (item d no_items)) h = refl
substituted_by (array (item d (item e no_items))) h = two_with_variables d e
substituted_by (array (item d (item e (item f ds)))) h = more_than_two d e f ds

-- by what stands behind the text
pub with_members : (d : Data) (s : List ℕ) (ms : Members) (e : Data) → None ≡ as_str d → Some (s, e) ≡ text_then d → e ≡ object ms → substituted_of d ≡ option_and_then (sub_of s) (fields_of ms)
with_members d s ms e none parts is =
    substituted_by d none ∙ ap (λ o. option_and_then with_fields (option_and_then (λ (p : List ℕ × Data). option_map (λ xs. (p.0, xs)) (as_object p.1)) o)) (sym parts)
    ∙ ap (λ x. option_and_then with_fields (option_map (λ xs. (s, xs)) (as_object x))) is
