-- What is read of an operand's forms has only forms that an operand may have, where what stands in them has.
use Rattle.std.proofs.Common.{◌≡◌, ℕ, List, [], ◌∷◌, not, Bool, true, false, true≢false, cond, codes, Option, Some, None, option_map, option_and_then, refl, sym, ap, ◌∙◌, subst}
use Rattle.std.specs.Prelude.{◌&&◌, ◌||◌, unwrap_or}
use Rattle.std.specs.List.{list_any}
use Rattle.std.specs.Str.{bytes_eq}
use Rattle.std.proofs.lemmas.Bool.{not-false, or_parts}
use Rattle.serde_json.specs.Data.{Data, string, array, object, Items, no_items, item, Members, no_members, member}
use Rattle.serde_json.specs.Find.{as_str}
use Rattle.cdk_base.specs.Json.{is_form_key}
use Rattle.cdk_premises.proofs.CleanForms.{Place, anywhere, list_place, piece, role_of, text_place, told}
use Rattle.cdk_premises.proofs.CleanPlaces.{ItemsStand, MembersStand, StandsAt, is_right, items_in, members_in, same_key}
use Rattle.cdk_language.specs.Application.{context_of, expression_of, expressions_of, fields_of, filled, find_field, form_of, has_form_key, pseudo_of, ref_of, sub_of}
use Rattle.cdk_language.specs.Expression as expression
use Rattle.cdk_language.specs.Expression.{Expression, Expressions, Fields}
use Rattle.cdk_language.specs.Schema.{are_wrong_pieces, is, is_barred, is_barred_piece, is_form, is_form_name, is_no_value, is_wrong_in_sub_text}
use Rattle.cdk_language.specs.Sub as sub
use Rattle.cdk_language.specs.Sub.{Piece, pieces_of}
use Rattle.cdk_language.specs.declared.expression.Pseudo.{Pseudo}
use Rattle.cdk_language.specs.declared.expression.Pseudo.TheVariants as pseudos
use Rattle.cdk_language.specs.declared.schema.Frame.TheVariants as frames
use Rattle.cdk_language.specs.declared.schema.Role.TheVariants as roles
use Rattle.cdk_language.specs.declared.schema.Within.TheVariants as within
use Rattle.cdk_meaning.specs.Names.{Each}
use Rattle.cdk_tree.proofs.Tests.{and_left, and_right}
use Rattle.cdk_premises.proofs.ReadExpressions.{All, made, mapped, then}
use Rattle.cdk_premises.specs.Operands.{ArePlainOperands, FieldsArePlainOperands, IsPlainOperand, IsValued}

-- ---- keys of forms

key_among : (k : List ℕ) (names : List (List ℕ)) → Each (λ n. is_form_key n ≡ true) names → list_any (is k) names ≡ true → is_form_key k ≡ true
key_among k [] h e = absurd (true≢false (sym e))
key_among k (n ∷ ns) h e = at (is k n) refl e (key_among k ns h.1)
  where
    at : (b : Bool) → is k n ≡ b → (b || list_any (is k) ns) ≡ true → (list_any (is k) ns ≡ true → is_form_key k ≡ true) → is_form_key k ≡ true
    at true here f later = ap is_form_key (same_key k n here) ∙ h.0
    at false here f later = later f

abbrev form_names : List (List ℕ)
form_names = codes "Ref" ∷ codes "Fn::GetAtt" ∷ codes "Fn::Join" ∷ codes "Fn::Select" ∷ codes "Fn::Split" ∷ codes "Fn::If" ∷ codes "Fn::FindInMap" ∷ codes "Fn::ImportValue" ∷ codes "Fn::Sub" ∷ codes "CDK::Concat" ∷ codes "CDK::Context" ∷ codes "CDK::Lazy" ∷ []

name_is_key : (k : List ℕ) → is_form_name k ≡ true → is_form_key k ≡ true
name_is_key k e = key_among k form_names (refl, (refl, (refl, (refl, (refl, (refl, (refl, (refl, (refl, (refl, (refl, (refl, tt)))))))))))) e

has_its_key : (ms : Members) → is_form within.Condition ms ≡ true → has_form_key ms ≡ true
has_its_key no_members e = absurd (true≢false (sym e))
has_its_key (member k d no_members) e = ap (λ b. b || false) (name_is_key k (and_left (is_form_name k) (not (is_barred within.Condition k d)) e))
has_its_key (member k d (member l f ms)) e = absurd (true≢false (sym e))

-- ---- forms that are barred

not_true : (b : Bool) → not b ≡ true → b ≡ false
not_true true e = sym e
not_true false e = refl

-- what is no form of an operand
pub record IsAllowed (k : List ℕ) (d : Data) : Type 0 where
  pub no_attribute : bytes_eq k (codes "Fn::GetAtt") ≡ false
  pub no_choice : bytes_eq k (codes "Fn::If") ≡ false
  pub no_import : bytes_eq k (codes "Fn::ImportValue") ≡ false
  pub no_lazy : bytes_eq k (codes "CDK::Lazy") ≡ false
  pub no_gap : (bytes_eq k (codes "Ref") && is_no_value (as_str d)) ≡ false

pub is_allowed : (k : List ℕ) (d : Data) → is_form within.Condition (member k d no_members) ≡ true → IsAllowed k d
is_allowed k d e =
    let free = not_true (is_barred within.Condition k d) (and_right (is_form_name k) (not (is_barred within.Condition k d)) e) in
    let two = or_parts (list_any (is k) (codes "Fn::GetAtt" ∷ codes "Fn::If" ∷ codes "Fn::ImportValue" ∷ codes "CDK::Lazy" ∷ [])) (is k (codes "Ref") && is_no_value (as_str d)) free in
    let first = or_parts (is k (codes "Fn::GetAtt")) (list_any (is k) (codes "Fn::If" ∷ codes "Fn::ImportValue" ∷ codes "CDK::Lazy" ∷ [])) two.0 in
    let second = or_parts (is k (codes "Fn::If")) (list_any (is k) (codes "Fn::ImportValue" ∷ codes "CDK::Lazy" ∷ [])) first.1 in
    let third = or_parts (is k (codes "Fn::ImportValue")) (list_any (is k) (codes "CDK::Lazy" ∷ [])) second.1 in
    let fourth = or_parts (is k (codes "CDK::Lazy")) false third.1 in
    record { no_attribute = first.0; no_choice = second.0; no_import = third.0; no_lazy = fourth.0; no_gap = two.1 }

-- a form of this key is barred
pub never : {A : Type 0} (b : Bool) → b ≡ false → b ≡ true → A
never b e f = absurd (true≢false (sym f ∙ e))

-- ---- arrays and objects in their places

pub plain_array : (p : Place) (marked : Bool) (ds : Items) → StandsAt marked (role_of p within.Condition) (array ds) → (ItemsStand (roles.Expression within.Condition) 0 ds → All ArePlainOperands (expressions_of ds))
    → (ItemsStand (roles.ListPlace within.Condition) 0 ds → All ArePlainOperands (expressions_of ds)) → All IsPlainOperand (option_map expression.list (expressions_of ds))
plain_array anywhere marked ds h items listed = mapped ArePlainOperands IsPlainOperand expression.list (expressions_of ds) (λ es c. c) (items (items_in marked (roles.Expression within.Condition) ds h))
plain_array list_place marked ds h items listed = mapped ArePlainOperands IsPlainOperand expression.list (expressions_of ds) (λ es c. c) (listed (items_in marked (roles.ListPlace within.Condition) ds h))
plain_array text_place marked ds h items listed = let e = is_right marked (roles.TextPlace within.Condition) (array ds) h in absurd (true≢false e)
plain_array piece marked ds h items listed = let e = is_right marked (roles.Piece within.Condition) (array ds) h in absurd (true≢false e)

-- how an object is read as a form, and as fields
abbrev ReadsForm : Members → Type 0
ReadsForm ms = is_form within.Condition ms ≡ true → MembersStand (frames.Form within.Condition) ms → All IsPlainOperand (form_of ms)

abbrev ReadsFields : Members → Type 0
ReadsFields ms = MembersStand (frames.Fields within.Condition) ms → All FieldsArePlainOperands (fields_of ms)

form_or_fields : (b : Bool) (ms : Members) → (b && not (is_form within.Condition ms)) ≡ false → MembersStand (cond b (frames.Form within.Condition) (frames.Fields within.Condition)) ms → ReadsFields ms → ReadsForm ms
    → All IsPlainOperand (cond b (form_of ms) (option_map expression.object (fields_of ms)))
form_or_fields true ms right h fields form = form (not-false (is_form within.Condition ms) right) h
form_or_fields false ms right h fields form = mapped FieldsArePlainOperands IsPlainOperand expression.object (fields_of ms) (λ fs c. c) (fields h)

only_form : (ms : Members) → not (is_form within.Condition ms) ≡ false → MembersStand (frames.Form within.Condition) ms → ReadsForm ms → All IsPlainOperand (expression_of (object ms))
only_form ms right h form =
    let allowed = not-false (is_form within.Condition ms) right in
    subst (λ b. All IsPlainOperand (cond b (form_of ms) (option_map expression.object (fields_of ms)))) (sym (has_its_key ms allowed)) (form allowed h)

pub plain_object : (p : Place) (marked : Bool) (ms : Members) → StandsAt marked (role_of p within.Condition) (object ms) → ReadsFields ms → ReadsForm ms → All IsPlainOperand (expression_of (object ms))
plain_object anywhere marked ms h fields form =
    form_or_fields (has_form_key ms) ms (is_right marked (roles.Expression within.Condition) (object ms) h) (members_in marked (roles.Expression within.Condition) ms h) fields form
plain_object text_place marked ms h fields form = only_form ms (is_right marked (roles.TextPlace within.Condition) (object ms) h) (members_in marked (roles.TextPlace within.Condition) ms h) form
plain_object piece marked ms h fields form = only_form ms (is_right marked (roles.Piece within.Condition) (object ms) h) (members_in marked (roles.Piece within.Condition) ms h) form
plain_object list_place marked ms h fields form = only_form ms (is_right marked (roles.ListPlace within.Condition) (object ms) h) (members_in marked (roles.ListPlace within.Condition) ms h) form

-- ---- references

valued : (s : List ℕ) → bytes_eq s (codes "AWS::NoValue") ≡ false → All IsValued (pseudo_of s)
valued s other =
    told IsValued (bytes_eq s (codes "AWS::AccountId")) (Some pseudos.AccountId) _ (λ e. tt)
    (told IsValued (bytes_eq s (codes "AWS::Partition")) (Some pseudos.Partition) _ (λ e. tt)
    (told IsValued (bytes_eq s (codes "AWS::Region")) (Some pseudos.Region) _ (λ e. tt)
    (told IsValued (bytes_eq s (codes "AWS::StackId")) (Some pseudos.StackId) _ (λ e. tt)
    (told IsValued (bytes_eq s (codes "AWS::StackName")) (Some pseudos.StackName) _ (λ e. tt)
    (told IsValued (bytes_eq s (codes "AWS::URLSuffix")) (Some pseudos.UrlSuffix) _ (λ e. tt)
    (told IsValued (bytes_eq s (codes "AWS::NoValue")) (Some pseudos.NoValue) None (never (bytes_eq s (codes "AWS::NoValue")) other) tt))))))

pseudo_or_ref : (s : List ℕ) (o : Option Pseudo) → All IsValued o → IsPlainOperand (unwrap_or (option_map expression.pseudo o) (expression.ref s))
pseudo_or_ref s None h = tt
pseudo_or_ref s (Some p) h = h

plain_ref : (s : List ℕ) → bytes_eq s (codes "AWS::NoValue") ≡ false → IsPlainOperand (ref_of s)
plain_ref s other = pseudo_or_ref s (pseudo_of s) (valued s other)

pub plain_refs : (o : Option (List ℕ)) (b : Bool) → b ≡ true → (b && is_no_value o) ≡ false → All IsPlainOperand (option_map ref_of o)
plain_refs None b keyed gap = tt
plain_refs (Some s) b keyed gap = plain_ref s (ap (λ c. c && is_no_value (Some s)) (sym keyed) ∙ gap)

pub plain_context : (d : Data) → All IsPlainOperand (context_of d)
plain_context (array (item d no_items)) = made IsPlainOperand (λ k. expression.context k None) (as_str d) (λ k. tt)
plain_context (array (item d (item e no_items))) = made IsPlainOperand (λ k. expression.context k (Some e)) (as_str d) (λ k. tt)
plain_context d = tt

-- ---- the pieces of a Sub

variable_by : (b : Bool) (e : Expression) (o : Option Expression) (r : Expression) → IsPlainOperand e → IsPlainOperand (unwrap_or o r) → IsPlainOperand (unwrap_or (cond b (Some e) o) r)
variable_by true e o r h g = h
variable_by false e o r h g = g

variable_plain : (x : List ℕ) (fs : Fields) (r : Expression) → FieldsArePlainOperands fs → IsPlainOperand r → IsPlainOperand (unwrap_or (find_field x fs) r)
variable_plain x expression.no_fields r h g = g
variable_plain x (expression.field k e fs) r h g = variable_by (bytes_eq x k) e (find_field x fs) r h.0 (variable_plain x fs r h.1 g)

plain_pieces : (fs : Fields) (ps : List Piece) → FieldsArePlainOperands fs → list_any (is_barred_piece within.Condition) ps ≡ false → ArePlainOperands (filled fs ps)
plain_pieces fs [] h e = tt
plain_pieces fs (sub.literal s ∷ ps) h e = (tt, plain_pieces fs ps h e)
plain_pieces fs (sub.name x ∷ ps) h e =
    let two = or_parts (is x (codes "AWS::NoValue")) (list_any (is_barred_piece within.Condition) ps) e in (variable_plain x fs (ref_of x) h (plain_ref x two.0), plain_pieces fs ps h two.1)
plain_pieces fs (sub.attribute x a ∷ ps) h e = absurd (true≢false e)

plain_cut : (fs : Fields) (o : Option (List Piece)) → FieldsArePlainOperands fs → are_wrong_pieces within.Condition o ≡ false → All IsPlainOperand (option_map (λ ps. expression.concat (filled fs ps)) o)
plain_cut fs None h e = tt
plain_cut fs (Some ps) h e = plain_pieces fs ps h e

pub plain_sub : (s : List ℕ) (fs : Fields) → FieldsArePlainOperands fs → are_wrong_pieces within.Condition (pieces_of s) ≡ false → All IsPlainOperand (sub_of s fs)
plain_sub s fs h e = plain_cut fs (pieces_of s) h e

-- the text of a Sub, where it isn't wrong
abbrev HasRightPieces : List ℕ → Type 0
HasRightPieces s = are_wrong_pieces within.Condition (pieces_of s) ≡ false

right_text : (d : Data) → is_wrong_in_sub_text within.Condition d ≡ false → All HasRightPieces (as_str d)
right_text (string s) e = e
right_text d e = tt

pub with_variables : (d : Data) (o : Option Fields) → is_wrong_in_sub_text within.Condition d ≡ false → All FieldsArePlainOperands o → All IsPlainOperand (option_and_then (λ s. option_and_then (sub_of s) o) (as_str d))
with_variables d o e h =
    then HasRightPieces IsPlainOperand (λ s. option_and_then (sub_of s) o) (as_str d) (λ s right. then FieldsArePlainOperands IsPlainOperand (sub_of s) o (λ fs c. plain_sub s fs c right) h) (right_text d e)
