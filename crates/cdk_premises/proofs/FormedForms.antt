-- What is read of an object, a delimiter, an index or a Sub's text is formed, where what stands in it is.
use Rattle.std.proofs.Common.{◌≡◌, ◌<◌, ◌^◌, ℕ, List, [], ◌∷◌, not, Bool, true, false, cond, codes, Option, Some, None, option_map, option_and_then, refl, sym, ap, ◌∙◌, subst, true≢false}
use Rattle.std.specs.Prelude.{◌||◌, unwrap_or, ⊤}
use Rattle.std.specs.List.{list_any}
use Rattle.std.specs.Str.{bytes_eq}
use Rattle.std.proofs.lemmas.Bool.{not-false}
use Rattle.serde_json.specs.Data.{unsigned, negative, float, Data, null, boolean, number, string, array, object, no_items, item, Members, no_members, member}
use Rattle.serde_json.specs.Find.{as_number, as_str, as_u64}
use Rattle.cdk_base.specs.Json.{is_form_key}
use Rattle.cdk_base.specs.Pretty.{IsOrdered}
use Rattle.cdk_base.proofs.ReadValues.{IsReadNumber}
use Rattle.cdk_premises.proofs.CleanForms.{Place, anywhere, list_place, piece, role_of, text_place}
use Rattle.cdk_premises.proofs.CleanPlaces.{MembersStand, StandsAt, is_right, items_in, members_in, same_key, second_stands}
use Rattle.cdk_premises.specs.Formed.{AreFormed, FieldsAreFormed, IsFormed}
use Rattle.cdk_premises.proofs.FormedLiterals.{literal_formed}
use Rattle.cdk_language.specs.Application.{context_of, expression_of, fields_of, filled, find_field, form_of, get_att_of, has_form_key, pseudo_of, ref_of, sub_of}
use Rattle.cdk_language.specs.Expression as expression
use Rattle.cdk_language.specs.Expression.{Expression, Expressions, Fields}
use Rattle.cdk_language.specs.Schema.{is, is_barred, is_form, is_form_name, is_wrong}
use Rattle.cdk_language.specs.Sub as sub
use Rattle.cdk_language.specs.Sub.{Piece, pieces_of}
use Rattle.cdk_language.specs.declared.expression.Pseudo.{Pseudo}
use Rattle.cdk_language.specs.declared.schema.Frame.TheVariants as frames
use Rattle.cdk_language.specs.declared.schema.Role.TheVariants as roles
use Rattle.cdk_language.specs.declared.schema.Within.{Within}
use Rattle.cdk_meaning.specs.Names.{Each}
use Rattle.cdk_plain.specs.Plain.{IsNonEmpty}
use Rattle.cdk_tree.proofs.Tests.{and_left}
use Rattle.cdk_premises.proofs.ReadExpressions.{All, made, made_then, mapped, then}

-- ---- what is shown of an expression; no context is told

abbrev pub IsFormedAlone : Expression → Type 0
IsFormedAlone e = IsFormed [] 0 e

abbrev pub AllAreFormedAlone : Expressions → Type 0
AllAreFormedAlone es = AreFormed [] 0 es

abbrev pub FieldsAreFormedAlone : Fields → Type 0
FieldsAreFormedAlone fs = FieldsAreFormed [] 0 fs

-- variables may have any name
abbrev pub VariablesAreFormed : Fields → Type 0
VariablesAreFormed expression.no_fields = ⊤
VariablesAreFormed (expression.field k e fs) = IsFormedAlone e × VariablesAreFormed fs

-- ---- keys of forms

either_true : {A : Type 0} (b c : Bool) → (b || c) ≡ true → (b ≡ true → A) → (c ≡ true → A) → A
either_true true c e f g = f refl
either_true false c e f g = g e

key_among : (k : List ℕ) (names : List (List ℕ)) → Each (λ n. is_form_key n ≡ true) names → list_any (is k) names ≡ true → is_form_key k ≡ true
key_among k [] h e = absurd (cc)
key_among k (n ∷ ns) h e = either_true (is k n) (list_any (is k) ns) e (λ here. ap is_form_key (same_key k n here) ∙ h.0) (key_among k ns h.1)

abbrev form_names : List (List ℕ)
form_names = codes "Ref" ∷ codes "Fn::GetAtt" ∷ codes "Fn::Join" ∷ codes "Fn::Select" ∷ codes "Fn::Split" ∷ codes "Fn::If" ∷ codes "Fn::FindInMap" ∷ codes "Fn::ImportValue" ∷ codes "Fn::Sub" ∷ codes "CDK::Concat" ∷ codes "CDK::Context" ∷ codes "CDK::Lazy" ∷ []

name_is_key : (k : List ℕ) → is_form_name k ≡ true → is_form_key k ≡ true
name_is_key k e = key_among k form_names (refl, (refl, (refl, (refl, (refl, (refl, (refl, (refl, (refl, (refl, (refl, (refl, tt)))))))))))) e

has_its_key : (w : Within) (ms : Members) → is_form w ms ≡ true → has_form_key ms ≡ true
has_its_key w no_members e = absurd (cc)
has_its_key w (member k d no_members) e = ap (λ b. b || false) (name_is_key k (and_left (is_form_name k) (not (is_barred w k d)) e))
has_its_key w (member k d (member l f ms)) e = absurd (cc)

-- ---- objects in their places

-- how an object is read as a form, and as fields
abbrev ReadsForm : Within → Members → Type 0
ReadsForm w ms = MembersStand (frames.Form w) ms → All IsFormedAlone (form_of ms)

abbrev ReadsFields : Within → Members → Type 0
ReadsFields w ms = has_form_key ms ≡ false → MembersStand (frames.Fields w) ms → All FieldsAreFormedAlone (fields_of ms)

plain_or_form : (b : Bool) (w : Within) (ms : Members) → has_form_key ms ≡ b → MembersStand (cond b (frames.Form w) (frames.Fields w)) ms → ReadsFields w ms → ReadsForm w ms
    → All IsFormedAlone (cond b (form_of ms) (option_map expression.object (fields_of ms)))
plain_or_form true w ms e h fields form = form h
plain_or_form false w ms e h fields form = mapped FieldsAreFormedAlone IsFormedAlone expression.object (fields_of ms) (λ fs c. c) (fields e h)

only_form : (w : Within) (ms : Members) → not (is_form w ms) ≡ false → All IsFormedAlone (form_of ms) → All IsFormedAlone (expression_of (object ms))
only_form w ms e form =
    let keyed = has_its_key w ms (not-false (is_form w ms) e) in
    subst (λ b. All IsFormedAlone (cond b (form_of ms) (option_map expression.object (fields_of ms)))) (sym keyed) form

pub object_read : (p : Place) (w : Within) (marked : Bool) (ms : Members) → StandsAt marked (role_of p w) (object ms) → ReadsFields w ms → ReadsForm w ms → All IsFormedAlone (expression_of (object ms))
object_read anywhere w marked ms h fields form = plain_or_form (has_form_key ms) w ms refl (members_in marked (roles.Expression w) ms h) fields form
object_read text_place w marked ms h fields form = only_form w ms (is_right marked (roles.TextPlace w) (object ms) h) (form (members_in marked (roles.TextPlace w) ms h))
object_read piece w marked ms h fields form = only_form w ms (is_right marked (roles.Piece w) (object ms) h) (form (members_in marked (roles.Piece w) ms h))
object_read list_place w marked ms h fields form = only_form w ms (is_right marked (roles.ListPlace w) (object ms) h) (form (members_in marked (roles.ListPlace w) ms h))

-- ---- delimiters and indexes

pub delimiter_read : (d : Data) → is_wrong roles.NonEmptyText d ≡ false → All IsNonEmpty (as_str d)
delimiter_read (string []) e = absurd (true≢false e)
delimiter_read (string (c ∷ s)) e = tt
delimiter_read null e = tt
delimiter_read (boolean b) e = tt
delimiter_read (number n) e = tt
delimiter_read (array ds) e = tt
delimiter_read (object ms) e = tt

abbrev pub IsIndex : ℕ → Type 0
IsIndex n = n < 2 ^ 64

pub index_read : (d : Data) → IsOrdered IsReadNumber d → All IsIndex (option_and_then as_u64 (as_number d))
index_read (number (unsigned n)) h = h refl
index_read (number (negative z)) h = tt
index_read (number (float x)) h = tt
index_read null h = tt
index_read (boolean b) h = tt
index_read (string s) h = tt
index_read (array ds) h = tt
index_read (object ms) h = tt

-- ---- forms without expressions inside

pseudo_or_ref : (s : List ℕ) (o : Option Pseudo) → IsFormedAlone (unwrap_or (option_map expression.pseudo o) (expression.ref s))
pseudo_or_ref s None = tt
pseudo_or_ref s (Some p) = tt

pub ref_read : (s : List ℕ) → IsFormedAlone (ref_of s)
ref_read s = pseudo_or_ref s (pseudo_of s)

pub get_att_read : (d : Data) → All IsFormedAlone (get_att_of d)
get_att_read (array (item d (item e no_items))) = made_then IsFormedAlone (λ t. option_map (expression.get_att t) (as_str e)) (as_str d) (λ t. made IsFormedAlone (expression.get_att t) (as_str e) (λ a. tt))
get_att_read d = tt

-- its default is a literal
pub context_read : (marked : Bool) (d : Data) → StandsAt marked roles.ContextArguments d → All IsFormedAlone (context_of d)
context_read marked (array (item d no_items)) h = made IsFormedAlone (λ k. expression.context k None) (as_str d) (λ k. tt)
context_read marked (array (item d (item e no_items))) h =
    let default = literal_formed false e (second_stands roles.ContextArguments d e no_items (items_in marked roles.ContextArguments (item d (item e no_items)) h)) in
    made IsFormedAlone (λ k. expression.context k (Some e)) (as_str d) (λ k. default)
context_read marked d h = tt

-- ---- the pieces of a Sub

variable_by : (b : Bool) (e : Expression) (o : Option Expression) (r : Expression) → IsFormedAlone e → IsFormedAlone (unwrap_or o r) → IsFormedAlone (unwrap_or (cond b (Some e) o) r)
variable_by true e o r h g = h
variable_by false e o r h g = g

variable_read : (x : List ℕ) (fs : Fields) (r : Expression) → VariablesAreFormed fs → IsFormedAlone r → IsFormedAlone (unwrap_or (find_field x fs) r)
variable_read x expression.no_fields r h g = g
variable_read x (expression.field k e fs) r h g = variable_by (bytes_eq x k) e (find_field x fs) r h.0 (variable_read x fs r h.1 g)

filled_read : (fs : Fields) (ps : List Piece) → VariablesAreFormed fs → AllAreFormedAlone (filled fs ps)
filled_read fs [] h = tt
filled_read fs (sub.literal s ∷ ps) h = (tt, filled_read fs ps h)
filled_read fs (sub.name x ∷ ps) h = (variable_read x fs (ref_of x) h (ref_read x), filled_read fs ps h)
filled_read fs (sub.attribute x a ∷ ps) h = (tt, filled_read fs ps h)

pub sub_read : (s : List ℕ) (fs : Fields) → VariablesAreFormed fs → All IsFormedAlone (sub_of s fs)
sub_read s fs h = made IsFormedAlone (λ ps. expression.concat (filled fs ps)) (pieces_of s) (λ ps. filled_read fs ps h)

pub with_variables : (o : Option (List ℕ)) (fo : Option Fields) → All VariablesAreFormed fo → All IsFormedAlone (option_and_then (λ s. option_and_then (sub_of s) fo) o)
with_variables o fo h = made_then IsFormedAlone (λ s. option_and_then (sub_of s) fo) o (λ s. then VariablesAreFormed IsFormedAlone (sub_of s) fo (λ fs c. sub_read s fs c) h)
