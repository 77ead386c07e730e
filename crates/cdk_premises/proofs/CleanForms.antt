-- What is read of a form is clean, and no array or object, where what stands in it is clean.
use Rattle.std.proofs.Common.{◌≡◌, ℕ, List, [], ◌∷◌, flat_map, not, Bool, true, false, cond, codes, Option, Some, None, option_map, option_and_then, refl, sym, ap, ◌∙◌, subst}
use Rattle.std.specs.Prelude.{◌||◌, unwrap_or, ⊤}
use Rattle.std.specs.List.{list_any}
use Rattle.std.specs.Str.{bytes_eq}
use Rattle.std.proofs.lemmas.Bool.{not-false}
use Rattle.serde_json.specs.Data.{Data, array, object, Items, no_items, item, Members, no_members, member}
use Rattle.serde_json.specs.Find.{as_str}
use Rattle.cdk_base.specs.Json.{is_form_key}
use Rattle.cdk_base.specs.Marker.{has_marker}
use Rattle.cdk_premises.specs.CleanConstruct.{IsCleanAlone}
use Rattle.cdk_premises.proofs.CleanLiterals.{literal_clean}
use Rattle.cdk_premises.proofs.CleanPlaces.{ItemsStand, MembersStand, StandsAt, is_right, items_in, members_in, run_unmarked_at, same_key, second_stands}
use Rattle.cdk_premises.proofs.CleanRuns.{AreUnmarked, run_unmarked, unmarked_apart}
use Rattle.cdk_expansion.specs.Clean.{AreClean, FieldsAreClean, IsNoCollection, PiecesAreClean}
use Rattle.cdk_language.specs.Application.{context_of, expression_of, expressions_of, fields_of, filled, find_field, form_of, get_att_of, has_form_key, pseudo_of, ref_of, sub_of}
use Rattle.cdk_language.specs.Expression as expression
use Rattle.cdk_language.specs.Expression.{Expression, Expressions, Fields}
use Rattle.cdk_language.specs.Runs.{Literals, form_literals, piece_literals, sub_literals}
use Rattle.cdk_language.specs.Schema.{form_member, is, is_barred, is_form, is_form_name}
use Rattle.cdk_language.specs.Sub as sub
use Rattle.cdk_language.specs.Sub.{Piece, pieces_of}
use Rattle.cdk_language.specs.declared.expression.Pseudo.{Pseudo}
use Rattle.cdk_language.specs.declared.schema.Frame.TheVariants as frames
use Rattle.cdk_language.specs.declared.schema.Role.{Role}
use Rattle.cdk_language.specs.declared.schema.Role.TheVariants as roles
use Rattle.cdk_language.specs.declared.schema.Within.{Within}
use Rattle.cdk_meaning.specs.Names.{Each}
use Rattle.cdk_tree.proofs.Tests.{and_left}
use Rattle.cdk_premises.proofs.ReadExpressions.{All, made, made_then, mapped, then}

-- ---- what is shown of an expression

abbrev pub AllAreCleanAlone : Expressions → Type 0
AllAreCleanAlone es = AreClean [] 0 es

abbrev pub FieldsAreCleanAlone : Fields → Type 0
FieldsAreCleanAlone fs = FieldsAreClean [] 0 fs

abbrev pub PiecesAreCleanAlone : Expressions → Type 0
PiecesAreCleanAlone es = PiecesAreClean [] 0 es

-- it may be a piece
abbrev pub IsCleanPiece : Expression → Type 0
IsCleanPiece e = IsNoCollection e × IsCleanAlone e

abbrev pub VariablesAreClean : Fields → Type 0
VariablesAreClean expression.no_fields = ⊤
VariablesAreClean (expression.field k e fs) = IsCleanPiece e × VariablesAreClean fs

-- ---- the places of expressions

pub data Place : Type 0 where
  anywhere : Place
  text_place : Place
  piece : Place
  list_place : Place

abbrev pub role_of : Place → Within → Role
role_of anywhere w = roles.Expression w
role_of text_place w = roles.TextPlace w
role_of piece w = roles.Piece w
role_of list_place w = roles.ListPlace w

-- where a text stands there is no array or object
abbrev pub IsReadIn : Place → Expression → Type 0
IsReadIn anywhere e = IsCleanAlone e
IsReadIn text_place e = IsCleanPiece e
IsReadIn piece e = IsCleanPiece e
IsReadIn list_place e = IsCleanAlone e

-- of a piece the Concat around it has told that no literal holds a marker; elsewhere the place itself tells it
abbrev pub IsRunIn : Place → Literals → Type 0
IsRunIn anywhere ps = ⊤
IsRunIn text_place ps = ⊤
IsRunIn piece ps = AreUnmarked ps
IsRunIn list_place ps = ⊤

pub read_in : (p : Place) (e : Expression) → IsNoCollection e → IsCleanAlone e → IsReadIn p e
read_in anywhere e h c = c
read_in text_place e h c = (h, c)
read_in piece e h c = (h, c)
read_in list_place e h c = c

form_read_in : (p : Place) (o : Option Expression) → All IsCleanPiece o → All (IsReadIn p) o
form_read_in p None h = tt
form_read_in p (Some e) h = read_in p e h.0 h.1

-- ---- keys of forms

either_true : {A : Type 0} (b c : Bool) → (b || c) ≡ true → (b ≡ true → A) → (c ≡ true → A) → A
either_true true c e f g = f refl
either_true false c e f g = g e

key_among : (k : List ℕ) (names : List (List ℕ)) → Each (λ n. is_form_key n ≡ true) names → list_any (is k) names ≡ true → is_form_key k ≡ true
key_among k [] h e = absurd (cc)
key_among k (n ∷ ns) h e = either_true (is k n) (list_any (is k) ns) e (λ here. ap is_form_key (same_key k n here) ∙ h.0) (key_among k ns h.1)

abbrev form_names : List (List ℕ)
form_names = codes "Ref" ∷ codes "Fn::GetAtt" ∷ codes "Fn::Join" ∷ codes "Fn::Select" ∷ codes "Fn::Split" ∷ codes "Fn::If" ∷ codes "Fn::FindInMap" ∷ codes "Fn::ImportValue" ∷ codes "Fn::Sub" ∷ codes "CDK::Concat" ∷ codes "CDK::Context" ∷ codes "CDK::Lazy" ∷ []

name_is_key : (k : List ℕ) → is_form_name k ≡ true → is_form_key k ≡ true
name_is_key k e = key_among k form_names (refl, (refl, (refl, (refl, (refl, (refl, (refl, (refl, (refl, (refl, (refl, (refl, tt)))))))))))) e

has_its_key : (w : Within) (ms : Members) → is_form w ms ≡ true → has_form_key ms ≡ true
has_its_key w no_members e = absurd (cc)
has_its_key w (member k d no_members) e = ap (λ b. b || false) (name_is_key k (and_left (is_form_name k) (not (is_barred w k d)) e))
has_its_key w (member k d (member l f ms)) e = absurd (cc)

-- ---- arrays and objects in their places

pub array_read : (p : Place) (w : Within) (marked : Bool) (ds : Items) → StandsAt marked (role_of p w) (array ds) → (ItemsStand (roles.Expression w) 0 ds → All AllAreCleanAlone (expressions_of ds))
    → (ItemsStand (roles.ListPlace w) 0 ds → All AllAreCleanAlone (expressions_of ds)) → All (IsReadIn p) (option_map expression.list (expressions_of ds))
array_read anywhere w marked ds h items listed = mapped AllAreCleanAlone IsCleanAlone expression.list (expressions_of ds) (λ es c. c) (items (items_in marked (roles.Expression w) ds h))
array_read list_place w marked ds h items listed = mapped AllAreCleanAlone IsCleanAlone expression.list (expressions_of ds) (λ es c. c) (listed (items_in marked (roles.ListPlace w) ds h))
array_read text_place w marked ds h items listed = let e = is_right marked (roles.TextPlace w) (array ds) h in absurd (cc e)
array_read piece w marked ds h items listed = let e = is_right marked (roles.Piece w) (array ds) h in absurd (cc e)

-- how an object is read as a form, and as fields
abbrev ReadsForm : Within → Members → Type 0
ReadsForm w ms = MembersStand (frames.Form w) ms → AreUnmarked (form_literals ms) → All IsCleanPiece (form_of ms)

abbrev ReadsFields : Within → Members → Type 0
ReadsFields w ms = MembersStand (frames.Fields w) ms → All FieldsAreCleanAlone (fields_of ms)

plain_or_form : (b : Bool) (w : Within) (ms : Members) → MembersStand (cond b (frames.Form w) (frames.Fields w)) ms → AreUnmarked (form_literals ms) → ReadsFields w ms → ReadsForm w ms
    → All IsCleanAlone (cond b (form_of ms) (option_map expression.object (fields_of ms)))
plain_or_form true w ms h r fields form = form_read_in anywhere (form_of ms) (form h r)
plain_or_form false w ms h r fields form = mapped FieldsAreCleanAlone IsCleanAlone expression.object (fields_of ms) (λ fs c. c) (fields h)

only_form : (p : Place) (w : Within) (ms : Members) → not (is_form w ms) ≡ false → All IsCleanPiece (form_of ms) → All (IsReadIn p) (expression_of (object ms))
only_form p w ms e form =
    let keyed = has_its_key w ms (not-false (is_form w ms) e) in
    subst (λ b. All (IsReadIn p) (cond b (form_of ms) (option_map expression.object (fields_of ms)))) (sym keyed) (form_read_in p (form_of ms) form)

pub object_read : (p : Place) (w : Within) (marked : Bool) (ms : Members) → StandsAt marked (role_of p w) (object ms) → IsRunIn p (form_literals ms) → ReadsFields w ms → ReadsForm w ms
    → All (IsReadIn p) (expression_of (object ms))
object_read anywhere w marked ms h r fields form =
    plain_or_form (has_form_key ms) w ms (members_in marked (roles.Expression w) ms h) (run_unmarked (form_literals ms) (run_unmarked_at marked (roles.Expression w) (object ms) h)) fields form
object_read text_place w marked ms h r fields form =
    let run = run_unmarked (form_literals ms) (run_unmarked_at marked (roles.TextPlace w) (object ms) h) in
    only_form text_place w ms (is_right marked (roles.TextPlace w) (object ms) h) (form (members_in marked (roles.TextPlace w) ms h) run)
object_read piece w marked ms h r fields form = only_form piece w ms (is_right marked (roles.Piece w) (object ms) h) (form (members_in marked (roles.Piece w) ms h) r)
object_read list_place w marked ms h r fields form =
    let run = run_unmarked (form_literals ms) (run_unmarked_at marked (roles.ListPlace w) (object ms) h) in
    only_form list_place w ms (is_right marked (roles.ListPlace w) (object ms) h) (form (members_in marked (roles.ListPlace w) ms h) run)

-- ---- by the key of a form

-- a choice by a test that is told
pub told : {A : Type 0} (P : A → Type 0) (b : Bool) (x y : Option A) → (b ≡ true → All P x) → All P y → All P (cond b x y)
told P true x y f g = f refl
told P false x y f g = g

pub form_at : (w : Within) (k name : List ℕ) (d : Data) → bytes_eq k name ≡ true → StandsAt (has_marker k) (form_member w k) d → StandsAt (has_marker name) (form_member w name) d
form_at w k name d e h = subst (λ x. StandsAt (has_marker x) (form_member w x) d) (same_key k name e) h

pub run_at : (k name : List ℕ) (d : Data) → bytes_eq k name ≡ true → AreUnmarked (form_literals (member k d no_members)) → AreUnmarked (form_literals (member name d no_members))
run_at k name d e r = subst (λ x. AreUnmarked (form_literals (member x d no_members))) (same_key k name e) r

-- ---- forms without expressions inside

pseudo_or_ref : (s : List ℕ) (o : Option Pseudo) → IsCleanPiece (unwrap_or (option_map expression.pseudo o) (expression.ref s))
pseudo_or_ref s None = (tt, tt)
pseudo_or_ref s (Some p) = (tt, tt)

pub ref_read : (s : List ℕ) → IsCleanPiece (ref_of s)
ref_read s = pseudo_or_ref s (pseudo_of s)

pub get_att_read : (d : Data) → All IsCleanPiece (get_att_of d)
get_att_read (array (item d (item e no_items))) = made_then IsCleanPiece (λ t. option_map (expression.get_att t) (as_str e)) (as_str d) (λ t. made IsCleanPiece (expression.get_att t) (as_str e) (λ a. (tt, tt)))
get_att_read d = tt

-- its default is a literal
pub context_read : (marked : Bool) (d : Data) → StandsAt marked roles.ContextArguments d → All IsCleanPiece (context_of d)
context_read marked (array (item d no_items)) h = made IsCleanPiece (λ k. expression.context k None) (as_str d) (λ k. (tt, refl))
context_read marked (array (item d (item e no_items))) h =
    let default = literal_clean false e (second_stands roles.ContextArguments d e no_items (items_in marked roles.ContextArguments (item d (item e no_items)) h)) in
    made IsCleanPiece (λ k. expression.context k (Some e)) (as_str d) (λ k. (tt, default))
context_read marked d h = tt

-- ---- the pieces of a Sub

variable_by : (b : Bool) (e : Expression) (o : Option Expression) (r : Expression) → IsCleanPiece e → IsCleanPiece (unwrap_or o r) → IsCleanPiece (unwrap_or (cond b (Some e) o) r)
variable_by true e o r h g = h
variable_by false e o r h g = g

variable_read : (x : List ℕ) (fs : Fields) (r : Expression) → VariablesAreClean fs → IsCleanPiece r → IsCleanPiece (unwrap_or (find_field x fs) r)
variable_read x expression.no_fields r h g = g
variable_read x (expression.field k e fs) r h g = variable_by (bytes_eq x k) e (find_field x fs) r h.0 (variable_read x fs r h.1 g)

filled_read : (vs : List (List ℕ × Literals)) (fs : Fields) (ps : List Piece) → VariablesAreClean fs → AreUnmarked (flat_map (piece_literals vs) ps) → PiecesAreCleanAlone (filled fs ps)
filled_read vs fs [] h r = tt
filled_read vs fs (sub.literal s ∷ ps) h r = (tt, r.0, filled_read vs fs ps h r.1)
filled_read vs fs (sub.name x ∷ ps) h r =
    let here = variable_read x fs (ref_of x) h (ref_read x) in
    (here.0, here.1, filled_read vs fs ps h (unmarked_apart (piece_literals vs (sub.name x)) (flat_map (piece_literals vs) ps) r).1)
filled_read vs fs (sub.attribute x a ∷ ps) h r = (tt, tt, filled_read vs fs ps h r)

cut_read : (vs : List (List ℕ × Literals)) (fs : Fields) (o : Option (List Piece)) → VariablesAreClean fs → AreUnmarked (sub_literals vs o) → All IsCleanPiece (option_map (λ ps. expression.concat (filled fs ps)) o)
cut_read vs fs None h r = tt
cut_read vs fs (Some ps) h r = (tt, filled_read vs fs ps h r)

pub sub_read : (vs : List (List ℕ × Literals)) (s : List ℕ) (fs : Fields) → VariablesAreClean fs → AreUnmarked (sub_literals vs (pieces_of s)) → All IsCleanPiece (sub_of s fs)
sub_read vs s fs h r = cut_read vs fs (pieces_of s) h r

pub with_variables : (vs : List (List ℕ × Literals)) (o : Option (List ℕ)) (fo : Option Fields) → AreUnmarked (sub_literals vs (option_and_then pieces_of o)) → All VariablesAreClean fo
    → All IsCleanPiece (option_and_then (λ s. option_and_then (sub_of s) fo) o)
with_variables vs None fo r h = tt
with_variables vs (Some s) fo r h = then VariablesAreClean IsCleanPiece (sub_of s) fo (λ fs c. sub_read vs s fs c r) h
