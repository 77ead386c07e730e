-- The plain forms of a formed tree are well and ordered.
use Rattle.std.proofs.Common.{◌≡◌, ◌<◌, ◌≤◌, ◌^◌, ℕ, zero, suc, pos, negsuc, ℤ, ◌⊎◌, inl, inr, List, [], length, true, Option, Some, None, refl, sym, subst}
use Rattle.std.specs.Prelude.{unwrap_or}
use Rattle.std.specs.Option.{option_map_or}
use Rattle.std.proofs.lemmas.Bool.{cases_lt, lt-ltb}
use Rattle.std.proofs.lemmas.List.{get_or_past}
use Rattle.serde_json.specs.Data.{Data, Members, null, object}
use Rattle.serde_json.specs.Find.{of_integer}
use Rattle.cdk_base.specs.Json.{is_whole}
use Rattle.cdk_expansion.specs.Clean.{AreClean, FieldsAreClean, IsClean, ListIsClean, PiecesAreClean, TreeIsClean}
use Rattle.cdk_expansion.specs.Own.{all_parts, own, own_all, own_fields, own_of, own_opened, parts, put_field, value_in, literal_plain}
use Rattle.cdk_premises.specs.Formed.{AreFormed, FieldsAreFormed, IsFormed, IsFormedBody, IsFormedIfFound, TreeIsFormed}
use Rattle.cdk_premises.specs.FormedLaws.{FormsAreCanonical, FormsAreWell, PropertiesAreObjects}
use Rattle.cdk_premises.proofs.FitFields.{AreFit, FieldsAreFit, IsFit, literal_fit, put_fit}
use Rattle.cdk_premises.proofs.FitParts.{PartsAreFit, append_fit, concat_fit, other_fit}
use Rattle.cdk_language.specs.Construct as construct
use Rattle.cdk_language.specs.Construct.{Body}
use Rattle.cdk_language.specs.Expression as expression
use Rattle.cdk_language.specs.Expression.{Expression, Expressions}
use Rattle.cdk_meaning.proofs.Canonical.{rendered_is_canonical}
use Rattle.cdk_plain.specs.Plain as plain
use Rattle.cdk_plain.specs.Plain.{IsWell, Plain, Plains, num_of, object_of, text, whole}
use Rattle.cdk_plain.specs.Rendered.{Homes, rendered, rendered_fields}
use Rattle.cdk_tokens.specs.Marking.{target}
use Rattle.cdk_contexts.specs.Expressions.{expressions_in}
use Rattle.cdk_tree.specs.Lists.{is_list}
use Rattle.cdk_tree.specs.Placed.{Placed, construct_at, found_value, nowhere}
use Rattle.cdk_premises.specs.Written.{IsObject}
use Rattle.cdk_premises.proofs.ReadExpressions.{All}

whole_fit : (z : ℤ) → is_whole (of_integer z) ≡ true → IsFit (whole z)
whole_fit (pos n) h = (h, tt)
whole_fit (negsuc n) h = (h, tt)

-- what isn't found is refused, and an empty text here
found_fit : (o : Option Data) → IsFormedIfFound o → IsFit (literal_plain (unwrap_or o null))
found_fit None h = (tt, tt)
found_fit (Some d) h = literal_fit d h

-- ---- expressions of a construct

module _ (lazies : ℕ → Plain) (lazies_fit : (n : ℕ) → IsFit (lazies n)) (cs : List Placed) (at : ℕ) where
  mutual
    own_fit : (e : Expression) → IsClean cs at e → IsFormed cs at e → IsFit (own lazies cs at e)
    own_fit (expression.text s) c f = (tt, tt)
    own_fit (expression.whole z) c f = whole_fit z c
    own_fit (expression.truth b) c f = (tt, tt)
    own_fit (expression.list es) c f = all_fit es c f
    own_fit (expression.object fs) c f = fields_fit fs plain.no_fields c f (tt, tt)
    own_fit (expression.pseudo p) c f = (tt, tt)
    own_fit (expression.ref t) c f = (tt, tt)
    own_fit (expression.get_att t a) c f = (tt, tt)
    own_fit (expression.concat es) c f = concat_fit (all_parts lazies cs at es) (all_parts_fit es c f)
    own_fit (expression.join d e) c f = own_fit e c f
    own_fit (expression.select i e) c f = let inner = own_fit e c f.1 in ((lt-ltb i (2 ^ 64) f.0, inner.0), inner.1)
    own_fit (expression.split d e) c f = let inner = own_fit e c f.1 in ((f.0, inner.0), inner.1)
    own_fit (expression.choice b x y) c f =
        let first = own_fit x c.0 f.0 in
        let second = own_fit y c.1 f.1 in
        ((first.0, second.0), (first.1, second.1))
    own_fit (expression.find_in_map m x y) c f =
        let first = own_fit x c.0 f.0 in
        let second = own_fit y c.1 f.1 in
        ((first.0, second.0), (first.1, second.1))
    own_fit (expression.import_value t) c f = (tt, tt)
    own_fit (expression.context k d) c f = found_fit (found_value (construct_at cs at).contexts k d) f
    own_fit (expression.lazy t) c f = lazies_fit (target cs t)

    all_fit : (es : Expressions) → AreClean cs at es → AreFormed cs at es → AreFit (own_all lazies cs at es)
    all_fit expression.no_expressions c f = (tt, tt)
    all_fit (expression.expression e es) c f =
        let first = own_fit e c.0 f.0 in
        let rest = all_fit es c.1 f.1 in
        ((first.0, rest.0), (first.1, rest.1))

    fields_fit : (fs : expression.Fields) (done : plain.Fields) → FieldsAreClean cs at fs → FieldsAreFormed cs at fs → FieldsAreFit done → FieldsAreFit (own_fields lazies cs at fs done)
    fields_fit expression.no_fields done c f h = h
    fields_fit (expression.field k e fs) done c f h = fields_fit fs (put_field k (own lazies cs at e) done) c.1 f.2 (put_fit k (own lazies cs at e) done f.0 (own_fit e c.0 f.1) h)

    -- p is its plain form
    parts_fit : (e : Expression) (p : Plain) → IsFit p → IsClean cs at e → IsFormed cs at e → PartsAreFit (parts lazies cs at e p)
    parts_fit (expression.text s) p h c f = tt
    parts_fit (expression.whole z) p h c f = tt
    parts_fit (expression.truth b) p h c f = tt
    parts_fit (expression.list es) p h c f = tt
    parts_fit (expression.object fs) p h c f = tt
    parts_fit (expression.pseudo q) p h c f = other_fit (is_list cs at (expression.pseudo q)) p h
    parts_fit (expression.ref t) p h c f = other_fit (is_list cs at (expression.ref t)) p h
    parts_fit (expression.get_att t a) p h c f = other_fit (is_list cs at (expression.get_att t a)) p h
    parts_fit (expression.concat es) p h c f = all_parts_fit es c f
    parts_fit (expression.join d e) p h c f = other_fit (is_list cs at (expression.join d e)) p h
    parts_fit (expression.select i e) p h c f = other_fit (is_list cs at (expression.select i e)) p h
    parts_fit (expression.split d e) p h c f = other_fit (is_list cs at (expression.split d e)) p h
    parts_fit (expression.choice b x y) p h c f = other_fit (is_list cs at (expression.choice b x y)) p h
    parts_fit (expression.find_in_map m x y) p h c f = other_fit (is_list cs at (expression.find_in_map m x y)) p h
    parts_fit (expression.import_value t) p h c f = other_fit (is_list cs at (expression.import_value t)) p h
    parts_fit (expression.context k d) p h c f = tt
    parts_fit (expression.lazy t) p h c f = other_fit (is_list cs at (expression.lazy t)) p h

    all_parts_fit : (es : Expressions) → PiecesAreClean cs at es → AreFormed cs at es → PartsAreFit (all_parts lazies cs at es)
    all_parts_fit expression.no_expressions c f = tt
    all_parts_fit (expression.expression e es) c f =
        append_fit (parts lazies cs at e (own lazies cs at e)) (all_parts lazies cs at es)
        (parts_fit e (own lazies cs at e) (own_fit e c.1 f.0) c.1 f.0) (all_parts_fit es c.2 f.1)

-- ---- of the whole tree

-- the construct's value, where it has one, is clean and formed
abbrev IsReady : List Placed → ℕ → Expression → Type 0
IsReady cs n e = IsClean cs n e × IsFormed cs n e

value_ready : (cs : List Placed) (n : ℕ) (b : Body) → ListIsClean cs n (expressions_in b) → IsFormedBody cs n b → All (IsReady cs n) (value_in b)
value_ready cs n construct.root c f = tt
value_ready cs n construct.stage c f = tt
value_ready cs n (construct.stack d) c f = tt
value_ready cs n construct.group c f = tt
value_ready cs n (construct.resource r) c f = (c.0, f.1)
value_ready cs n (construct.parameter p) c f = tt
value_ready cs n (construct.condition_body d) c f = tt
value_ready cs n (construct.mapping m) c f = tt
value_ready cs n (construct.output o) c f = (c.0, f)
value_ready cs n (construct.lazy e) c f = (c.0, f)

module _ (cs : List Placed) (clean : TreeIsClean cs) (formed : TreeIsFormed cs) where
  ready_at : (n : ℕ) → n < length cs → All (IsReady cs n) (value_in (construct_at cs n).body)
  ready_at n within = value_ready cs n (construct_at cs n).body (clean n within) (formed n within)

  -- what stands nowhere has no value
  ready_by : (n : ℕ) → (n < length cs) ⊎ (length cs ≤ n) → All (IsReady cs n) (value_in (construct_at cs n).body)
  ready_by n (inl within) = ready_at n within
  ready_by n (inr past) = subst (λ (c : Placed). All (IsReady cs n) (value_in c.body)) (sym (get_or_past cs n nowhere past)) tt

  value_fit : (lazies : ℕ → Plain) → ((m : ℕ) → IsFit (lazies m)) → (n : ℕ) (o : Option Expression) → All (IsReady cs n) o → IsFit (option_map_or (own lazies cs n) o (text []))
  value_fit lazies fit n None h = (tt, tt)
  value_fit lazies fit n (Some e) h = own_fit lazies fit cs n e h.0 h.1

  opened_fit : (k n : ℕ) → IsFit (own_opened k cs n)
  opened_fit zero n = (tt, tt)
  opened_fit (suc k) n = value_fit (own_opened k cs) (opened_fit k) n (value_in (construct_at cs n).body) (ready_by n (cases_lt n (length cs)))

  pub expression_fit : (k n : ℕ) (e : Expression) → IsClean cs n e → IsFormed cs n e → IsFit (own_of k cs n e)
  expression_fit k n e c f = own_fit (own_opened k cs) (opened_fit k) cs n e c f

-- ---- the laws

pub forms_are_well : FormsAreWell
forms_are_well cs sound formed k n e within is =
    let ready : All (IsReady cs n) (Some e) = subst (All (IsReady cs n)) is (ready_at cs sound.clean formed n within) in
    expression_fit cs sound.clean formed k n e ready.0 ready.1

pub forms_are_canonical : FormsAreCanonical
forms_are_canonical cs sound formed k n e within is h =
    let fit = forms_are_well cs sound formed k n e within is in
    rendered_is_canonical h (own_of k cs n e) fit.0 fit.1

abbrev IsPlainObject : Plain → Type 0
IsPlainObject p = ((fs : plain.Fields) × (p ≡ object_of fs)) × ((h : Homes) → (ms : Members) × (rendered h p ≡ object ms))

object_is_object : (k : ℕ) (cs : List Placed) (n : ℕ) (e : Expression) → IsObject e → IsPlainObject (own_of k cs n e)
object_is_object k cs n (expression.object fs) h = ((own_fields (own_opened k cs) cs n fs plain.no_fields, refl), λ h. (rendered_fields h (own_fields (own_opened k cs) cs n fs plain.no_fields), refl))
object_is_object k cs n (expression.text s) h = absurd h
object_is_object k cs n (expression.whole z) h = absurd h
object_is_object k cs n (expression.truth b) h = absurd h
object_is_object k cs n (expression.list es) h = absurd h
object_is_object k cs n (expression.pseudo p) h = absurd h
object_is_object k cs n (expression.ref t) h = absurd h
object_is_object k cs n (expression.get_att t a) h = absurd h
object_is_object k cs n (expression.concat es) h = absurd h
object_is_object k cs n (expression.join d e) h = absurd h
object_is_object k cs n (expression.select i e) h = absurd h
object_is_object k cs n (expression.split d e) h = absurd h
object_is_object k cs n (expression.choice b x y) h = absurd h
object_is_object k cs n (expression.find_in_map m x y) h = absurd h
object_is_object k cs n (expression.import_value t) h = absurd h
object_is_object k cs n (expression.context j d) h = absurd h
object_is_object k cs n (expression.lazy t) h = absurd h

pub properties_are_objects : PropertiesAreObjects
properties_are_objects cs formed k n r within is =
    let body : IsFormedBody cs n (construct.resource r) = subst (IsFormedBody cs n) is (formed n within) in
    object_is_object k cs n r.properties body.0
