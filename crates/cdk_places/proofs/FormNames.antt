-- What is asked of a form's name, by the table of names.
use Rattle.std.proofs.Common.{◌≡◌, ◌≢◌, ℕ, List, [], ◌∷◌, length, Bool, true, false, cond, is_some, Option, Some, None, option_map, refl, sym, ap, ◌∙◌}
use Rattle.std.specs.Prelude.{◌||◌, unwrap_or}
use Rattle.serde_json.specs.View.{members_view}
use Rattle.serde_json.proofs.Views.{Entry}
use Rattle.cdk_language.specs.Schema.{form_member, is_form_name, is_form, is_condition_form}
use Rattle.cdk_language.specs.declared.schema.Role.{Role}
use Rattle.cdk_language.specs.declared.schema.Role.TheVariants as roles
use Rattle.cdk_language.specs.declared.schema.Within.{Within}
use Rattle.cdk_members.specs.Forms.{form_named}
use Rattle.cdk_members.specs.declared.forms.FormName.{FormName}
use Rattle.cdk_members.specs.declared.forms.FormName.TheVariants as forms
use Rattle.cdk_places.specs.Arguments.{argument_role}

-- the role of the argument of what a text names
unfoldable role_at : Within → Option FormName → Role
role_at w o = unwrap_or (option_map (argument_role w) o) roles.Nothing

role_tested : (w : Within) (b : Bool) (f : FormName) (o : Option FormName) (r : Role) → r ≡ role_at w o → cond b (argument_role w f) r ≡ role_at w (cond b (Some f) o)
unfolding role_at
role_tested w true f o r e = refl
role_tested w false f o r e = e

role_of_none : (w : Within) → roles.Nothing ≡ role_at w None
unfolding role_at
role_of_none w = refl

role_of_some : (w : Within) (f : FormName) → argument_role w f ≡ role_at w (Some f)
unfolding role_at
role_of_some w f = refl

role_by_name : (w : Within) (k : List ℕ) → form_member w k ≡ role_at w (form_named k)
role_by_name w k =
    let t = role_tested w in
    t _ forms.Ref _ _ (t _ forms.GetAtt _ _ (t _ forms.Join _ _ (t _ forms.Select _ _ (t _ forms.Split _ _ (t _ forms.If _ _
    (t _ forms.FindInMap _ _ (t _ forms.ImportValue _ _ (t _ forms.Sub _ _ (t _ forms.Concat _ _ (t _ forms.Context _ _ (t _ forms.Lazy _ _ (role_of_none w))))))))))))

pub member_of_form : (w : Within) (k : List ℕ) (f : FormName) → Some f ≡ form_named k → argument_role w f ≡ form_member w k
member_of_form w k f named = role_of_some w f ∙ ap (role_at w) named ∙ sym (role_by_name w k)

pub member_of_none : (w : Within) (k : List ℕ) → None ≡ form_named k → roles.Nothing ≡ form_member w k
member_of_none w k named = role_of_none w ∙ ap (role_at w) named ∙ sym (role_by_name w k)

unfoldable is_there : Option FormName → Bool
is_there o = is_some o

there_tested : (b : Bool) (f : FormName) (o : Option FormName) (r : Bool) → r ≡ is_there o → (b || r) ≡ is_there (cond b (Some f) o)
unfolding is_there
there_tested true f o r e = refl
there_tested false f o r e = e

none_there : false ≡ is_there None
unfolding is_there
none_there = refl

there_by_name : (k : List ℕ) → is_form_name k ≡ is_there (form_named k)
there_by_name k =
    let t = there_tested in
    t _ forms.Ref _ _ (t _ forms.GetAtt _ _ (t _ forms.Join _ _ (t _ forms.Select _ _ (t _ forms.Split _ _ (t _ forms.If _ _
    (t _ forms.FindInMap _ _ (t _ forms.ImportValue _ _ (t _ forms.Sub _ _ (t _ forms.Concat _ _ (t _ forms.Context _ _ (t _ forms.Lazy _ _ none_there)))))))))))

pub is_name_by_name : (k : List ℕ) → is_form_name k ≡ is_some (form_named k)
unfolding is_there
is_name_by_name k = there_by_name k

-- an object of no or more members is no form
pub no_form : (w : Within) (es : List Entry) → length es ≢ 1 → is_form w (members_view es) ≡ false
no_form w [] h = refl
no_form w (e ∷ []) h = absurd (h refl)
no_form w (e ∷ f ∷ es) h = refl

pub no_condition_form : (es : List Entry) → length es ≢ 1 → is_condition_form (members_view es) ≡ false
no_condition_form [] h = refl
no_condition_form (e ∷ []) h = absurd (h refl)
no_condition_form (e ∷ f ∷ es) h = refl
