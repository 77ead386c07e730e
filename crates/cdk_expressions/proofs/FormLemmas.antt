-- An object of one member is the form of its key's name.
use Rattle.std.proofs.Common.{◌≡◌, ◌≢◌, ℕ, List, [], ◌∷◌, length, Option, None, option_and_then, string_bytes, refl, ap, sym, ◌∙◌}
use Rattle.serde_json.specs.Data.{Data, object, no_members, member}
use Rattle.serde_json.specs.View.{view as json_view, members_view}
use Rattle.serde_json.proofs.Views.{Entry}
use Rattle.cdk_language.specs.Application.{form_of, condition_of}
use Rattle.cdk_language.specs.Expression.{Expression}
use Rattle.cdk_members.proofs.Giving.{tested}
use Rattle.cdk_members.specs.Forms.{form_named}
use Rattle.cdk_members.specs.declared.forms.FormName.{FormName}
use Rattle.cdk_members.specs.declared.forms.FormName.TheVariants as forms
use Rattle.cdk_expressions.specs.Forms.{form_with}

by_name : (k : List ℕ) (d : Data) → form_of (member k d no_members) ≡ option_and_then (λ n. form_with n d) (form_named k)
by_name k d =
    let f : FormName → Option Expression = λ n. form_with n d in
    tested f _ forms.Ref _ _ (tested f _ forms.GetAtt _ _ (tested f _ forms.Join _ _ (tested f _ forms.Select _ _ (tested f _ forms.Split _ _ (tested f _ forms.If _ _
    (tested f _ forms.FindInMap _ _ (tested f _ forms.ImportValue _ _ (tested f _ forms.Sub _ _ (tested f _ forms.Concat _ _ (tested f _ forms.Context _ _ (tested f _ forms.Lazy _ _ refl)))))))))))

pub form_by_name : (es : List Entry) (e : Entry) (n : Option FormName) → es ≡ e ∷ [] → n ≡ form_named (string_bytes e.0) → form_of (members_view es) ≡ option_and_then (λ f. form_with f (json_view e.1)) n
form_by_name es e n only named = ap (λ xs. form_of (members_view xs)) only ∙ by_name (string_bytes e.0) (json_view e.1) ∙ ap (option_and_then (λ f. form_with f (json_view e.1))) (sym named)

pub no_form : (es : List Entry) → length es ≢ 1 → form_of (members_view es) ≡ None
no_form [] h = refl
no_form (e ∷ []) h = absurd (h refl)
no_form (e ∷ f ∷ es) h = refl

pub no_condition : (es : List Entry) → length es ≢ 1 → condition_of (object (members_view es)) ≡ None
no_condition [] h = refl
no_condition (e ∷ []) h = absurd (h refl)
no_condition (e ∷ f ∷ es) h = refl
