-- The JSON of a token's form and what is missing in it, told of the case that the form is.
use Rattle.std.proofs.Common.{◌≡◌, ℕ, List, ◌++◌, Result, Ok, Err, OnOk, sym, ap, ◌∙◌}
use Rattle.std.specs.Prelude.{IfOk}
use Rattle.std.proofs.lemmas.Result.{IfOk-weaker}
use Rattle.serde_json.specs.Data.{Data, string}
use Rattle.serde_json.specs.View.{view}
use Rattle.serde_json.specs.declared.value.Value.{Value}
use Rattle.cdk_leaves.specs.Lazies.{Results}
use Rattle.cdk_plain.specs.Rendered.{Homes, one, three}
use Rattle.cdk_rendering.specs.Folding.{Known}
use Rattle.cdk_rendering.specs.Missing.{form_missing}
use Rattle.cdk_rendering.specs.TokenJson.{form_json}
use Rattle.cdk_tokens.specs.Token.{Form}

pub form_laid : {E : Type 0} (h : Homes) (lazies : ℕ → Data) (known : Known Data) (r : Result Value E) (d : Data) (form case : Form) → form ≡ case → d ≡ form_json h lazies known case
    → IfOk r (λ v. view v ≡ d) → IfOk r (λ v. view v ≡ form_json h lazies known form)
form_laid h lazies known r d form case is same = IfOk-weaker r _ _ (λ v laid. laid ∙ (same ∙ ap (form_json h lazies known) (sym is)))

pub form_lost : {E : Type 0} (kept : Results) (lost : Known (List ℕ)) (r : Result Value E) (old new : List ℕ) (form case : Form) → form ≡ case → new ≡ old ++ form_missing kept lost case
    → OnOk r (new ≡ old ++ form_missing kept lost form)
form_lost kept lost (Ok v) old new form case is more = more ∙ ap (λ f. old ++ form_missing kept lost f) (sym is)
form_lost kept lost (Err e) old new form case is more = tt

pub three_laid : (k n m : List ℕ) (x a y b : Data) → n ≡ m → x ≡ a → y ≡ b → one k (three (string n) x y) ≡ one k (three (string m) a b)
three_laid k n m x a y b named first second = ap (λ s. one k (three (string s) x y)) named ∙ (ap (λ d. one k (three (string m) d y)) first ∙ ap (λ d. one k (three (string m) a d)) second)
