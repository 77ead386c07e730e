-- Values one after another.
use Rattle.std.proofs.Common.{◌≡◌, ℕ, zero, suc, ◌+◌, ◌<◌, List, [], ◌∷◌, ◌++◌, length, length-append, Bool, true, false, Option, Some, refl, ap, ◌∙◌, sym, subst, arith}
use Rattle.std.specs.Prelude.{◌==◌, option_map}
use Rattle.std.proofs.lemmas.Bool.Decides.{nat_tests}
use Rattle.serde_json.specs.View.{view}
use Rattle.serde_json.specs.declared.value.Value.{Value}
use Rattle.cdk_expansion.specs.Own.{value_in}
use Rattle.cdk_language.specs.Construct as language
use Rattle.cdk_language.specs.Construct.{Body, ResourceBody}
use Rattle.cdk_language.specs.Expression.{Expression}
use Rattle.cdk_leaves.specs.Ready.{Scope}
use Rattle.cdk_manifest.specs.Values.{value_at}
use Rattle.cdk_resolve.specs.KeptView.{IsRight, kept_scope}
use Rattle.cdk_resolve.specs.declared.kept.Kept.{Kept}
use Rattle.cdk_template.specs.Own.{spelling_of}
use Rattle.cdk_template.specs.Sources.{RendersOwn, SpellsOwn}
use Rattle.cdk_tree.specs.Placed.{Placed, construct_at}
use Rattle.cdk_synthesis.specs.Values.{IsValueOf}

-- ---- one value

-- what is rendered of a resource is the value of its properties
pub resource_value : (v : Value) (cs : List Placed) (n : ℕ) (b : Body) (r : ResourceBody) → b ≡ language.resource r → Some (view v) ≡ option_map ((spelling_of cs).value n) (value_in b) → IsValueOf v cs n b
resource_value v cs n b r is shown =
    let P : Body → Type 0 = λ x. IsValueOf v cs n x in
    let Q : Body → Type 0 = λ x. Some (view v) ≡ option_map ((spelling_of cs).value n) (value_in x) in
    let same : view v ≡ (spelling_of cs).value n r.properties = cc (subst Q is shown) in
    subst P (sym is) same

pub renders_own : (cs : List Placed) (k : Kept) (s : Scope) → IsRight k → kept_scope k ≡ s → SpellsOwn cs s → RendersOwn cs k
renders_own cs k s right is own = record { right = right; own = subst (SpellsOwn cs) (sym is) own }

-- ---- many

at_front : (vs : List Value) (v : Value) (n : ℕ) → n < length vs → value_at (vs ++ v ∷ []) n ≡ value_at vs n
at_front [] v n within = absurd (omega (arith, within))
at_front (w ∷ vs) v zero within = refl
at_front (w ∷ vs) v (suc n) within = at_front vs v n (omega (arith, within))

at_last : (vs : List Value) (v : Value) → value_at (vs ++ v ∷ []) (length vs) ≡ view v
at_last [] v = refl
at_last (w ∷ vs) v = at_last vs v

-- those before the number k are there
pub record AreMade (vs : List Value) (cs : List Placed) (k : ℕ) : Type 0 where
  pub counted : length vs ≡ k
  pub each : (n : ℕ) (r : ResourceBody) → n < k → (construct_at cs n).body ≡ language.resource r → value_at vs n ≡ (spelling_of cs).value n r.properties

pub none_made : (cs : List Placed) → AreMade [] cs 0
none_made cs = record { counted = refl; each = λ n r within e. absurd (omega (arith, within)) }

own : (v : Value) (cs : List Placed) (k : ℕ) (b : Body) (r : ResourceBody) → b ≡ language.resource r → IsValueOf v cs k b → view v ≡ (spelling_of cs).value k r.properties
own v cs k b r e h = subst (IsValueOf v cs k) e h

pub one_more : (vs : List Value) (v : Value) (cs : List Placed) (k : ℕ) → AreMade vs cs k → IsValueOf v cs k (construct_at cs k).body → AreMade (vs ++ v ∷ []) cs (k + 1)
one_more vs v cs k made is = record {
  counted = length-append vs (v ∷ []) ∙ ap (λ n. n + 1) made.counted;
  each = λ n r within e. by n r e within (n == k) refl;
}
  where
    by : (n : ℕ) (r : ResourceBody) → (construct_at cs n).body ≡ language.resource r → n < k + 1 → (b : Bool) → (n == k) ≡ b → value_at (vs ++ v ∷ []) n ≡ (spelling_of cs).value n r.properties
    by n r e within true same =
        let here : n ≡ k = grind (arith, nat_tests, same) in
        let last : length vs ≡ n = made.counted ∙ sym here in
        ap (value_at (vs ++ v ∷ [])) (sym last) ∙ at_last vs v ∙ own v cs k (construct_at cs k).body r (ap (λ m. (construct_at cs m).body) (sym here) ∙ e) is
        ∙ ap (λ m. (spelling_of cs).value m r.properties) (sym here)
    by n r e within false other =
        let before : n < k = grind (arith, nat_tests, other, within) in
        at_front vs v n (omega (arith, before, made.counted)) ∙ made.each n r before e
