-- The first of a list of findings.
use Rattle.std.proofs.Common.{◌≡◌, List, [], ◌∷◌, ◌++◌, map, Bool, true, false, cond, Some, None, refl, ap, ◌∙◌}
use Rattle.std.specs.Prelude.{◌||◌}
use Rattle.serde_json.specs.Data.{Data}
use Rattle.cdk_base.specs.declared.code.Code.{Code}
use Rattle.cdk_base.specs.declared.code.Code.TheVariants as faults
use Rattle.cdk_language.specs.Findings.{when, own, here, place, first, is_fraction, is_marked_text, is_joined_marked}
use Rattle.cdk_language.specs.Schema.{is_wrong}
use Rattle.cdk_language.specs.declared.finding.Finding.{Finding}
use Rattle.cdk_language.specs.declared.schema.Role.{Role}

some_same : {A : Type 0} (y x : A) → Some y ≡ Some x → y ≡ x
some_same y x e = cc

pub none_first : {A B : Type 0} (f : A → B) (xs : List A) (ys : List B) → first xs ≡ None → first (map f xs ++ ys) ≡ first ys
none_first f [] ys e = refl
none_first f (x ∷ xs) ys e = cc

pub some_first : {A B : Type 0} (f : A → B) (xs : List A) (ys : List B) (x : A) → first xs ≡ Some x → first (map f xs ++ ys) ≡ Some (f x)
some_first f [] ys x e = cc
some_first f (y ∷ xs) ys x e = ap (λ z. Some (f z)) (some_same y x e)

pub own_first : (marked : Bool) (role : Role) (d : Data) (inside : List Finding) (c : Code) → first (own marked role d) ≡ Some c → first (place marked role d inside) ≡ Some (here c)
own_first marked role d inside c e = some_first here (own marked role d) _ c e

not_wrong : (b : Bool) (rest : List Code) (inside : List Finding) → first (when b faults.Shape ++ rest) ≡ None → cond b [] inside ≡ inside
not_wrong true rest inside e = cc
not_wrong false rest inside e = refl

pub own_none : (marked : Bool) (role : Role) (d : Data) (inside : List Finding) → first (own marked role d) ≡ None → first (place marked role d inside) ≡ first inside
own_none marked role d inside e =
    none_first here (own marked role d) _ e
    ∙ ap first (not_wrong (is_wrong role d) (when (is_fraction d) faults.Number ++ when (marked || (is_marked_text d || is_joined_marked role d)) faults.LiteralMarker) inside e)
