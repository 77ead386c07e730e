-- What a loop over artifacts has found, after one more.
use Rattle.std.proofs.Common.{◌≡◌, ℕ, List, [], ◌∷◌, ◌++◌, Bool, true, false, Option, Some, None, filter, refl, sym, ap, ◌∙◌, append_assoc}
use Rattle.std.specs.Prelude.{◌||◌, if◌then◌else◌}
use Rattle.cdk_eval.specs.Manifest.{text_onto}
use Rattle.cdk_eval.specs.Reach.{is_among}

-- what is found is moved from the rest to what was found
pub moved : {X : Type 0} (all was now one whole rest : List X) → all ≡ was ++ whole → whole ≡ one ++ rest → now ≡ was ++ one → all ≡ now ++ rest
moved all was now one whole rest found split more = found ∙ ap (λ xs. was ++ xs) split ∙ sym (append_assoc was one rest) ∙ ap (λ xs. xs ++ rest) (sym more)

pub texts_split : (b : Bool) (o : Option (List ℕ)) (ts : List (List ℕ)) → (if b then text_onto o ts else ts) ≡ (if b then text_onto o [] else []) ++ ts
texts_split true (Some t) ts = refl
texts_split true None ts = refl
texts_split false o ts = refl

pub one_split : {X : Type 0} (b : Bool) (x : X) (xs : List X) → (if b then x ∷ xs else xs) ≡ (if b then x ∷ [] else []) ++ xs
one_split true x xs = refl
one_split false x xs = refl

pub kept_split : (known : List ℕ → Bool) (o : Option (List ℕ)) (ts : List (List ℕ)) → filter known (text_onto o ts) ≡ filter known (text_onto o []) ++ filter known ts
kept_split known None ts = refl
kept_split known (Some t) ts = one_split (known t) t (filter known ts)

or_three : (a b c : Bool) → (a || (b || c)) ≡ ((a || (b || false)) || c)
or_three true b c = refl
or_three false true c = refl
or_three false false c = refl

or_two : (a c : Bool) → (a || c) ≡ ((a || false) || c)
or_two true c = refl
or_two false c = refl

among_split : (n id : List ℕ) (ns : List (List ℕ)) (was b : Bool) → (was || is_among n (if b then id ∷ ns else ns)) ≡ ((was || is_among n (if b then id ∷ [] else [])) || is_among n ns)
among_split n id ns was true = or_three was _ (is_among n ns)
among_split n id ns was false = or_two was (is_among n ns)

pub among_moved : (n id : List ℕ) (ns : List (List ℕ)) (all was now b : Bool) → all ≡ (was || is_among n (if b then id ∷ ns else ns)) → now ≡ (was || is_among n (if b then id ∷ [] else [])) → all ≡ (now || is_among n ns)
among_moved n id ns all was now b found more = found ∙ among_split n id ns was b ∙ ap (λ x. x || is_among n ns) (sym more)
