-- Steps of the pass that counts pairs: each construct's own, and those of its scope, which comes before it.
use Rattle.std.proofs.Common.{◌≡◌, ℕ, zero, suc, ◌+◌, ◌<◌, min, List, [], ◌∷◌, ◌++◌, length, get_or, Bool, true, false, cond, Option, Some, None, refl, sym, ap, ◌∙◌, subst, arith, ⊎_elim, length-append}
use Rattle.std.specs.Prelude.{IfSome}
use Rattle.std.specs.List.{sum_by}
use Rattle.std.specs.Option.{option_map_or}
use Rattle.std.proofs.lemmas.Bool.{cases_eq}
use Rattle.std.proofs.lemmas.List.{get_or_append_left}
use Rattle.std.proofs.lemmas.List.Sums.{sum_by-cons}
use Rattle.std.proofs.Math.Seq.{get_or-append_seam}
use Rattle.cdk_tree.specs.Placed.{Placed, construct_at}
use Rattle.cdk_dependencies.specs.Counts.{most, pair_counts_from, pair_counts_of}
use Rattle.cdk_dependencies.specs.Pairs.{entry_pairs, pairs_of, scopes_of, scopes_up}

-- the construct of a number
pub id_is : (b : Bool) (n at : ℕ) → Some at ≡ cond b (Some n) None → at ≡ n
id_is true n at h = cc
id_is false n at h = cc

-- the constructs before the number n have their counts, and a larger bound finds no more scopes of theirs
pub record HavePairsTo (cs : List Placed) (n : ℕ) (counts : List ℕ) : Type 0 where
  pub one_each : length counts ≡ n
  pub scopes : (m k : ℕ) → m < n → m < k → scopes_up k cs m ≡ scopes_of cs m
  pub is : (m : ℕ) → m < n → get_or counts m 0 ≡ min (pairs_of cs m) most

-- the scopes of a construct's scope, where there is one
abbrev scopes_above : List Placed → Option ℕ → List ℕ
scopes_above cs o = option_map_or (scopes_of cs) o []

-- whatever the bound, a construct's scopes are itself and those of its scope
scopes_are : (cs : List Placed) (n : ℕ) (o : Option ℕ) → (construct_at cs n).parent ≡ o → IfSome o (λ m. m < n)
    → ((m k : ℕ) → m < n → m < k → scopes_up k cs m ≡ scopes_of cs m) → (k : ℕ) → n < k → scopes_up k cs n ≡ n ∷ scopes_above cs o
scopes_are cs n o parent below before zero h = absurd (omega arith)
scopes_are cs n None parent below before (suc k) h = ap (λ p. n ∷ option_map_or (scopes_up k cs) p []) parent
scopes_are cs n (Some m) parent below before (suc k) h =
    ap (λ p. n ∷ option_map_or (scopes_up k cs) p []) parent ∙ ap (λ ms. n ∷ ms) (before m k below (omega arith))

-- its own pairs and those of its scope
pairs_are : (cs : List Placed) (n : ℕ) (o : Option ℕ) → scopes_of cs n ≡ n ∷ scopes_above cs o → pairs_of cs n ≡ entry_pairs cs n + option_map_or (pairs_of cs) o 0
pairs_are cs n None all = ap (sum_by (entry_pairs cs)) all ∙ sum_by-cons (entry_pairs cs) n []
pairs_are cs n (Some m) all = ap (sum_by (entry_pairs cs)) all ∙ sum_by-cons (entry_pairs cs) n (scopes_of cs m)

-- as they fit
fitting : (cs : List Placed) (n : ℕ) (counts : List ℕ) (o : Option ℕ) (own : ℕ) → IfSome o (λ m. m < n) → HavePairsTo cs n counts → own ≡ min (entry_pairs cs n) most
    → pairs_of cs n ≡ entry_pairs cs n + option_map_or (pairs_of cs) o 0 → min (own + option_map_or (λ m. get_or counts m 0) o 0) most ≡ min (pairs_of cs n) most
fitting cs n counts None own below so_far e all = omega arith
fitting cs n counts (Some m) own below so_far e all = let h = so_far.is m below in omega arith

pub have_more : (cs : List Placed) (n : ℕ) (counts : List ℕ) (own above : ℕ) → IfSome (construct_at cs n).parent (λ m. m < n)
    → own ≡ min (entry_pairs cs n) most → above ≡ option_map_or (λ m. get_or counts m 0) (construct_at cs n).parent 0
    → HavePairsTo cs n counts → HavePairsTo cs (n + 1) (counts ++ min (own + above) most ∷ [])
have_more cs n counts own above below e f so_far = record {
  one_each = let long = length-append counts (pairs ∷ []) in let h : length counts ≡ n = so_far.one_each in omega arith;
  scopes = λ m k h i. ⊎_elim (scopes_here m k i) (λ apart. so_far.scopes m k (omega arith) i) (cases_eq m n);
  is = λ m h. ⊎_elim (is_here m) (λ apart. is_before m (omega arith)) (cases_eq m n);
}
  where
    pairs : ℕ
    pairs = min (own + above) most

    all : (k : ℕ) → n < k → scopes_up k cs n ≡ n ∷ scopes_above cs (construct_at cs n).parent
    all = scopes_are cs n (construct_at cs n).parent refl below so_far.scopes

    scopes_here : (m k : ℕ) → m < k → m ≡ n → scopes_up k cs m ≡ scopes_of cs m
    scopes_here m k h same =
        let P : ℕ → Type 0 = λ j. scopes_up k cs j ≡ scopes_of cs j in
        let itself : scopes_up k cs n ≡ scopes_of cs n = all k (omega arith) ∙ sym (all (suc n) (omega arith)) in
        subst P (sym same) itself

    pairs_fit : pairs ≡ min (pairs_of cs n) most
    pairs_fit =
        ap (λ a. min (own + a) most) f
        ∙ fitting cs n counts (construct_at cs n).parent own below so_far e (pairs_are cs n (construct_at cs n).parent (all (suc n) (omega arith)))

    is_here : (m : ℕ) → m ≡ n → get_or (counts ++ pairs ∷ []) m 0 ≡ min (pairs_of cs m) most
    is_here m same =
        let P : ℕ → Type 0 = λ j. get_or (counts ++ pairs ∷ []) j 0 ≡ min (pairs_of cs j) most in
        let last : get_or (counts ++ pairs ∷ []) n 0 ≡ pairs = ap (λ j. get_or (counts ++ pairs ∷ []) j 0) (sym so_far.one_each) ∙ get_or-append_seam counts pairs [] 0 in
        subst P (sym same) (last ∙ pairs_fit)

    is_before : (m : ℕ) → m < n → get_or (counts ++ pairs ∷ []) m 0 ≡ min (pairs_of cs m) most
    is_before m h =
        let long : length counts ≡ n = so_far.one_each in
        get_or_append_left counts (pairs ∷ []) 0 m (omega arith) ∙ so_far.is m h

-- all of them, from the number n on
have_all_from : (cs : List Placed) (n : ℕ) (rest : List Placed) (counts : List ℕ) → length counts ≡ length rest
    → ((m : ℕ) → m < length rest → get_or counts m 0 ≡ min (pairs_of cs (n + m)) most) → counts ≡ pair_counts_from cs n rest
have_all_from cs n [] [] long is = refl
have_all_from cs n [] (x ∷ counts) long is = absurd (omega arith)
have_all_from cs n (c ∷ rest) [] long is = absurd (omega arith)
have_all_from cs n (c ∷ rest) (x ∷ counts) long is =
    let none : n + 0 ≡ n = omega arith in
    let first : x ≡ min (pairs_of cs n) most = is 0 (omega arith) ∙ ap (λ k. min (pairs_of cs k) most) none in
    let next : (m : ℕ) → m < length rest → get_or counts m 0 ≡ min (pairs_of cs (n + 1 + m)) most =
    λ m h. let e : n + suc m ≡ n + 1 + m = omega arith in is (suc m) (omega arith) ∙ ap (λ k. min (pairs_of cs k) most) e in
    ap (λ y. y ∷ counts) first ∙ ap (λ l. min (pairs_of cs n) most ∷ l) (have_all_from cs (n + 1) rest counts (omega arith) next)

pub have_all : (cs : List Placed) (counts : List ℕ) → HavePairsTo cs (length cs) counts → counts ≡ pair_counts_of cs
have_all cs counts so_far =
    have_all_from cs 0 cs counts so_far.one_each (λ m h. let e : 0 + m ≡ m = omega arith in so_far.is m h ∙ ap (λ k. min (pairs_of cs k) most) (sym e))
