-- Exports and names that are put one after another.
use Rattle.std.proofs.Common.{◌≡◌, ℕ, List, [], ◌∷◌, ◌++◌, Bool, true, false, cond, Option, Some, None, refl, sym, ap, ◌∙◌, append_assoc}
use Rattle.std.specs.Prelude.{◌||◌, bytes_eq}
use Rattle.std.specs.List.{cons_option}
use Rattle.std.specs.Option.{option_or}
use Rattle.std.proofs.lemmas.Slice.Eq.{bytes_eq-Decides}
use Rattle.cdk_eval.specs.Reach.{is_among}
use Rattle.cdk_eval.specs.Stack.{lookup}

way_at : (a b : List ℕ) (t u : Bool) → bytes_eq a b ≡ t → bytes_eq b a ≡ u → t ≡ u
way_at a b true true e f = refl
way_at a b false false e f = refl
way_at a b true false e f = let back : bytes_eq b a ≡ true = (bytes_eq-Decides b a).1 (sym ((bytes_eq-Decides a b).0 e)) in cc
way_at a b false true e f = let back : bytes_eq a b ≡ true = (bytes_eq-Decides a b).1 (sym ((bytes_eq-Decides b a).0 f)) in cc

pub either_way : (a b : List ℕ) → bytes_eq a b ≡ bytes_eq b a
either_way a b = way_at a b (bytes_eq a b) (bytes_eq b a) refl refl

-- what is found is moved from the rest to what was found
pub moved : {X : Type 0} (all was now one whole rest : List X) → all ≡ was ++ whole → whole ≡ one ++ rest → now ≡ was ++ one → all ≡ now ++ rest
moved all was now one whole rest found split more = found ∙ ap (λ xs. was ++ xs) split ∙ sym (append_assoc was one rest) ∙ ap (λ xs. xs ++ rest) (sym more)

or_step : (o l : Option (List ℕ)) (t : List ℕ) (b : Bool) → option_or o (cond b (Some t) l) ≡ option_or (option_or o (cond b (Some t) None)) l
or_step None l t true = refl
or_step None l t false = refl
or_step (Some x) l t true = refl
or_step (Some x) l t false = refl

-- one export, then the rest
pub lookup_step : (o : Option (List ℕ)) (e n t : List ℕ) (xs : List (List ℕ × List ℕ)) → option_or o (lookup e ((n, t) ∷ xs)) ≡ option_or (option_or o (cond (bytes_eq n e) (Some t) None)) (lookup e xs)
lookup_step o e n t xs = or_step o (lookup e xs) t (bytes_eq e n) ∙ ap (λ b. option_or (option_or o (cond b (Some t) None)) (lookup e xs)) (either_way e n)

or_swap : (a b : Bool) → (a || b) ≡ (b || (a || false))
or_swap true true = refl
or_swap true false = refl
or_swap false true = refl
or_swap false false = refl

pub put_one : (old : Bool) (n e : List ℕ) → (bytes_eq n e || old) ≡ (old || (bytes_eq e n || false))
put_one old n e = ap (λ b. b || old) (either_way n e) ∙ or_swap (bytes_eq e n) old

pub put_none : (old : Bool) → old ≡ (old || false)
put_none true = refl
put_none false = refl

or_three : (a b d : Bool) → (a || (b || d)) ≡ ((a || (b || false)) || d)
or_three true b d = refl
or_three false true d = refl
or_three false false d = refl

pub put_more : (old : Bool) (e : List ℕ) (o : Option (List ℕ)) (ns : List (List ℕ)) → (old || is_among e (cons_option o ns)) ≡ ((old || is_among e (cons_option o [])) || is_among e ns)
put_more old e None ns = ap (λ b. b || is_among e ns) (put_none old)
put_more old e (Some n) ns = or_three old (bytes_eq e n) (is_among e ns)

or_assoc : (a b d : Bool) → (a || (b || d)) ≡ ((a || b) || d)
or_assoc true b d = refl
or_assoc false b d = refl

among_both : (e : List ℕ) (xs ys : List (List ℕ)) → is_among e (xs ++ ys) ≡ (is_among e xs || is_among e ys)
among_both e [] ys = refl
among_both e (x ∷ xs) ys = ap (λ b. bytes_eq e x || b) (among_both e xs ys) ∙ or_assoc (bytes_eq e x) (is_among e xs) (is_among e ys)

pub put_all : (old : Bool) (e : List ℕ) (xs ys : List (List ℕ)) → (old || is_among e (xs ++ ys)) ≡ ((old || is_among e xs) || is_among e ys)
put_all old e xs ys = ap (λ b. old || b) (among_both e xs ys) ∙ or_assoc old (is_among e xs) (is_among e ys)
