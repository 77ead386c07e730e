-- An expression is a list exactly where the lazies that it needs are.
use Rattle.std.proofs.Common.{◌≡◌, ◌<◌, ℕ, zero, suc, List, [], ◌∷◌, ◌++◌, map, length, get_or, Bool, true, false, Option, Some, None, option_map, refl, sym, ap, subst, ◌∙◌, ◌-◌, ◌≤◌, inl, inr, arith}
use Rattle.std.specs.Prelude.{◌&&◌, ◌⊎◌}
use Rattle.std.specs.List.{list_all}
use Rattle.std.specs.Option.{option_map_or}
use Rattle.std.specs.Str.{bytes_eq}
use Rattle.std.proofs.lemmas.Bool.{cases_lt}
use Rattle.std.proofs.lemmas.List.{length-append, length-map, get_or-map, get_or_append_left, get_or_past}
use Rattle.std.proofs.lemmas.List.Folds.{list_all-append}
use Rattle.std.proofs.lemmas.List.Quantifiers.{position-Some}
use Rattle.std.proofs.Math.Seq.{get_or-append_right}
use Rattle.serde_json.specs.Data.{Members}
use Rattle.cdk_language.specs.Construct as language
use Rattle.cdk_language.specs.Construct.{Body}
use Rattle.cdk_language.specs.Expression as expression
use Rattle.cdk_language.specs.Expression.{Expression}
use Rattle.cdk_tree.specs.Lists.{is_list_body, is_list_where, list_lazies, lists_after}
use Rattle.cdk_tree.specs.Needed.{all_needed, both_needed, finds_array, met_where, names_list, needed, needed_body}
use Rattle.cdk_needs.specs.Needs.{is_met, met_after, AreWithin}
use Rattle.cdk_tree.specs.Placed.{Placed, construct_at, find_path, nowhere}

is_met-where : (ms : List Bool) (b : Bool) → b ≡ is_met ms (met_where b)
is_met-where ms true = refl
is_met-where ms false = refl

is_met-both : (ms : List Bool) (o p : Option (List ℕ)) → (is_met ms o && is_met ms p) ≡ is_met ms (both_needed o p)
is_met-both ms None p = refl
is_met-both ms (Some ls) None = and_false (list_all (λ l. get_or ms l false) ls)
  where
    and_false : (b : Bool) → (b && false) ≡ false
    and_false true = refl
    and_false false = refl
is_met-both ms (Some ls) (Some ks) = sym (list_all-append (λ l. get_or ms l false) ls ks)

is_met-lazy : (ms : List Bool) (o : Option ℕ) → option_map_or (λ n. get_or ms n false) o false ≡ is_met ms (option_map (λ n. n ∷ []) o)
is_met-lazy ms None = refl
is_met-lazy ms (Some n) = and_true (get_or ms n false)
  where
    and_true : (b : Bool) → b ≡ (b && true)
    and_true true = refl
    and_true false = refl

pub is_list-needed : (cs : List Placed) (ms : List Bool) (scopes : List Members) (e : Expression) → is_list_where cs ms scopes e ≡ is_met ms (needed cs scopes e)
is_list-needed cs ms scopes (expression.text s) = refl
is_list-needed cs ms scopes (expression.whole n) = refl
is_list-needed cs ms scopes (expression.truth b) = refl
is_list-needed cs ms scopes (expression.list es) = refl
is_list-needed cs ms scopes (expression.object fs) = refl
is_list-needed cs ms scopes (expression.pseudo p) = refl
is_list-needed cs ms scopes (expression.ref t) = is_met-where ms (names_list cs t)
is_list-needed cs ms scopes (expression.get_att t a) = refl
is_list-needed cs ms scopes (expression.concat es) = refl
is_list-needed cs ms scopes (expression.join d l) = refl
is_list-needed cs ms scopes (expression.select n l) = refl
is_list-needed cs ms scopes (expression.split d x) = refl
is_list-needed cs ms scopes (expression.choice c x y) =
    ap (λ b. b && is_list_where cs ms scopes y) (is_list-needed cs ms scopes x)
    ∙ ap (λ b. is_met ms (needed cs scopes x) && b) (is_list-needed cs ms scopes y)
    ∙ is_met-both ms (needed cs scopes x) (needed cs scopes y)
is_list-needed cs ms scopes (expression.find_in_map m x y) = refl
is_list-needed cs ms scopes (expression.import_value t) = refl
is_list-needed cs ms scopes (expression.context k d) = is_met-where ms (finds_array scopes k d)
is_list-needed cs ms scopes (expression.lazy t) = is_met-lazy ms (find_path cs t)

is_list_body-needed : (cs : List Placed) (ms : List Bool) (scopes : List Members) (b : Body) → is_list_body cs ms scopes b ≡ is_met ms (needed_body cs scopes b)
is_list_body-needed cs ms scopes language.root = refl
is_list_body-needed cs ms scopes language.stage = refl
is_list_body-needed cs ms scopes (language.stack d) = refl
is_list_body-needed cs ms scopes language.group = refl
is_list_body-needed cs ms scopes (language.resource r) = refl
is_list_body-needed cs ms scopes (language.parameter p) = refl
is_list_body-needed cs ms scopes (language.condition_body c) = refl
is_list_body-needed cs ms scopes (language.mapping m) = refl
is_list_body-needed cs ms scopes (language.output o) = refl
is_list_body-needed cs ms scopes (language.lazy e) = is_list-needed cs ms scopes e

none_marked : (f : Placed → Option (List ℕ)) (xs : List Placed) → map (λ c. false) xs ≡ map (λ n. false) (map f xs)
none_marked f [] = refl
none_marked f (x ∷ xs) = ap (λ r. false ∷ r) (none_marked f xs)

one_look : (cs : List Placed) (ms : List Bool) (xs : List Placed) → map (λ c. is_list_body cs ms c.contexts c.body) xs ≡ map (is_met ms) (map (λ c. needed_body cs c.contexts c.body) xs)
one_look cs ms [] = refl
one_look cs ms (x ∷ xs) =
    ap (λ b. b ∷ map (λ c. is_list_body cs ms c.contexts c.body) xs) (is_list_body-needed cs ms x.contexts x.body)
    ∙ ap (λ r. is_met ms (needed_body cs x.contexts x.body) ∷ r) (one_look cs ms xs)

lists_after-needed : (k : ℕ) (cs : List Placed) → lists_after k cs ≡ met_after k (all_needed cs)
lists_after-needed zero cs = none_marked (λ c. needed_body cs c.contexts c.body) cs
lists_after-needed (suc k) cs =
    one_look cs (lists_after k cs) cs ∙ ap (λ ms. map (is_met ms) (all_needed cs)) (lists_after-needed k cs)

-- the lists among the lazies are the needs that are met
pub list_lazies-needed : (cs : List Placed) → met_after (length (all_needed cs)) (all_needed cs) ≡ list_lazies cs
list_lazies-needed cs =
    let f : Placed → Option (List ℕ) = λ c. needed_body cs c.contexts c.body in
    ap (λ n. met_after n (all_needed cs)) (length-map cs f) ∙ sym (lists_after-needed (length cs) cs)

-- ---- the numbers are those of constructs

-- each number of the needs is below n
abbrev pub AllBelow : ℕ → Option (List ℕ) → Type 0
AllBelow n None = Unit {0}
AllBelow n (Some ls) = (k : ℕ) → k < length ls → get_or ls k 0 < n

AllBelow-where : (n : ℕ) (b : Bool) → AllBelow n (met_where b)
AllBelow-where n true = λ k less. absurd (omega arith)
AllBelow-where n false = tt

AllBelow-both : (n : ℕ) (o p : Option (List ℕ)) → AllBelow n o → AllBelow n p → AllBelow n (both_needed o p)
AllBelow-both n None p h g = tt
AllBelow-both n (Some ls) None h g = tt
AllBelow-both n (Some ls) (Some ks) h g = λ k less. by k less (cases_lt k (length ls))
  where
    by : (k : ℕ) → k < length (ls ++ ks) → (k < length ls) ⊎ (length ls ≤ k) → get_or (ls ++ ks) k 0 < n
    by k less (inl first) = let below = h k first in omega (arith, below, get_or_append_left ls ks 0 k first)
    by k less (inr later) = let below = g (k - length ls) (omega (arith, length-append ls ks)) in omega (arith, below, get_or-append_right ls ks k 0 later)

AllBelow-lazy : (cs : List Placed) (t : List ℕ) (o : Option ℕ) → find_path cs t ≡ o → AllBelow (length cs) (option_map (λ n. n ∷ []) o)
AllBelow-lazy cs t None is = tt
AllBelow-lazy cs t (Some n) is = λ k less.
    let here : k ≡ 0 = omega arith in
    let inside = (position-Some (λ c. bytes_eq t c.path) cs n nowhere is).0 in
    let one : get_or (n ∷ []) k 0 ≡ n = ap (λ j. get_or (n ∷ []) j 0) here in
    omega (arith, inside, one)

AllBelow-needed : (cs : List Placed) (scopes : List Members) (e : Expression) → AllBelow (length cs) (needed cs scopes e)
AllBelow-needed cs scopes (expression.text s) = tt
AllBelow-needed cs scopes (expression.whole n) = tt
AllBelow-needed cs scopes (expression.truth b) = tt
AllBelow-needed cs scopes (expression.list es) = AllBelow-where (length cs) true
AllBelow-needed cs scopes (expression.object fs) = tt
AllBelow-needed cs scopes (expression.pseudo p) = tt
AllBelow-needed cs scopes (expression.ref t) = AllBelow-where (length cs) (names_list cs t)
AllBelow-needed cs scopes (expression.get_att t a) = tt
AllBelow-needed cs scopes (expression.concat es) = tt
AllBelow-needed cs scopes (expression.join d l) = tt
AllBelow-needed cs scopes (expression.select n l) = tt
AllBelow-needed cs scopes (expression.split d x) = AllBelow-where (length cs) true
AllBelow-needed cs scopes (expression.choice c x y) = AllBelow-both (length cs) (needed cs scopes x) (needed cs scopes y) (AllBelow-needed cs scopes x) (AllBelow-needed cs scopes y)
AllBelow-needed cs scopes (expression.find_in_map m x y) = tt
AllBelow-needed cs scopes (expression.import_value t) = tt
AllBelow-needed cs scopes (expression.context k d) = AllBelow-where (length cs) (finds_array scopes k d)
AllBelow-needed cs scopes (expression.lazy t) = AllBelow-lazy cs t (find_path cs t) refl

AllBelow-body : (cs : List Placed) (scopes : List Members) (b : Body) → AllBelow (length cs) (needed_body cs scopes b)
AllBelow-body cs scopes language.root = tt
AllBelow-body cs scopes language.stage = tt
AllBelow-body cs scopes (language.stack d) = tt
AllBelow-body cs scopes language.group = tt
AllBelow-body cs scopes (language.resource r) = tt
AllBelow-body cs scopes (language.parameter p) = tt
AllBelow-body cs scopes (language.condition_body c) = tt
AllBelow-body cs scopes (language.mapping m) = tt
AllBelow-body cs scopes (language.output o) = tt
AllBelow-body cs scopes (language.lazy e) = AllBelow-needed cs scopes e

below_at : (n : ℕ) (o : Option (List ℕ)) (ls : List ℕ) (k : ℕ) → o ≡ Some ls → AllBelow n o → k < length ls → get_or ls k 0 < n
below_at n o ls k is h less = (subst (AllBelow n) is h) k less

pub needs_within : (cs : List Placed) → AreWithin (all_needed cs)
needs_within cs u ls k is less = by (cases_lt u (length cs))
  where
    f : Placed → Option (List ℕ)
    f c = needed_body cs c.contexts c.body

    count : length (all_needed cs) ≡ length cs
    count = length-map cs (let g : Placed → Option (List ℕ) = λ c. needed_body cs c.contexts c.body in g)

    past_end : None ≡ Some ls → ⊥
    past_end h = cc

    by : (u < length cs) ⊎ (length cs ≤ u) → get_or ls k 0 < length (all_needed cs)
    by (inl inside) =
        let here = construct_at cs u in
        let same : needed_body cs here.contexts here.body ≡ Some ls = sym (get_or-map (λ c. needed_body cs c.contexts c.body) cs u nowhere None inside) ∙ is in
        let below = below_at (length cs) (needed_body cs here.contexts here.body) ls k same (AllBelow-body cs here.contexts here.body) less in
        omega (arith, below, count)
    by (inr past) = absurd (past_end (sym (get_or_past (all_needed cs) u None (omega (arith, count))) ∙ is))
