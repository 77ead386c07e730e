-- Counts of names and of numbers, and values at a number.
use Rattle.std.proofs.Common.{◌≡◌, ◌≢◌, ℕ, zero, suc, ◌+◌, ◌-◌, ◌<◌, ◌≤◌, List, [], ◌∷◌, ◌++◌, length, map, take, Bor, Bool, true, false, refl, sym, ap, ◌∙◌, inl, inr, arith}
use Rattle.std.specs.Prelude.{◌⊎◌, ◌&&◌, ◌||◌, nat_eq, nat_lt, if◌then◌else◌, slice_index}
use Rattle.std.proofs.lemmas.Bool.Decides.{nat_tests}
use Rattle.std.proofs.lemmas.Bool.{eq-eqb, ne_eqb}
use Rattle.std.proofs.lemmas.List.{map-append, length-map, length-take-le}
use Rattle.cdk_eval.specs.Manifest.{StackArtifact}
use Rattle.cdk_artifacts.specs.declared.stacks.Stack.{Stack}
use Rattle.cdk_artifacts.specs.Found.{stack_view, texts_of}
use Rattle.cdk_artifacts.specs.Queued.{plus_if, occurrences, missing, value_at}

plus_if_twice : (a b : Bool) (n : ℕ) → plus_if a (plus_if b n) ≡ plus_if b (plus_if a n)
plus_if_twice true true n = refl
plus_if_twice true false n = refl
plus_if_twice false true n = refl
plus_if_twice false false n = refl

pub occurrences_push : (k x : ℕ) (xs : List ℕ) → occurrences k (xs ++ x ∷ []) ≡ plus_if (nat_eq x k) (occurrences k xs)
occurrences_push k x [] = refl
occurrences_push k x (y ∷ xs) = ap (plus_if (nat_eq y k)) (occurrences_push k x xs) ∙ plus_if_twice (nat_eq y k) (nat_eq x k) (occurrences k xs)

-- ---- what is put for one name more

pub put_step : (a b : Bool) (o t w : ℕ) → o + (if b then plus_if a t else 0) ≡ w → plus_if (a && b) o + (if b then t else 0) ≡ w
put_step true true o t w h = omega (arith, h)
put_step true false o t w h = h
put_step false true o t w h = h
put_step false false o t w h = h

-- ---- the value at a number

pub value_none : {X : Type 0} (z : X) (f : StackArtifact → X) (ss : List StackArtifact) (k : ℕ) → length ss ≤ k → value_at z f ss k ≡ z
value_none z f [] k h = refl
value_none z f (s ∷ ss) zero h = absurd (omega (arith, h))
value_none z f (s ∷ ss) (suc k) h = value_none z f ss k (omega (arith, h))

pub value_last : {X : Type 0} (z : X) (f : StackArtifact → X) (ss : List StackArtifact) (s : StackArtifact) (k : ℕ) → k ≡ length ss → value_at z f (ss ++ s ∷ []) k ≡ f s
value_last z f [] s zero e = refl
value_last z f [] s (suc k) e = absurd (omega (arith, e))
value_last z f (t ∷ ss) s zero e = absurd (omega (arith, e))
value_last z f (t ∷ ss) s (suc k) e = value_last z f ss s k (omega (arith, e))

pub value_other : {X : Type 0} (z : X) (f : StackArtifact → X) (ss : List StackArtifact) (s : StackArtifact) (k : ℕ) → k ≢ length ss → value_at z f (ss ++ s ∷ []) k ≡ value_at z f ss k
value_other z f [] s zero e = absurd (e refl)
value_other z f [] s (suc k) e = refl
value_other z f (t ∷ ss) s zero e = refl
value_other z f (t ∷ ss) s (suc k) e = value_other z f ss s k (λ h. e (ap suc h))

same_or_not : (a b : ℕ) → ((nat_eq a b ≡ true) × (a ≡ b)) ⊎ ((nat_eq a b ≡ false) × (a ≢ b))
same_or_not zero zero = inl (refl, refl)
same_or_not zero (suc b) = inr (ne_eqb zero (suc b) (λ e. omega (arith, e)), λ e. omega (arith, e))
same_or_not (suc a) zero = inr (ne_eqb (suc a) zero (λ e. omega (arith, e)), λ e. omega (arith, e))
same_or_not (suc a) (suc b) = at (same_or_not a b)
  where
    at : ((nat_eq a b ≡ true) × (a ≡ b)) ⊎ ((nat_eq a b ≡ false) × (a ≢ b)) → ((nat_eq (suc a) (suc b) ≡ true) × (suc a ≡ suc b)) ⊎ ((nat_eq (suc a) (suc b) ≡ false) × (suc a ≢ suc b))
    at (inl h) = inl (eq-eqb (suc a) (suc b) (ap suc h.1), ap suc h.1)
    at (inr h) = inr (ne_eqb (suc a) (suc b) (λ e. h.1 (omega (arith, e))), λ e. h.1 (omega (arith, e)))

pub is_same : (a b : ℕ) → ((nat_eq a b ≡ true) × (a ≡ b)) ⊎ ((nat_eq a b ≡ false) × (a ≢ b))
is_same a b = same_or_not a b

pub count_step : (f : StackArtifact → ℕ) (ss : List StackArtifact) (s : StackArtifact) (i k : ℕ) → length ss ≡ i → value_at 0 f (ss ++ s ∷ []) k ≡ value_at 0 f ss k + (if nat_eq i k then f s else 0)
count_step f ss s i k e = at (is_same i k)
  where
    at : ((nat_eq i k ≡ true) × (i ≡ k)) ⊎ ((nat_eq i k ≡ false) × (i ≢ k)) → value_at 0 f (ss ++ s ∷ []) k ≡ value_at 0 f ss k + (if nat_eq i k then f s else 0)
    at (inl h) =
        let last = value_last 0 f ss s k (sym (e ∙ h.1)) in
        let none = value_none 0 f ss k (omega (arith, e, h.1)) in
        let chosen : (if nat_eq i k then f s else 0) ≡ f s = ap (λ b. if b then f s else 0) h.0 in
        omega (arith, last, none, chosen)
    at (inr h) =
        let other = value_other 0 f ss s k (λ q. h.1 (sym (q ∙ e))) in
        let chosen : (if nat_eq i k then f s else 0) ≡ 0 = ap (λ b. if b then f s else 0) h.0 in
        omega (arith, other, chosen)

pub test_step : (p : StackArtifact → Bool) (ss : List StackArtifact) (s : StackArtifact) (i k : ℕ) → length ss ≡ i → value_at false p (ss ++ s ∷ []) k ≡ value_at false p ss k || (p s && nat_eq i k)
test_step p ss s i k e = at (is_same i k)
  where
    and_true : (b : Bool) → b ≡ b && true
    and_true true = refl
    and_true false = refl

    or_none : (a b : Bool) → a ≡ a || (b && false)
    or_none true true = refl
    or_none true false = refl
    or_none false true = refl
    or_none false false = refl

    at : ((nat_eq i k ≡ true) × (i ≡ k)) ⊎ ((nat_eq i k ≡ false) × (i ≢ k)) → value_at false p (ss ++ s ∷ []) k ≡ value_at false p ss k || (p s && nat_eq i k)
    at (inl h) = value_last false p ss s k (sym (e ∙ h.1)) ∙ and_true (p s) ∙ sym (ap (λ b. b || (p s && nat_eq i k)) (value_none false p ss k (omega (arith, e, h.1))) ∙ ap (λ b. p s && b) h.0)
    at (inr h) = value_other false p ss s k (λ q. h.1 (sym (q ∙ e))) ∙ or_none (value_at false p ss k) (p s) ∙ sym (ap (λ b. value_at false p ss k || (p s && b)) h.0)

-- ---- one dependency less

pub step_enough : (b : Bool) (o w : ℕ) → plus_if b o ≤ w → o ≤ (if b then w - 1 else w)
step_enough true o w h = omega (arith, h)
step_enough false o w h = h

pub step_counted : (b : Bool) (o w a z : ℕ) → plus_if b o ≤ w → w + a ≡ z + plus_if b o → (if b then w - 1 else w) + a ≡ z + o
step_counted true o w a z h e = omega (arith, h, e)
step_counted false o w a z h e = e

one_less : (o w : ℕ) → suc o ≤ w → nat_eq w 1 || (nat_lt 0 o && nat_eq (w - 1) o) ≡ nat_lt 0 (suc o) && nat_eq w (suc o)
one_less o w h = grind (arith, nat_tests)

pub step_queued : (b r : Bool) (o w : ℕ) → plus_if b o ≤ w → (r || (b && nat_eq w 1)) || (nat_lt 0 o && nat_eq (if b then w - 1 else w) o) ≡ r || (nat_lt 0 (plus_if b o) && nat_eq w (plus_if b o))
step_queued true true o w h = refl
step_queued true false o w h = one_less o w h
step_queued false true o w h = refl
step_queued false false o w h = refl

pub first_of : (x : ℕ) (xs : List ℕ) → 0 < occurrences x (x ∷ xs)
first_of x xs = let same : occurrences x (x ∷ xs) ≡ suc (occurrences x xs) = ap (λ b. plus_if b (occurrences x xs)) (eq-eqb x x refl) in omega (arith, same)

-- ---- at first

pub missing_all : (ds : List (List ℕ)) → missing [] ds ≡ length ds
missing_all [] = refl
missing_all (d ∷ ds) = ap suc (missing_all ds)

pub texts_count : (ns : List (Bor (List ℕ))) → length (texts_of ns) ≡ length ns
texts_count [] = refl
texts_count (n ∷ ns) = ap suc (texts_count ns)

pub counts_first : (stacks : List Stack) (k : ℕ) → slice_index (map (λ s. length s.dependencies.items) stacks) k ≡ value_at 0 (λ s. missing [] s.dependencies) (map stack_view stacks) k
counts_first [] k = refl
counts_first (s ∷ stacks) zero = sym (missing_all (texts_of s.dependencies.items) ∙ texts_count s.dependencies.items)
counts_first (s ∷ stacks) (suc k) = counts_first stacks k

pub value_same : {X : Type 0} (z : X) (f g : StackArtifact → X) → ((s : StackArtifact) → f s ≡ g s) → (ss : List StackArtifact) (k : ℕ) → value_at z f ss k ≡ value_at z g ss k
value_same z f g h [] k = refl
value_same z f g h (s ∷ ss) zero = h s
value_same z f g h (s ∷ ss) (suc k) = value_same z f g h ss k

-- ---- one stack more

pub views_push : (stacks : List Stack) (i : ℕ) (x : Stack) → take (i + 1) stacks ≡ take i stacks ++ x ∷ [] → map stack_view (take (i + 1) stacks) ≡ map stack_view (take i stacks) ++ stack_view x ∷ []
views_push stacks i x here = ap (map stack_view) here ∙ map-append stack_view (take i stacks) (x ∷ [])

pub views_length : (stacks : List Stack) (i : ℕ) → i < length stacks → length (map stack_view (take i stacks)) ≡ i
views_length stacks i h = length-map (take i stacks) stack_view ∙ length-take-le i stacks (omega (arith, h))
