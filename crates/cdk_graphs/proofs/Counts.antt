-- Counts of numbers, and the rows of a graph.
use Rattle.std.proofs.Common.{◌≡◌, ◌≢◌, ℕ, zero, suc, ◌+◌, ◌-◌, ◌<◌, ◌≤◌, List, [], ◌∷◌, ◌++◌, length, get_or, map, Bool, true, false, refl, ap, ◌∙◌, arith}
use Rattle.std.specs.Prelude.{◌&&◌, ◌||◌, nat_eq, nat_lt, if◌then◌else◌, slice_index}
use Rattle.std.specs.declared.vec.Vec.{Vec}
use Rattle.std.proofs.Math.ListN.{set}
use Rattle.std.proofs.lemmas.Bool.Decides.{nat_tests}
use Rattle.std.proofs.lemmas.Bool.{eq-eqb}
use Rattle.cdk_graphs.specs.Graph.{Graph, graph_view, leads}
use Rattle.cdk_graphs.specs.Queued.{missing, occurrences, plus_if}

-- ---- how often a number occurs

plus_if_twice : (a b : Bool) (n : ℕ) → plus_if a (plus_if b n) ≡ plus_if b (plus_if a n)
plus_if_twice true true n = refl
plus_if_twice true false n = refl
plus_if_twice false true n = refl
plus_if_twice false false n = refl

pub occurrences_push : (k x : ℕ) (xs : List ℕ) → occurrences k (xs ++ x ∷ []) ≡ plus_if (nat_eq x k) (occurrences k xs)
occurrences_push k x [] = refl
occurrences_push k x (y ∷ xs) = ap (plus_if (nat_eq y k)) (occurrences_push k x xs) ∙ plus_if_twice (nat_eq y k) (nat_eq x k) (occurrences k xs)

pub occurs_first : (x : ℕ) (xs : List ℕ) → 0 < occurrences x (x ∷ xs)
occurs_first x xs = let same : occurrences x (x ∷ xs) ≡ suc (occurrences x xs) = ap (λ b. plus_if b (occurrences x xs)) (eq-eqb x x refl) in omega (arith, same)

pub missing_none : (xs : List ℕ) → missing [] xs ≡ length xs
missing_none [] = refl
missing_none (x ∷ xs) = ap suc (missing_none xs)

-- ---- one number is put

pub put_step : (a b : Bool) (o t w : ℕ) → o + (if b then plus_if a t else 0) ≡ w → plus_if (a && b) o + (if b then t else 0) ≡ w
put_step true true o t w h = omega (arith, h)
put_step true false o t w h = h
put_step false true o t w h = h
put_step false false o t w h = h

-- one row more, of those from the front
pub row_step : (i k a b : ℕ) → (i ≡ k → b ≡ a) → (if nat_lt k i then a else 0) + (if nat_eq i k then b else 0) ≡ (if nat_lt k (i + 1) then a else 0)
row_step i k a b same = grind (arith, nat_tests)

-- the same of a test
pub test_step : (i k : ℕ) (p q : Bool) → (i ≡ k → q ≡ p) → (nat_lt k i && p) || (q && nat_eq i k) ≡ nat_lt k (i + 1) && p
test_step i k true true same = grind (arith, nat_tests)
test_step i k true false same = grind (arith, nat_tests)
test_step i k false true same = grind (arith, nat_tests)
test_step i k false false same = grind (arith, nat_tests)

-- ---- one lead less

pub step_enough : (b : Bool) (o w : ℕ) → plus_if b o ≤ w → o ≤ (if b then w - 1 else w)
step_enough true o w h = omega (arith, h)
step_enough false o w h = h

pub step_counted : (b : Bool) (o w a z : ℕ) → plus_if b o ≤ w → w + a ≡ z + plus_if b o → (if b then w - 1 else w) + a ≡ z + o
step_counted true o w a z h e = omega (arith, h, e)
step_counted false o w a z h e = e

one_less : (o w : ℕ) → suc o ≤ w → nat_eq w 1 || (nat_lt 0 o && nat_eq (w - 1) o) ≡ nat_lt 0 (suc o) && nat_eq w (suc o)
one_less o w h = grind (arith, nat_tests)

pub step_queued : (b r : Bool) (o w : ℕ) → plus_if b o ≤ w → (r || (b && nat_eq w 1)) || (nat_lt 0 o && nat_eq (if b then w - 1 else w) o) ≡ r || (nat_lt 0 (plus_if b o) && nat_eq w (plus_if b o))
step_queued true true o w h = refl
step_queued true false o w h = one_less o w h
step_queued false true o w h = refl
step_queued false false o w h = refl

-- ---- rows

pub leads_past : (g : Graph) (n : ℕ) → length g ≤ n → leads g n ≡ []
leads_past [] n h = refl
leads_past (r ∷ rs) zero h = absurd (omega (arith, h))
leads_past (r ∷ rs) (suc n) h = leads_past rs n (omega (arith, h))

module _ {A : Type 0} where
  pub row_at : (rows : List (Vec ℕ A)) (n : ℕ) (d : Vec ℕ A) → n < length rows → leads (graph_view rows) n ≡ (get_or rows n d).items
  row_at [] n d h = absurd (omega (arith, h))
  row_at (r ∷ rs) zero d h = refl
  row_at (r ∷ rs) (suc n) d h = row_at rs n d (omega (arith, h))

  pub row_set : (rows : List (Vec ℕ A)) (n : ℕ) (v : Vec ℕ A) → n < length rows → leads (graph_view (set rows n v)) n ≡ v.items
  row_set [] n v h = absurd (omega (arith, h))
  row_set (r ∷ rs) zero v h = refl
  row_set (r ∷ rs) (suc n) v h = row_set rs n v (omega (arith, h))

  pub row_other : (rows : List (Vec ℕ A)) (t n : ℕ) (v : Vec ℕ A) → t ≢ n → leads (graph_view (set rows t v)) n ≡ leads (graph_view rows) n
  row_other [] t n v h = refl
  row_other (r ∷ rs) zero zero v h = absurd (h refl)
  row_other (r ∷ rs) zero (suc n) v h = refl
  row_other (r ∷ rs) (suc t) zero v h = refl
  row_other (r ∷ rs) (suc t) (suc n) v h = row_other rs t n v (λ e. h (ap suc e))

  -- a further row that is empty
  pub row_push : (rows : List (Vec ℕ A)) (n : ℕ) (v : Vec ℕ A) → v.items ≡ [] → leads (graph_view rows) n ≡ [] → leads (graph_view (rows ++ v ∷ [])) n ≡ []
  row_push [] zero v none h = none
  row_push [] (suc n) v none h = refl
  row_push (r ∷ rs) zero v none h = h
  row_push (r ∷ rs) (suc n) v none h = row_push rs n v none h

  pub count_at : (rows : List (Vec ℕ A)) (k : ℕ) → slice_index (map (λ r. length r.items) rows) k ≡ length (leads (graph_view rows) k)
  count_at [] k = refl
  count_at (r ∷ rs) zero = refl
  count_at (r ∷ rs) (suc k) = count_at rs k
