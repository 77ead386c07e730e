-- The numbers of all lazies: as many as are counted, and none reaches itself where there is an order.
use Rattle.std.proofs.Common.{◌≡◌, ◌<◌, ℕ, zero, suc, ◌+◌, List, [], ◌∷◌, length, Bool, true, false, true≢false, Some, refl, sym, ap, subst, arith, if◌then◌else◌}
use Rattle.std.specs.Prelude.{filter, slice_get, Contains}
use Rattle.serde_json.specs.Data.{Data}
use Rattle.cdk_expansion.proofs.MentionContains.{contains_first, contains_later}
use Rattle.cdk_expansion.specs.Mentions.{further, lazy_value, Mentions, once, Reaches, ReachesItself}
use Rattle.cdk_graphs.specs.Graph.{StandsBefore}
use Rattle.cdk_value_measures.specs.Ordered.{SuitsLazies}
use Rattle.cdk_value_measures.specs.Constructs.{lazy_count}
use Rattle.cdk_tokens.specs.Token.{Token}
use Rattle.cdk_tokens.specs.Whole.{MarkedBody}
use Rattle.cdk_tree.specs.Expected.{is_lazy}
use Rattle.cdk_tree.specs.Placed.{Placed, construct_at}

-- ---- numbers of constructs

-- of the constructs from the number n on
abbrev lazies_from : ℕ → List Placed → List ℕ
lazies_from n [] = []
lazies_from n (c ∷ cs) = if is_lazy c.body then n ∷ lazies_from (suc n) cs else lazies_from (suc n) cs

abbrev pub lazies_in : List Placed → List ℕ
lazies_in cs = lazies_from 0 cs

one_more : {A B : Type 0} (b : Bool) (x : A) (xs : List A) (y : B) (ys : List B) → length xs ≡ length ys → length (if b then x ∷ xs else xs) ≡ length (if b then y ∷ ys else ys)
one_more true x xs y ys e = ap suc e
one_more false x xs y ys e = e

counted_from : (n : ℕ) (cs : List Placed) → length (lazies_from n cs) ≡ lazy_count cs
counted_from n [] = refl
counted_from n (c ∷ cs) = one_more (is_lazy c.body) n (lazies_from (suc n) cs) c (filter (λ d. is_lazy d.body) cs) (counted_from (suc n) cs)

pub lazies-length : (cs : List Placed) → length (lazies_in cs) ≡ lazy_count cs
lazies-length cs = counted_from 0 cs

contains_here : (b : Bool) (n : ℕ) (ns : List ℕ) → b ≡ true → Contains (if b then n ∷ ns else ns) n
contains_here true n ns e = contains_first n ns
contains_here false n ns e = absurd (true≢false (sym e))

contains_there : (b : Bool) (n m : ℕ) (ns : List ℕ) → Contains ns m → Contains (if b then n ∷ ns else ns) m
contains_there true n m ns c = contains_later n ns m c
contains_there false n m ns c = c

contained_from : (n i m : ℕ) (cs : List Placed) → is_lazy (construct_at cs i).body ≡ true → m ≡ n + i → Contains (lazies_from n cs) m
contained_from n i m [] e at = absurd (true≢false (sym e))
contained_from n zero m (c ∷ cs) e at =
    let same : n ≡ m = omega (arith, at) in
    let ns : List ℕ = if is_lazy c.body then n ∷ lazies_from (suc n) cs else lazies_from (suc n) cs in
    subst (Contains ns) same (contains_here (is_lazy c.body) n (lazies_from (suc n) cs) e)
contained_from n (suc i) m (c ∷ cs) e at = contains_there (is_lazy c.body) n m (lazies_from (suc n) cs) (contained_from (suc n) i m cs e (omega (arith, at)))

pub lazy_within : (cs : List Placed) (n : ℕ) → is_lazy (construct_at cs n).body ≡ true → n < length cs
lazy_within [] n e = absurd (true≢false (sym e))
lazy_within (c ∷ cs) zero e = omega arith
lazy_within (c ∷ cs) (suc n) e = let low = lazy_within cs n e in omega (arith, low)

-- ---- what the order tells

module _ (cs : List Placed) (ts : List Token) (ms : List MarkedBody) (order : List ℕ) (suits : SuitsLazies cs ts ms order) where
  pub each_is_listed : (d : Data) (m : ℕ) → Mentions ts d m → Contains (lazies_in cs) m
  each_is_listed d m mentioned = let s = suits.all d m mentioned in contained_from 0 m m cs (suits.lazies s.place m s.there) (omega arith)

  stands_after : (p n m : ℕ) → slice_get order p ≡ Some n → Reaches ts ms n m → StandsBefore order p m
  stands_after p n m at (once x y c) = suits.behind p n m at c
  stands_after p n m at (further x l y c r) =
      let s = suits.behind p n l at c in
      let t = stands_after s.place l m s.there r in
      record { place = t.place; before = omega (arith, s.before, t.before); there = t.there }

  stands : (n m : ℕ) → Reaches ts ms n m → StandsBefore order (length order) m
  stands n m (once x y c) = suits.all (lazy_value ms n) m c
  stands n m (further x l y c r) = stands l m r

  -- there is always a place before, below the bound
  endless : (b p n : ℕ) → p < b → slice_get order p ≡ Some n → ReachesItself ts ms n → ⊥
  endless zero p n low at r = omega (arith, low)
  endless (suc b) p n low at r = let s = stands_after p n n at r in endless b s.place n (omega (arith, low, s.before)) s.there r

  pub none_reaches_itself : (n : ℕ) → ReachesItself ts ms n → ⊥
  none_reaches_itself n r = let s = stands n n r in endless (suc s.place) s.place n (omega arith) s.there r
