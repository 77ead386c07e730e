-- The lazies that are picked from an order of the mention graph are in the order of lazies.
use Rattle.std.proofs.Common.{◌≡◌, ◌<◌, ◌-◌, ℕ, ◌+◌, List, length, Bool, true, false, cond, Some, None, refl, sym, ap, subst, ◌∙◌, arith, inl, inr}
use Rattle.std.specs.Prelude.{◌⊎◌, nat_le, slice_get}
use Rattle.std.specs.List.{filter_map}
use Rattle.std.proofs.Math.Seq.{take-length}
use Rattle.std.proofs.lemmas.Bool.{leb-true, le-leb}
use Rattle.cdk_graphs.specs.Graph.{IsOrder, IsWhole, StandsBefore}
use Rattle.cdk_expansion.specs.Mentions.{LazyMentions}
use Rattle.cdk_tokens.specs.Token.{Token}
use Rattle.cdk_tokens.specs.Whole.{MarkedBody}
use Rattle.cdk_tree.specs.Expected.{is_lazy}
use Rattle.cdk_tree.specs.Placed.{Placed, construct_at}
use Rattle.cdk_lazies.specs.LazyOrder.{IsHeld, IsLazy, IsLazyOrder}
use Rattle.cdk_lazies.specs.MentionGraph.{construct_node, mention_graph}
use Rattle.cdk_lazies.specs.Picked.{lazies_of, lazy_at, lazy_of}
use Rattle.cdk_lazies.proofs.Leads.{lazy_within, length-mention_graph}
use Rattle.cdk_lazies.proofs.PickedPlaces.{picked_at, picked_before, picked_stands, PickedAt, stands_picked}
use Rattle.cdk_lazies.proofs.TokenWays.{lazy_waits, mentioned_before}

-- ---- the lazy of a number

lazy_there : (cs : List Placed) (n : ℕ) → IsLazy cs n → lazy_at cs n ≡ Some n
lazy_there cs n is = ap (λ b. cond b (Some n) None) is

lazy_is : (cs : List Placed) (n m : ℕ) → lazy_at cs n ≡ Some m → (n ≡ m) × IsLazy cs m
lazy_is cs n m h = at (is_lazy (construct_at cs n).body) refl h
  where
    at : (b : Bool) → is_lazy (construct_at cs n).body ≡ b → cond b (Some n) None ≡ Some m → (n ≡ m) × IsLazy cs m
    at true e h = let same : n ≡ m = cc in (same, subst (IsLazy cs) same e)
    at false e h = absurd (cc h)

module _ (cs : List Placed) (ts : List Token) where
  lazy_picked : (n : ℕ) → IsLazy cs n → lazy_of cs ts (construct_node ts n) ≡ Some n
  lazy_picked n is =
      let above : nat_le (length ts) (length ts + n) ≡ true = le-leb (length ts) (length ts + n) (omega arith) in
      let same : length ts + n - length ts ≡ n = omega arith in
      ap (λ b. cond b (lazy_at cs (length ts + n - length ts)) None) above ∙ ap (lazy_at cs) same ∙ lazy_there cs n is

  picked_is : (k m : ℕ) → lazy_of cs ts k ≡ Some m → (k ≡ construct_node ts m) × IsLazy cs m
  picked_is k m h = at (nat_le (length ts) k) refl h
    where
      at : (b : Bool) → nat_le (length ts) k ≡ b → cond b (lazy_at cs (k - length ts)) None ≡ Some m → (k ≡ construct_node ts m) × IsLazy cs m
      at true e h = let l = lazy_is cs (k - length ts) m h in (omega (arith, leb-true (length ts) k e, l.0), l.1)
      at false e h = absurd (cc h)

  module _ (ms : List MarkedBody) (order : List ℕ) (is : IsOrder (mention_graph cs ts ms) order) where
    place_of : (p n : ℕ) → slice_get (lazies_of cs ts order) p ≡ Some n → PickedAt (lazy_of cs ts) order p n
    place_of p n at = picked_at (lazy_of cs ts) order p n at

    node_there : (p n : ℕ) (k : PickedAt (lazy_of cs ts) order p n) → slice_get order k.place ≡ Some (construct_node ts n)
    node_there p n k = k.there ∙ ap Some (picked_is k.number n k.picked).0

    -- what stands before it in the order, and what is picked before it
    before : (p n m : ℕ) (k : PickedAt (lazy_of cs ts) order p n) → IsLazy cs m → StandsBefore order k.place (construct_node ts m) → StandsBefore (lazies_of cs ts order) p m
    before p n m k lazy s = subst (λ q. StandsBefore (lazies_of cs ts order) q m) k.count (stands_picked (lazy_of cs ts) order k.place (construct_node ts m) m s (lazy_picked m lazy))

    stood : (p n m : ℕ) (k : PickedAt (lazy_of cs ts) order p n) → StandsBefore (lazies_of cs ts order) p m → StandsBefore order k.place (construct_node ts m)
    stood p n m k s =
        let a = picked_stands (lazy_of cs ts) order k.place m (subst (λ q. StandsBefore (lazies_of cs ts order) q m) (sym k.count) s) in
        subst (StandsBefore order k.place) (picked_is a.number m a.picked).0 a.stands

    once : (p q n : ℕ) → slice_get (lazies_of cs ts order) p ≡ Some n → slice_get (lazies_of cs ts order) q ≡ Some n → p ≡ q
    once p q n at also =
        let k = place_of p n at in
        let l = place_of q n also in
        sym k.count ∙ ap (picked_before (lazy_of cs ts) order) (is.once k.place l.place (construct_node ts n) (node_there p n k) (node_there q n l)) ∙ l.count

    behind : (p n m : ℕ) → slice_get (lazies_of cs ts order) p ≡ Some n → LazyMentions ts ms n m → IsLazy cs m → StandsBefore (lazies_of cs ts order) p m
    behind p n m at mentioned lazy =
        let k = place_of p n at in
        before p n m k lazy (mentioned_before cs ts ms order is k.place n m (node_there p n k) (picked_is k.number n k.picked).1 mentioned lazy)

    least : IsWhole (mention_graph cs ts ms) order → (p n m : ℕ) → slice_get (lazies_of cs ts order) p ≡ Some n → m < n → IsLazy cs m → StandsBefore (lazies_of cs ts order) p m ⊎ IsHeld cs ts ms (lazies_of cs ts order) p m
    least whole p n m at low lazy =
        let k = place_of p n at in
        elim (is.least k.place (construct_node ts n) (construct_node ts m) (node_there p n k) (omega (arith, low))) [
          | inl s ↦ inl (before p n m k lazy s)
          | inr h ↦
              let w = lazy_waits cs ts ms order is whole k.place n m (node_there p n k) lazy h in
              inr (record { by = w.by; is_lazy = w.is_lazy; mentioned = w.mentioned; later = λ s. w.later (stood p n w.by k s) })
        ]

    stands_at_last : IsWhole (mention_graph cs ts ms) order → (m : ℕ) → IsLazy cs m → StandsBefore (lazies_of cs ts order) (length (lazies_of cs ts order)) m
    stands_at_last whole m lazy =
        let all : picked_before (lazy_of cs ts) order (length order) ≡ length (lazies_of cs ts order) = ap (λ xs. length (filter_map (lazy_of cs ts) xs)) (take-length order) in
        subst (λ q. StandsBefore (lazies_of cs ts order) q m) all
        (stands_picked (lazy_of cs ts) order (length order) (construct_node ts m) m (whole (construct_node ts m) (omega (arith, lazy_within cs m lazy, length-mention_graph cs ts ms))) (lazy_picked m lazy))

    pub picked_in_order : IsWhole (mention_graph cs ts ms) order → IsLazyOrder cs ts ms (lazies_of cs ts order)
    picked_in_order whole = record {
      lazies = λ p n at. let k = place_of p n at in (picked_is k.number n k.picked).1;
      once = once;
      behind = behind;
      least = least whole;
      whole = λ downward. stands_at_last whole;
    }
