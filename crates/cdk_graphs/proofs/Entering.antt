-- A number that is entered, as a group behind the others.
use Rattle.std.proofs.Common.{◌≡◌, ℕ, ◌+◌, ◌<◌, ◌≤◌, List, length, [], ◌∷◌, ◌++◌, Bool, false, sym, subst, ◌∙◌, inl, inr, arith}
use Rattle.std.specs.Prelude.{◌⊎◌, Contains}
use Rattle.std.proofs.lemmas.List.Elements.{Contains-append_left, Contains-append_right}
use Rattle.cdk_graphs.specs.Graph.{Graph, leads, Reaches}
use Rattle.cdk_graphs.specs.Marks.{mark_at, IsTold, Changes, AreRight, AreClosed}
use Rattle.cdk_graphs.specs.Walks.{OpenGroup, all_members, IsFrom, IsGroup, floor_of, AreStacked, Stands}
use Rattle.cdk_graphs.specs.declared.marks.Mark.{Mark}
use Rattle.cdk_graphs.specs.declared.marks.Mark.TheVariants.{New, Open, Told}
use Rattle.cdk_graphs.proofs.Groups.{grouped, leads_to, all_open, all_untold, group_on, above_on, stacked_on, waits, group_taken, above_taken}
use Rattle.cdk_graphs.proofs.Marked.{same_position, open_met, told_met, open_untold}
use Rattle.cdk_graphs.proofs.Ways.{in_one, the_one}

module _ (g : Graph) (old new : List Mark) (count y : ℕ) (was_new : mark_at old y ≡ New) (changes : Changes (y ∷ []) (Open count) old new) where
  at_new : mark_at new y ≡ Open count
  at_new = changes.each y (the_one y)

  placed : (n k : ℕ) → mark_at old n ≡ Open k → mark_at new n ≡ Open k
  placed n k h = at (changes.others n)
    where
      at : Contains (y ∷ []) n ⊎ (mark_at new n ≡ mark_at old n) → mark_at new n ≡ Open k
      at (inl i) = absurd (open_met (mark_at old n) k h (subst (λ (x : ℕ). mark_at old x ≡ New) (in_one y n i) was_new))
      at (inr e) = e ∙ h

  placed_or : (n k : ℕ) → mark_at old n ≡ Open k → IsTold new n ⊎ (mark_at new n ≡ Open k)
  placed_or n k h = inr (placed n k h)

  told : (n : ℕ) → IsTold old n → IsTold new n
  told n h = at (changes.others n)
    where
      at : Contains (y ∷ []) n ⊎ (mark_at new n ≡ mark_at old n) → IsTold new n
      at (inl i) = absurd (told_met (mark_at old n) h.0 h.1 (subst (λ (x : ℕ). mark_at old x ≡ New) (in_one y n i) was_new))
      at (inr e) = (h.0, e ∙ h.1)

  placed_before : (n k : ℕ) → mark_at new n ≡ Open k → ((y ≡ n) × (k ≡ count)) ⊎ (mark_at old n ≡ Open k)
  placed_before n k h = at (changes.others n)
    where
      at : Contains (y ∷ []) n ⊎ (mark_at new n ≡ mark_at old n) → ((y ≡ n) × (k ≡ count)) ⊎ (mark_at old n ≡ Open k)
      at (inl i) = inl (in_one y n i, same_position (mark_at new n) k count h (changes.each n i))
      at (inr e) = inr (sym e ∙ h)

  told_before : (n : ℕ) (b : Bool) → mark_at new n ≡ Told b → mark_at old n ≡ Told b
  told_before n b h = at (changes.others n)
    where
      at : Contains (y ∷ []) n ⊎ (mark_at new n ≡ mark_at old n) → mark_at old n ≡ Told b
      at (inl i) = absurd (open_untold (mark_at new n) count b (changes.each n i) h)
      at (inr e) = sym e ∙ h

  untold_on : (n : ℕ) → (IsTold old n → ⊥) → IsTold new n → ⊥
  untold_on n untold t = untold (t.0, told_before n t.0 t.1)

  -- `groups` are those that stand already, and lead to the number
  pub enters : (next : ℕ) (groups : List OpenGroup) → length old ≡ length g → AreRight g old → AreClosed g old → AreStacked g new groups → ((n k : ℕ) → mark_at old n ≡ Open k → k < count)
      → ((n k : ℕ) → mark_at old n ≡ Open k → Contains (all_members groups) n) → ((a : ℕ) → Contains (all_members groups) a → Reaches g a y) → ((a : ℕ) → Contains (all_members groups) a → (k : ℕ) × (mark_at old a ≡ Open k))
      → floor_of groups ≤ count → next ≡ count + 1 → Stands g new next (grouped count (y ∷ []) (leads g y) false ∷ groups)
  enters next groups size right closed stacked counted entered reach opened floor is_next = record {
    size = changes.size ∙ size;
    right = λ n b h. right n b (told_before n b h);
    closed = λ n m t i. told m (closed n m (t.0, told_before n t.0 t.1) i);
    stacked = (
      record {
        part = record {
          entered = λ m i. subst (IsFrom g new count) (in_one y m i) (count, at_new, omega arith);
          asked = λ n i. (y, the_one y, i);
          led = λ m n i j. inl (waits_there m n i j);
        };
        loops = λ e. cc;
        single = λ _ a b i j. sym (in_one y a i) ∙ in_one y b j;
        apart = λ _ m n i _ j. waits_there m n i j;
      },
      record {
        leads_up = λ a b i j. subst (Reaches g a) (in_one y b j) (reach a i);
        before = λ a i. let h = opened a i in (h.0, placed a h.0 h.1, counted a h.0 h.1);
        floor = floor;
      },
      stacked,
    );
    counted = λ n k h. counted_at n k (placed_before n k h);
    entered = λ n k h. entered_at n k (placed_before n k h);
  }
    where
      waits_there : (m n : ℕ) → Contains (y ∷ []) m → Contains (leads g m) n → Contains (leads g y) n
      waits_there m n i j = subst (λ (x : ℕ). Contains (leads g x) n) (sym (in_one y m i)) j

      counted_at : (n k : ℕ) → ((y ≡ n) × (k ≡ count)) ⊎ (mark_at old n ≡ Open k) → k < next
      counted_at n k (inl e) = omega (arith, e.1, is_next)
      counted_at n k (inr h) = omega (arith, counted n k h, is_next)

      entered_at : (n k : ℕ) → ((y ≡ n) × (k ≡ count)) ⊎ (mark_at old n ≡ Open k) → Contains ((y ∷ []) ++ all_members groups) n
      entered_at n k (inl e) = Contains-append_left (y ∷ []) (all_members groups) n (subst (λ (x : ℕ). Contains (y ∷ []) x) e.0 (the_one y))
      entered_at n k (inr h) = Contains-append_right (y ∷ []) (all_members groups) n (entered n k h)

  -- behind the group in which it waits
  pub enters_behind : (f : ℕ) (ms ws vs : List ℕ) (l : Bool) (next : ℕ) (groups : List OpenGroup) → ws ≡ vs ++ y ∷ [] → Stands g old count (grouped f ms ws l ∷ groups)
      → next ≡ count + 1 → Stands g new next (grouped count (y ∷ []) (leads g y) false ∷ grouped f ms vs l ∷ groups)
  enters_behind f ms ws vs l next groups popped walk is_next =
      let last = grouped f ms ws l in
      let y_waits = waits g old f ms ws vs l y popped in
      let first = walk.stacked.0.part.asked y y_waits in
      let first_at = walk.stacked.0.part.entered first.0 first.1 in
      let below : f ≤ count = omega (arith, first_at.2, walk.counted first.0 first_at.0 first_at.1) in
      let untold = λ (n : ℕ) (i : Contains (ms ++ all_members groups) n). untold_on n (all_untold g old (last ∷ groups) walk.stacked n i) in
      let group_now : IsGroup g new last = group_on g old new told placed_or last (λ n i. untold n (Contains-append_left ms (all_members groups) n i)) walk.stacked.0 in
      let later = λ (n : ℕ) (i : Contains (all_members groups) n). untold n (Contains-append_right ms (all_members groups) n i) in
      enters next (grouped f ms vs l ∷ groups) walk.size walk.right walk.closed (
        group_taken g new f ms ws vs l y popped (λ i. let e = walk.stacked.0.part.entered y i in open_met (mark_at old y) e.0 e.1 was_new) (inr (count, at_new, below)) group_now,
        above_taken g new f ms ws vs l y popped groups (above_on g old new told placed_or last groups later walk.stacked.1),
        stacked_on g old new told placed_or groups later walk.stacked.2,
      )
      walk.counted walk.entered (leads_to g old last groups y walk.stacked.0 walk.stacked.1 y_waits) (all_open g old (last ∷ groups) walk.stacked) below is_next
