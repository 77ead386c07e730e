-- A group at which no number waits: its members are told.
use Rattle.std.proofs.Common.{◌≡◌, ℕ, ◌≤◌, List, [], ◌∷◌, Bool, true, false, sym, subst, ◌∙◌, inl, inr, arith}
use Rattle.std.specs.Prelude.{◌⊎◌, Contains}
use Rattle.std.proofs.lemmas.List.Elements.{Contains-append_cases}
use Rattle.cdk_graphs.specs.Graph.{Graph, leads, Reaches, Tells, ReachesItself, once, further}
use Rattle.cdk_graphs.specs.Marks.{mark_at, IsTold, Changes, AreWithin}
use Rattle.cdk_graphs.specs.Walks.{OpenGroup, all_members, IsFrom, Stands}
use Rattle.cdk_graphs.specs.declared.marks.Mark.{Mark}
use Rattle.cdk_graphs.specs.declared.marks.Mark.TheVariants.{Open, Told}
use Rattle.cdk_graphs.proofs.Groups.{all_untold, stacked_on}
use Rattle.cdk_graphs.proofs.Marked.{same_position, open_met, open_untold, same_answer, met_within}
use Rattle.cdk_graphs.proofs.Ways.{in_none, along}

module _ (g : Graph) (old : List Mark) (count : ℕ) (group : OpenGroup) (groups : List OpenGroup) (walk : Stands g old count (group ∷ groups)) where
  pub members_within : AreWithin group.members old
  members_within n i = let e = walk.stacked.0.part.entered n i in met_within old n (open_met (mark_at old n) e.0 e.1)

  module _ (done : group.waiting ≡ []) where
    none_waits : (n : ℕ) → Contains group.waiting n → ⊥
    none_waits n i = in_none n (subst (λ (xs : List ℕ). Contains xs n) done i)

    untold : (n : ℕ) → Contains group.members n → IsTold old n → ⊥
    untold n i t = let e = walk.stacked.0.part.entered n i in open_untold (mark_at old n) e.0 t.0 e.1 t.1

    not_below : (n k : ℕ) → mark_at old n ≡ Open k → group.first ≤ k → Contains (all_members groups) n → ⊥
    not_below n k h later i = let b = walk.stacked.1.before n i in omega (arith, b.2, later, same_position (mark_at old n) b.0 k b.1 h)

    -- what the members lead to is told, or in the group
    seen : (m n : ℕ) → Contains group.members m → Contains (leads g m) n → IsTold old n ⊎ Contains group.members n
    seen m n i j = at (walk.stacked.0.part.led m n i j)
      where
        within : (k : ℕ) → mark_at old n ≡ Open k → group.first ≤ k → Contains group.members n ⊎ Contains (all_members groups) n → Contains group.members n
        within k h later (inl i) = i
        within k h later (inr i) = absurd (not_below n k h later i)

        at : Contains group.waiting n ⊎ (IsTold old n ⊎ IsFrom g old group.first n) → IsTold old n ⊎ Contains group.members n
        at (inl w) = absurd (none_waits n w)
        at (inr (inl t)) = inl t
        at (inr (inr h)) = inr (within h.0 h.1 h.2 (Contains-append_cases group.members (all_members groups) n (walk.entered n h.0 h.1)))

    -- all that one that isn't a loop leads to is told
    leads_told : group.is_loop ≡ false → (m n : ℕ) → Contains group.members m → Contains (leads g m) n → IsTold old n
    leads_told e m n i j = at (seen m n i j)
      where
        at : IsTold old n ⊎ Contains group.members n → IsTold old n
        at (inl t) = t
        at (inr k) = absurd (none_waits n (walk.stacked.0.apart e m n i k j))

    no_loop : group.is_loop ≡ false → (m : ℕ) → Contains group.members m → ReachesItself g m → ⊥
    no_loop e m i way = untold m i (at m way)
      where
        at : (l : ℕ) → Reaches g m l → IsTold old l
        at l (once n k j) = leads_told e m l i j
        at l (further n k p j h) = along g (IsTold old) walk.closed k l (leads_told e m k i j) h

    tells : (m : ℕ) → Contains group.members m → (b : Bool) → group.is_loop ≡ b → Tells b (ReachesItself g m)
    tells m i true e = walk.stacked.0.loops e m m i i
    tells m i false e = no_loop e m i

    -- fewer than `group.first` are open then
    pub closes : (new : List Mark) → Changes group.members (Told group.is_loop) old new → Stands g new group.first groups
    closes new changes = record {
      size = changes.size ∙ walk.size;
      right = λ n b h. right n b h (changes.others n);
      closed = λ n m t j. closed n m t j (changes.others n);
      stacked = stacked_on g old new told placed groups untold_still walk.stacked.2;
      counted = λ n k h. let b = walk.stacked.1.before n (entered n k h) in omega (arith, b.2, same_position (mark_at old n) b.0 k b.1 (placed_before n k h (changes.others n)));
      entered = entered;
    }
      where
        told_now : (n : ℕ) → Contains group.members n → IsTold new n
        told_now n i = (group.is_loop, changes.each n i)

        told : (n : ℕ) → IsTold old n → IsTold new n
        told n t = at (changes.others n)
          where
            at : Contains group.members n ⊎ (mark_at new n ≡ mark_at old n) → IsTold new n
            at (inl i) = told_now n i
            at (inr e) = (t.0, e ∙ t.1)

        placed : (n k : ℕ) → mark_at old n ≡ Open k → IsTold new n ⊎ (mark_at new n ≡ Open k)
        placed n k h = at (changes.others n)
          where
            at : Contains group.members n ⊎ (mark_at new n ≡ mark_at old n) → IsTold new n ⊎ (mark_at new n ≡ Open k)
            at (inl i) = inl (told_now n i)
            at (inr e) = inr (e ∙ h)

        not_member : (n k : ℕ) → mark_at new n ≡ Open k → Contains group.members n → ⊥
        not_member n k h i = open_untold (mark_at new n) k group.is_loop h (changes.each n i)

        placed_before : (n k : ℕ) → mark_at new n ≡ Open k → Contains group.members n ⊎ (mark_at new n ≡ mark_at old n) → mark_at old n ≡ Open k
        placed_before n k h (inl i) = absurd (not_member n k h i)
        placed_before n k h (inr e) = sym e ∙ h

        right : (n : ℕ) (b : Bool) → mark_at new n ≡ Told b → Contains group.members n ⊎ (mark_at new n ≡ mark_at old n) → Tells b (ReachesItself g n)
        right n b h (inl i) = tells n i b (same_answer (mark_at new n) group.is_loop b (changes.each n i) h)
        right n b h (inr e) = walk.right n b (sym e ∙ h)

        told_all : (n : ℕ) → IsTold old n ⊎ Contains group.members n → IsTold new n
        told_all n (inl t) = told n t
        told_all n (inr i) = told_now n i

        closed : (n m : ℕ) → IsTold new n → Contains (leads g n) m → Contains group.members n ⊎ (mark_at new n ≡ mark_at old n) → IsTold new m
        closed n m t j (inl i) = told_all m (seen n m i j)
        closed n m t j (inr e) = told m (walk.closed n m (t.0, sym e ∙ t.1) j)

        untold_still : (n : ℕ) → Contains (all_members groups) n → IsTold new n → ⊥
        untold_still n i t = at (changes.others n)
          where
            at : Contains group.members n ⊎ (mark_at new n ≡ mark_at old n) → ⊥
            at (inl j) = let e = walk.stacked.0.part.entered n j in not_below n e.0 e.1 e.2 i
            at (inr e) = all_untold g old groups walk.stacked.2 n i (t.0, sym e ∙ t.1)

        entered : (n k : ℕ) → mark_at new n ≡ Open k → Contains (all_members groups) n
        entered n k h = at (Contains-append_cases group.members (all_members groups) n (walk.entered n k (placed_before n k h (changes.others n))))
          where
            at : Contains group.members n ⊎ Contains (all_members groups) n → Contains (all_members groups) n
            at (inl i) = absurd (not_member n k h i)
            at (inr i) = i
