-- Groups of a walk that are joined, down to the one to which the last leads.
use Rattle.std.proofs.Common.{◌≡◌, ℕ, ◌<◌, ◌≤◌, List, [], ◌∷◌, ◌++◌, Bool, true, sym, subst, inl, inr, arith}
use Rattle.std.specs.Prelude.{◌⊎◌, Contains}
use Rattle.std.proofs.lemmas.List.Elements.{Contains-append_left, Contains-append_right, Contains-append_cases}
use Rattle.cdk_graphs.specs.Graph.{Graph, leads, Reaches}
use Rattle.cdk_graphs.specs.Marks.{mark_at, IsTold}
use Rattle.cdk_graphs.specs.Walks.{OpenGroup, all_members, IsFrom, AreStacked, IsJoining}
use Rattle.cdk_graphs.specs.declared.marks.Mark.{Mark}
use Rattle.cdk_graphs.specs.declared.marks.Mark.TheVariants.{Open}
use Rattle.cdk_graphs.proofs.Groups.{grouped, near_of}
use Rattle.cdk_graphs.proofs.Marked.{same_position}
use Rattle.cdk_graphs.proofs.Ways.{in_none, via_last}

-- two groups as one
abbrev pub both : OpenGroup → OpenGroup → OpenGroup
both lower upper = grouped lower.first (lower.members ++ upper.members) (lower.waiting ++ upper.waiting) lower.is_loop

module _ (g : Graph) (marks : List Mark) (y position : ℕ) where
  abbrev IsSeen : ℕ → ℕ → Type 0
  IsSeen f n = (n ≡ y) ⊎ (IsTold marks n ⊎ IsFrom g marks f n)

  abbrev IsNear : ℕ → ℕ → Type 0
  IsNear c b = (c ≡ b) ⊎ (Reaches g c b ⊎ ((k : ℕ) × (mark_at marks c ≡ Open k) × (position < k)))

  -- `upper` is joined to the group below it, `lower`
  pub joins_one : (upper lower : OpenGroup) (groups : List OpenGroup) → IsJoining g marks y position upper (lower ∷ groups) → position < upper.first → IsJoining g marks y position (both lower upper) groups
  joins_one upper lower groups was later = record {
    here = was.here;
    within = within (Contains-append_cases upper.members (lower.members ++ all_members groups) y was.within);
    back = λ a i. was.back a (old a (Contains-append_cases (lower.members ++ upper.members) (all_members groups) a i));
    part = record {
      entered = λ m i. entered m (either m i);
      asked = λ n i. asked n (Contains-append_cases lower.waiting upper.waiting n i);
      led = λ m n i k. led m n k (either m i);
    };
    near = λ c x i k. near c x (either c i) (either x k);
    above = record {
      leads_up = λ a x i k. leads_up a x i (either x k);
      before = was.stacked.1.before;
      floor = was.stacked.1.floor;
    };
    stacked = was.stacked.2;
  }
    where
      either : (n : ℕ) → Contains (lower.members ++ upper.members) n → Contains lower.members n ⊎ Contains upper.members n
      either n i = Contains-append_cases lower.members upper.members n i

      from_first : (n : ℕ) → Contains lower.members n → Contains (lower.members ++ upper.members) n
      from_first n i = Contains-append_left lower.members upper.members n i

      from_second : (n : ℕ) → Contains upper.members n → Contains (lower.members ++ upper.members) n
      from_second n i = Contains-append_right lower.members upper.members n i

      within_lower : Contains lower.members y ⊎ Contains (all_members groups) y → Contains ((lower.members ++ upper.members) ++ all_members groups) y
      within_lower (inl i) = Contains-append_left (lower.members ++ upper.members) (all_members groups) y (from_first y i)
      within_lower (inr i) = Contains-append_right (lower.members ++ upper.members) (all_members groups) y i

      within : Contains upper.members y ⊎ Contains (lower.members ++ all_members groups) y → Contains ((lower.members ++ upper.members) ++ all_members groups) y
      within (inl i) = Contains-append_left (lower.members ++ upper.members) (all_members groups) y (from_second y i)
      within (inr i) = within_lower (Contains-append_cases lower.members (all_members groups) y i)

      old_part : (a : ℕ) → Contains lower.members a ⊎ Contains upper.members a → Contains (upper.members ++ (lower.members ++ all_members groups)) a
      old_part a (inl i) = Contains-append_right upper.members (lower.members ++ all_members groups) a (Contains-append_left lower.members (all_members groups) a i)
      old_part a (inr i) = Contains-append_left upper.members (lower.members ++ all_members groups) a i

      old : (a : ℕ) → Contains (lower.members ++ upper.members) a ⊎ Contains (all_members groups) a → Contains (upper.members ++ (lower.members ++ all_members groups)) a
      old a (inl i) = old_part a (either a i)
      old a (inr i) = Contains-append_right upper.members (lower.members ++ all_members groups) a (Contains-append_right lower.members (all_members groups) a i)

      lowered : (m : ℕ) → IsFrom g marks upper.first m → IsFrom g marks lower.first m
      lowered m h = (h.0, h.1, omega (arith, h.2, was.above.floor))

      entered : (m : ℕ) → Contains lower.members m ⊎ Contains upper.members m → IsFrom g marks lower.first m
      entered m (inl i) = was.stacked.0.part.entered m i
      entered m (inr i) = lowered m (was.part.entered m i)

      asked : (n : ℕ) → Contains lower.waiting n ⊎ Contains upper.waiting n → (m : ℕ) × Contains (lower.members ++ upper.members) m × Contains (leads g m) n
      asked n (inl i) = let r = was.stacked.0.part.asked n i in (r.0, from_first r.0 r.1, r.2)
      asked n (inr i) = let r = was.part.asked n i in (r.0, from_second r.0 r.1, r.2)

      seen_lower : (n : ℕ) → Contains lower.waiting n ⊎ (IsTold marks n ⊎ IsFrom g marks lower.first n) → Contains (lower.waiting ++ upper.waiting) n ⊎ IsSeen lower.first n
      seen_lower n (inl i) = inl (Contains-append_left lower.waiting upper.waiting n i)
      seen_lower n (inr h) = inr (inr h)

      seen_upper : (n : ℕ) → Contains upper.waiting n ⊎ IsSeen upper.first n → Contains (lower.waiting ++ upper.waiting) n ⊎ IsSeen lower.first n
      seen_upper n (inl i) = inl (Contains-append_right lower.waiting upper.waiting n i)
      seen_upper n (inr (inl e)) = inr (inl e)
      seen_upper n (inr (inr (inl t))) = inr (inr (inl t))
      seen_upper n (inr (inr (inr h))) = inr (inr (inr (lowered n h)))

      led : (m n : ℕ) → Contains (leads g m) n → Contains lower.members m ⊎ Contains upper.members m → Contains (lower.waiting ++ upper.waiting) n ⊎ IsSeen lower.first n
      led m n k (inl i) = seen_lower n (was.stacked.0.part.led m n i k)
      led m n k (inr i) = seen_upper n (was.part.led m n i k)

      near_lower : (c x : ℕ) → (c ≡ x) ⊎ Reaches g c x → IsNear c x
      near_lower c x (inl e) = inl e
      near_lower c x (inr h) = inr (inl h)

      near : (c x : ℕ) → Contains lower.members c ⊎ Contains upper.members c → Contains lower.members x ⊎ Contains upper.members x → IsNear c x
      near c x (inl i) (inl k) = near_lower c x (near_of g marks lower was.stacked.0 c x i k)
      near c x (inl i) (inr k) = inr (inl (was.above.leads_up c x (Contains-append_left lower.members (all_members groups) c i) k))
      near c x (inr i) k = let h = was.part.entered c i in inr (inr (h.0, h.1, omega (arith, h.2, later)))

      leads_up : (a x : ℕ) → Contains (all_members groups) a → Contains lower.members x ⊎ Contains upper.members x → Reaches g a x
      leads_up a x i (inl k) = was.stacked.1.leads_up a x i k
      leads_up a x i (inr k) = was.above.leads_up a x (Contains-append_right lower.members (all_members groups) a i) k

  stands_at : (group : OpenGroup) (groups : List OpenGroup) → IsJoining g marks y position group groups → Contains group.members y → group.first ≤ position
  stands_at group groups was i = let e = was.part.entered y i in omega (arith, e.2, same_position (mark_at marks y) e.0 position e.1 was.here)

  -- the group of `y` isn't passed
  pub not_past : (group : OpenGroup) → IsJoining g marks y position group [] → position < group.first → ⊥
  not_past group was later = at (Contains-append_cases group.members [] y was.within)
    where
      at : Contains group.members y ⊎ Contains [] y → ⊥
      at (inl i) = omega (arith, later, stands_at group [] was i)
      at (inr i) = in_none y i

  pub joined_all : (f : ℕ) (ms ws : List ℕ) (l : Bool) (groups : List OpenGroup) → IsJoining g marks y position (grouped f ms ws l) groups → f ≤ position → AreStacked g marks (grouped f ms ws true ∷ groups)
  joined_all f ms ws l groups was there = (
    record {
      part = record {
        entered = was.part.entered;
        asked = was.part.asked;
        led = λ m n i j. led n (was.part.led m n i j);
      };
      loops = λ _ a b i j. via_last g a y b (was.back a (Contains-append_left ms (all_members groups) a i)) (ahead b (was.near y b here j));
      single = λ e. cc;
      apart = λ e. cc;
    },
    record { leads_up = was.above.leads_up; before = was.above.before; floor = was.above.floor },
    was.stacked,
  )
    where
      led : (n : ℕ) → Contains ws n ⊎ IsSeen f n → Contains ws n ⊎ (IsTold marks n ⊎ IsFrom g marks f n)
      led n (inl i) = inl i
      led n (inr (inl e)) = inr (inr (subst (IsFrom g marks f) (sym e) (position, was.here, there)))
      led n (inr (inr h)) = inr h

      at_here : Contains ms y ⊎ Contains (all_members groups) y → Contains ms y
      at_here (inl i) = i
      at_here (inr i) = let b = was.above.before y i in absurd (omega (arith, b.2, there, same_position (mark_at marks y) b.0 position b.1 was.here))

      here : Contains ms y
      here = at_here (Contains-append_cases ms (all_members groups) y was.within)

      ahead : (b : ℕ) → IsNear y b → (y ≡ b) ⊎ Reaches g y b
      ahead b (inl e) = inl e
      ahead b (inr (inl h)) = inr h
      ahead b (inr (inr h)) = absurd (omega (arith, h.2, same_position (mark_at marks y) h.0 position h.1 was.here))
