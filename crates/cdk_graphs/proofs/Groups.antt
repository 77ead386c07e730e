-- The groups of a walk, when marks change, when a number is taken from those that wait, and when groups are joined.
use Rattle.std.proofs.Common.{◌≡◌, ℕ, ◌<◌, List, [], ◌∷◌, ◌++◌, Bool, true, false, refl, sym, subst, inl, inr}
use Rattle.std.specs.Prelude.{◌⊎◌, Contains}
use Rattle.std.proofs.lemmas.List.Elements.{Contains-push, Contains-push_cases, Contains-append_left, Contains-append_right, Contains-append_cases}
use Rattle.cdk_graphs.specs.Graph.{Graph, Reaches, once}
use Rattle.cdk_graphs.specs.Marks.{mark_at, IsTold}
use Rattle.cdk_graphs.specs.Walks.{OpenGroup, all_members, IsFrom, IsPart, IsGroup, IsAbove, AreStacked, IsJoining, Stands}
use Rattle.cdk_graphs.specs.declared.marks.Mark.{Mark}
use Rattle.cdk_graphs.specs.declared.marks.Mark.TheVariants.{Open}
use Rattle.cdk_graphs.proofs.Marked.{open_untold}
use Rattle.cdk_graphs.proofs.Ways.{in_none, via, via_first}

abbrev pub grouped : ℕ → List ℕ → List ℕ → Bool → OpenGroup
grouped f ms ws l = record { first = f; members = ms; waiting = ws; is_loop = l }

module _ (g : Graph) where
  -- ---- one group

  pub near_of : (marks : List Mark) (group : OpenGroup) → IsGroup g marks group → (a b : ℕ) → Contains group.members a → Contains group.members b → (a ≡ b) ⊎ Reaches g a b
  near_of marks group is a b i j = at group.is_loop refl
    where
      at : (l : Bool) → group.is_loop ≡ l → (a ≡ b) ⊎ Reaches g a b
      at true e = inr (is.loops e a b i j)
      at false e = inl (is.single e a b i j)

  -- each open number leads to one that waits in the last group
  pub leads_to : (marks : List Mark) (group : OpenGroup) (groups : List OpenGroup) (y : ℕ) → IsGroup g marks group → IsAbove g marks group groups → Contains group.waiting y → (a : ℕ) → Contains (group.members ++ all_members groups) a → Reaches g a y
  leads_to marks group groups y is above waits a i = at (Contains-append_cases group.members (all_members groups) a i)
    where
      at : Contains group.members a ⊎ Contains (all_members groups) a → Reaches g a y
      at (inl j) = let x = is.part.asked y waits in via_first g a x.0 y (near_of marks group is a x.0 j x.1) (once x.0 y x.2)
      at (inr j) = let x = is.part.asked y waits in via g a x.0 y (above.leads_up a x.0 j x.1) (once x.0 y x.2)

  pub all_open : (marks : List Mark) (groups : List OpenGroup) → AreStacked g marks groups → (n : ℕ) → Contains (all_members groups) n → (k : ℕ) × (mark_at marks n ≡ Open k)
  all_open marks [] h n i = absurd (in_none n i)
  all_open marks (group ∷ groups) h n i = at (Contains-append_cases group.members (all_members groups) n i) (all_open marks groups h.2 n)
    where
      at : Contains group.members n ⊎ Contains (all_members groups) n → (Contains (all_members groups) n → (k : ℕ) × (mark_at marks n ≡ Open k)) → (k : ℕ) × (mark_at marks n ≡ Open k)
      at (inl j) later = let e = h.0.part.entered n j in (e.0, e.1)
      at (inr j) later = later j

  pub all_untold : (marks : List Mark) (groups : List OpenGroup) → AreStacked g marks groups → (n : ℕ) → Contains (all_members groups) n → IsTold marks n → ⊥
  all_untold marks groups h n i t = let o = all_open marks groups h n i in open_untold (mark_at marks n) o.0 t.0 o.1 t.1

  -- ---- when marks change

  module _ (old new : List Mark) (told : (n : ℕ) → IsTold old n → IsTold new n) (placed : (n k : ℕ) → mark_at old n ≡ Open k → IsTold new n ⊎ (mark_at new n ≡ Open k)) where
    from_on : (f n : ℕ) → IsFrom g old f n → IsTold new n ⊎ IsFrom g new f n
    from_on f n h = at (placed n h.0 h.1)
      where
        at : IsTold new n ⊎ (mark_at new n ≡ Open h.0) → IsTold new n ⊎ IsFrom g new f n
        at (inl t) = inl t
        at (inr e) = inr (h.0, e, h.2)

    still_open : (n k : ℕ) → (IsTold new n → ⊥) → mark_at old n ≡ Open k → mark_at new n ≡ Open k
    still_open n k untold e = at (placed n k e)
      where
        at : IsTold new n ⊎ (mark_at new n ≡ Open k) → mark_at new n ≡ Open k
        at (inl t) = absurd (untold t)
        at (inr h) = h

    pub group_on : (group : OpenGroup) → ((n : ℕ) → Contains group.members n → IsTold new n → ⊥) → IsGroup g old group → IsGroup g new group
    group_on group untold is = record {
      part = record {
        entered = λ m i. let e = is.part.entered m i in (e.0, still_open m e.0 (untold m i) e.1, e.2);
        asked = is.part.asked;
        led = λ m n i j. at n (is.part.led m n i j);
      };
      loops = is.loops;
      single = is.single;
      apart = is.apart;
    }
      where
        at : (n : ℕ) → Contains group.waiting n ⊎ (IsTold old n ⊎ IsFrom g old group.first n) → Contains group.waiting n ⊎ (IsTold new n ⊎ IsFrom g new group.first n)
        at n (inl i) = inl i
        at n (inr (inl t)) = inr (inl (told n t))
        at n (inr (inr h)) = inr (from_on group.first n h)

    pub above_on : (group : OpenGroup) (groups : List OpenGroup) → ((n : ℕ) → Contains (all_members groups) n → IsTold new n → ⊥) → IsAbove g old group groups → IsAbove g new group groups
    above_on group groups untold above = record { leads_up = above.leads_up; before = λ a i. let b = above.before a i in (b.0, still_open a b.0 (untold a i) b.1, b.2); floor = above.floor }

    pub stacked_on : (groups : List OpenGroup) → ((n : ℕ) → Contains (all_members groups) n → IsTold new n → ⊥) → AreStacked g old groups → AreStacked g new groups
    stacked_on [] untold h = tt
    stacked_on (group ∷ groups) untold h =
        let later = λ (n : ℕ) (i : Contains (all_members groups) n). untold n (Contains-append_right group.members (all_members groups) n i) in (
          group_on group (λ n i. untold n (Contains-append_left group.members (all_members groups) n i)) h.0,
          above_on group groups later h.1,
          stacked_on groups later h.2,
        )

  -- ---- a number is taken from those that wait

  module _ (marks : List Mark) (f : ℕ) (ms ws vs : List ℕ) (l : Bool) (y : ℕ) (popped : ws ≡ vs ++ y ∷ []) where
    pub waits : Contains ws y
    waits = subst (λ (xs : List ℕ). Contains xs y) (sym popped) (Contains-push vs y)

    taken : (n : ℕ) → Contains ws n → Contains vs n ⊎ (y ≡ n)
    taken n i = Contains-push_cases vs y n (subst (λ (xs : List ℕ). Contains xs n) popped i)

    waited : (n : ℕ) → Contains vs n → Contains ws n
    waited n i = subst (λ (xs : List ℕ). Contains xs n) (sym popped) (Contains-append_left vs (y ∷ []) n i)

    part_taken : (IsSeen IsSeenNow : ℕ → Type 0) → ((n : ℕ) → IsSeen n → IsSeenNow n) → IsSeenNow y → IsPart g marks IsSeen (grouped f ms ws l) → IsPart g marks IsSeenNow (grouped f ms vs l)
    part_taken IsSeen IsSeenNow more seen part = record {
      entered = part.entered;
      asked = λ n i. part.asked n (waited n i);
      led = λ m n i j. at n (part.led m n i j);
    }
      where
        old : (n : ℕ) → Contains vs n ⊎ (y ≡ n) → Contains vs n ⊎ IsSeenNow n
        old n (inl i) = inl i
        old n (inr e) = inr (subst IsSeenNow e seen)

        at : (n : ℕ) → Contains ws n ⊎ IsSeen n → Contains vs n ⊎ IsSeenNow n
        at n (inl i) = old n (taken n i)
        at n (inr h) = inr (more n h)

    pub group_taken : (Contains ms y → ⊥) → IsTold marks y ⊎ IsFrom g marks f y → IsGroup g marks (grouped f ms ws l) → IsGroup g marks (grouped f ms vs l)
    group_taken other seen is = record {
      part = part_taken (λ n. IsTold marks n ⊎ IsFrom g marks f n) (λ n. IsTold marks n ⊎ IsFrom g marks f n) (λ n h. h) seen is.part;
      loops = is.loops;
      single = is.single;
      apart = λ e m n i j k. at n j (taken n (is.apart e m n i j k));
    }
      where
        at : (n : ℕ) → Contains ms n → Contains vs n ⊎ (y ≡ n) → Contains vs n
        at n j (inl i) = i
        at n j (inr e) = absurd (other (subst (λ (x : ℕ). Contains ms x) (sym e) j))

    pub above_taken : (groups : List OpenGroup) → IsAbove g marks (grouped f ms ws l) groups → IsAbove g marks (grouped f ms vs l) groups
    above_taken groups above = record { leads_up = above.leads_up; before = above.before; floor = above.floor }

    -- it is told
    pub passes : (count : ℕ) (groups : List OpenGroup) → Stands g marks count (grouped f ms ws l ∷ groups) → IsTold marks y → Stands g marks count (grouped f ms vs l ∷ groups)
    passes count groups walk told = record {
      size = walk.size;
      right = walk.right;
      closed = walk.closed;
      stacked = (
        group_taken (λ i. let e = walk.stacked.0.part.entered y i in open_untold (mark_at marks y) e.0 told.0 e.1 told.1) (inl told) walk.stacked.0,
        above_taken groups walk.stacked.1,
        walk.stacked.2,
      );
      counted = walk.counted;
      entered = walk.entered;
    }

    -- it is open
    pub joining : (count : ℕ) (groups : List OpenGroup) (position : ℕ) → Stands g marks count (grouped f ms ws l ∷ groups) → mark_at marks y ≡ Open position → IsJoining g marks y position (grouped f ms vs l) groups
    joining count groups position walk here = record {
      here = here;
      within = walk.entered y position here;
      back = leads_to marks (grouped f ms ws l) groups y walk.stacked.0 walk.stacked.1 waits;
      part = part_taken (λ n. IsTold marks n ⊎ IsFrom g marks f n) (λ n. (n ≡ y) ⊎ (IsTold marks n ⊎ IsFrom g marks f n)) (λ n h. inr h) (inl refl) walk.stacked.0.part;
      near = λ c b i j. near c b (near_of marks (grouped f ms ws l) walk.stacked.0 c b i j);
      above = above_taken groups walk.stacked.1;
      stacked = walk.stacked.2;
    }
      where
        near : (c b : ℕ) → (c ≡ b) ⊎ Reaches g c b → (c ≡ b) ⊎ (Reaches g c b ⊎ ((k : ℕ) × (mark_at marks c ≡ Open k) × (position < k)))
        near c b (inl e) = inl e
        near c b (inr h) = inr (inl h)
