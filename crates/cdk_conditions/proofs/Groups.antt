-- The groups of a walk, through each of its steps.
use Rattle.std.proofs.Common.{◌≡◌, ℕ, ◌+◌, ◌<◌, ◌≤◌, List, Bor, [], ◌∷◌, ◌++◌, Bool, true, false, cond, Option, Some, None, refl, sym, subst, ap, ◌∙◌, inl, inr, arith}
use Rattle.std.specs.Prelude.{◌⊎◌, bytes_eq, unwrap_or, if◌then◌else◌}
use Rattle.serde_json.specs.Data.{Data, Members}
use Rattle.serde_json.specs.Find.{get_member}
use Rattle.cdk_eval.specs.Conditions.{names_of}
use Rattle.cdk_eval.specs.Outcomes.{Outcome}
use Rattle.cdk_eval.specs.Reach.{IsIn}
use Rattle.cdk_eval.proofs.Reach.{bytes_same, same_bytes, in_front, in_back}
use Rattle.cdk_scopes.specs.declared.truths.Truths.{Truths}
use Rattle.cdk_conditions.specs.declared.walk.Group.{Group}
use Rattle.cdk_conditions.specs.Kept.{texts_of, is_kept, AreRight, IsSettled, AreSettled}
use Rattle.cdk_conditions.specs.Walks.{leads_in, Leads, AreClosed, members_of, waiting_of, all_members, AreJoined, IsFrom, IsPart, IsGroup, floor_of, IsAbove, AreStacked, IsJoining, Walks, IsNew}
use Rattle.cdk_conditions.proofs.Settled.{Keeps}
use Rattle.cdk_conditions.proofs.Ways.{in_or, one, via, via_first, via_last}

abbrev pub grouped : ℕ → List (Bor (List ℕ)) → List (Bor (List ℕ)) → Bool → Group
grouped f ms ws l = record { first = f; members = ms; waiting = ws; is_loop = l }

same_some : (o : Option ℕ) (j k : ℕ) → o ≡ Some j → o ≡ Some k → j ≡ k
same_some o j k h g = ap (λ x. unwrap_or x 0) (sym h ∙ g)

module _ (cs : Members) where
  -- ---- one group

  pub near_of : (ts : Truths) (p : List ℕ → Option ℕ) (g : Group) → IsGroup cs ts p g → (a b : List ℕ) → IsIn a (members_of g) → IsIn b (members_of g) → (a ≡ b) ⊎ Leads cs a b
  near_of ts p g is a b i j = at g.is_loop refl
    where
      at : (l : Bool) → g.is_loop ≡ l → (a ≡ b) ⊎ Leads cs a b
      at true e = inr (is.loops e a b i j)
      at false e = inl (is.single e a b i j)

  -- each open condition leads to a name that waits in the last group
  leads_to : (ts : Truths) (p : List ℕ → Option ℕ) (g : Group) (gs : List Group) (y : List ℕ) → IsGroup cs ts p g → IsAbove cs ts p g gs → IsIn y (waiting_of g) → (a : List ℕ) → IsIn a (members_of g ++ all_members gs) → Leads cs a y
  leads_to ts p g gs y is above waits a i = at (in_or a (members_of g) (all_members gs) i)
    where
      at : IsIn a (members_of g) ⊎ IsIn a (all_members gs) → Leads cs a y
      at (inl j) = let x = is.part.asked y waits in via_first cs a x.0 y (near_of ts p g is a x.0 j x.1) (one cs x.0 y x.2)
      at (inr j) = let x = is.part.asked y waits in via cs a x.0 y (above.leads a x.0 j x.1) (one cs x.0 y x.2)

  -- ---- under more truths and more positions

  module _ (ts us : Truths) (p q : List ℕ → Option ℕ) (settled : (n : List ℕ) → IsSettled cs ts n → IsSettled cs us n) (placed : (n : List ℕ) (k : ℕ) → p n ≡ Some k → q n ≡ Some k) where
    from_on : (f : ℕ) (n : List ℕ) → IsFrom cs ts p f n → IsFrom cs us q f n
    from_on f n h = (h.0, placed n h.0 h.1, h.2)

    met_on : (f : ℕ) (n : List ℕ) → IsSettled cs ts n ⊎ IsFrom cs ts p f n → IsSettled cs us n ⊎ IsFrom cs us q f n
    met_on f n (inl h) = inl (settled n h)
    met_on f n (inr h) = inr (from_on f n h)

    pub group_on : (g : Group) → ((n : List ℕ) → IsIn n (members_of g) → IsSettled cs us n → ⊥) → IsGroup cs ts p g → IsGroup cs us q g
    group_on g open_still is = record {
      part = record {
        entered = λ m i. from_on g.first m (is.part.entered m i);
        unsettled = open_still;
        asked = is.part.asked;
        named = λ m n i j. at n (is.part.named m n i j);
      };
      loops = is.loops;
      single = is.single;
      apart = is.apart;
    }
      where
        at : (n : List ℕ) → IsIn n (waiting_of g) ⊎ (IsSettled cs ts n ⊎ IsFrom cs ts p g.first n) → IsIn n (waiting_of g) ⊎ (IsSettled cs us n ⊎ IsFrom cs us q g.first n)
        at n (inl i) = inl i
        at n (inr h) = inr (met_on g.first n h)

    pub above_on : (g : Group) (gs : List Group) → IsAbove cs ts p g gs → IsAbove cs us q g gs
    above_on g gs above = record { leads = above.leads; before = λ a i. let b = above.before a i in (b.0, placed a b.0 b.1, b.2); floor = above.floor }

    pub stacked_on : (gs : List Group) → ((n : List ℕ) → IsIn n (all_members gs) → IsSettled cs us n → ⊥) → AreStacked cs ts p gs → AreStacked cs us q gs
    stacked_on [] open_still h = tt
    stacked_on (g ∷ gs) open_still h = (
      group_on g (λ n i. open_still n (in_front n (members_of g) (all_members gs) i)) h.0,
      above_on g gs h.1,
      stacked_on gs (λ n i. open_still n (in_back n (members_of g) (all_members gs) i)) h.2,
    )

  pub all_unsettled : (ts : Truths) (p : List ℕ → Option ℕ) (gs : List Group) → AreStacked cs ts p gs → (n : List ℕ) → IsIn n (all_members gs) → IsSettled cs ts n → ⊥
  all_unsettled ts p [] h n i = absurd i
  all_unsettled ts p (g ∷ gs) h n i = at (in_or n (members_of g) (all_members gs) i) (all_unsettled ts p gs h.2 n)
    where
      at : IsIn n (members_of g) ⊎ IsIn n (all_members gs) → (IsIn n (all_members gs) → IsSettled cs ts n → ⊥) → IsSettled cs ts n → ⊥
      at (inl j) later = h.0.part.unsettled n j
      at (inr j) later = later j

  all_placed : (ts : Truths) (p : List ℕ → Option ℕ) (gs : List Group) → AreStacked cs ts p gs → (n : List ℕ) → IsIn n (all_members gs) → (k : ℕ) × (p n ≡ Some k)
  all_placed ts p [] h n i = absurd i
  all_placed ts p (g ∷ gs) h n i = at (in_or n (members_of g) (all_members gs) i) (all_placed ts p gs h.2 n)
    where
      at : IsIn n (members_of g) ⊎ IsIn n (all_members gs) → (IsIn n (all_members gs) → (k : ℕ) × (p n ≡ Some k)) → (k : ℕ) × (p n ≡ Some k)
      at (inl j) later = let e = h.0.part.entered n j in (e.0, e.1)
      at (inr j) later = later j

  -- ---- a name is taken from those that wait

  module _ (ts : Truths) (p : List ℕ → Option ℕ) (f : ℕ) (ms ws vs : List (Bor (List ℕ))) (l : Bool) (y : List ℕ) (popped : texts_of ws ≡ texts_of vs ++ y ∷ []) where
    waits : IsIn y (texts_of ws)
    waits = subst (IsIn y) (sym popped) (in_back y (texts_of vs) (y ∷ []) (inl refl))

    taken : (n : List ℕ) → IsIn n (texts_of ws) → IsIn n (texts_of vs) ⊎ (n ≡ y)
    taken n i = at (in_or n (texts_of vs) (y ∷ []) (subst (IsIn n) popped i))
      where
        at : IsIn n (texts_of vs) ⊎ IsIn n (y ∷ []) → IsIn n (texts_of vs) ⊎ (n ≡ y)
        at (inl j) = inl j
        at (inr (inl e)) = inr (sym e)
        at (inr (inr j)) = absurd j

    part_taken : (IsMet IsMetNow : List ℕ → Type 0) → ((n : List ℕ) → IsMet n → IsMetNow n) → IsMetNow y → IsPart cs ts p IsMet (grouped f ms ws l) → IsPart cs ts p IsMetNow (grouped f ms vs l)
    part_taken IsMet IsMetNow more met part = record {
      entered = part.entered;
      unsettled = part.unsettled;
      asked = λ n i. part.asked n (subst (IsIn n) (sym popped) (in_front n (texts_of vs) (y ∷ []) i));
      named = λ m n i j. at n (part.named m n i j);
    }
      where
        old : (n : List ℕ) → IsIn n (texts_of vs) ⊎ (n ≡ y) → IsIn n (texts_of vs) ⊎ IsMetNow n
        old n (inl i) = inl i
        old n (inr e) = inr (subst IsMetNow (sym e) met)

        at : (n : List ℕ) → IsIn n (texts_of ws) ⊎ IsMet n → IsIn n (texts_of vs) ⊎ IsMetNow n
        at n (inl i) = old n (taken n i)
        at n (inr h) = inr (more n h)

    group_taken : (IsIn y (texts_of ms) → ⊥) → IsSettled cs ts y ⊎ IsFrom cs ts p f y → IsGroup cs ts p (grouped f ms ws l) → IsGroup cs ts p (grouped f ms vs l)
    group_taken other met is = record {
      part = part_taken (λ n. IsSettled cs ts n ⊎ IsFrom cs ts p f n) (λ n. IsSettled cs ts n ⊎ IsFrom cs ts p f n) (λ n h. h) met is.part;
      loops = is.loops;
      single = is.single;
      apart = λ e m n i j k. at n j (taken n (is.apart e m n i j k));
    }
      where
        at : (n : List ℕ) → IsIn n (texts_of ms) → IsIn n (texts_of vs) ⊎ (n ≡ y) → IsIn n (texts_of vs)
        at n j (inl i) = i
        at n j (inr e) = absurd (other (subst (λ (x : List ℕ). IsIn x (texts_of ms)) e j))

    above_taken : (gs : List Group) → IsAbove cs ts p (grouped f ms ws l) gs → IsAbove cs ts p (grouped f ms vs l) gs
    above_taken gs above = record { leads = above.leads; before = above.before; floor = above.floor }

    -- it is settled
    pub passes : (op : Data → Outcome) (count : ℕ) (gs : List Group) → Walks op cs ts p count (grouped f ms ws l ∷ gs) → IsSettled cs ts y → Walks op cs ts p count (grouped f ms vs l ∷ gs)
    passes op count gs walk settled = record {
      right = walk.right;
      closed = walk.closed;
      stacked = (group_taken (λ i. walk.stacked.0.part.unsettled y i settled) (inl settled) walk.stacked.0, above_taken gs walk.stacked.1, walk.stacked.2);
      counted = walk.counted;
      entered = walk.entered;
    }

    -- it is open
    pub joining : (op : Data → Outcome) (count : ℕ) (gs : List Group) (position : ℕ) → Walks op cs ts p count (grouped f ms ws l ∷ gs) → (IsSettled cs ts y → ⊥) → p y ≡ Some position → IsJoining cs ts p y position (grouped f ms vs l) gs
    joining op count gs position walk unsettled here = record {
      here = here;
      within = within (walk.entered y position here);
      back = leads_to ts p (grouped f ms ws l) gs y walk.stacked.0 walk.stacked.1 waits;
      part = part_taken (λ n. IsSettled cs ts n ⊎ IsFrom cs ts p f n) (λ n. (n ≡ y) ⊎ (IsSettled cs ts n ⊎ IsFrom cs ts p f n)) (λ n h. inr h) (inl refl) walk.stacked.0.part;
      near = λ c b i j. near c b (near_of ts p (grouped f ms ws l) walk.stacked.0 c b i j);
      above = above_taken gs walk.stacked.1;
      stacked = walk.stacked.2;
    }
      where
        within : IsSettled cs ts y ⊎ IsIn y (texts_of ms ++ all_members gs) → IsIn y (texts_of ms ++ all_members gs)
        within (inl s) = absurd (unsettled s)
        within (inr i) = i

        near : (c b : List ℕ) → (c ≡ b) ⊎ Leads cs c b → (c ≡ b) ⊎ (Leads cs c b ⊎ ((k : ℕ) × (p c ≡ Some k) × (position < k)))
        near c b (inl e) = inl e
        near c b (inr h) = inr (inl h)

  -- ---- groups are joined

  module _ (ts : Truths) (p : List ℕ → Option ℕ) (y : List ℕ) (position : ℕ) where
    pub joins_one : (g b j : Group) (gs : List Group) → IsJoining cs ts p y position g (b ∷ gs) → position < g.first → AreJoined b g j → IsJoining cs ts p y position j gs
    joins_one g b j gs was later joined = record {
      here = was.here;
      within = within (in_or y (members_of g) (members_of b ++ all_members gs) was.within);
      back = λ a i. was.back a (old a (in_or a (members_of j) (all_members gs) i));
      part = record {
        entered = λ m i. entered m (joined.members.either m i);
        unsettled = λ m i. unsettled m (joined.members.either m i);
        asked = λ n i. asked n (joined.waiting.either n i);
        named = λ m n i k. named m n k (joined.members.either m i);
      };
      near = λ c x i k. near c x (joined.members.either c i) (joined.members.either x k);
      above = record {
        leads = λ a x i k. leads a x i (joined.members.either x k);
        before = λ a i. let h = was.stacked.1.before a i in (h.0, h.1, omega (arith, h.2, joined.first));
        floor = omega (arith, was.stacked.1.floor, joined.first);
      };
      stacked = was.stacked.2;
    }
      where
        within_b : IsIn y (members_of b) ⊎ IsIn y (all_members gs) → IsIn y (members_of j ++ all_members gs)
        within_b (inl i) = in_front y (members_of j) (all_members gs) (joined.members.first y i)
        within_b (inr i) = in_back y (members_of j) (all_members gs) i

        within : IsIn y (members_of g) ⊎ IsIn y (members_of b ++ all_members gs) → IsIn y (members_of j ++ all_members gs)
        within (inl i) = in_front y (members_of j) (all_members gs) (joined.members.second y i)
        within (inr i) = within_b (in_or y (members_of b) (all_members gs) i)

        old_part : (a : List ℕ) → IsIn a (members_of b) ⊎ IsIn a (members_of g) → IsIn a (members_of g ++ (members_of b ++ all_members gs))
        old_part a (inl i) = in_back a (members_of g) (members_of b ++ all_members gs) (in_front a (members_of b) (all_members gs) i)
        old_part a (inr i) = in_front a (members_of g) (members_of b ++ all_members gs) i

        old : (a : List ℕ) → IsIn a (members_of j) ⊎ IsIn a (all_members gs) → IsIn a (members_of g ++ (members_of b ++ all_members gs))
        old a (inl i) = old_part a (joined.members.either a i)
        old a (inr i) = in_back a (members_of g) (members_of b ++ all_members gs) (in_back a (members_of b) (all_members gs) i)

        lower : j.first ≤ g.first
        lower = omega (arith, joined.first, was.above.floor)

        from_b : (m : List ℕ) → IsFrom cs ts p b.first m → IsFrom cs ts p j.first m
        from_b m h = (h.0, h.1, omega (arith, h.2, joined.first))

        from_g : (m : List ℕ) → IsFrom cs ts p g.first m → IsFrom cs ts p j.first m
        from_g m h = (h.0, h.1, omega (arith, h.2, lower))

        entered : (m : List ℕ) → IsIn m (members_of b) ⊎ IsIn m (members_of g) → IsFrom cs ts p j.first m
        entered m (inl i) = from_b m (was.stacked.0.part.entered m i)
        entered m (inr i) = from_g m (was.part.entered m i)

        unsettled : (m : List ℕ) → IsIn m (members_of b) ⊎ IsIn m (members_of g) → IsSettled cs ts m → ⊥
        unsettled m (inl i) = was.stacked.0.part.unsettled m i
        unsettled m (inr i) = was.part.unsettled m i

        asked : (n : List ℕ) → IsIn n (waiting_of b) ⊎ IsIn n (waiting_of g) → (m : List ℕ) × IsIn m (members_of j) × IsIn n (leads_in cs m)
        asked n (inl i) = let r = was.stacked.0.part.asked n i in (r.0, joined.members.first r.0 r.1, r.2)
        asked n (inr i) = let r = was.part.asked n i in (r.0, joined.members.second r.0 r.1, r.2)

        met_b : (n : List ℕ) → IsIn n (waiting_of b) ⊎ (IsSettled cs ts n ⊎ IsFrom cs ts p b.first n) → IsIn n (waiting_of j) ⊎ ((n ≡ y) ⊎ (IsSettled cs ts n ⊎ IsFrom cs ts p j.first n))
        met_b n (inl i) = inl (joined.waiting.first n i)
        met_b n (inr (inl s)) = inr (inr (inl s))
        met_b n (inr (inr h)) = inr (inr (inr (from_b n h)))

        met_g : (n : List ℕ) → IsIn n (waiting_of g) ⊎ ((n ≡ y) ⊎ (IsSettled cs ts n ⊎ IsFrom cs ts p g.first n)) → IsIn n (waiting_of j) ⊎ ((n ≡ y) ⊎ (IsSettled cs ts n ⊎ IsFrom cs ts p j.first n))
        met_g n (inl i) = inl (joined.waiting.second n i)
        met_g n (inr (inl e)) = inr (inl e)
        met_g n (inr (inr (inl s))) = inr (inr (inl s))
        met_g n (inr (inr (inr h))) = inr (inr (inr (from_g n h)))

        named : (m n : List ℕ) → IsIn n (leads_in cs m) → IsIn m (members_of b) ⊎ IsIn m (members_of g) → IsIn n (waiting_of j) ⊎ ((n ≡ y) ⊎ (IsSettled cs ts n ⊎ IsFrom cs ts p j.first n))
        named m n k (inl i) = met_b n (was.stacked.0.part.named m n i k)
        named m n k (inr i) = met_g n (was.part.named m n i k)

        near_b : (c x : List ℕ) → (c ≡ x) ⊎ Leads cs c x → (c ≡ x) ⊎ (Leads cs c x ⊎ ((k : ℕ) × (p c ≡ Some k) × (position < k)))
        near_b c x (inl e) = inl e
        near_b c x (inr h) = inr (inl h)

        near : (c x : List ℕ) → IsIn c (members_of b) ⊎ IsIn c (members_of g) → IsIn x (members_of b) ⊎ IsIn x (members_of g) → (c ≡ x) ⊎ (Leads cs c x ⊎ ((k : ℕ) × (p c ≡ Some k) × (position < k)))
        near c x (inl i) (inl k) = near_b c x (near_of ts p b was.stacked.0 c x i k)
        near c x (inl i) (inr k) = inr (inl (was.above.leads c x (in_front c (members_of b) (all_members gs) i) k))
        near c x (inr i) k = let h = was.part.entered c i in inr (inr (h.0, h.1, omega (arith, h.2, later)))

        leads : (a x : List ℕ) → IsIn a (all_members gs) → IsIn x (members_of b) ⊎ IsIn x (members_of g) → Leads cs a x
        leads a x i (inl k) = was.stacked.1.leads a x i k
        leads a x i (inr k) = was.above.leads a x (in_back a (members_of b) (all_members gs) i) k

    stands_at : (g : Group) (gs : List Group) → IsJoining cs ts p y position g gs → IsIn y (members_of g) → g.first ≤ position
    stands_at g gs was i = let e = was.part.entered y i in omega (arith, e.2, same_some (p y) e.0 position e.1 was.here)

    -- the group of `y` isn't passed
    pub not_past : (g : Group) → IsJoining cs ts p y position g [] → position < g.first → ⊥
    not_past g was later = at (in_or y (members_of g) [] was.within)
      where
        at : IsIn y (members_of g) ⊎ IsIn y [] → ⊥
        at (inl i) = omega (arith, later, stands_at g [] was i)
        at (inr i) = i

    pub joined_all : (f : ℕ) (ms ws : List (Bor (List ℕ))) (l : Bool) (gs : List Group) → IsJoining cs ts p y position (grouped f ms ws l) gs → f ≤ position → AreStacked cs ts p (grouped f ms ws true ∷ gs)
    joined_all f ms ws l gs was there = (
      record {
        part = record {
          entered = was.part.entered;
          unsettled = was.part.unsettled;
          asked = was.part.asked;
          named = λ m n i j. named n (was.part.named m n i j);
        };
        loops = λ _ a b i j. via_last cs a y b (was.back a (in_front a (texts_of ms) (all_members gs) i)) (ahead b (was.near y b here j));
        single = λ e. cc;
        apart = λ e. cc;
      },
      record { leads = was.above.leads; before = was.above.before; floor = was.above.floor },
      was.stacked,
    )
      where
        named : (n : List ℕ) → IsIn n (texts_of ws) ⊎ ((n ≡ y) ⊎ (IsSettled cs ts n ⊎ IsFrom cs ts p f n)) → IsIn n (texts_of ws) ⊎ (IsSettled cs ts n ⊎ IsFrom cs ts p f n)
        named n (inl i) = inl i
        named n (inr (inl e)) = inr (inr (subst (IsFrom cs ts p f) (sym e) (position, was.here, there)))
        named n (inr (inr h)) = inr h

        at_here : IsIn y (texts_of ms) ⊎ IsIn y (all_members gs) → IsIn y (texts_of ms)
        at_here (inl i) = i
        at_here (inr i) = let b = was.above.before y i in absurd (omega (arith, b.2, there, same_some (p y) b.0 position b.1 was.here))

        here : IsIn y (texts_of ms)
        here = at_here (in_or y (texts_of ms) (all_members gs) was.within)

        ahead : (b : List ℕ) → (y ≡ b) ⊎ (Leads cs y b ⊎ ((k : ℕ) × (p y ≡ Some k) × (position < k))) → (y ≡ b) ⊎ Leads cs y b
        ahead b (inl e) = inl e
        ahead b (inr (inl h)) = inr h
        ahead b (inr (inr h)) = absurd (omega (arith, h.2, same_some (p y) h.0 position h.1 was.here))

  -- ---- a condition is entered

  module _ (op : Data → Outcome) (ts : Truths) (p q : List ℕ → Option ℕ) (count : ℕ) (y : List ℕ) (new : p y ≡ None) (updates : (n : List ℕ) → q n ≡ (if bytes_eq y n then Some count else p n)) where
    pub at_new : q y ≡ Some count
    at_new = updates y ∙ ap (λ b. cond b (Some count) (p y)) (same_bytes y)

    pub placed_more : (n : List ℕ) (k : ℕ) → p n ≡ Some k → q n ≡ Some k
    placed_more n k h = updates n ∙ at (bytes_eq y n) refl
      where
        at : (b : Bool) → bytes_eq y n ≡ b → cond b (Some count) (p n) ≡ Some k
        at true e = let f : p n ≡ None = subst (λ (m : List ℕ). p m ≡ None) (bytes_same y n e) new in cc
        at false e = h

    placed_old : (n : List ℕ) (k : ℕ) → q n ≡ Some k → ((y ≡ n) × (k ≡ count)) ⊎ (p n ≡ Some k)
    placed_old n k h = at (bytes_eq y n) refl (sym (updates n) ∙ h)
      where
        at : (b : Bool) → bytes_eq y n ≡ b → cond b (Some count) (p n) ≡ Some k → ((y ≡ n) × (k ≡ count)) ⊎ (p n ≡ Some k)
        at true e g = inl (bytes_same y n e, same_some (Some count) k count g refl)
        at false e g = inr g

    pub enters : (d : Data) (next : ℕ) (g : Group) (gs : List Group) → AreRight op cs ts → AreClosed cs ts → AreStacked cs ts q gs → ((n : List ℕ) (k : ℕ) → p n ≡ Some k → k < count)
        → ((n : List ℕ) (k : ℕ) → p n ≡ Some k → IsSettled cs ts n ⊎ IsIn n (all_members gs)) → ((a : List ℕ) → IsIn a (all_members gs) → Leads cs a y) → ((a : List ℕ) → IsIn a (all_members gs) → (k : ℕ) × (p a ≡ Some k))
        → floor_of gs ≤ count → (IsSettled cs ts y → ⊥) → get_member y cs ≡ Some d → IsNew count y d g → next ≡ count + 1 → Walks op cs ts q next (g ∷ gs)
    enters d next g gs right closed stacked counted entered leads placed floor unsettled found is_new is_next = record {
      right = right;
      closed = closed;
      stacked = (
        record {
          part = record {
            entered = λ m i. subst (IsFrom cs ts q g.first) (the_member m i) (count, at_new, omega (arith, is_new.first));
            unsettled = λ m i. subst (λ (x : List ℕ). IsSettled cs ts x → ⊥) (the_member m i) unsettled;
            asked = λ n i. (y, subst (IsIn y) (sym is_new.members) (inl refl), subst (λ o. IsIn n (names_of o)) (sym found) (subst (IsIn n) is_new.waiting i));
            named = λ m n i j. inl (waits m n i j);
          };
          loops = λ e. let f = is_new.is_loop in cc;
          single = λ _ a b i j. sym (the_member a i) ∙ the_member b j;
          apart = λ _ m n i _ j. waits m n i j;
        },
        record {
          leads = λ a b i j. subst (Leads cs a) (the_member b j) (leads a i);
          before = λ a i. let h = placed a i in (h.0, placed_more a h.0 h.1, omega (arith, counted a h.0 h.1, is_new.first));
          floor = omega (arith, floor, is_new.first);
        },
        stacked,
      );
      counted = λ n k h. counted_at n k (placed_old n k h);
      entered = λ n k h. entered_at n k (placed_old n k h);
    }
      where
        only : (m : List ℕ) → IsIn m (y ∷ []) → y ≡ m
        only m (inl e) = e
        only m (inr i) = absurd i

        the_member : (m : List ℕ) → IsIn m (members_of g) → y ≡ m
        the_member m i = only m (subst (IsIn m) is_new.members i)

        waits : (m n : List ℕ) → IsIn m (members_of g) → IsIn n (leads_in cs m) → IsIn n (waiting_of g)
        waits m n i j = subst (IsIn n) (sym is_new.waiting) (subst (λ o. IsIn n (names_of o)) found (subst (λ (x : List ℕ). IsIn n (leads_in cs x)) (sym (the_member m i)) j))

        counted_at : (n : List ℕ) (k : ℕ) → ((y ≡ n) × (k ≡ count)) ⊎ (p n ≡ Some k) → k < next
        counted_at n k (inl e) = omega (arith, e.1, is_next)
        counted_at n k (inr h) = omega (arith, counted n k h, is_next)

        entered_old : (n : List ℕ) → IsSettled cs ts n ⊎ IsIn n (all_members gs) → IsSettled cs ts n ⊎ IsIn n (members_of g ++ all_members gs)
        entered_old n (inl s) = inl s
        entered_old n (inr i) = inr (in_back n (members_of g) (all_members gs) i)

        entered_at : (n : List ℕ) (k : ℕ) → ((y ≡ n) × (k ≡ count)) ⊎ (p n ≡ Some k) → IsSettled cs ts n ⊎ IsIn n (members_of g ++ all_members gs)
        entered_at n k (inl e) = inr (in_front n (members_of g) (all_members gs) (subst (IsIn n) (sym is_new.members) (inl e.0)))
        entered_at n k (inr h) = entered_old n (entered n k h)

    -- behind the group in which it waits
    pub enters_behind : (f : ℕ) (ms ws vs : List (Bor (List ℕ))) (l : Bool) (d : Data) (next : ℕ) (g : Group) (gs : List Group) → texts_of ws ≡ texts_of vs ++ y ∷ [] → Walks op cs ts p count (grouped f ms ws l ∷ gs) → (IsSettled cs ts y → ⊥)
        → get_member y cs ≡ Some d → IsNew count y d g → next ≡ count + 1 → Walks op cs ts q next (g ∷ grouped f ms vs l ∷ gs)
    enters_behind f ms ws vs l d next g gs popped walk unsettled found is_new is_next =
        let old = grouped f ms ws l in
        let y_waits = waits ts p f ms ws vs l y popped in
        let first = walk.stacked.0.part.asked y y_waits in
        let first_at = walk.stacked.0.part.entered first.0 first.1 in
        let below : f ≤ count = omega (arith, first_at.2, walk.counted first.0 first_at.0 first_at.1) in
        let same = λ (n : List ℕ) (s : IsSettled cs ts n). s in
        let group : IsGroup cs ts q old = group_on ts ts p q same placed_more old walk.stacked.0.part.unsettled walk.stacked.0 in
        enters d next g (grouped f ms vs l ∷ gs) walk.right walk.closed (
          group_taken ts q f ms ws vs l y popped (λ i. let e = walk.stacked.0.part.entered y i in let none = new in let some = e.1 in cc) (inr (count, at_new, below)) group,
          above_taken ts q f ms ws vs l y popped gs (above_on ts ts p q same placed_more old gs walk.stacked.1),
          stacked_on ts ts p q same placed_more gs (all_unsettled ts p gs walk.stacked.2) walk.stacked.2,
        )
        walk.counted walk.entered (leads_to ts p old gs y walk.stacked.0 walk.stacked.1 y_waits) (all_placed ts p (old ∷ gs) walk.stacked) below unsettled found is_new is_next

  -- ---- a group is closed

  module _ (op : Data → Outcome) (ts : Truths) (p : List ℕ → Option ℕ) (count : ℕ) (g : Group) (gs : List Group) (walk : Walks op cs ts p count (g ∷ gs)) (done : waiting_of g ≡ []) where
    none_waits : (n : List ℕ) → IsIn n (waiting_of g) → ⊥
    none_waits n i = subst (IsIn n) done i

    not_below : (n : List ℕ) (k : ℕ) → p n ≡ Some k → g.first ≤ k → IsIn n (all_members gs) → ⊥
    not_below n k h later i = let b = walk.stacked.1.before n i in omega (arith, b.2, later, same_some (p n) b.0 k b.1 h)

    -- what is named is settled, or in the group
    pub met : (m n : List ℕ) → IsIn m (members_of g) → IsIn n (leads_in cs m) → IsSettled cs ts n ⊎ IsIn n (members_of g)
    met m n i j = at (walk.stacked.0.part.named m n i j)
      where
        within : (k : ℕ) → p n ≡ Some k → g.first ≤ k → IsIn n (members_of g) ⊎ IsIn n (all_members gs) → IsSettled cs ts n ⊎ IsIn n (members_of g)
        within k h later (inl i) = inr i
        within k h later (inr i) = absurd (not_below n k h later i)

        found : (k : ℕ) → p n ≡ Some k → g.first ≤ k → IsSettled cs ts n ⊎ IsIn n (members_of g ++ all_members gs) → IsSettled cs ts n ⊎ IsIn n (members_of g)
        found k h later (inl s) = inl s
        found k h later (inr i) = within k h later (in_or n (members_of g) (all_members gs) i)

        at : IsIn n (waiting_of g) ⊎ (IsSettled cs ts n ⊎ IsFrom cs ts p g.first n) → IsSettled cs ts n ⊎ IsIn n (members_of g)
        at (inl w) = absurd (none_waits n w)
        at (inr (inl s)) = inl s
        at (inr (inr h)) = found h.0 h.1 h.2 (walk.entered n h.0 h.1)

    -- all names of one that isn't a loop are settled
    pub names_settled : g.is_loop ≡ false → (m : List ℕ) → IsIn m (members_of g) → AreSettled cs ts (leads_in cs m)
    names_settled e m i n j = at (met m n i j)
      where
        at : IsSettled cs ts n ⊎ IsIn n (members_of g) → IsSettled cs ts n
        at (inl s) = s
        at (inr k) = absurd (none_waits n (walk.stacked.0.apart e m n i k j))

    pub closes : (names : List (List ℕ)) (us : Truths) → ((n : List ℕ) → IsIn n names → IsIn n (members_of g)) → ((n : List ℕ) → IsIn n (members_of g) → IsIn n names) → Keeps op cs names ts us → Walks op cs us p count gs
    closes names us inside outside keeps = record {
      right = keeps.right;
      closed = λ c h n j. closed_at c n j (keeps.given c h);
      stacked = stacked_on ts us p p more (λ n h e. e) gs open_still walk.stacked.2;
      counted = walk.counted;
      entered = λ n k h. entered_at n (walk.entered n k h);
    }
      where
        more : (n : List ℕ) → IsSettled cs ts n → IsSettled cs us n
        more n (inl h) = inl (keeps.kept n h)
        more n (inr e) = inr e

        met_now : (n : List ℕ) → IsSettled cs ts n ⊎ IsIn n (members_of g) → IsSettled cs us n
        met_now n (inl s) = more n s
        met_now n (inr i) = inl (keeps.each n (outside n i))

        closed_at : (c n : List ℕ) → IsIn n (leads_in cs c) → (is_kept ts c ≡ true) ⊎ IsIn c names → IsSettled cs us n
        closed_at c n j (inl h) = more n (walk.closed c h n j)
        closed_at c n j (inr i) = met_now n (met c n (inside c i) j)

        apart_at : (n : List ℕ) → IsIn n (all_members gs) → (is_kept ts n ≡ true) ⊎ IsIn n names → ⊥
        apart_at n i (inl h) = all_unsettled ts p gs walk.stacked.2 n i (inl h)
        apart_at n i (inr j) = let e = walk.stacked.0.part.entered n (inside n j) in not_below n e.0 e.1 e.2 i

        open_still : (n : List ℕ) → IsIn n (all_members gs) → IsSettled cs us n → ⊥
        open_still n i (inl h) = apart_at n i (keeps.given n h)
        open_still n i (inr e) = all_unsettled ts p gs walk.stacked.2 n i (inr e)

        entered_in : (n : List ℕ) → IsIn n (members_of g) ⊎ IsIn n (all_members gs) → IsSettled cs us n ⊎ IsIn n (all_members gs)
        entered_in n (inl i) = inl (inl (keeps.each n (outside n i)))
        entered_in n (inr i) = inr i

        entered_at : (n : List ℕ) → IsSettled cs ts n ⊎ IsIn n (members_of g ++ all_members gs) → IsSettled cs us n ⊎ IsIn n (all_members gs)
        entered_at n (inl s) = inl (more n s)
        entered_at n (inr i) = entered_in n (in_or n (members_of g) (all_members gs) i)
