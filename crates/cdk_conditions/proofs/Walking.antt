-- The walk, through each of its steps.
use Rattle.std.proofs.Common.{◌≡◌, ℕ, ◌<◌, ◌≤◌, List, length, Bor, [], ◌∷◌, ◌++◌, reverse, Bool, true, false, Option, Some, None, refl, sym, subst, ap, ◌∙◌, inl, inr, arith}
use Rattle.std.specs.Prelude.{◌⊎◌, is_some}
use Rattle.serde_json.specs.Data.{Data, Members}
use Rattle.serde_json.specs.Find.{get_member}
use Rattle.cdk_eval.specs.Outcomes.{Outcome}
use Rattle.cdk_eval.specs.Reach.{IsIn}
use Rattle.cdk_eval.proofs.Reach.{in_front, in_back}
use Rattle.cdk_scopes.specs.declared.truths.Truths.{Truths}
use Rattle.cdk_conditions.specs.declared.walk.Group.{Group}
use Rattle.cdk_conditions.specs.declared.walk.Walk.{Walk}
use Rattle.cdk_conditions.specs.Closing.{KeepsLoops, KeepsTruth}
use Rattle.cdk_conditions.specs.Kept.{texts_of, is_kept, AreRight, IsSettled}
use Rattle.cdk_conditions.specs.Walks.{AreClosed, position_at, positions_of, groups_of, members_of, waiting_of, all_members, AreJoined, AreStacked, AreGrouped, IsJoining, Walks, IsWalk, IsWalkWith, IsStep, IsEntered, names_left, waiting_left}
use Rattle.cdk_conditions.proofs.Groups.{grouped, passes, joining, joins_one, not_past, joined_all, enters, enters_behind, placed_more, at_new, names_settled, closes}
use Rattle.cdk_conditions.proofs.Settled.{Keeps, keeps_loops, keeps_truth}
use Rattle.cdk_conditions.proofs.Steps.{turned_push, left_less, one_less, joined_left}
use Rattle.cdk_conditions.proofs.Ways.{in_or}

-- ---- groups are joined

pub record IsJoined (last : Group) (old : Walk) (position : ℕ) (g : Group) (new : Walk) : Type 0 where
  pub joining : (cs : Members) (ts : Truths) (y : List ℕ) → IsJoining cs ts (positions_of old) y position last (groups_of old) → IsJoining cs ts (positions_of old) y position g (groups_of new)
  pub stays : (n : List ℕ) → IsIn n (members_of last ++ all_members (groups_of old)) → IsIn n (members_of g ++ all_members (groups_of new))
  pub waiting : waiting_left (g ∷ groups_of new) ≤ waiting_left (last ∷ groups_of old)
  pub positions : new.positions ≡ old.positions
  pub entered : new.entered ≡ old.entered

pub joined_first : (last : Group) (old : Walk) (position : ℕ) → IsJoined last old position last old
joined_first last old position = record { joining = λ cs ts y h. h; stays = λ n i. i; waiting = omega arith; positions = refl; entered = refl }

pub joined_next : (last : Group) (old : Walk) (position : ℕ) (g b j : Group) (new : Walk) (rest : List Group) → IsJoined last old position g new → position < g.first → new.groups ≡ rest ++ b ∷ [] → AreJoined b g j
    → IsJoined last old position j (record { groups = rest; positions = new.positions; entered = new.entered })
joined_next last old position g b j new rest was later popped joined =
    let turned = turned_push rest new.groups b popped in
    record {
      joining = λ cs ts y h. joins_one cs ts (positions_of old) y position g b j (reverse rest) (subst (IsJoining cs ts (positions_of old) y position g) turned (was.joining cs ts y h)) later joined;
      stays = λ n i. moved n (in_or n (members_of g) (members_of b ++ all_members (reverse rest)) (subst (λ gs. IsIn n (members_of g ++ all_members gs)) turned (was.stays n i)));
      waiting = omega (arith, was.waiting, ap waiting_left turned, joined_left b g j (reverse rest) joined);
      positions = was.positions;
      entered = was.entered;
    }
  where
    moved_b : (n : List ℕ) → IsIn n (members_of b) ⊎ IsIn n (all_members (reverse rest)) → IsIn n (members_of j ++ all_members (reverse rest))
    moved_b n (inl i) = in_front n (members_of j) (all_members (reverse rest)) (joined.members.first n i)
    moved_b n (inr i) = in_back n (members_of j) (all_members (reverse rest)) i

    moved : (n : List ℕ) → IsIn n (members_of g) ⊎ IsIn n (members_of b ++ all_members (reverse rest)) → IsIn n (members_of j ++ all_members (reverse rest))
    moved n (inl i) = in_front n (members_of j) (all_members (reverse rest)) (joined.members.second n i)
    moved n (inr i) = moved_b n (in_or n (members_of b) (all_members (reverse rest)) i)

pub joined_last : (last : Group) (old : Walk) (position : ℕ) (f : ℕ) (ms ws : List (Bor (List ℕ))) (l : Bool) (new : Walk) (pushed : List Group) → IsJoined last old position (grouped f ms ws l) new → f ≤ position
    → pushed ≡ new.groups ++ grouped f ms ws true ∷ [] → (cs : Members) (ts : Truths) (y : List ℕ) → IsJoining cs ts (positions_of old) y position last (groups_of old)
    → AreGrouped cs ts last old (record { groups = pushed; positions = new.positions; entered = new.entered })
joined_last last old position f ms ws l new pushed was there push cs ts y h =
    let turned = turned_push new.groups pushed (grouped f ms ws true) push in
    record {
      stacked = subst (AreStacked cs ts (positions_of old)) (sym turned) (joined_all cs ts (positions_of old) y position f ms ws l (groups_of new) (was.joining cs ts y h) there);
      stays = λ n i. subst (λ gs. IsIn n (all_members gs)) (sym turned) (was.stays n i);
      waiting = omega (arith, was.waiting, ap waiting_left turned);
      positions = was.positions;
      entered = was.entered;
    }

pub joined_none : (last : Group) (old : Walk) (position : ℕ) (g : Group) (new : Walk) → IsJoined last old position g new → position < g.first → new.groups ≡ [] → (cs : Members) (ts : Truths) (y : List ℕ)
    → IsJoining cs ts (positions_of old) y position last (groups_of old) → ⊥
joined_none last old position g new was later empty cs ts y h = not_past cs ts (positions_of old) y position g (subst (IsJoining cs ts (positions_of old) y position g) (ap reverse empty) (was.joining cs ts y h)) later

-- ---- one step

still_placed : (p q : List ℕ → Option ℕ) → ((n : List ℕ) (k : ℕ) → p n ≡ Some k → q n ≡ Some k) → (n : List ℕ) (o : Option ℕ) → p n ≡ o → is_some o ≡ true → is_some (q n) ≡ true
still_placed p q more n None e h = cc
still_placed p q more n (Some k) e h = ap is_some (more n k e)

module _ (op : Data → Outcome) (cs : Members) (ts : Truths) (w : Walk) (f : ℕ) (ms ws vs : List (Bor (List ℕ))) (l : Bool) (y : List ℕ) (popped : texts_of ws ≡ texts_of vs ++ y ∷ []) (walk : IsWalkWith op cs ts w (grouped f ms ws l)) where
  abbrev pub pushed_on : List Group → Walk
  pushed_on gs = record { groups = gs; positions = w.positions; entered = w.entered }

  abbrev pub IsNext : Walk → Type 0
  IsNext v = IsWalk op cs ts v × IsStep cs ts w (grouped f ms ws l) ts v

  pub passed : (gs : List Group) → gs ≡ w.groups ++ grouped f ms vs l ∷ [] → IsSettled cs ts y → IsNext (pushed_on gs)
  passed gs push settled =
      let turned = turned_push w.groups gs (grouped f ms vs l) push in (
        subst (Walks op cs ts (positions_of w) w.entered) (sym turned) (passes cs ts (positions_of w) f ms ws vs l y popped op w.entered (groups_of w) walk settled),
        record { kept = λ n h. h; entered = λ n h. h; fewer = omega (arith, ap waiting_left turned, one_less (texts_of ws) (texts_of vs) y popped) },
      )

  pub joins_with : (v : Walk) (position : ℕ) → (IsSettled cs ts y → ⊥) → positions_of w y ≡ Some position
      → ((ds : Members) (us : Truths) (x : List ℕ) → IsJoining ds us (positions_of w) x position (grouped f ms vs l) (groups_of w) → AreGrouped ds us (grouped f ms vs l) w v) → IsNext v
  joins_with v position unsettled here join =
      let is = join cs ts y (joining cs ts (positions_of w) f ms ws vs l y popped op w.entered (groups_of w) position walk unsettled here) in (
        record {
          right = walk.right;
          closed = walk.closed;
          stacked = subst (λ ps. AreStacked cs ts (position_at ps.at) (groups_of v)) (sym is.positions) is.stacked;
          counted = λ n k h. subst (λ c. k < c) (sym is.entered) (walk.counted n k (sym (ap (λ ps. position_at ps.at n) is.positions) ∙ h));
          entered = λ n k h. kept n (walk.entered n k (sym (ap (λ ps. position_at ps.at n) is.positions) ∙ h)) (is.stays n);
        },
        record {
          kept = λ n h. h;
          entered = λ n h. ap (λ ps. is_some (position_at ps.at n)) is.positions ∙ h;
          fewer = omega (arith, is.waiting, one_less (texts_of ws) (texts_of vs) y popped, ap (λ ps. names_left (position_at ps.at) cs) is.positions);
        },
      )
    where
      kept : (n : List ℕ) → IsSettled cs ts n ⊎ IsIn n (texts_of ms ++ all_members (groups_of w)) → (IsIn n (texts_of ms ++ all_members (groups_of w)) → IsIn n (all_members (groups_of v))) → IsSettled cs ts n ⊎ IsIn n (all_members (groups_of v))
      kept n (inl s) stays = inl s
      kept n (inr i) stays = inr (stays i)

  pub enters_with : (gs : List Group) (v : Walk) (d : Data) → gs ≡ w.groups ++ grouped f ms vs l ∷ [] → (IsSettled cs ts y → ⊥) → get_member y cs ≡ Some d → positions_of w y ≡ None → IsEntered y d (pushed_on gs) v → IsNext v
  enters_with gs v d push unsettled found none is =
      let p = positions_of w in
      let q = positions_of v in
      let turned = turned_push gs v.groups is.group is.groups ∙ ap (λ hs. is.group ∷ hs) (turned_push w.groups gs (grouped f ms vs l) push) in
      let both : Walks op cs ts q v.entered (is.group ∷ grouped f ms vs l ∷ groups_of w) = enters_behind cs op ts p q w.entered y none is.positions f ms ws vs l d v.entered is.group (groups_of w) popped walk unsettled found is.is_new is.entered in
      let more = λ (n : List ℕ) (h : is_some (p n) ≡ true). still_placed p q (placed_more cs op ts p q w.entered y none is.positions) n (p n) refl h in
      let less = left_less p q y d more (ap is_some none) (ap is_some (at_new cs op ts p q w.entered y none is.positions)) cs found in (
        subst (Walks op cs ts q v.entered) (sym turned) both,
        record { kept = λ n h. h; entered = more; fewer = omega (arith, less, ap waiting_left turned, ap length is.is_new.waiting, one_less (texts_of ws) (texts_of vs) y popped) },
      )

-- ---- a group is closed

module _ (op : Data → Outcome) (cs : Members) (ts us : Truths) (w : Walk) (g : Group) (walk : IsWalkWith op cs ts w g) (done : g.waiting ≡ []) where
  none_waits : waiting_of g ≡ []
  none_waits = ap texts_of done

  pub closed_loops : g.is_loop ≡ true → KeepsLoops (members_of g) ts us → Keeps op cs (members_of g) ts us
  closed_loops loop keeps = keeps_loops op cs (members_of g) ts us walk.right (λ n i. (walk.stacked.0.loops loop n n i i, walk.stacked.0.part.unsettled n i)) keeps

  pub closed_one : g.is_loop ≡ false → (c : List ℕ) (d : Data) → IsIn c (members_of g) → get_member c cs ≡ Some d → KeepsTruth op c d ts us → Keeps op cs (c ∷ []) ts us
  closed_one other c d i found keeps =
      keeps_truth op cs ts us c d walk.right walk.closed found (names_settled cs op ts (positions_of w) w.entered g (groups_of w) walk none_waits other c i) (walk.stacked.0.part.unsettled c i) keeps

  -- all members are kept
  pub closed : (names : List (List ℕ)) → ((n : List ℕ) → IsIn n names → IsIn n (members_of g)) → ((n : List ℕ) → IsIn n (members_of g) → IsIn n names) → Keeps op cs names ts us → IsWalk op cs us w
  closed names inside outside keeps = closes cs op ts (positions_of w) w.entered g (groups_of w) walk none_waits names us inside outside keeps

  pub closed_step : ((n : List ℕ) → is_kept ts n ≡ true → is_kept us n ≡ true) → IsStep cs ts w g us w
  closed_step kept = record { kept = kept; entered = λ n h. h; fewer = omega arith }

  -- a group has a condition
  pub closed_none : g.members ≡ [] → IsWalk op cs ts w
  closed_none none = record {
    right = walk.right;
    closed = walk.closed;
    stacked = walk.stacked.2;
    counted = walk.counted;
    entered = λ n k h. at n (walk.entered n k h);
  }
    where
      within : (n : List ℕ) → IsIn n (members_of g) ⊎ IsIn n (all_members (groups_of w)) → IsSettled cs ts n ⊎ IsIn n (all_members (groups_of w))
      within n (inl i) = absurd (subst (IsIn n) (ap texts_of none) i)
      within n (inr i) = inr i

      at : (n : List ℕ) → IsSettled cs ts n ⊎ IsIn n (members_of g ++ all_members (groups_of w)) → IsSettled cs ts n ⊎ IsIn n (all_members (groups_of w))
      at n (inl s) = inl s
      at n (inr i) = within n (in_or n (members_of g) (all_members (groups_of w)) i)

-- ---- the first step

pub not_settled : (cs : Members) (ts : Truths) (n : List ℕ) (d : Data) → get_member n cs ≡ Some d → is_kept ts n ≡ false → IsSettled cs ts n → ⊥
not_settled cs ts n d found new (inl h) = cc
not_settled cs ts n d found new (inr none) = cc

pub begins : (op : Data → Outcome) (cs : Members) (ts : Truths) (w v : Walk) (y : List ℕ) (d : Data) → AreRight op cs ts → AreClosed cs ts → w.groups ≡ [] → ((n : List ℕ) → positions_of w n ≡ None)
    → (IsSettled cs ts y → ⊥) → get_member y cs ≡ Some d → IsEntered y d w v → IsWalk op cs ts v × (is_some (positions_of v y) ≡ true)
begins op cs ts w v y d right closed empty none unsettled found is =
    let p = positions_of w in
    let q = positions_of v in
    let turned = turned_push w.groups v.groups is.group is.groups ∙ ap (λ gs. is.group ∷ reverse gs) empty in
    let first : Walks op cs ts q v.entered (is.group ∷ []) =
    enters cs op ts p q w.entered y (none y) is.positions d v.entered is.group [] right closed tt (λ n k h. absurd (no_place n k h)) (λ n k h. absurd (no_place n k h)) (λ a i. absurd i) (λ a i. absurd i) (omega arith) unsettled found is.is_new is.entered in
    (subst (Walks op cs ts q v.entered) (sym turned) first, ap is_some (at_new cs op ts p q w.entered y (none y) is.positions))
  where
    no_place : (n : List ℕ) (k : ℕ) → positions_of w n ≡ Some k → ⊥
    no_place n k h = let e = none n in cc

-- no condition is open at the end
pub ends : (op : Data → Outcome) (cs : Members) (ts : Truths) (w : Walk) (y : List ℕ) → IsWalk op cs ts w → w.groups ≡ [] → is_some (positions_of w y) ≡ true → IsSettled cs ts y
ends op cs ts w y walk empty placed = at (positions_of w y) refl placed
  where
    settled : IsSettled cs ts y ⊎ IsIn y (all_members (groups_of w)) → IsSettled cs ts y
    settled (inl s) = s
    settled (inr i) = absurd (subst (λ gs. IsIn y (all_members (reverse gs))) empty i)

    at : (o : Option ℕ) → positions_of w y ≡ o → is_some o ≡ true → IsSettled cs ts y
    at None e h = cc
    at (Some k) e h = settled (walk.entered y k e)
