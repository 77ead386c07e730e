-- The walk, through each of its steps.
use Rattle.std.proofs.Common.{◌≡◌, ℕ, ◌+◌, ◌<◌, ◌≤◌, List, length, take, drop, [], ◌∷◌, ◌++◌, reverse, map, get_or, Bool, false, Some, refl, sym, subst, ap, ◌∙◌, arith}
use Rattle.std.specs.Prelude.{Contains, slice_get}
use Rattle.std.specs.declared.alloc.Global.{Global}
use Rattle.std.specs.declared.vec.Vec.{Vec}
use Rattle.std.proofs.lemmas.List.{reverse-append, length-append, length-map, length-reverse, length-take-le, get_or-map, take-append-le, drop-append-le, take_all, drop_all}
use Rattle.std.proofs.lemmas.Option.{slice_get_within, get_or_from_slice_get}
use Rattle.cdk_graphs.specs.Graph.{Graph, leads, IsClosed, Tells, ReachesItself, AreLoops}
use Rattle.cdk_graphs.specs.Marks.{mark_at, says_loop, IsMet, IsTold}
use Rattle.cdk_graphs.specs.Walks.{OpenGroup, all_members, Stands, groups_at, AreLaid, joined_at, Walks, IsWalk, IsWalkWith, IsResting, IsEntered, IsLeft, IsStep}
use Rattle.cdk_graphs.specs.declared.marks.Mark.{Mark}
use Rattle.cdk_graphs.specs.declared.marks.Mark.TheVariants.{New, Open, Told}
use Rattle.cdk_graphs.specs.declared.walk.Group.{Group}
use Rattle.cdk_graphs.specs.declared.walk.Walk.{Walk}
use Rattle.cdk_graphs.proofs.Closing.{closes}
use Rattle.cdk_graphs.proofs.Entering.{enters, enters_behind}
use Rattle.cdk_graphs.proofs.Groups.{grouped, waits, passes, joining}
use Rattle.cdk_graphs.proofs.Laid.{groups_entered, joins_down}
use Rattle.cdk_graphs.proofs.Marked.{changes_met, steps_fewer, steps_less, open_met, rest_told}
use Rattle.cdk_graphs.proofs.Ways.{in_none, the_one}

-- the last group is put behind the others
turned_push : (groups pushed : List Group) (group : Group) → pushed ≡ groups ++ group ∷ [] → reverse pushed ≡ group ∷ reverse groups
turned_push groups pushed group e = ap reverse e ∙ reverse-append groups (group ∷ [])

walks_as : (g : Graph) (groups hs : List Group) (members ms waiting ws : List ℕ) (marks : List Mark) → hs ≡ groups → ms ≡ members → ws ≡ waiting → Walks g groups members waiting marks → Walks g hs ms ws marks
walks_as g groups hs members ms waiting ws marks same_groups same_members same_waiting walk =
    subst (λ xs. Walks g xs ms ws marks) (sym same_groups) (subst (λ xs. Walks g groups xs ws marks) (sym same_members) (subst (λ xs. Walks g groups members xs marks) (sym same_waiting) walk))

-- ---- a number is entered

entered_walk : (g : Graph) (groups : List Group) (members waiting : List ℕ) (y : ℕ) (v : Walk) → AreLaid groups (length members) (length waiting)
    → Stands g v.marks (length members + 1) (grouped (length members) (y ∷ []) (leads g y) false ∷ groups_at groups members waiting)
    → reverse v.groups ≡ record { first = length members; waiting = length waiting; is_loop = false } ∷ groups → v.members.items ≡ members ++ y ∷ [] → v.waiting.items ≡ waiting ++ leads g y → IsWalk g v
entered_walk g groups members waiting y v laid stands turned same_members same_waiting =
    let longer : length (members ++ y ∷ []) ≡ length members + 1 = length-append members (y ∷ []) in
    let own : length members ≤ length (members ++ y ∷ []) = omega (arith, longer) in
    let waited : length waiting ≤ length (waiting ++ leads g y) = omega (arith, length-append waiting (leads g y)) in
    let fresh : Group = record { first = length members; waiting = length waiting; is_loop = false } in
    walks_as g (fresh ∷ groups) (reverse v.groups) (members ++ y ∷ []) v.members.items (waiting ++ leads g y) v.waiting.items v.marks turned same_members same_waiting
    (record {
      laid = (own, waited, laid);
      stands = subst (λ count. Stands g v.marks count (groups_at (fresh ∷ groups) (members ++ y ∷ []) (waiting ++ leads g y))) (sym longer) (subst (Stands g v.marks (length members + 1)) (sym (groups_entered groups members waiting y (leads g y))) stands);
    })

-- ---- a number that waits in the last group

module _ (g : Graph) (w : Walk) (last : Group) (waiting : Vec ℕ Global) (y : ℕ) (more : last.waiting < length w.waiting.items) (popped : w.waiting.items ≡ waiting.items ++ y ∷ []) (walk : IsWalkWith g w last) where
  abbrev pub pushed_on : List Group → Walk
  pushed_on groups = record w { groups = groups; waiting = waiting }

  one_less : length w.waiting.items ≡ length waiting.items + 1
  one_less = ap length popped ∙ length-append waiting.items (y ∷ [])

  below : last.waiting ≤ length waiting.items
  below = omega (arith, more, one_less)

  abbrev own : List ℕ
  own = drop last.first w.members.items

  taken : drop last.waiting w.waiting.items ≡ drop last.waiting waiting.items ++ y ∷ []
  taken = ap (drop last.waiting) popped ∙ drop-append-le last.waiting waiting.items (y ∷ []) below

  kept : take last.waiting w.waiting.items ≡ take last.waiting waiting.items
  kept = ap (take last.waiting) popped ∙ take-append-le last.waiting waiting.items (y ∷ []) below

  abbrev rest : List OpenGroup
  rest = groups_at (reverse w.groups) (take last.first w.members.items) (take last.waiting waiting.items)

  stands : Stands g w.marks (length w.members.items) (grouped last.first own (drop last.waiting w.waiting.items) last.is_loop ∷ rest)
  stands = subst (λ xs. Stands g w.marks (length w.members.items) (grouped last.first own (drop last.waiting w.waiting.items) last.is_loop ∷ groups_at (reverse w.groups) (take last.first w.members.items) xs)) kept walk.stands

  laid : AreLaid (last ∷ reverse w.groups) (length w.members.items) (length waiting.items)
  laid = (walk.laid.0, below, walk.laid.2)

  -- only numbers of the graph wait
  waits_inside : IsClosed g → y < length g
  waits_inside closed = let asked = stands.stacked.0.part.asked y (waits g w.marks last.first own (drop last.waiting w.waiting.items) (drop last.waiting waiting.items) last.is_loop y taken) in closed asked.0 y asked.2

  pub waits_within : IsClosed g → y < length w.marks
  waits_within closed = omega (arith, waits_inside closed, walk.stands.size)

  pub passed : (groups : List Group) → groups ≡ w.groups ++ last ∷ [] → IsTold w.marks y → IsStep g w (pushed_on groups)
  passed groups push told =
      let passes_now = passes g w.marks last.first own (drop last.waiting w.waiting.items) (drop last.waiting waiting.items) last.is_loop y taken (length w.members.items) rest stands told in
      record {
        walks = subst (λ xs. Walks g xs w.members.items waiting.items w.marks) (sym (turned_push w.groups groups last push)) (record { laid = laid; stands = passes_now });
        met = λ n h. h;
        fewer = omega (arith, one_less, ap length push, length-append w.groups (last ∷ []));
      }

  pub joins_with : (groups : List Group) (position : ℕ) → mark_at w.marks y ≡ Open position → reverse groups ≡ joined_at position (last ∷ reverse w.groups) → IsStep g w (pushed_on groups)
  joins_with groups position here is =
      let was = joining g w.marks last.first own (drop last.waiting w.waiting.items) (drop last.waiting waiting.items) last.is_loop y taken (length w.members.items) rest position stands here in
      let joined = joins_down g w.marks y position w.members.items waiting.items last (reverse w.groups) (reverse groups) laid was is in
      record {
        walks = record {
          laid = joined.laid;
          stands = record {
            size = walk.stands.size;
            right = walk.stands.right;
            closed = walk.stands.closed;
            stacked = joined.stacked;
            counted = walk.stands.counted;
            entered = λ n k h. joined.stays n (stands.entered n k h);
          };
        };
        met = λ n h. h;
        fewer = omega (arith, one_less, joined.fewer, length-reverse groups, length-reverse w.groups);
      }

  pub enters_with : (groups : List Group) (v : Walk) → groups ≡ w.groups ++ last ∷ [] → IsClosed g → mark_at w.marks y ≡ New → IsEntered y (leads g y) (pushed_on groups) v → IsStep g w v
  enters_with groups v push closed was_new is =
      let count = length w.members.items in
      let turned = turned_push groups v.groups (record { first = count; waiting = length waiting.items; is_loop = false }) is.groups ∙ ap (λ gs. record { first = count; waiting = length waiting.items; is_loop = false } ∷ gs) (turned_push w.groups groups last push) in
      let both = enters_behind g w.marks v.marks count y was_new is.marks last.first own (drop last.waiting w.waiting.items) (drop last.waiting waiting.items) last.is_loop (count + 1) rest taken stands refl in
      let met : (n : ℕ) → IsMet w.marks n → IsMet v.marks n = changes_met (y ∷ []) (Open count) w.marks v.marks (λ e. cc) is.marks in
      let now = open_met (mark_at v.marks y) count (is.marks.each y (the_one y)) in
      let less = steps_less w.marks v.marks g y is.marks.size met (waits_within closed) (waits_inside closed) was_new now in
      record {
        walks = entered_walk g (last ∷ reverse w.groups) w.members.items waiting.items y v laid both turned is.members is.waiting;
        met = met;
        fewer = omega (arith, less, one_less, ap length is.groups, length-append groups (record { first = count; waiting = length waiting.items; is_loop = false } ∷ []), ap length push, length-append w.groups (last ∷ []), ap length is.waiting, length-append waiting.items (leads g y));
      }

-- ---- no number waits in the last group

pub leaves : (g : Graph) (w v : Walk) (last : Group) (waiting : Vec ℕ Global) → IsWalkWith g w last → length w.waiting.items ≤ last.waiting → waiting.items ≡ w.waiting.items → IsLeft last (record w { waiting = waiting }) v → IsStep g w v
leaves g w v last waiting walk none same is =
    let members = w.members.items in
    let all = w.waiting.items in
    let groups = reverse w.groups in
    let met : (n : ℕ) → IsMet w.marks n → IsMet v.marks n = changes_met (drop last.first members) (Told last.is_loop) w.marks v.marks (λ e. cc) is.marks in
    let first : length (take last.first members) ≡ last.first = length-take-le last.first members walk.laid.0 in
    let last_waiting : length all ≡ last.waiting = omega (arith, none, walk.laid.1) in
    let stands = closes g w.marks (length members) (grouped last.first (drop last.first members) (drop last.waiting all) last.is_loop) (groups_at groups (take last.first members) (take last.waiting all)) walk.stands (drop_all last.waiting all none) v.marks is.marks in
    let stands_all = subst (λ xs. Stands g v.marks last.first (groups_at groups (take last.first members) xs)) (take_all last.waiting all none) stands in
    let left : Walks g groups (take last.first members) all v.marks = record {
      laid = subst (λ n. AreLaid groups n (length all)) (sym first) (subst (AreLaid groups last.first) (sym last_waiting) walk.laid.2);
      stands = subst (λ n. Stands g v.marks n (groups_at groups (take last.first members) all)) (sym first) stands_all;
    } in
    record {
      walks = walks_as g groups (reverse v.groups) (take last.first members) v.members.items all v.waiting.items v.marks (ap reverse is.groups) is.members (is.waiting ∙ same) left;
      met = met;
      fewer = omega (arith, steps_fewer w.marks v.marks g is.marks.size met, ap length is.groups, ap length is.waiting, ap length same);
    }

-- ---- the first step

pub none_open : (g : Graph) (w : Walk) → IsResting g w → (n k : ℕ) → mark_at w.marks n ≡ Open k → ⊥
none_open g w resting n k h = in_none n (subst (λ groups. Contains (all_members (groups_at (reverse groups) w.members.items w.waiting.items)) n) resting.none (resting.walks.stands.entered n k h))

pub begins : (g : Graph) (w v : Walk) (y : ℕ) → IsResting g w → mark_at w.marks y ≡ New → IsEntered y (leads g y) w v → IsWalk g v × ((n : ℕ) → IsMet w.marks n → IsMet v.marks n) × IsMet v.marks y
begins g w v y resting was_new is =
    let stands = resting.walks.stands in
    let count = length w.members.items in
    let fresh : Group = record { first = count; waiting = length w.waiting.items; is_loop = false } in
    let turned : reverse v.groups ≡ fresh ∷ [] = turned_push w.groups v.groups fresh is.groups ∙ ap (λ groups. fresh ∷ reverse groups) resting.none in
    let first = enters g w.marks v.marks count y was_new is.marks (count + 1) [] stands.size stands.right stands.closed tt stands.counted (λ n k h. absurd (none_open g w resting n k h)) (λ a i. absurd (in_none a i)) (λ a i. absurd (in_none a i)) (omega arith) refl in (
      entered_walk g [] w.members.items w.waiting.items y v tt first turned is.members is.waiting,
      changes_met (y ∷ []) (Open count) w.marks v.marks (λ e. cc) is.marks,
      open_met (mark_at v.marks y) count (is.marks.each y (the_one y)),
    )

-- ---- the answers

pub answers : (g : Graph) (w : Walk) (told : List Bool) → IsResting g w → ((n : ℕ) → n < length g → IsMet w.marks n) → told ≡ map (λ m. says_loop m) w.marks → AreLoops g told
answers g w told resting met is = record { size = size; told = λ n b h. at n b h }
  where
    size : length told ≡ length g
    size = ap length is ∙ length-map w.marks (λ m. says_loop m) ∙ resting.walks.stands.size

    at : (n : ℕ) (b : Bool) → slice_get told n ≡ Some b → Tells b (ReachesItself g n)
    at n b h =
        let within : n < length told = slice_get_within told n b h in
        let inside : n < length w.marks = omega (arith, within, size, resting.walks.stands.size) in
        let same : says_loop (mark_at w.marks n) ≡ b = sym (get_or-map (λ m. says_loop m) w.marks n New false inside) ∙ sym (ap (λ xs. get_or xs n false) is) ∙ get_or_from_slice_get told n b false h in
        let is_told = rest_told (mark_at w.marks n) (met n (omega (arith, within, size))) (none_open g w resting n) in
        resting.walks.stands.right n b (is_told.1 ∙ ap (λ c. Told c) (sym (ap (λ m. says_loop m) is_told.1) ∙ same))
