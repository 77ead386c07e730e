-- The walk that finds each condition after those that it names.
use Rattle.std.specs.Prelude.{◌≡◌, ◌<◌, ◌≤◌, ◌+◌, ◌⊎◌, ℕ, suc, List, [], ◌∷◌, ◌++◌, length, reverse, true, false, Option, Some, is_some, bytes_eq, if◌then◌else◌, ⊤}
use Rattle.std.specs.Ordering.{nat_cmp}
use Rattle.std.specs.Cmp.Lexicographic.{slice_cmp}
use Rattle.std.specs.BTreeMap.{BTreeMap, get_by}
use denote.Ref.{Bor}
use Rattle.serde_json.specs.Data.{Data, Members, no_members, member}
use Rattle.serde_json.specs.Find.{get_member}
use Rattle.cdk_eval.specs.Conditions.{names_of, names_in}
use Rattle.cdk_eval.specs.Outcomes.{Outcome}
use Rattle.cdk_eval.specs.Reach.{IsIn, comes_to}
use Rattle.cdk_scopes.specs.declared.truths.Truths.{Truths}
use Rattle.cdk_conditions.specs.Kept.{texts_of, is_kept, AreRight, IsSettled, AreSettled}
use Rattle.cdk_conditions.specs.declared.walk.Group.{Group}
use Rattle.cdk_conditions.specs.declared.walk.Walk.{Walk}

abbrev pub leads_in : Members → List ℕ → List (List ℕ)
leads_in cs c = names_of (get_member c cs)

-- by one step or more
abbrev pub Leads : Members → List ℕ → List ℕ → Type 0
Leads cs a b = (k : ℕ) × (comes_to (leads_in cs) k b a ≡ true)

-- what is kept leads to what is kept
abbrev pub AreClosed : Members → Truths → Type 0
AreClosed cs ts = (c : List ℕ) → is_kept ts c ≡ true → AreSettled cs ts (leads_in cs c)

abbrev pub position_at : BTreeMap (Bor (List ℕ)) ℕ → List ℕ → Option ℕ
position_at m n = get_by (λ k. slice_cmp nat_cmp n k.now) m

-- ---- groups

abbrev pub members_of : Group → List (List ℕ)
members_of g = texts_of g.members

abbrev pub waiting_of : Group → List (List ℕ)
waiting_of g = texts_of g.waiting

abbrev pub all_members : List Group → List (List ℕ)
all_members [] = []
all_members (g ∷ gs) = members_of g ++ all_members gs

-- all of two lists
pub record Joins (xs ys zs : List (List ℕ)) : Type 0 where
  pub either : (n : List ℕ) → IsIn n zs → IsIn n xs ⊎ IsIn n ys
  pub first : (n : List ℕ) → IsIn n xs → IsIn n zs
  pub second : (n : List ℕ) → IsIn n ys → IsIn n zs
  pub total : length zs ≡ length xs + length ys

pub record AreJoined (below above joined : Group) : Type 0 where
  pub first : joined.first ≡ below.first
  pub members : Joins (members_of below) (members_of above) (members_of joined)
  pub waiting : Joins (waiting_of below) (waiting_of above) (waiting_of joined)
  pub is_loop : joined.is_loop ≡ below.is_loop

abbrev pub floor_of : List Group → ℕ
floor_of [] = 0
floor_of (g ∷ gs) = g.first

module _ (cs : Members) (ts : Truths) (p : List ℕ → Option ℕ) where
  -- entered there or behind
  abbrev pub IsFrom : ℕ → List ℕ → Type 0
  IsFrom first n = (k : ℕ) × (p n ≡ Some k) × (first ≤ k)

  -- each name in the group's conditions waits, or was met
  pub record IsPart (IsMet : List ℕ → Type 0) (g : Group) : Type 0 where
    pub entered : (m : List ℕ) → IsIn m (members_of g) → IsFrom g.first m
    pub unsettled : (m : List ℕ) → IsIn m (members_of g) → IsSettled cs ts m → ⊥
    pub asked : (n : List ℕ) → IsIn n (waiting_of g) → (m : List ℕ) × IsIn m (members_of g) × IsIn n (leads_in cs m)
    pub named : (m n : List ℕ) → IsIn m (members_of g) → IsIn n (leads_in cs m) → IsIn n (waiting_of g) ⊎ IsMet n

  -- the group's conditions lead to one another, or it is one that isn't known to lead to itself
  pub record IsGroup (g : Group) : Type 0 where
    pub part : IsPart (λ n. IsSettled cs ts n ⊎ IsFrom g.first n) g
    pub loops : g.is_loop ≡ true → (a b : List ℕ) → IsIn a (members_of g) → IsIn b (members_of g) → Leads cs a b
    pub single : g.is_loop ≡ false → (a b : List ℕ) → IsIn a (members_of g) → IsIn b (members_of g) → a ≡ b
    pub apart : g.is_loop ≡ false → (m n : List ℕ) → IsIn m (members_of g) → IsIn n (members_of g) → IsIn n (leads_in cs m) → IsIn n (waiting_of g)

  -- those below were entered before, and lead to it
  pub record IsAbove (g : Group) (gs : List Group) : Type 0 where
    pub leads : (a b : List ℕ) → IsIn a (all_members gs) → IsIn b (members_of g) → Leads cs a b
    pub before : (a : List ℕ) → IsIn a (all_members gs) → (k : ℕ) × (p a ≡ Some k) × (k < g.first)
    pub floor : floor_of gs ≤ g.first

  abbrev pub AreStacked : List Group → Type 0
  AreStacked [] = ⊤
  AreStacked (g ∷ gs) = IsGroup g × IsAbove g gs × AreStacked gs

  -- a group to which those below that lead to `y` are joined, down to the one of `y`
  pub record IsJoining (y : List ℕ) (position : ℕ) (g : Group) (gs : List Group) : Type 0 where
    pub here : p y ≡ Some position
    pub within : IsIn y (members_of g ++ all_members gs)
    pub back : (a : List ℕ) → IsIn a (members_of g ++ all_members gs) → Leads cs a y
    pub part : IsPart (λ n. (n ≡ y) ⊎ (IsSettled cs ts n ⊎ IsFrom g.first n)) g
    pub near : (c b : List ℕ) → IsIn c (members_of g) → IsIn b (members_of g) → (c ≡ b) ⊎ (Leads cs c b ⊎ ((k : ℕ) × (p c ≡ Some k) × (position < k)))
    pub above : IsAbove g gs
    pub stacked : AreStacked gs

-- ---- the walk

-- the groups, the last first
abbrev pub groups_of : Walk → List Group
groups_of w = reverse w.groups

abbrev pub positions_of : Walk → List ℕ → Option ℕ
positions_of w = position_at w.positions.at

pub record Walks (operand : Data → Outcome) (cs : Members) (ts : Truths) (p : List ℕ → Option ℕ) (count : ℕ) (gs : List Group) : Type 0 where
  pub right : AreRight operand cs ts
  pub closed : AreClosed cs ts
  pub stacked : AreStacked cs ts p gs
  pub counted : (n : List ℕ) (k : ℕ) → p n ≡ Some k → k < count
  pub entered : (n : List ℕ) (k : ℕ) → p n ≡ Some k → IsSettled cs ts n ⊎ IsIn n (all_members gs)

abbrev pub IsWalk : (Data → Outcome) → Members → Truths → Walk → Type 0
IsWalk operand cs ts w = Walks operand cs ts (positions_of w) w.entered (groups_of w)

-- with a group that is taken from it
abbrev pub IsWalkWith : (Data → Outcome) → Members → Truths → Walk → Group → Type 0
IsWalkWith operand cs ts w g = Walks operand cs ts (positions_of w) w.entered (g ∷ groups_of w)

-- ---- the steps that are left

abbrev pub names_left : (List ℕ → Option ℕ) → Members → ℕ
names_left p no_members = 0
names_left p (member k d ms) = (if is_some (p k) then 0 else suc (length (names_in d))) + names_left p ms

abbrev pub waiting_left : List Group → ℕ
waiting_left [] = 0
waiting_left (g ∷ gs) = suc (length (waiting_of g)) + waiting_left gs

abbrev pub steps_left : Members → Walk → ℕ
steps_left cs w = names_left (positions_of w) cs + waiting_left (groups_of w)

-- ---- one step

-- a group with one condition, and all its names
pub record IsNew (start : ℕ) (name : List ℕ) (d : Data) (g : Group) : Type 0 where
  pub first : g.first ≡ start
  pub members : members_of g ≡ name ∷ []
  pub waiting : waiting_of g ≡ names_in d
  pub is_loop : g.is_loop ≡ false

pub record IsEntered (name : List ℕ) (d : Data) (old new : Walk) : Type 0 where
  pub group : Group
  pub is_new : IsNew old.entered name d group
  pub groups : new.groups ≡ old.groups ++ group ∷ []
  pub positions : (n : List ℕ) → positions_of new n ≡ (if bytes_eq name n then Some old.entered else positions_of old n)
  pub entered : new.entered ≡ old.entered + 1

-- nothing that was kept or entered is lost, and fewer steps are left
pub record IsStep (cs : Members) (old : Truths) (w : Walk) (g : Group) (new : Truths) (v : Walk) : Type 0 where
  pub kept : (n : List ℕ) → is_kept old n ≡ true → is_kept new n ≡ true
  pub entered : (n : List ℕ) → is_some (positions_of w n) ≡ true → is_some (positions_of v n) ≡ true
  pub fewer : steps_left cs v < names_left (positions_of w) cs + waiting_left (g ∷ groups_of w)

-- after a condition is found, with all that it reaches
pub record Found (operand : Data → Outcome) (cs : Members) (name : List ℕ) (old new : Truths) : Type 0 where
  pub right : AreRight operand cs new
  pub closed : AreClosed cs new
  pub kept : (n : List ℕ) → is_kept old n ≡ true → is_kept new n ≡ true
  pub settled : IsSettled cs new name

-- the groups from one on are one, and the others stay
pub record AreGrouped (cs : Members) (ts : Truths) (last : Group) (old new : Walk) : Type 0 where
  pub stacked : AreStacked cs ts (positions_of old) (groups_of new)
  pub stays : (n : List ℕ) → IsIn n (members_of last ++ all_members (groups_of old)) → IsIn n (all_members (groups_of new))
  pub waiting : waiting_left (groups_of new) ≤ waiting_left (last ∷ groups_of old)
  pub positions : new.positions ≡ old.positions
  pub entered : new.entered ≡ old.entered
