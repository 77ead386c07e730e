-- The walk that finds each number after those that it leads to: groups of open numbers, each leading to the next.
use Rattle.std.specs.Prelude.{◌≡◌, ◌<◌, ◌≤◌, ◌+◌, ◌⊎◌, ℕ, List, [], ◌∷◌, ◌++◌, length, take, drop, reverse, Contains, Bool, true, false, nat_lt, if◌then◌else◌, ⊤}
use Rattle.cdk_graphs.specs.Graph.{Graph, leads, Reaches}
use Rattle.cdk_graphs.specs.Marks.{mark_at, IsMet, IsTold, Changes, AreRight, AreClosed, steps_new}
use Rattle.cdk_graphs.specs.declared.marks.Mark.{Mark}
use Rattle.cdk_graphs.specs.declared.marks.Mark.TheVariants.{Open, Told}
use Rattle.cdk_graphs.specs.declared.walk.Group.{Group}
use Rattle.cdk_graphs.specs.declared.walk.Walk.{Walk}

-- ---- groups

-- The members of a group, of which the first stands at `first` among the open numbers, and the numbers that wait in it.
pub record OpenGroup : Type 0 where
  pub first : ℕ
  pub members : List ℕ
  pub waiting : List ℕ
  pub is_loop : Bool

abbrev pub all_members : List OpenGroup → List ℕ
all_members [] = []
all_members (group ∷ groups) = group.members ++ all_members groups

abbrev pub floor_of : List OpenGroup → ℕ
floor_of [] = 0
floor_of (group ∷ groups) = group.first

module _ (g : Graph) (marks : List Mark) where
  -- open, and there or behind
  abbrev pub IsFrom : ℕ → ℕ → Type 0
  IsFrom first n = (k : ℕ) × (mark_at marks n ≡ Open k) × (first ≤ k)

  -- each number to which the group's members lead waits, or was seen
  pub record IsPart (IsSeen : ℕ → Type 0) (group : OpenGroup) : Type 0 where
    pub entered : (m : ℕ) → Contains group.members m → IsFrom group.first m
    pub asked : (n : ℕ) → Contains group.waiting n → (m : ℕ) × Contains group.members m × Contains (leads g m) n
    pub led : (m n : ℕ) → Contains group.members m → Contains (leads g m) n → Contains group.waiting n ⊎ IsSeen n

  -- the group's members lead to one another, or it is one that isn't known to lead to itself
  pub record IsGroup (group : OpenGroup) : Type 0 where
    pub part : IsPart (λ n. IsTold marks n ⊎ IsFrom group.first n) group
    pub loops : group.is_loop ≡ true → (a b : ℕ) → Contains group.members a → Contains group.members b → Reaches g a b
    pub single : group.is_loop ≡ false → (a b : ℕ) → Contains group.members a → Contains group.members b → a ≡ b
    pub apart : group.is_loop ≡ false → (m n : ℕ) → Contains group.members m → Contains group.members n → Contains (leads g m) n → Contains group.waiting n

  -- those below were entered before, and lead to it
  pub record IsAbove (group : OpenGroup) (groups : List OpenGroup) : Type 0 where
    pub leads_up : (a b : ℕ) → Contains (all_members groups) a → Contains group.members b → Reaches g a b
    pub before : (a : ℕ) → Contains (all_members groups) a → (k : ℕ) × (mark_at marks a ≡ Open k) × (k < group.first)
    pub floor : floor_of groups ≤ group.first

  abbrev pub AreStacked : List OpenGroup → Type 0
  AreStacked [] = ⊤
  AreStacked (group ∷ groups) = IsGroup group × IsAbove group groups × AreStacked groups

  -- a group to which those below that lead to `y` are joined, down to the one of `y`
  pub record IsJoining (y position : ℕ) (group : OpenGroup) (groups : List OpenGroup) : Type 0 where
    pub here : mark_at marks y ≡ Open position
    pub within : Contains (group.members ++ all_members groups) y
    pub back : (a : ℕ) → Contains (group.members ++ all_members groups) a → Reaches g a y
    pub part : IsPart (λ n. (n ≡ y) ⊎ (IsTold marks n ⊎ IsFrom group.first n)) group
    pub near : (c b : ℕ) → Contains group.members c → Contains group.members b → (c ≡ b) ⊎ (Reaches g c b ⊎ ((k : ℕ) × (mark_at marks c ≡ Open k) × (position < k)))
    pub above : IsAbove group groups
    pub stacked : AreStacked groups

-- what is known between two steps, where so many numbers are open
pub record Stands (g : Graph) (marks : List Mark) (count : ℕ) (groups : List OpenGroup) : Type 0 where
  pub size : length marks ≡ length g
  pub right : AreRight g marks
  pub closed : AreClosed g marks
  pub stacked : AreStacked g marks groups
  pub counted : (n k : ℕ) → mark_at marks n ≡ Open k → k < count
  pub entered : (n k : ℕ) → mark_at marks n ≡ Open k → Contains (all_members groups) n

-- ---- the groups in the code, the last first

-- the last group has what stands from its beginnings on
abbrev pub group_at : Group → List ℕ → List ℕ → OpenGroup
group_at group members waiting = record { first = group.first; members = drop group.first members; waiting = drop group.waiting waiting; is_loop = group.is_loop }

abbrev pub groups_at : List Group → List ℕ → List ℕ → List OpenGroup
groups_at [] members waiting = []
groups_at (group ∷ groups) members waiting = group_at group members waiting ∷ groups_at groups (take group.first members) (take group.waiting waiting)

-- each begins where there is something, or at the end
abbrev pub AreLaid : List Group → ℕ → ℕ → Type 0
AreLaid [] members waiting = ⊤
AreLaid (group ∷ groups) members waiting = (group.first ≤ members) × (group.waiting ≤ waiting) × AreLaid groups group.first group.waiting

-- those down to the one of the position are one, a loop
abbrev pub joined_at : ℕ → List Group → List Group
joined_at position [] = []
joined_at position (group ∷ groups) = if nat_lt position group.first then joined_at position groups else record group { is_loop = true } ∷ groups

-- ---- the walk

pub record Walks (g : Graph) (groups : List Group) (members waiting : List ℕ) (marks : List Mark) : Type 0 where
  pub laid : AreLaid groups (length members) (length waiting)
  pub stands : Stands g marks (length members) (groups_at groups members waiting)

abbrev pub IsWalk : Graph → Walk → Type 0
IsWalk g walk = Walks g (reverse walk.groups) walk.members.items walk.waiting.items walk.marks

-- with a group that is taken from it
abbrev pub IsWalkWith : Graph → Walk → Group → Type 0
IsWalkWith g walk last = Walks g (last ∷ reverse walk.groups) walk.members.items walk.waiting.items walk.marks

-- no number is open
pub record IsResting (g : Graph) (walk : Walk) : Type 0 where
  pub walks : IsWalk g walk
  pub none : walk.groups ≡ []

abbrev pub steps_left : Graph → Walk → ℕ
steps_left g walk = steps_new walk.marks g + (length walk.waiting.items + length walk.groups)

-- ---- one step

-- what waits from a place on: nothing, or more, of which the last is taken
pub record NoneWaits (place : ℕ) (old new : List ℕ) : Type 0 where
  pub none : length old ≤ place
  pub same : new ≡ old

pub record IsTaken (place : ℕ) (old new : List ℕ) (number : ℕ) : Type 0 where
  pub more : place < length old
  pub popped : old ≡ new ++ number ∷ []

-- a number, as a group behind the others, in which all waits that it leads to
pub record IsEntered (number : ℕ) (row : List ℕ) (old new : Walk) : Type 0 where
  pub groups : new.groups ≡ old.groups ++ record { first = length old.members.items; waiting = length old.waiting.items; is_loop = false } ∷ []
  pub members : new.members.items ≡ old.members.items ++ number ∷ []
  pub waiting : new.waiting.items ≡ old.waiting.items ++ row
  pub marks : Changes (number ∷ []) (Open (length old.members.items)) old.marks new.marks

-- the members of the last group are told
pub record IsLeft (last : Group) (old new : Walk) : Type 0 where
  pub groups : new.groups ≡ old.groups
  pub members : new.members.items ≡ take last.first old.members.items
  pub waiting : new.waiting.items ≡ old.waiting.items
  pub marks : Changes (drop last.first old.members.items) (Told last.is_loop) old.marks new.marks

-- what was met stays met, and no more steps are left than without the group that was taken
pub record IsStep (g : Graph) (old new : Walk) : Type 0 where
  pub walks : IsWalk g new
  pub met : (n : ℕ) → IsMet old.marks n → IsMet new.marks n
  pub fewer : steps_left g new ≤ steps_left g old

-- after a number is told, with all that it reaches
pub record Finds (g : Graph) (number : ℕ) (old new : Walk) : Type 0 where
  pub resting : IsResting g new
  pub met : (n : ℕ) → IsMet old.marks n → IsMet new.marks n
  pub here : IsMet new.marks number
