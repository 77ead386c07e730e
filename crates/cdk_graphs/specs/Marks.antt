-- How far a search has come with each number of a graph.
use Rattle.std.specs.Prelude.{◌≡◌, ◌+◌, ◌<◌, ◌⊎◌, ℕ, suc, List, [], ◌∷◌, length, Contains, slice_index_or, Bool, false}
use Rattle.cdk_graphs.specs.Graph.{Graph, leads, Tells, ReachesItself}
use Rattle.cdk_graphs.specs.declared.marks.Mark.{Mark}
use Rattle.cdk_graphs.specs.declared.marks.Mark.TheVariants.{New, Open, Told}

-- what isn't in the list is new
abbrev pub mark_at : List Mark → ℕ → Mark
mark_at marks n = slice_index_or marks n New

abbrev pub IsMet : List Mark → ℕ → Type 0
IsMet marks n = mark_at marks n ≡ New → ⊥

abbrev pub IsTold : List Mark → ℕ → Type 0
IsTold marks n = (b : Bool) × (mark_at marks n ≡ Told b)

abbrev pub says_loop : Mark → Bool
says_loop New = false
says_loop (Open k) = false
says_loop (Told b) = b

-- all are new
pub record AreNew (count : ℕ) (marks : List Mark) : Type 0 where
  pub size : length marks ≡ count
  pub each : (n : ℕ) → mark_at marks n ≡ New

-- the numbers have the mark, and the others what they had
pub record Changes (numbers : List ℕ) (mark : Mark) (old new : List Mark) : Type 0 where
  pub size : length new ≡ length old
  pub each : (n : ℕ) → Contains numbers n → mark_at new n ≡ mark
  pub others : (n : ℕ) → Contains numbers n ⊎ (mark_at new n ≡ mark_at old n)

abbrev pub AreWithin : List ℕ → List Mark → Type 0
AreWithin numbers marks = (n : ℕ) → Contains numbers n → n < length marks

-- what is told is right
abbrev pub AreRight : Graph → List Mark → Type 0
AreRight g marks = (n : ℕ) (b : Bool) → mark_at marks n ≡ Told b → Tells b (ReachesItself g n)

-- what is told leads to what is told
abbrev pub AreClosed : Graph → List Mark → Type 0
AreClosed g marks = (n m : ℕ) → IsTold marks n → Contains (leads g n) m → IsTold marks m

-- ---- the steps that the new numbers take

abbrev pub steps_of : Mark → List ℕ → ℕ
steps_of New row = suc (length row)
steps_of (Open k) row = 0
steps_of (Told b) row = 0

abbrev pub steps_new : List Mark → Graph → ℕ
steps_new [] rows = 0
steps_new (mark ∷ marks) [] = 0
steps_new (mark ∷ marks) (row ∷ rows) = steps_of mark row + steps_new marks rows
