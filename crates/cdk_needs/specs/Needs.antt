-- What must be there for something to be met: the least solution (Horn clauses; Dowling and Gallier, 1984).
use Rattle.std.specs.Prelude.{◌≡◌, ◌<◌, ◌≤◌, ℕ, zero, suc, ◌+◌, ◌-◌, ◌⊎◌, List, [], ◌∷◌, ◌++◌, map, replicate, sum_by, length, slice_index_or, slice_set, nat_lt, Bool, true, false, if◌then◌else◌, Option, Some, None, Contains, MatchBool}
use Rattle.std.specs.List.{list_all}
use Rattle.cdk_needs.specs.declared.marking.Marking.{Marking}

-- None for what is never met, else all that must be met first, by number
abbrev pub Needs : Type 0
Needs = List (Option (List ℕ))

abbrev pub is_met : List Bool → Option (List ℕ) → Bool
is_met ms None = false
is_met ms (Some ls) = list_all (λ l. slice_index_or ms l false) ls

-- what is met where needs are looked at n times
abbrev pub met_after : ℕ → Needs → List Bool
met_after zero ns = map (λ n. false) ns
met_after (suc k) ns = map (is_met (met_after k ns)) ns

-- each number is one of the list
abbrev pub AreWithin : Needs → Type 0
AreWithin ns = (u : ℕ) (ls : List ℕ) (k : ℕ) → slice_index_or ns u None ≡ Some ls → k < length ls → slice_index_or ls k 0 < length ns

pub record IsCounted (ns : Needs) (m : Marking) : Type 0 where
  pub passed : length m.passed.items ≡ length ns
  pub met : length m.met.items ≡ length ns
  pub waiting : length m.waiting.items ≡ length ns

-- the first of the numbers, from a place on, that isn't met, or the end
pub record IsFirstUnmet (ls : List ℕ) (ms : List Bool) (from at : ℕ) : Type 0 where
  pub within : at ≤ length ls
  pub before : (k : ℕ) → from ≤ k → k < at → slice_index_or ms (slice_index_or ls k 0) false ≡ true
  pub here : at < length ls → slice_index_or ms (slice_index_or ls at 0) false ≡ false

-- it waits for the one at `at`
pub record Waits (old new : Marking) (user leaf : ℕ) : Type 0 where
  pub met : new.met.items ≡ old.met.items
  pub waiting : new.waiting.items ≡ slice_set old.waiting.items leaf (slice_index_or old.waiting.items leaf [] ++ user ∷ [])
  pub ready : new.ready.items ≡ old.ready.items

-- it is met
pub record IsMarked (old new : Marking) (user : ℕ) : Type 0 where
  pub met : new.met.items ≡ slice_set old.met.items user true
  pub waiting : new.waiting.items ≡ old.waiting.items
  pub ready : new.ready.items ≡ old.ready.items ++ user ∷ []

pub record Advances (ls : List ℕ) (old new : Marking) (user : ℕ) : Type 0 where
  pub at : ℕ
  pub unmet : IsFirstUnmet ls old.met.items (slice_index_or old.passed.items user 0) at
  pub passed : new.passed.items ≡ slice_set old.passed.items user at
  pub rest : MatchBool (nat_lt at (length ls)) (Waits old new user (slice_index_or ls at 0)) (IsMarked old new user)

-- one is looked at again
abbrev pub Settles : Option (List ℕ) → Marking → Marking → ℕ → Type 0
Settles None old new user = new ≡ old
Settles (Some ls) old new user = MatchBool (slice_index_or old.met.items user false) (new ≡ old) (Advances ls old new user)

-- how many are met
abbrev pub count_met : List Bool → ℕ
count_met ms = sum_by (λ b. if b then 1 else 0) ms

-- One of the numbers that are needed isn't met, and will be looked at again once it is.
pub record IsParked (ls : List ℕ) (u place : ℕ) (met : List Bool) (waiting : List (List ℕ)) (ready : List ℕ) : Type 0 where
  pub short : place < length ls
  pub waits : Contains (slice_index_or waiting (slice_index_or ls place 0) []) u
  pub left : (slice_index_or met (slice_index_or ls place 0) false ≡ false) ⊎ Contains ready (slice_index_or ls place 0)

-- One is still to be looked at (from a number on, or in a batch), or met, or waits.
abbrev pub IsAttended : ℕ → List ℕ → List ℕ → ℕ → ℕ → List Bool → List (List ℕ) → List ℕ → Type 0
IsAttended from batch ls u place met waiting ready = (from ≤ u) ⊎ (Contains batch u ⊎ ((slice_index_or met u false ≡ true) ⊎ IsParked ls u place met waiting ready))

-- what holds while needs are looked at
pub record IsMarkingOf (ns : Needs) (from : ℕ) (batch : List ℕ) (passed : List ℕ) (met : List Bool) (waiting : List (List ℕ)) (ready : List ℕ) : Type 0 where
  pub passed_count : length passed ≡ length ns
  pub met_count : length met ≡ length ns
  pub waiting_count : length waiting ≡ length ns
  pub ready_within : (k : ℕ) → k < length ready → slice_index_or ready k 0 < length ns
  pub sound : (n : ℕ) → n < length ns → slice_index_or met n false ≡ true → slice_index_or (met_after (count_met met) ns) n false ≡ true
  pub front : (u : ℕ) (ls : List ℕ) (k : ℕ) → u < length ns → slice_index_or ns u None ≡ Some ls → k < slice_index_or passed u 0 → k < length ls → slice_index_or met (slice_index_or ls k 0) false ≡ true
  pub attended : (u : ℕ) (ls : List ℕ) → u < length ns → slice_index_or ns u None ≡ Some ls → IsAttended from batch ls u (slice_index_or passed u 0) met waiting ready

abbrev pub IsMarking : Needs → ℕ → List ℕ → Marking → Type 0
IsMarking ns from batch m = IsMarkingOf ns from batch m.passed.items m.met.items m.waiting.items m.ready.items

-- how many steps are left
abbrev pub steps_left : Needs → Marking → ℕ
steps_left ns m = length ns - count_met m.met.items + length m.ready.items

-- nothing is looked at yet
pub record IsNew (count : ℕ) (m : Marking) : Type 0 where
  pub passed : m.passed.items ≡ replicate count 0
  pub met : m.met.items ≡ replicate count false
  pub waiting_count : length m.waiting.items ≡ count
  pub ready : m.ready.items ≡ []
