-- What is read of a file up to a limit, and what a failed write leaves, where the type tells what it holds (own).
use Rattle.std.specs.Prelude.{◌≡◌, ℕ, ◌<◌, ◌≤◌, List, length, take, Option, IfSome}
use Rattle.std.specs.Io.KnownBytes.{Consumes, Appends}

-- these are all the bytes that were left
abbrev pub AreAll : Option (List ℕ) → List ℕ → Type 0
AreAll left bytes = IfSome left (λ all. bytes ≡ all)

-- more bytes than the limit were left
abbrev pub IsOver : Option (List ℕ) → ℕ → Type 0
IsOver left limit = IfSome left (λ all. limit < length all)

-- at most so many bytes were taken
abbrev pub TakesAtMost : ℕ → Option (List ℕ) → Option (List ℕ) → Type 0
TakesAtMost most old new = (bytes : List ℕ) × (Consumes old new bytes) × (length bytes ≤ most)

-- a prefix of the bytes is appended
abbrev pub AppendsSome : Option (List ℕ) → Option (List ℕ) → List ℕ → Type 0
AppendsSome old new bytes = (k : ℕ) × (k ≤ length bytes) × (Appends old new (take k bytes))

-- a standard stream: the bytes that it holds, where its type tells them, and how many writes failed
pub record StreamState : Type 0 where
  pub contents : Option (List ℕ)
  pub faults : ℕ
