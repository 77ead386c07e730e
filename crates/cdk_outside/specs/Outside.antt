-- What files and streams hold, where they tell it, and what a failed call leaves and notes (own).
use Rattle.std.specs.Prelude.{◌≡◌, ◌⊎◌, ◌<◌, ◌≤◌, ℕ, ◌+◌, ◌-◌, ◌^◌, min, List, ◌++◌, length, take, Option, Some, option_map, IfSome, Result, Ok, Err}
use Rattle.std.specs.Option.{option_map}
use Rattle.std.specs.Ordering.{nat_cmp}
use Rattle.std.specs.Cmp.Lexicographic.{slice_cmp}
use Rattle.std.specs.FinMap.{FinMap, get, insert, remove}
use Rattle.std.specs.FinSet as set
use Rattle.cdk_outside.specs.declared.traits.ReadError.{ReadError}
use Rattle.cdk_outside.specs.declared.traits.ReadError.TheVariants.{TooLong, Failed, Memory}

-- files by the bytes of their names, or nothing where they aren't told
abbrev pub Contents : Type 0
Contents = Option (FinMap (slice_cmp nat_cmp) (List ℕ))

-- names of directories, or nothing where they aren't told
abbrev pub Directories : Type 0
Directories = Option (set.FinSet (slice_cmp nat_cmp))

-- the file has these bytes
abbrev pub Holds : Contents → List ℕ → List ℕ → Type 0
Holds files name bytes = IfSome files (λ m. get m name ≡ Some bytes)

-- the file has more bytes than the limit
abbrev pub HoldsOver : Contents → List ℕ → ℕ → Type 0
HoldsOver files name limit = IfSome files (λ m. (bytes : List ℕ) × (get m name ≡ Some bytes) × (limit < length bytes))

-- a file is set
abbrev pub with_file : List ℕ → List ℕ → Contents → Contents
with_file name bytes files = option_map (λ m. insert m name bytes) files

-- a file is taken out
abbrev pub without_file : List ℕ → Contents → Contents
without_file name files = option_map (λ m. remove m name) files

-- a directory is made
abbrev pub with_directory : List ℕ → Directories → Directories
with_directory name directories = option_map (λ s. set.insert s name) directories

-- the files as before, or with a proper prefix of these bytes under the name
abbrev pub LeavesPart : Contents → Contents → List ℕ → List ℕ → Type 0
LeavesPart old new name bytes = (new ≡ old) ⊎ ((k : ℕ) × (k < length bytes) × (new ≡ with_file name (take k bytes) old))

-- bytes are appended
abbrev pub with_bytes : List ℕ → Option (List ℕ) → Option (List ℕ)
with_bytes bytes written = option_map (λ before. before ++ bytes) written

-- a prefix of the bytes is appended
abbrev pub AppendsPart : Option (List ℕ) → Option (List ℕ) → List ℕ → Type 0
AppendsPart old new bytes = (k : ℕ) × (k ≤ length bytes) × (new ≡ with_bytes (take k bytes) old)

-- a count is greater than before, or stands at its counter's last value
abbrev pub Rose : ℕ → ℕ → Type 0
Rose before now = min (before + 1) (2 ^ 64 - 1) ≤ now

-- a failed call raises the count and leaves its own name or none; one that is Ok leaves the name as before
abbrev pub CallNoted : {T E : Type 0} → Result T E → ℕ → ℕ → Option (List ℕ) → Option (List ℕ) → List ℕ → Type 0
CallNoted (Ok _) before now old new name = new ≡ old
CallNoted (Err _) before now old new name = (Rose before now) × (IfSome new (λ n. n ≡ name))

-- the same for a read, of whose errors one is a failed call
abbrev pub ReadNoted : {T : Type 0} → Result T ReadError → ℕ → ℕ → Option (List ℕ) → Option (List ℕ) → List ℕ → Type 0
ReadNoted (Ok _) before now old new name = new ≡ old
ReadNoted (Err TooLong) before now old new name = new ≡ old
ReadNoted (Err Memory) before now old new name = new ≡ old
ReadNoted (Err Failed) before now old new name = (Rose before now) × (IfSome new (λ n. n ≡ name))
