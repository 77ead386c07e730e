-- What stands under each name, after steps of writing and where they stopped (own).
use Rattle.std.specs.Prelude.{◌≡◌, ◌⊎◌, ◌<◌, ℕ, List, [], ◌∷◌, length, take, Option, Some, None, IfSome, slice_get, if◌then◌else◌}
use Rattle.std.specs.Str.{bytes_eq}
use Rattle.std.specs.FinMap.{get}
use Rattle.cdk_outside.specs.Outside.{Contents}
use Rattle.cdk_write.specs.Steps.{WriteStep, make_directory, remove, put}

-- what a step leaves under a name, from what stood there
abbrev pub left_by : WriteStep → List ℕ → Option (List ℕ) → Option (List ℕ)
left_by (make_directory path) q before = before
left_by (remove path) q before = if bytes_eq q path then None else before
left_by (put path bytes) q before = if bytes_eq q path then Some bytes else before

abbrev pub left_by_all : List WriteStep → List ℕ → Option (List ℕ) → Option (List ℕ)
left_by_all [] q before = before
left_by_all (s ∷ ss) q before = left_by_all ss q (left_by s q before)

-- a proper prefix of the bytes that the step puts under the name
abbrev pub IsCutShort : Option WriteStep → List ℕ → Option (List ℕ) → Type 0
IsCutShort (Some (put path bytes)) q now = (q ≡ path) × ((n : ℕ) × (n < length bytes) × (now ≡ Some (take n bytes)))
IsCutShort _ q now = ⊥

-- Where files are told and the writing stopped at the k-th step: under each name stands what the steps before it left, or,
-- under the path of a put that was cut short, a proper prefix of its bytes. So all other files are as they were.
abbrev pub StandsAt : List WriteStep → ℕ → Contents → Contents → Type 0
StandsAt steps k old new =
    IfSome old (λ m. IfSome new (λ n. (q : List ℕ) → (get n q ≡ left_by_all (take k steps) q (get m q)) ⊎ IsCutShort (slice_get steps k) q (get n q)))
