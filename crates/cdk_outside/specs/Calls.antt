-- The numbers of calls that are to fail, and counts that stop at their counter's last value (own).
use Rattle.std.specs.Prelude.{ℕ, ◌+◌, ◌-◌, ◌^◌, ◌==◌, min, Bool, List}
use Rattle.std.specs.List.{list_any}

-- One more, up to the greatest u64. So all calls past that number have that number.
abbrev pub next_count : ℕ → ℕ
next_count n = min (n + 1) (2 ^ 64 - 1)

-- the call of this number is to fail
abbrev pub is_listed : List ℕ → ℕ → Bool
is_listed listed call = list_any (λ n. n == call) listed
