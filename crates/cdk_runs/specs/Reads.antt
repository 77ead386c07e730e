-- How much of a marker's beginning the end of a run matches, and how literals that follow change that.
use Rattle.std.specs.Prelude.{◌≡◌, ℕ, ◌+◌, ◌≤◌, ◌==◌, ◌||◌, List, ◌++◌, take, slice_index, codes, if◌then◌else◌}
use Rattle.cdk_language.specs.Runs.{Literals, is_marked_run}

-- the first n bytes of `${Token[`
abbrev pub opening : ℕ → List ℕ
opening n = take n (codes "${Token[")

-- a run that matches nothing yet, after one byte: `#{Token[` begins a marker too
abbrev pub fresh : ℕ → ℕ
fresh b = if b == 36 || b == 35 then 1 else 0

-- how many bytes are matched after one more; 8 is the whole, and stays
abbrev pub step : ℕ → ℕ → ℕ
step n b = if n == 8 then 8 else (if b == slice_index (codes "${Token[") n then n + 1 else fresh b)

-- A run that ends with n matched bytes, and goes on with the literals, holds a marker's beginning just where one that ends with m matched bytes does.
pub record Reads (n : ℕ) (literals : Literals) (m : ℕ) : Type 0 where
  pub bound : m ≤ 8
  pub same : (more : Literals) → is_marked_run (opening n) (literals ++ more) ≡ is_marked_run (opening m) more
