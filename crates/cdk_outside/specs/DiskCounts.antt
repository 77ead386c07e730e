-- What is known of the files of a disk: how many calls failed (own).
use Rattle.std.specs.Prelude.{ℕ}

-- how many reads failed, and how many of the other calls
pub record DiskCounts : Type 0 where
  pub read_faults : ℕ
  pub write_faults : ℕ
