-- Worked values of the states in memory, by computation.
use Rattle.std.proofs.Common.{◌≡◌, ◌-◌, ◌^◌, true, false, [], ◌∷◌, codes, refl}
use Rattle.cdk_outside.specs.Calls.{next_count}
use Rattle.cdk_memory.specs.FilesState.{new_state, put_succeeds, after_put, make_dir_succeeds, after_make_dir, after_read}
use Rattle.cdk_memory.specs.SinkState.{taken_of}

counts_stop : next_count (2 ^ 64 - 1) ≡ 2 ^ 64 - 1
counts_stop = refl

all_the_room : put_succeeds (new_state (2 ∷ []) 2 8) (codes "out") (codes "12345") ≡ true
all_the_room = refl

one_byte_too_many : put_succeeds (new_state (2 ∷ []) 2 8) (codes "out") (codes "123456") ≡ false
one_byte_too_many = refl

-- a listed put of five bytes leaves two, and uses an entry and three bytes of the name and those two
half_is_used : ((after_put (after_read (new_state (2 ∷ []) 2 8) []) (codes "out") (codes "12345")).entries ≡ 1) × ((after_put (after_read (new_state (2 ∷ []) 2 8) []) (codes "out") (codes "12345")).room ≡ 3)
half_is_used = (refl, refl)

-- a listed put of no bytes, or one without room, uses nothing and is counted
nothing_is_used : after_put (after_read (new_state (2 ∷ []) 2 8) []) (codes "out") [] ≡ record (after_read (new_state (2 ∷ []) 2 8) []) { calls = 2; write_faults = 1 }
nothing_is_used = refl

nothing_is_left : after_put (new_state (2 ∷ []) 2 8) (codes "out") (codes "123456") ≡ record (new_state (2 ∷ []) 2 8) { calls = 1; write_faults = 1 }
nothing_is_left = refl

listed_directory : make_dir_succeeds (after_make_dir (new_state (2 ∷ []) 2 8) (codes "out")) (codes "x") ≡ false
listed_directory = refl

-- a listed write that fits appends half, and one that doesn't fit appends nothing
half_is_written : taken_of (record { bytes = []; left = 5; listed = 1 ∷ []; calls = 0; faults = 0 }) (codes "12345") ≡ codes "12"
half_is_written = refl

nothing_fits : taken_of (record { bytes = []; left = 4; listed = 1 ∷ []; calls = 0; faults = 0 }) (codes "12345") ≡ []
nothing_fits = refl
