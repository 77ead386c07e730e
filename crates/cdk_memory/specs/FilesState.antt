-- Files in memory as a value, and what each call makes of it (own).
use Rattle.std.specs.Prelude.{ℕ, ◌+◌, ◌-◌, ◌/◌, ◌≡◌, nat_lt, nat_le, Bool, ◌&&◌, not, if◌then◌else◌, List, length, take, Option, Some, None, is_some, Result, Ok, Err, IsOk, refl}
use Rattle.std.specs.Ordering.{nat_cmp}
use Rattle.std.specs.Cmp.Lexicographic.{slice_cmp}
use Rattle.std.specs.Coded.{Coded, code_by, coded×, coded_ℕ, coded_list, coded_option}
use Rattle.std.specs.FinMap as map
use Rattle.std.specs.FinSet as set
use Rattle.cdk_outside.specs.Calls.{next_count, is_listed}
use Rattle.cdk_outside.specs.declared.traits.ReadError.{ReadError}
use Rattle.cdk_outside.specs.declared.traits.ReadError.TheVariants.{TooLong, Failed, Memory}

-- The files and directories by the bytes of their names, how many entries and bytes are left, the numbers of the calls
-- that fail, how many calls there were, and how many of them failed.
pub record FilesState : Type 0 where
  pub files : map.FinMap (slice_cmp nat_cmp) (List ℕ)
  pub directories : set.FinSet (slice_cmp nat_cmp)
  pub entries : ℕ
  pub room : ℕ
  pub listed : List ℕ
  pub calls : ℕ
  pub read_faults : ℕ
  pub write_faults : ℕ

-- the state, and the names of the last failed calls, told where memory for them was found
pub record FilesView : Type 0 where
  pub state : FilesState
  pub failed_read : Option (List ℕ)
  pub failed_write : Option (List ℕ)

-- a state is stored as the tuple of its fields
abbrev pub state_code : Coded FilesState
state_code =
    code_by (map.FinMap (slice_cmp nat_cmp) (List ℕ) × (set.FinSet (slice_cmp nat_cmp) × (ℕ × (ℕ × (List ℕ × (ℕ × (ℕ × ℕ)))))))
    (coded× (map.code (coded_list coded_ℕ) (coded_list coded_ℕ)) (coded× (set.code (coded_list coded_ℕ)) (coded× coded_ℕ (coded× coded_ℕ (coded× (coded_list coded_ℕ) (coded× coded_ℕ (coded× coded_ℕ coded_ℕ)))))))
    (λ s. (s.files, (s.directories, (s.entries, (s.room, (s.listed, (s.calls, (s.read_faults, s.write_faults))))))))
    (λ p. record { files = p.0; directories = p.1.0; entries = p.1.1.0; room = p.1.1.1.0; listed = p.1.1.1.1.0; calls = p.1.1.1.1.1.0; read_faults = p.1.1.1.1.1.1.0; write_faults = p.1.1.1.1.1.1.1 })
    (λ _. refl)

-- a view is stored as the tuple of its fields
abbrev pub view_code : Coded FilesView
view_code =
    code_by (FilesState × (Option (List ℕ) × Option (List ℕ)))
    (coded× state_code (coded× (coded_option (coded_list coded_ℕ)) (coded_option (coded_list coded_ℕ))))
    (λ v. (v.state, (v.failed_read, v.failed_write)))
    (λ p. record { state = p.0; failed_read = p.1.0; failed_write = p.1.1 })
    (λ _. refl)

-- no files, no directories, no calls, and so many entries and bytes left
abbrev pub new_state : List ℕ → ℕ → ℕ → FilesState
new_state fail entries room = record {
  files = map.empty;
  directories = set.empty;
  entries = entries;
  room = room;
  listed = fail;
  calls = 0;
  read_faults = 0;
  write_faults = 0;
}

-- the next call is to fail
abbrev pub is_next_listed : FilesState → Bool
is_next_listed s = is_listed s.listed (next_count s.calls)

-- an entry is left, and so many bytes are
abbrev pub has_room : FilesState → ℕ → Bool
has_room s bytes = nat_lt 0 s.entries && nat_le bytes s.room

-- a call is counted
abbrev pub with_call : FilesState → FilesState
with_call s = record s { calls = next_count s.calls }

-- a write is counted among the faults where it failed
abbrev pub with_outcome : Bool → FilesState → FilesState
with_outcome succeeds s = record s { write_faults = if succeeds then s.write_faults else next_count s.write_faults }

-- a file is set, which uses an entry and the bytes of its name and contents
abbrev pub with_file : List ℕ → List ℕ → FilesState → FilesState
with_file name bytes s =
    record s { files = map.insert s.files name bytes; entries = s.entries - 1; room = s.room - (length name + length bytes) }

-- a directory is made, which uses an entry and the bytes of its name
abbrev pub with_directory : List ℕ → FilesState → FilesState
with_directory name s =
    record s { directories = set.insert s.directories name; entries = s.entries - 1; room = s.room - length name }

-- a file is taken out, which gives no room back
abbrev pub without_file : List ℕ → FilesState → FilesState
without_file name s = record s { files = map.remove s.files name }

-- a file is set, and no room is used
abbrev pub with_added : List ℕ → List ℕ → FilesState → FilesState
with_added name bytes s = record s { files = map.insert s.files name bytes }

-- the bytes of a file, where it is there and within the limit
abbrev pub bytes_within : ℕ → Option (List ℕ) → Result (List ℕ) ReadError
bytes_within limit None = Err Failed
bytes_within limit (Some bytes) = if nat_le (length bytes) limit then Ok bytes else Err TooLong

-- what the next read answers, where memory is found
abbrev pub read_answer : FilesState → List ℕ → ℕ → Result (List ℕ) ReadError
read_answer s name limit = if is_next_listed s then Err Failed else bytes_within limit (map.get s.files name)

-- the next read doesn't fail: it isn't listed, and the file is there
abbrev pub read_succeeds : FilesState → List ℕ → Bool
read_succeeds s name = not (is_next_listed s) && is_some (map.get s.files name)

-- the state after a read
abbrev pub after_read : FilesState → List ℕ → FilesState
after_read s name =
    record s { calls = next_count s.calls; read_faults = if read_succeeds s name then s.read_faults else next_count s.read_faults }

-- the next put succeeds
abbrev pub put_succeeds : FilesState → List ℕ → List ℕ → Bool
put_succeeds s name bytes = not (is_next_listed s) && has_room s (length name + length bytes)

-- a listed put sets the name to the first half of the bytes, rounded down, and does nothing where there are none
abbrev pub with_half : List ℕ → List ℕ → FilesState → FilesState
with_half name bytes s = if nat_lt 0 (length bytes) then with_file name (take (length bytes / 2) bytes) s else s

-- what the next put does to the files, the entries and the room
abbrev pub with_put : List ℕ → List ℕ → FilesState → FilesState
with_put name bytes s =
    if has_room s (length name + length bytes) then (if is_next_listed s then with_half name bytes s else with_file name bytes s) else s

-- the state after a put
abbrev pub after_put : FilesState → List ℕ → List ℕ → FilesState
after_put s name bytes = with_call (with_outcome (put_succeeds s name bytes) (with_put name bytes s))

-- the next making of a directory succeeds
abbrev pub make_dir_succeeds : FilesState → List ℕ → Bool
make_dir_succeeds s name = not (is_next_listed s) && has_room s (length name)

-- the state after the making of a directory
abbrev pub after_make_dir : FilesState → List ℕ → FilesState
after_make_dir s name =
    with_call (with_outcome (make_dir_succeeds s name) (if make_dir_succeeds s name then with_directory name s else s))

-- the next removal succeeds
abbrev pub remove_succeeds : FilesState → Bool
remove_succeeds s = not (is_next_listed s)

-- the state after a removal
abbrev pub after_remove : FilesState → List ℕ → FilesState
after_remove s name = with_call (with_outcome (remove_succeeds s) (if remove_succeeds s then without_file name s else s))

-- the answer of a read is this one, or want of memory in place of its bytes
abbrev pub IsAnswer : {T : Type 0} → (T → List ℕ) → Result T ReadError → Result (List ℕ) ReadError → Type 0
IsAnswer items (Ok v) answer = answer ≡ Ok (items v)
IsAnswer items (Err TooLong) answer = answer ≡ Err TooLong
IsAnswer items (Err Failed) answer = answer ≡ Err Failed
IsAnswer items (Err Memory) answer = IsOk answer
