-- What the fields of files in memory stand for, and what is true of them (own).
use Rattle.std.specs.Prelude.{◌≡◌, ◌≤◌, ◌+◌, ◌*◌, true, length, vec_len, vec_capacity}
use Rattle.std.specs.FinMap.{len}
use Rattle.cdk_memory.specs.declared.memory_files.MemFiles.TheInside.{Inside}
use Rattle.cdk_memory.specs.FilesState.{FilesView}
use Rattle.cdk_memory.specs.Stored.{files_of, log_lies_in, directories_of, names_lie_in}

-- what a clause sees of the fields
abbrev pub view_of : Inside → FilesView
view_of m = record {
  state = record {
    files = files_of m.store.items m.log.items;
    directories = directories_of m.directory_store.items m.directories.items;
    entries = m.entries;
    room = m.room;
    listed = m.listed;
    calls = m.calls;
    read_faults = m.read_faults;
    write_faults = m.write_faults;
  };
  failed_read = m.failed_read;
  failed_write = m.failed_write;
}

-- The names and bytes lie in the stores, and there is room for all that may still come: of the log, two changes for each
-- entry that is left, since its file may be removed, and one for each file that is there.
pub record IsKept (m : Inside) : Type 0 where
  pub lies : log_lies_in (length m.store.items) m.log.items ≡ true
  pub directories_lie : names_lie_in (length m.directory_store.items) m.directories.items ≡ true
  pub store_fits : vec_len m.store + m.room ≤ vec_capacity m.store
  pub log_fits : vec_len m.log + 2 * m.entries + len (files_of m.store.items m.log.items) ≤ vec_capacity m.log
  pub directory_store_fits : vec_len m.directory_store + m.room ≤ vec_capacity m.directory_store
  pub directories_fit : vec_len m.directories + m.entries ≤ vec_capacity m.directories
