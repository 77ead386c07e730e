-- What files in memory stand for: a store of bytes that only grows, and a log of changes whose names and bytes lie in it (own).
use Rattle.std.specs.Prelude.{◌≡◌, ℕ, ◌-◌, Bool, true, ◌&&◌, nat_le, if◌then◌else◌, List, [], ◌∷◌, length, take, drop}
use Rattle.std.specs.Ordering.{nat_cmp}
use Rattle.std.specs.Cmp.Lexicographic.{slice_cmp}
use Rattle.std.specs.FinMap.{FinMap, empty, insert, remove}
use Rattle.std.specs.FinSet as set
use Rattle.std.specs.List.{list_all}
use Rattle.std.specs.Str.{bytes_eq}
use Rattle.cdk_memory.specs.declared.stored.Part.{Part}
use Rattle.cdk_memory.specs.declared.stored.Change.{Change}

abbrev pub part_of : List ℕ → Part → List ℕ
part_of store p = take (p.to - p.from) (drop p.from store)

-- the part lies in a store of this length
abbrev pub lies_in : ℕ → Part → Bool
lies_in n p = nat_le p.from p.to && nat_le p.to n

-- a file is taken out, or set to bytes
abbrev pub changed : List ℕ → Change → FinMap (slice_cmp nat_cmp) (List ℕ) → FinMap (slice_cmp nat_cmp) (List ℕ)
changed store c m = if c.is_removal then remove m (part_of store c.name) else insert m (part_of store c.name) (part_of store c.bytes)

abbrev pub after_log : List ℕ → List Change → FinMap (slice_cmp nat_cmp) (List ℕ) → FinMap (slice_cmp nat_cmp) (List ℕ)
after_log store [] m = m
after_log store (c ∷ log) m = after_log store log (changed store c m)

-- the files, from none
abbrev pub files_of : List ℕ → List Change → FinMap (slice_cmp nat_cmp) (List ℕ)
files_of store log = after_log store log empty

abbrev pub log_lies_in : ℕ → List Change → Bool
log_lies_in n log = list_all (λ c. lies_in n c.name && lies_in n c.bytes) log

abbrev pub after_names : List ℕ → List Part → set.FinSet (slice_cmp nat_cmp) → set.FinSet (slice_cmp nat_cmp)
after_names store [] s = s
after_names store (p ∷ ps) s = after_names store ps (set.insert s (part_of store p))

-- the directories, from none
abbrev pub directories_of : List ℕ → List Part → set.FinSet (slice_cmp nat_cmp)
directories_of store names = after_names store names set.empty

abbrev pub names_lie_in : ℕ → List Part → Bool
names_lie_in n names = list_all (lies_in n) names

-- a change of this name, whose parts lie in the store
pub record GivesName (store wanted : List ℕ) (c : Change) : Type 0 where
  pub name : bytes_eq wanted (part_of store c.name) ≡ true
  pub name_lies : lies_in (length store) c.name ≡ true
  pub bytes_lie : lies_in (length store) c.bytes ≡ true
