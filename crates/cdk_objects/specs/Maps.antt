-- The members of an object for each construct, by its number.
use Rattle.std.specs.Prelude.{◌≡◌, ◌≢◌, ℕ, ◌==◌, if◌then◌else◌, List, length, option_map, slice_get, unwrap_or, String}
use Rattle.std.specs.BTreeMap.{BTreeMap}
use Rattle.std.specs.declared.alloc.Global.{Global}
use Rattle.serde_json.specs.Data.{Data, Members, no_members, put}
use Rattle.serde_json.specs.View.{members_view}
use Rattle.serde_json.specs.declared.value.Value.{Value}
use Rattle.cdk_objects.specs.declared.maps.MapsByConstruct.{MapsByConstruct}

abbrev pub members_in : List (BTreeMap (String Global) Value) → ℕ → Members
members_in maps n = unwrap_or (option_map (λ m. members_view m.entries) (slice_get maps n)) no_members

abbrev pub members_at : MapsByConstruct → ℕ → Members
members_at maps n = members_in maps.each.items n

abbrev pub count_of : MapsByConstruct → ℕ
count_of maps = length maps.each.items

pub record AreEmpty (maps : MapsByConstruct) (constructs : ℕ) : Type 0 where
  pub count : count_of maps ≡ constructs
  pub members : (n : ℕ) → members_at maps n ≡ no_members

-- one member more at one construct
pub record Puts (old new : MapsByConstruct) (at : ℕ) (key : List ℕ) (value : Data) : Type 0 where
  pub count : count_of new ≡ count_of old
  pub members : (n : ℕ) → members_at new n ≡ (if n == at then put key value (members_at old n) else members_at old n)

-- the members of one construct are taken out
pub record Keeps (old new : MapsByConstruct) (at : ℕ) : Type 0 where
  pub count : count_of new ≡ count_of old
  pub members : (n : ℕ) → n ≢ at → members_at new n ≡ members_at old n
