-- What the slots of lazies hold.
use Rattle.std.specs.Prelude.{ℕ, Bool, true, false, IsTrue, Option, Some, None, option_and_then}
use Rattle.std.specs.BTreeMap.{BTreeMap, get_by}
use Rattle.std.specs.Ordering.{nat_cmp}
use Rattle.serde_json.specs.Data.{Data}
use Rattle.serde_json.specs.View.{view}
use Rattle.cdk_leaves.specs.declared.results.Slot.TheVariants.{Own, Same}
use Rattle.cdk_leaves.specs.declared.results.Slot.{Slot}

abbrev pub slot_of : BTreeMap ℕ Slot → ℕ → Option Slot
slot_of slots n = get_by (λ k. nat_cmp n k) slots

abbrev pub own_json : Slot → Option Data
own_json (Own v) = Some (view v)
own_json (Same m) = None

-- what is kept of a lazy as its own
abbrev pub own_in : BTreeMap ℕ Slot → ℕ → Option Data
own_in slots n = option_and_then own_json (slot_of slots n)

abbrev pub slot_json : BTreeMap ℕ Slot → Slot → Option Data
slot_json slots (Own v) = Some (view v)
slot_json slots (Same m) = own_in slots m

-- what is kept of a lazy
abbrev pub result_of : BTreeMap ℕ Slot → ℕ → Option Data
result_of slots n = option_and_then (slot_json slots) (slot_of slots n)

abbrev pub is_own : Option Slot → Bool
is_own None = false
is_own (Some (Own v)) = true
is_own (Some (Same m)) = false

abbrev pub IsOwn : Option Slot → Type 0
IsOwn o = IsTrue (is_own o)

-- the lazy that a slot's JSON is kept of
abbrev pub slot_root : ℕ → Option Slot → ℕ
slot_root n None = n
slot_root n (Some (Own v)) = n
slot_root n (Some (Same m)) = m

abbrev pub root_of : BTreeMap ℕ Slot → ℕ → ℕ
root_of slots n = slot_root n (slot_of slots n)
