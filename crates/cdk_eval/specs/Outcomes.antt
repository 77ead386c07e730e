-- What values, conditions and outputs of a template come to, and how outcomes are put together (CloudFormation's
-- intrinsic functions; the faults are own).
use Rattle.std.specs.Prelude.{ℕ, List, Bool, true, false, Option, Some, None}
use Rattle.serde_json.specs.Data.{Data, string, array, object, Items, item, Members, member}
use Rattle.cdk_base.specs.Json.{text_of}
use Rattle.cdk_eval.specs.declared.fault.EvalFault.{EvalFault}
use Rattle.cdk_eval.specs.declared.fault.EvalFault.TheVariants.{NotText}

-- of a value: gone is what `AWS::NoValue` leaves
pub data Outcome : Type 0 where
  Value : Data → Outcome
  Gone : Outcome
  Fault : EvalFault → Outcome

-- of a condition; and of a resource or an output, which is made where its condition holds
pub data Truth : Type 0 where
  Holds : Bool → Truth
  Untold : EvalFault → Truth

-- of an output
pub data OutputOutcome : Type 0 where
  OutputText : List ℕ → OutputOutcome
  OutputNotMade : OutputOutcome
  OutputFault : EvalFault → OutputOutcome

-- the items of an array, or the first fault
pub data Listed : Type 0 where
  Lists : Items → Listed
  NotListed : EvalFault → Listed

-- the members of an object, or the first fault
pub data Fielded : Type 0 where
  Has : Members → Fielded
  NotFielded : EvalFault → Fielded

abbrev pub item_onto : Data → Listed → Listed
item_onto d (Lists ds) = Lists (item d ds)
item_onto d (NotListed f) = NotListed f

-- an item that is gone is dropped
abbrev pub first_item : Outcome → Listed → Listed
first_item (Value d) l = item_onto d l
first_item Gone l = l
first_item (Fault f) l = NotListed f

abbrev pub member_onto : List ℕ → Data → Fielded → Fielded
member_onto k d (Has ms) = Has (member k d ms)
member_onto k d (NotFielded f) = NotFielded f

-- a member that is gone is dropped
abbrev pub first_member : List ℕ → Outcome → Fielded → Fielded
first_member k (Value d) l = member_onto k d l
first_member k Gone l = l
first_member k (Fault f) l = NotFielded f

abbrev pub array_outcome : Listed → Outcome
array_outcome (Lists ds) = Value (array ds)
array_outcome (NotListed f) = Fault f

abbrev pub object_outcome : Fielded → Outcome
object_outcome (Has ms) = Value (object ms)
object_outcome (NotFielded f) = Fault f

abbrev pub value_or : EvalFault → Option Data → Outcome
value_or f None = Fault f
value_or f (Some d) = Value d

abbrev pub text_or : EvalFault → Option (List ℕ) → Outcome
text_or f None = Fault f
text_or f (Some t) = Value (string t)

-- of what has to be a list; gone is none
abbrev pub on_items : (Items → Outcome) → Outcome → Outcome
on_items f (Value (array ds)) = f ds
on_items f (Value _) = Fault NotText
on_items f Gone = Fault NotText
on_items f (Fault g) = Fault g

abbrev pub on_some_text : (List ℕ → Outcome) → Option (List ℕ) → Outcome
on_some_text f None = Fault NotText
on_some_text f (Some t) = f t

-- of what has to have a text; gone has none
abbrev pub on_text : (List ℕ → Outcome) → Outcome → Outcome
on_text f (Value d) = on_some_text f (text_of d)
on_text f Gone = Fault NotText
on_text f (Fault g) = Fault g

-- the first fault of two that are both evaluated, else what follows
abbrev pub before_fault : Outcome → Outcome → Outcome
before_fault (Fault f) o = Fault f
before_fault _ o = o

-- the outcome that the condition picks
abbrev pub picked : Truth → Outcome → Outcome → Outcome
picked (Holds true) x y = x
picked (Holds false) x y = y
picked (Untold f) x y = Fault f
