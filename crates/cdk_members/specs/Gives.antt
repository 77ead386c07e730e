-- What a reader answers, beside the definition (own).
use Rattle.std.specs.Prelude.{◌≡◌, Result, Ok, Err, Option, Some, None}
use Rattle.cdk_members.specs.declared.error.ReadError.{ReadError}
use Rattle.cdk_members.specs.declared.error.ReadError.TheVariants as errors

-- a value exactly where the definition gives one, and that one, unless memory ran out
abbrev pub Gives : {X Y : Type 0} → (X → Y) → Result X ReadError → Option Y → Type 0
Gives view (Ok x) found = found ≡ Some (view x)
Gives view (Err errors.Memory) found = Unit {0}
Gives view (Err errors.Shape) found = found ≡ None
