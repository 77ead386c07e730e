-- What a reader answers, told otherwise.
use Rattle.std.proofs.Common.{◌≡◌, Bool, true, false, cond, Option, Some, option_and_then, Result, refl, sym, subst}
use Rattle.cdk_members.specs.Gives.{Gives}
use Rattle.cdk_members.specs.declared.error.ReadError.{ReadError}

pub gives : {X Y : Type 0} (view : X → Y) (r : Result X ReadError) (found same : Option Y) → Gives view r found → same ≡ found → Gives view r same
gives view r found same h e = subst (Gives view r) (sym e) h

-- One test of a name: what is done at the name itself is what is done at what it names.
pub tested : {A B : Type 0} (f : A → Option B) (b : Bool) (a : A) (o : Option A) (r : Option B) → r ≡ option_and_then f o → cond b (f a) r ≡ option_and_then f (cond b (Some a) o)
tested f true a o r e = refl
tested f false a o r e = e
