-- What holds of what is read, where something is: the words by which the laws on readings of expressions and constructs are proved.
use Rattle.std.proofs.Common.{Option, Some, None, option_map, option_and_then}
use Rattle.std.specs.Prelude.{⊤}

-- of what an option holds, where it holds something
abbrev pub All : {A : Type 0} → (A → Type 0) → Option A → Type 0
All P None = ⊤
All P (Some a) = P a

pub mapped : {A B : Type 0} (P : A → Type 0) (Q : B → Type 0) (f : A → B) (o : Option A) → ((a : A) → P a → Q (f a)) → All P o → All Q (option_map f o)
mapped P Q f None h p = tt
mapped P Q f (Some a) h p = h a p

pub then : {A B : Type 0} (P : A → Type 0) (Q : B → Type 0) (f : A → Option B) (o : Option A) → ((a : A) → P a → All Q (f a)) → All P o → All Q (option_and_then f o)
then P Q f None h p = tt
then P Q f (Some a) h p = h a p

-- whatever it was made of
pub made : {A B : Type 0} (Q : B → Type 0) (f : A → B) (o : Option A) → ((a : A) → Q (f a)) → All Q (option_map f o)
made Q f None h = tt
made Q f (Some a) h = h a

pub made_then : {A B : Type 0} (Q : B → Type 0) (f : A → Option B) (o : Option A) → ((a : A) → All Q (f a)) → All Q (option_and_then f o)
made_then Q f None h = tt
made_then Q f (Some a) h = h a
