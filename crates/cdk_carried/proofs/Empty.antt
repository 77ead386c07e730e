-- The tests for what is empty.
use Rattle.std.proofs.Common.{◌≡◌, List, [], ◌∷◌, Bool, arith}
use Rattle.std.specs.Prelude.{◌↔◌, IsTrue}
use Rattle.std.proofs.lemmas.Grind.{common_steps}
use Rattle.cdk_carried.specs.Carried.{has_no_items}

pub no_items : {A : Type 0} → (xs : List A) (b : Bool) → (IsTrue b ↔ (xs ≡ [])) → b ≡ has_no_items xs
no_items [] b m = grind (arith, common_steps)
no_items (x ∷ xs) b m = grind (arith, common_steps)
