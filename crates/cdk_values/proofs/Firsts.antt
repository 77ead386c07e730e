-- The first of the findings, of which those at one construct come first.
use Rattle.std.proofs.Common.{◌≡◌, ℕ, List, [], ◌∷◌, ◌++◌, map, cond, Bool, true, false, Some, None, refl, ap}
use Rattle.cdk_base.specs.declared.code.Code.{Code}
use Rattle.cdk_tree.specs.Expected.{target_at}
use Rattle.cdk_tree.specs.PlaceFindings.{first}
use Rattle.cdk_tree.specs.declared.role.Found.{Found}

-- the number of a construct that there is
pub same_number : (b : Bool) (n m : ℕ) → Some m ≡ cond b (Some n) None → m ≡ n
same_number true n m h = cc
same_number false n m h = cc

pub first_target : (n : ℕ) (codes : List Code) (rest : List Found) (c : Code) → first codes ≡ Some c → first (map (target_at n) codes ++ rest) ≡ Some (target_at n c)
first_target n [] rest c h = cc
first_target n (x ∷ codes) rest c h = let same : x ≡ c = cc in ap (λ k. Some (target_at n k)) same

-- where none is at the construct, those of the rest are all
pub no_target : (n : ℕ) (codes : List Code) (rest : List Found) → first codes ≡ None → map (target_at n) codes ++ rest ≡ rest
no_target n [] rest h = refl
no_target n (x ∷ codes) rest h = cc
