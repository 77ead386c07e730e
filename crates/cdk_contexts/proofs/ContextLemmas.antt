-- A whole run of literals, and the first of the findings on contexts.
use Rattle.std.proofs.Common.{◌≡◌, ℕ, List, [], ◌∷◌, ◌++◌, map, cond, Bool, true, false, Some, None, sym, ap, ◌∙◌, append-nil}
use Rattle.std.specs.Prelude.{◌||◌}
use Rattle.cdk_base.specs.Marker.{has_marker}
use Rattle.cdk_base.specs.declared.code.Code.{Code}
use Rattle.cdk_language.specs.Runs.{Literals, is_marked_run}
use Rattle.cdk_tree.specs.Expected.{target_at}
use Rattle.cdk_tree.specs.PlaceFindings.{first}
use Rattle.cdk_tree.specs.declared.role.Found.{Found}
use Rattle.cdk_contexts.specs.Scanning.{Scans}

-- with nothing after it
pub whole_run : (run : List ℕ) (literals : Literals) (found : Bool) (next : List ℕ) → Scans run literals found next → is_marked_run run literals ≡ (found || has_marker next)
whole_run run literals found next h = ap (is_marked_run run) (sym (append-nil literals)) ∙ h []

-- the number of a construct that there is
pub same_number : (b : Bool) (n m : ℕ) → Some m ≡ cond b (Some n) None → m ≡ n
same_number true n m h = cc
same_number false n m h = cc

pub first_target : (n : ℕ) (codes : List Code) (rest : List Found) (c : Code) → first codes ≡ Some c → first (map (target_at n) codes ++ rest) ≡ Some (target_at n c)
first_target n [] rest c h = cc
first_target n (x ∷ codes) rest c h = let same : x ≡ c = cc in ap (λ k. Some (target_at n k)) same
