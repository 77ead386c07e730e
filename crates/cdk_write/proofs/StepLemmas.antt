-- One step more.
use Rattle.std.proofs.Common.{refl, ◌≡◌, ℕ, zero, suc, ◌<◌, List, [], ◌∷◌, length, map, take, get_or, ap, sym, ◌∙◌, arith, Some}
use Rattle.std.specs.Prelude.{slice_get, unwrap_or}
use Rattle.cdk_outside.specs.Outside.{Contents, Directories}
use Rattle.cdk_write.specs.declared.step.Action.{Action}
use Rattle.cdk_write.specs.declared.step.Action.TheVariants as action
use Rattle.cdk_write.specs.declared.step.Step.{Step}
use Rattle.cdk_write.specs.Steps.{WriteStep, step_path, step_of, step_view, files_after, directories_after, files_after_all, directories_after_all}

-- the files after one step more of the list
pub files_next : {X : Type 0} (h : X → WriteStep) (xs : List X) (k : ℕ) (x : X) (files before after : Contents) → k < length xs → x ≡ get_or xs k x → before ≡ files_after_all (take k (map h xs)) files → after ≡ files_after (h x) before → after ≡ files_after_all (take (suc k) (map h xs)) files
files_next h [] k x files before after within is so_far step = absurd (omega arith)
files_next h (y ∷ ys) zero x files before after within is so_far step = step ∙ (λ i. files_after (h (is i)) (so_far i))
files_next h (y ∷ ys) (suc k) x files before after within is so_far step = files_next h ys k x (files_after (h y) files) before after (omega arith) is so_far step

-- the directories after one step more of the list
pub directories_next : {X : Type 0} (h : X → WriteStep) (xs : List X) (k : ℕ) (x : X) (directories before after : Directories) → k < length xs → x ≡ get_or xs k x → before ≡ directories_after_all (take k (map h xs)) directories → after ≡ directories_after (h x) before → after ≡ directories_after_all (take (suc k) (map h xs)) directories
directories_next h [] k x directories before after within is so_far step = absurd (omega arith)
directories_next h (y ∷ ys) zero x directories before after within is so_far step = step ∙ (λ i. directories_after (h (is i)) (so_far i))
directories_next h (y ∷ ys) (suc k) x directories before after within is so_far step = directories_next h ys k x (directories_after (h y) directories) before after (omega arith) is so_far step

-- the step at an index
pub step_at : {X Y : Type 0} (h : X → Y) (xs : List X) (k : ℕ) (x : X) → k < length xs → x ≡ get_or xs k x → slice_get (map h xs) k ≡ Some (h x)
step_at h [] k x within is = absurd (omega arith)
step_at h (y ∷ ys) zero x within is = ap (λ z. Some (h z)) (sym is)
step_at h (y ∷ ys) (suc k) x within is = step_at h ys k x (omega arith) is

path_of_step : (a : Action) (path : List ℕ) → step_path (step_of a path) ≡ path
path_of_step action.MakeDirectory path = refl
path_of_step action.Remove path = refl
path_of_step (action.Put bytes) path = refl

-- the path of the step at which the writing stopped is that of the program's step
pub stopped_path : (steps : List Step) (k : ℕ) (item : Step) (s : WriteStep) → k < length steps → item ≡ get_or steps k item → slice_get (map step_view steps) k ≡ Some s → step_path s ≡ item.path
stopped_path steps k item s within is found =
    ap step_path (ap (λ o. unwrap_or o s) (sym found ∙ step_at step_view steps k item within is)) ∙ path_of_step item.action item.path
