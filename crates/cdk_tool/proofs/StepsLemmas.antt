-- The steps of an assembly, one file after another.
use Rattle.std.proofs.Common.{◌≡◌, ℕ, ◌+◌, ◌<◌, List, [], ◌∷◌, ◌++◌, length, map, take, get_or, codes, ap, sym, ◌∙◌}
use Rattle.std.proofs.lemmas.List.{map-append}
use Rattle.std.proofs.lemmas.List.{take_more}
use Rattle.cdk_write.specs.Steps.{make_directory, remove, put, path_in, step_view}
use Rattle.cdk_write.specs.declared.step.Step.{Step}
use Rattle.cdk_tool.specs.Assembly.{steps_of}
use Rattle.cdk_synthesis.specs.declared.files.File.{File}

append_step : (directory : List ℕ) (fs : List File) (f : File) → steps_of directory (fs ++ f ∷ []) ≡ steps_of directory fs ++ put (path_in directory f.name) f.bytes ∷ []
append_step directory fs f = ap (λ rest. make_directory directory ∷ remove (path_in directory (codes "manifest.json")) ∷ rest) (map-append (λ (g : File). put (path_in directory g.name) g.bytes) fs (f ∷ []))

-- the step of one file more
pub steps_next : (directory : List ℕ) (fs : List File) (k : ℕ) (f : File) (steps : List Step) (step : Step) → k < length fs → f ≡ get_or fs k f → map step_view steps ≡ steps_of directory (take k fs) → step_view step ≡ put (path_in directory f.name) f.bytes → map step_view (steps ++ step ∷ []) ≡ steps_of directory (take (k + 1) fs)
steps_next directory fs k f steps step within is so_far step_is =
    map-append step_view steps (step ∷ [])
    ∙ (λ i. so_far i ++ step_is i ∷ [])
    ∙ sym (append_step directory (take k fs) f)
    ∙ ap (steps_of directory) (sym (take_more fs k f within ∙ ap (λ x. take k fs ++ x ∷ []) (sym is)))

-- the two steps before the first file
pub two_steps : (directory : List ℕ) (none one two : List Step) (make taken : Step) → none ≡ [] → one ≡ none ++ make ∷ [] → two ≡ one ++ taken ∷ [] → step_view make ≡ make_directory directory → step_view taken ≡ remove (path_in directory (codes "manifest.json")) → map step_view two ≡ steps_of directory []
two_steps directory none one two make taken e0 e1 e2 is_make is_taken =
    ap (map step_view) (e2 ∙ ap (λ l. l ++ taken ∷ []) (e1 ∙ ap (λ l. l ++ make ∷ []) e0)) ∙ (λ i. is_make i ∷ is_taken i ∷ [])
