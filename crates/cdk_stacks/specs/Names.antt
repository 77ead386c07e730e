-- The names of elements, stacks, stages and their artifacts, over the constructs of an application in walk order (AWS CDK's logical
-- ids, stack names and cloud assembly; that stages' and stacks' names join ids by `-`, and all limits, are own).
use Rattle.std.specs.Prelude.{ℕ, zero, suc, ◌==◌, ◌||◌, ◌&&◌, List, [], ◌∷◌, ◌++◌, Bool, true, false, not, nat_eq, if◌then◌else◌, Option, Some, None, codes}
use Rattle.std.specs.Option.{option_map_or, option_eq}
use Rattle.cdk_names.specs.Names.{unique_id}
use Rattle.cdk_names.specs.Forms.{is_logical, is_stack_name}
use Rattle.cdk_tree.specs.Placed.{Placed, construct_at, is_stack, is_stage}
use Rattle.cdk_tree.specs.PlaceFindings.{is_element}

-- ---- ids

-- the scope that a construct is a child of; the root stands for its own
abbrev pub scope_of : List Placed → ℕ → ℕ
scope_of cs n = option_map_or (λ m. m) (construct_at cs n).parent 0

-- the ids from below a scope, or from below the root, down to a construct; at most so many
abbrev pub ids_within : ℕ → List Placed → ℕ → ℕ → List (List ℕ)
ids_within zero cs scope n = []
ids_within (suc most) cs scope n = if n == scope || n == 0 then [] else ids_within most cs scope (scope_of cs n) ++ (construct_at cs n).head.id ∷ []

-- a construct has fewer scopes than its number, since each scope stands before what is in it
abbrev pub ids_below : List Placed → ℕ → ℕ → List (List ℕ)
ids_below cs scope n = ids_within n cs scope n

-- ---- names

-- an element's logical name: the kept one, else the unique id of the ids below its stack
abbrev pub kept_or_made : Option (List ℕ) → Option (List ℕ) → Option (List ℕ)
kept_or_made (Some kept) made = Some kept
kept_or_made None made = made

abbrev pub logical_in : List Placed → ℕ → Option ℕ → Option (List ℕ)
logical_in cs n None = None
logical_in cs n (Some stack) = kept_or_made (construct_at cs n).head.logical (unique_id (ids_below cs stack n))

abbrev pub logical_name : List Placed → ℕ → Option (List ℕ)
logical_name cs n = if is_element (construct_at cs n).body then logical_in cs n (construct_at cs n).stack else None

-- the stage whose assembly a stack or stage stands in, else the root
abbrev pub assembly_of : List Placed → ℕ → ℕ
assembly_of cs n = (construct_at cs (scope_of cs n)).stage

-- the name of a stack or stage: its id, after the name of the stage around it and `-` where there is one; within at most so many
abbrev pub staged_within : ℕ → List Placed → ℕ → List ℕ
staged_within zero cs n = (construct_at cs n).head.id
staged_within (suc most) cs n = if assembly_of cs n == 0 then (construct_at cs n).head.id else staged_within most cs (assembly_of cs n) ++ 45 ∷ (construct_at cs n).head.id

abbrev pub staged_name : List Placed → ℕ → List ℕ
staged_name cs n = staged_within n cs n

abbrev pub stack_name : List Placed → ℕ → Option (List ℕ)
stack_name cs n = if is_stack (construct_at cs n).body then Some (staged_name cs n) else None

abbrev pub stage_name : List Placed → ℕ → Option (List ℕ)
stage_name cs n = if is_stage (construct_at cs n).body then Some (staged_name cs n) else None

-- the artifact id of a stack is its id directly under the app, else the unique id of its path
abbrev pub stack_artifact : List Placed → ℕ → Option (List ℕ)
stack_artifact cs n = if option_eq nat_eq (construct_at cs n).parent (Some 0) then Some (construct_at cs n).head.id else unique_id (ids_below cs 0 n)

-- of a stack, or of a stage's nested assembly
abbrev pub artifact_id : List Placed → ℕ → Option (List ℕ)
artifact_id cs n =
    if is_stack (construct_at cs n).body then stack_artifact cs n
    else (if is_stage (construct_at cs n).body then Some (codes "assembly-" ++ staged_name cs n)
    else None)

-- ---- their forms

abbrev pub is_some_and : (List ℕ → Bool) → Option (List ℕ) → Bool
is_some_and test name = option_map_or test name false

-- an artifact id needs at least one character
abbrev pub is_artifact_id : List ℕ → Bool
is_artifact_id [] = false
is_artifact_id (c ∷ s) = true

-- a name is absent or of wrong form
abbrev pub is_element_misnamed : List Placed → ℕ → Bool
is_element_misnamed cs n = is_element (construct_at cs n).body && not (is_some_and is_logical (logical_name cs n))

abbrev pub is_stack_misnamed : List Placed → ℕ → Bool
is_stack_misnamed cs n = is_stack (construct_at cs n).body && not (is_some_and is_stack_name (stack_name cs n) && is_some_and is_artifact_id (artifact_id cs n))

abbrev pub is_stage_misnamed : List Placed → ℕ → Bool
is_stage_misnamed cs n = is_stage (construct_at cs n).body && not (is_stack_name (construct_at cs n).head.id && is_some_and is_stack_name (stage_name cs n))

abbrev pub is_misnamed : List Placed → ℕ → Bool
is_misnamed cs n = is_element_misnamed cs n || (is_stack_misnamed cs n || is_stage_misnamed cs n)
