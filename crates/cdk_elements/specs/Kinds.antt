-- The stacks of a tree, and their constructs by kind, by numbers in walk order (own).
use Rattle.std.specs.Prelude.{ℕ, ◌==◌, ◌&&◌, List, filter, length, Bool, true, false, Option, Some, None}
use Rattle.std.specs.List.{range_with_len}
use Rattle.cdk_language.specs.Construct as language
use Rattle.cdk_language.specs.Construct.{Body}
use Rattle.cdk_tree.specs.Placed.{Placed, construct_at, is_stack}

abbrev pub is_output : Body → Bool
is_output (language.output o) = true
is_output b = false

abbrev pub is_in : ℕ → Option ℕ → Bool
is_in stack None = false
is_in stack (Some n) = n == stack

-- those of the numbers that are a stack's constructs of a kind
abbrev pub among : List Placed → ℕ → (Body → Bool) → List ℕ → List ℕ
among cs stack kind ns = filter (λ n. is_in stack (construct_at cs n).stack && kind (construct_at cs n).body) ns

-- a stack's constructs of a kind
abbrev pub of_kind : List Placed → ℕ → (Body → Bool) → List ℕ
of_kind cs stack kind = among cs stack kind (range_with_len 0 (length cs))

-- the numbers of the stacks
abbrev pub stacks_of : List Placed → List ℕ
stacks_of cs = filter (λ n. is_stack (construct_at cs n).body) (range_with_len 0 (length cs))
