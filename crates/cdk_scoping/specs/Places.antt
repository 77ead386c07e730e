-- Which kinds of construct may stand where (AWS CDK's stages and stacks; the bound on levels is own).
use Rattle.std.specs.Prelude.{ℕ, ◌&&◌, ◌||◌, nat_le, not, Bool, true, false}
use Rattle.cdk_language.specs.Construct as language
use Rattle.cdk_language.specs.Construct.{Body}

abbrev pub is_stack : Body → Bool
is_stack (language.stack d) = true
is_stack b = false

abbrev pub is_stage : Body → Bool
is_stage language.stage = true
is_stage b = false

-- what a template holds: resources, parameters, conditions, mappings and outputs
abbrev pub is_element : Body → Bool
is_element (language.resource r) = true
is_element (language.parameter p) = true
is_element (language.condition_body c) = true
is_element (language.mapping m) = true
is_element (language.output o) = true
is_element b = false

-- a stack or stage in a stack, an element outside every stack, or more than ten levels below the root
abbrev pub is_misplaced : Bool → ℕ → Body → Bool
is_misplaced in_stack level b = ((is_stack b || is_stage b) && in_stack) || ((is_element b && not in_stack) || nat_le 11 level)
