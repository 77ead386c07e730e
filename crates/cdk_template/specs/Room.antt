-- How many constructs of each kind a template may still take (own).
use Rattle.std.specs.Prelude.{ℕ, zero, suc, ◌||◌, List, length, nat_lt, Bool, Option, Some, None, option_map, if◌then◌else◌}
use Rattle.cdk_elements.specs.Kinds.{among, is_in, is_output}
use Rattle.cdk_language.specs.Construct as language
use Rattle.cdk_language.specs.Construct.{Body}
use Rattle.cdk_tree.specs.Expected.{is_resource, is_parameter, is_mapping}
use Rattle.cdk_tree.specs.Placed.{Placed, construct_at}
use Rattle.cdk_template.specs.declared.room.Room.{Room}

-- so many of each kind are too many
abbrev pub is_over : Room → ℕ → ℕ → ℕ → ℕ → Bool
is_over room resources parameters mappings outputs =
    nat_lt room.resources resources || (nat_lt room.parameters parameters || (nat_lt room.mappings mappings || nat_lt room.outputs outputs))

-- those of the numbers that are a stack's constructs are too many
abbrev pub is_exceeded : Room → List Placed → ℕ → List ℕ → Bool
is_exceeded room cs stack ns =
    is_over room (length (among cs stack is_resource ns)) (length (among cs stack is_parameter ns)) (length (among cs stack is_mapping ns)) (length (among cs stack is_output ns))

abbrev pub one_less : ℕ → Option ℕ
one_less zero = None
one_less (suc n) = Some n

-- the room beside a construct; None where there is none for it
abbrev pub room_beside : Room → Body → Option Room
room_beside room (language.resource r) = option_map (λ n. record room { resources = n }) (one_less room.resources)
room_beside room (language.parameter p) = option_map (λ n. record room { parameters = n }) (one_less room.parameters)
room_beside room (language.mapping m) = option_map (λ n. record room { mappings = n }) (one_less room.mappings)
room_beside room (language.output o) = option_map (λ n. record room { outputs = n }) (one_less room.outputs)
room_beside room b = Some room

-- a stack's room beside the construct of a number
abbrev pub room_in : List Placed → ℕ → Room → ℕ → Option Room
room_in cs stack room n = if is_in stack (construct_at cs n).stack then room_beside room (construct_at cs n).body else Some room
