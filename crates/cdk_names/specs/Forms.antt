-- The forms of logical names (CloudFormation's template reference, AWS CDK's check) and of stack names (CloudFormation's
-- CreateStack), and the name of a generated export (after AWS CDK; the cut is own).
use Rattle.std.specs.Prelude.{ℕ, ◌-◌, ◌&&◌, ◌||◌, List, [], ◌∷◌, ◌++◌, length, drop, Bool, false, codes, nat_le, nat_eq}
use Rattle.std.specs.Char.{is_ascii_alphabetic, is_ascii_alphanumeric}
use Rattle.std.specs.List.{list_all}

-- a letter followed by letters and digits, 1 to 255 in all
abbrev pub is_logical : List ℕ → Bool
is_logical [] = false
is_logical (c ∷ cs) = is_ascii_alphabetic c && (list_all is_ascii_alphanumeric cs && nat_le (length (c ∷ cs)) 255)

-- a letter, a digit or `-`
abbrev pub is_stack_name_byte : ℕ → Bool
is_stack_name_byte c = is_ascii_alphanumeric c || nat_eq c 45

-- a letter followed by letters, digits and `-`, at most 128 in all
abbrev pub is_stack_name : List ℕ → Bool
is_stack_name [] = false
is_stack_name (c ∷ cs) = is_ascii_alphabetic c && (list_all is_stack_name_byte cs && nat_le (length (c ∷ cs)) 128)

-- the last n bytes, or all where there are fewer
abbrev pub last_of : ℕ → List ℕ → List ℕ
last_of n s = drop (length s - n) s

-- the stack's name, `:` and as much of the end of the logical name as fits in 255
abbrev pub export_name : List ℕ → List ℕ → List ℕ
export_name stack logical = stack ++ codes ":" ++ last_of (254 - length stack) logical
