-- Texts of JSON values, and the keys that make an object an intrinsic.
use Rattle.std.specs.Prelude.{ℕ, ◌^◌, pos, negsuc, List, Bool, true, false, ◌||◌, Option, Some, None, nat_lt, if◌then◌else◌, codes, nat_eq}
use Rattle.std.specs.List.{starts_with}
use Rattle.std.specs.Str.{bytes_eq, is_utf8}
use Rattle.serde_json.specs.Data.{Num, unsigned, negative, float, Data, null, boolean, number, string, array, object}
use Rattle.serde_json.specs.Read.{read}
use Rattle.serde_json.specs.Written.{number_text}

-- The number is whole and within 64 bits, signed or not. JSON's other numbers are no literals here (own profile).
abbrev pub is_whole : Num → Bool
is_whole (unsigned n) = nat_lt n (2 ^ 64)
is_whole (negative (pos n)) = false
is_whole (negative (negsuc n)) = nat_lt n (2 ^ 63)
is_whole (float x) = false

abbrev pub truth_text : Bool → List ℕ
truth_text true = codes "true"
truth_text false = codes "false"

-- The text of a literal: a text itself, a whole number's decimals, `true` or `false`. Nothing else has one
-- (CloudFormation: the functions that take texts take numbers and truth values as their texts).
abbrev pub text_of : Data → Option (List ℕ)
text_of null = None
text_of (boolean b) = Some (truth_text b)
text_of (number n) = if is_whole n then Some (number_text n) else None
text_of (string s) = Some s
text_of (array ds) = None
text_of (object ms) = None

-- A key that makes an object of a template an intrinsic (CloudFormation's intrinsic function reference).
abbrev pub is_intrinsic_key : List ℕ → Bool
is_intrinsic_key k = bytes_eq k (codes "Ref") || starts_with nat_eq k (codes "Fn::")

-- A key that makes an object of an application one of its forms: the intrinsics and the application's own.
abbrev pub is_form_key : List ℕ → Bool
is_form_key k = is_intrinsic_key k || starts_with nat_eq k (codes "CDK::")

-- The value of a text, where the bytes are UTF-8 and JSON (RFC 8259) that nests at most 127 deep. Of equal keys of an
-- object the last one counts, and a number that is no float's and not whole of 64 bits makes the text none.
abbrev pub parsed : List ℕ → Option Data
parsed bytes = if is_utf8 bytes then read bytes else None
