-- The value of bytes, from what the reader of `serde_json` tells of them.
use Rattle.std.proofs.Common.{◌≡◌, ℕ, List, Bool, true, false, Option, Some, None, if◌then◌else◌, refl}
use Rattle.std.specs.Str.{IsUtf8, is_utf8}
use Rattle.std.proofs.lemmas.Str.{IsUtf8-from_is_utf8, is_utf8-from_IsUtf8}
use Rattle.serde_json.specs.Data.{Data}
use Rattle.serde_json.specs.Read.{read}
use Rattle.cdk_base.specs.Json.{parsed}

pub parsed_some : (bytes : List ℕ) (d : Data) → IsUtf8 bytes → read bytes ≡ Some d → parsed bytes ≡ Some d
parsed_some bytes d utf8 e = rw (is_utf8-from_IsUtf8 bytes utf8) e

none_either : (b : Bool) (o : Option Data) → (b ≡ true → o ≡ None) → (if b then o else None) ≡ None
none_either true o h = h refl
none_either false o h = refl

pub parsed_none : (bytes : List ℕ) → (IsUtf8 bytes → read bytes ≡ None) → parsed bytes ≡ None
parsed_none bytes h = none_either (is_utf8 bytes) (read bytes) (λ e. h (IsUtf8-from_is_utf8 bytes e))

taken : (b : Bool) (o : Option Data) (d : Data) → (if b then o else None) ≡ Some d → o ≡ Some d
taken true o d e = e
taken false o d e = cc

-- what is parsed is read
pub read_parsed : (bytes : List ℕ) (d : Data) → parsed bytes ≡ Some d → read bytes ≡ Some d
read_parsed bytes d e = taken (is_utf8 bytes) (read bytes) d e
