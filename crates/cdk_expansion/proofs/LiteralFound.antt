-- What a Context that is right finds: a literal without markers, and as a piece of a Concat one that has a text.
use Rattle.std.proofs.Common.{◌≡◌, Bool, true, false, not, Option, Some, None, is_some, refl, sym, true≢false, unwrap_or}
use Rattle.std.specs.Option.{option_map_or}
use Rattle.std.proofs.lemmas.Bool.{and_parts}
use Rattle.serde_json.specs.Data.{Num, Data, null, boolean, number, string, array, object}
use Rattle.cdk_base.specs.Json.{is_whole, text_of}
use Rattle.cdk_base.specs.Marker.{holds_marker}
use Rattle.cdk_expansion.specs.Clean.{is_literal, is_clean_value}
use Rattle.cdk_tree.specs.Expected.{is_array_or_object}

is_false : (b : Bool) → not b ≡ true → b ≡ false
is_false true e = sym e
is_false false e = refl

pub clean_is_unmarked : (d : Data) → is_clean_value d ≡ true → holds_marker d ≡ false
clean_is_unmarked d clean = is_false (holds_marker d) ((and_parts (is_literal d) (not (holds_marker d)) clean).1)

pub found_is_clean : (o : Option Data) → option_map_or is_clean_value o false ≡ true → is_clean_value (unwrap_or o null) ≡ true
found_is_clean None right = absurd (true≢false (sym right))
found_is_clean (Some d) right = right

pub whole_has_text : (n : Num) → is_whole n ≡ true → is_some (text_of (number n)) ≡ true
whole_has_text n whole = rw whole

pub clean_has_text : (d : Data) → is_clean_value d ≡ true → is_array_or_object d ≡ false → is_some (text_of d) ≡ true
clean_has_text null clean one = absurd (true≢false (sym clean))
clean_has_text (boolean b) clean one = refl
clean_has_text (number n) clean one = whole_has_text n ((and_parts (is_whole n) true clean).0)
clean_has_text (string s) clean one = refl
clean_has_text (array ds) clean one = absurd (true≢false one)
clean_has_text (object ms) clean one = absurd (true≢false one)
