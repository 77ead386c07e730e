-- The decimals of a number match no part of a marker's beginning.
use Rattle.std.proofs.Common.{◌≡◌, ◌≢◌, ℕ, zero, suc, ◌^◌, ◌<◌, ◌≤◌, pos, negsuc, List, [], ◌∷◌, ◌++◌, length, eqb, Bool, true, false, cond, Some, None, refl, sym, ap, ◌∙◌, arith}
use Rattle.std.specs.Prelude.{nat_lt, decimal}
use Rattle.std.specs.Char.{digit_value}
use Rattle.std.specs.Str.Parse.{AllDigits}
use Rattle.std.proofs.lemmas.Bool.{ne_eqb, eqb-true, eqb-false, ltb-true}
use Rattle.std.proofs.lemmas.Fmt.{decimal_is_IsNumeral}
use Rattle.serde_json.specs.Data.{Num, unsigned, negative, float, number}
use Rattle.cdk_base.specs.Json.{text_of}
use Rattle.cdk_language.specs.Runs.{Literals, no_literal, is_marked_run}
use Rattle.cdk_runs.specs.Reads.{Reads, opening, step}
use Rattle.cdk_runs.proofs.Opening.{run-step, reads-other, reads-whole}

no_digit : (b k : ℕ) → 10 ≤ digit_value k → digit_value b < 10 → eqb b k ≡ false
no_digit b k h d = ne_eqb b k (λ e. absurd (omega (arith, ap digit_value e)))

digit_step : (n b : ℕ) → n < 8 → digit_value b < 10 → step n b ≡ 0
digit_step zero b h d = rw (no_digit b 36 (omega arith) d, no_digit b 35 (omega arith) d) refl
digit_step (suc zero) b h d = rw (no_digit b 123 (omega arith) d, no_digit b 36 (omega arith) d, no_digit b 35 (omega arith) d) refl
digit_step (suc (suc zero)) b h d = rw (no_digit b 84 (omega arith) d, no_digit b 36 (omega arith) d, no_digit b 35 (omega arith) d) refl
digit_step (suc (suc (suc zero))) b h d = rw (no_digit b 111 (omega arith) d, no_digit b 36 (omega arith) d, no_digit b 35 (omega arith) d) refl
digit_step (suc (suc (suc (suc zero)))) b h d = rw (no_digit b 107 (omega arith) d, no_digit b 36 (omega arith) d, no_digit b 35 (omega arith) d) refl
digit_step (suc (suc (suc (suc (suc zero))))) b h d = rw (no_digit b 101 (omega arith) d, no_digit b 36 (omega arith) d, no_digit b 35 (omega arith) d) refl
digit_step (suc (suc (suc (suc (suc (suc zero)))))) b h d = rw (no_digit b 110 (omega arith) d, no_digit b 36 (omega arith) d, no_digit b 35 (omega arith) d) refl
digit_step (suc (suc (suc (suc (suc (suc (suc zero))))))) b h d = rw (no_digit b 91 (omega arith) d, no_digit b 36 (omega arith) d, no_digit b 35 (omega arith) d) refl
digit_step (suc (suc (suc (suc (suc (suc (suc (suc n)))))))) b h d = absurd (omega arith)

minus_step : (n : ℕ) → n < 8 → step n 45 ≡ 0
minus_step zero h = refl
minus_step (suc zero) h = refl
minus_step (suc (suc zero)) h = refl
minus_step (suc (suc (suc zero))) h = refl
minus_step (suc (suc (suc (suc zero)))) h = refl
minus_step (suc (suc (suc (suc (suc zero))))) h = refl
minus_step (suc (suc (suc (suc (suc (suc zero)))))) h = refl
minus_step (suc (suc (suc (suc (suc (suc (suc zero))))))) h = refl
minus_step (suc (suc (suc (suc (suc (suc (suc (suc n)))))))) h = absurd (omega arith)

digits_after : (s : List ℕ) (ps : Literals) → AllDigits 10 s → is_marked_run s ps ≡ is_marked_run [] ps
digits_after [] ps d = refl
digits_after (b ∷ s) ps d = run-step 0 b s ps (omega arith) ∙ ap (λ m. is_marked_run (opening m ++ s) ps) (digit_step 0 b (omega arith) d.0) ∙ digits_after s ps d.1

digits_run : (n : ℕ) (s : List ℕ) (ps : Literals) → n < 8 → AllDigits 10 s → 0 < length s → is_marked_run (opening n ++ s) ps ≡ is_marked_run [] ps
digits_run n [] ps h d e = absurd (omega arith)
digits_run n (b ∷ s) ps h d e = run-step n b s ps (omega arith) ∙ ap (λ m. is_marked_run (opening m ++ s) ps) (digit_step n b h d.0) ∙ digits_after s ps d.1

reads_unsigned : (n k : ℕ) (t : Bool) → nat_lt k (2 ^ 64) ≡ t → n < 8 → Reads n (cond t (Some (decimal k)) None ∷ []) 0
reads_unsigned n k false e h = reads-other n h
reads_unsigned n k true e h =
    let small : k < 2 ^ 64 = ltb-true k (2 ^ 64) e in
    let digits = (decimal_is_IsNumeral k small).0 in
    record { bound = omega arith; same = λ ps. digits_run n (decimal k) ps h digits.1 digits.0 }

reads_negative : (n k : ℕ) (t : Bool) → nat_lt k (2 ^ 63) ≡ t → n < 8 → Reads n (cond t (Some (45 ∷ decimal (suc k))) None ∷ []) 0
reads_negative n k false e h = reads-other n h
reads_negative n k true e h =
    let below : k < 2 ^ 63 = ltb-true k (2 ^ 63) e in
    let small : suc k < 2 ^ 64 = omega arith in
    let digits = (decimal_is_IsNumeral (suc k) small).0 in
    record { bound = omega arith; same = λ ps. run-step n 45 (decimal (suc k)) ps (omega arith) ∙ ap (λ m. is_marked_run (opening m ++ decimal (suc k)) ps) (minus_step n h) ∙ digits_after (decimal (suc k)) ps digits.1 }

pub reads-number : (n : ℕ) (x : Num) → n < 8 → Reads n (text_of (number x) ∷ []) 0
reads-number n (unsigned k) h = reads_unsigned n k (nat_lt k (2 ^ 64)) refl h
reads-number n (negative (pos k)) h = reads-other n h
reads-number n (negative (negsuc k)) h = reads_negative n k (nat_lt k (2 ^ 63)) refl h
reads-number n (float x) h = reads-other n h

-- so a number does to a run what ends it
number_by : (n m : ℕ) (x : Num) (t : Bool) → eqb n 8 ≡ t → n ≤ 8 → Reads n no_literal m → Reads n (text_of (number x) ∷ []) m
number_by n m x true e h r =
    record {
      bound = r.bound;
      same = λ ps. let whole : n ≡ 8 = eqb-true n 8 e in
          ap (λ k. is_marked_run (opening k) (text_of (number x) ∷ ps)) whole ∙ (reads-whole (text_of (number x) ∷ [])).same ps ∙ sym ((reads-whole no_literal).same ps)
          ∙ sym (ap (λ k. is_marked_run (opening k) (no_literal ++ ps)) whole) ∙ r.same ps;
    }
number_by n m x false e h r =
    let ne : n ≢ 8 = eqb-false n 8 e in
    let part : n < 8 = omega arith in
    record { bound = r.bound; same = λ ps. (reads-number n x part).same ps ∙ sym ((reads-other n part).same ps) ∙ r.same ps }

pub reads-number_as_other : (n m : ℕ) (x : Num) → n ≤ 8 → Reads n no_literal m → Reads n (text_of (number x) ∷ []) m
reads-number_as_other n m x = number_by n m x (eqb n 8) refl
