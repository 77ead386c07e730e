-- What a step of the iterator takes off the text, and that the text may be cut there.
use Rattle.std.proofs.Common.{◌≡◌, ◌≢◌, ℕ, suc, ◌+◌, ◌-◌, ◌<◌, ◌≤◌, List, [], ◌∷◌, ◌++◌, length, take, drop, get_or, slice_range, ◌==◌, codes, Bool, true, false, IsUtf8, IsCharBoundary, Option, Some, None, is_some, unwrap_or, option_map, refl, sym, ap, ap₂, ◌∙◌, subst, append_assoc, arith}
use Rattle.std.proofs.lemmas.Bool.{true≢false}
use Rattle.std.proofs.lemmas.List.{get_or-append-add, length-append, drop_more, length-drop}
use Rattle.std.proofs.lemmas.Str.{IsCharBoundary-after_ascii}
use Rattle.std.proofs.Math.Seq.{take-append_seam, drop-append_seam, take-length}
use Rattle.cdk_markers.specs.Key.{text_marker}
use Rattle.cdk_markers.specs.Pieces.{Piece, literal, key}
use Rattle.cdk_markers.specs.Cut.{first_key, cut_of, literal_len}
use Rattle.cdk_markers.proofs.FirstKey.{BeginsWith, first_key-some, marker_shape}
use Rattle.cdk_markers.proofs.CutSteps.{cut-marker, cut-literal, literal_len-none, literal_len-some}

is_some_map : {A B : Type 0} (f : A → B) (o : Option A) → is_some (option_map f o) ≡ is_some o
is_some_map f None = refl
is_some_map f (Some x) = refl

-- the scan for the first marker

stop : (s : List ℕ) → is_some (first_key s) ≡ true → literal_len s ≡ 0
stop [] e = refl
stop (x ∷ xs) e = rw e refl

go : (x : ℕ) (xs : List ℕ) → is_some (first_key (x ∷ xs)) ≡ false → literal_len (x ∷ xs) ≡ 1 + literal_len xs
go x xs e = rw e refl

rest_of : (s : List ℕ) (at : ℕ) → take (length s - at) (drop at s) ≡ drop at s
rest_of s at = ap (λ n. take n (drop at s)) (sym (length-drop at s)) ∙ take-length (drop at s)

tested : (s : List ℕ) (at : ℕ) (b : Option ℕ) (r : Bool) → b ≡ option_map length (first_key (take (length s - at) (drop at s))) → r ≡ is_some b → is_some (first_key (drop at s)) ≡ r
tested s at b r e f = ap (λ t. is_some (first_key t)) (sym (rest_of s at)) ∙ (sym (is_some_map length (first_key (take (length s - at) (drop at s)))) ∙ (ap is_some (sym e) ∙ sym f))

pub scan_stops : (s : List ℕ) (at : ℕ) (b : Option ℕ) (r : Bool) → b ≡ option_map length (first_key (take (length s - at) (drop at s))) → r ≡ is_some b → r ≡ true → literal_len s ≡ at + literal_len (drop at s) → at ≡ literal_len s
scan_stops s at b r e f g h = sym (h ∙ (ap (λ n. at + n) (stop (drop at s) (tested s at b r e f ∙ g)) ∙ omega arith))

pub scan_goes : (s : List ℕ) (at : ℕ) (b : Option ℕ) (r : Bool) → at < length s → b ≡ option_map length (first_key (take (length s - at) (drop at s))) → r ≡ is_some b → r ≡ false → literal_len s ≡ at + literal_len (drop at s) → literal_len s ≡ (at + 1) + literal_len (drop (at + 1) s)
scan_goes s at b r low e f g h =
    let here : drop at s ≡ get_or s at 0 ∷ drop (at + 1) s = drop_more s at 0 low in
    let more : literal_len (get_or s at 0 ∷ drop (at + 1) s) ≡ 1 + literal_len (drop (at + 1) s) = go (get_or s at 0) (drop (at + 1) s) (ap (λ t. is_some (first_key t)) (sym here) ∙ (tested s at b r e f ∙ g)) in
    let n : ℕ = literal_len (drop (at + 1) s) in
    h ∙ (ap (λ t. at + literal_len t) here ∙ (ap (λ i. at + i) more ∙ omega arith))

-- a key

pub record Found (s : List ℕ) (n : ℕ) : Type 0 where
  pub found : List ℕ
  pub begins : BeginsWith s found
  pub len : length found ≡ n

found_at : (s : List ℕ) (n : ℕ) (o : Option (List ℕ)) → first_key s ≡ o → Some n ≡ option_map length o → Found s n
found_at s n None e f = absurd (true≢false (ap is_some f))
found_at s n (Some k) e f = record { found = k; begins = first_key-some s k e; len = sym (ap (λ o. unwrap_or o 0) f) }

found_key : (s bytes : List ℕ) (n : ℕ) (r : Option ℕ) → bytes ≡ s → r ≡ option_map length (first_key bytes) → r ≡ Some n → Found s n
found_key s bytes n r same e f = found_at s n (first_key s) refl (sym f ∙ (e ∙ ap (λ t. option_map length (first_key t)) same))

found_shape : (s : List ℕ) (n : ℕ) (f : Found s n) → s ≡ (codes "${Token[" ++ f.found) ++ (93 ∷ (125 ∷ f.begins.rest))
found_shape s n f = f.begins.spelled ∙ (marker_shape f.found f.begins.rest ∙ sym (append_assoc (codes "${Token[") f.found (93 ∷ (125 ∷ f.begins.rest))))

found_front : (s : List ℕ) (n : ℕ) (f : Found s n) → length (codes "${Token[" ++ f.found) ≡ 8 + n
found_front s n f = length-append (codes "${Token[") f.found ∙ ap (λ i. 8 + i) f.len

found_byte : (s : List ℕ) (n i : ℕ) (f : Found s n) → get_or s (8 + n + i) 0 ≡ get_or (93 ∷ (125 ∷ f.begins.rest)) i 0
found_byte s n i f =
    let front : List ℕ = codes "${Token[" ++ f.found in
    let whole : List ℕ = front ++ (93 ∷ (125 ∷ f.begins.rest)) in
    ap₂ (λ t j. get_or t j 0) (found_shape s n f) (ap (λ j. j + i) (sym (found_front s n f))) ∙ get_or-append-add front (93 ∷ (125 ∷ f.begins.rest)) i 0

found_length : (s : List ℕ) (n : ℕ) (f : Found s n) → length s ≡ 8 + n + (2 + length f.begins.rest)
found_length s n f = ap length (found_shape s n f) ∙ (length-append (codes "${Token[" ++ f.found) (93 ∷ (125 ∷ f.begins.rest)) ∙ ap₂ (λ i j. i + j) (found_front s n f) (omega arith))

boundary : (s : List ℕ) (n : ℕ) → IsUtf8 s → Found s n → IsCharBoundary s (8 + n + 2)
boundary s n utf8 f =
    let long = found_length s n f in
    let last : get_or s (8 + n + 1) 0 ≡ 125 = found_byte s n 1 f in
    let P : ℕ → Type 0 = λ i. IsCharBoundary s i in
    subst P (omega arith) (IsCharBoundary-after_ascii s (8 + n + 1) utf8 (omega (arith, long)) (omega (arith, last)))

pub key_boundary : (s : List ℕ) (n : ℕ) (bytes : List ℕ) (r : Option ℕ) → bytes ≡ s → IsUtf8 bytes → r ≡ option_map length (first_key bytes) → r ≡ Some n → IsCharBoundary s (8 + n + 2)
key_boundary s n bytes r same utf8 e f = boundary s n (subst IsUtf8 same utf8) (found_key s bytes n r same e f)

found_step : (s : List ℕ) (n : ℕ) (taken rest : List ℕ) → Found s n → taken ≡ take (8 + n - 8) (drop 8 s) → rest ≡ drop (8 + n + 2) s → cut_of s ≡ key taken ∷ cut_of rest
found_step s n taken rest f e g =
    let k : List ℕ = f.found in
    let after : List ℕ = f.begins.rest in
    let opened : drop 8 s ≡ k ++ (93 ∷ (125 ∷ after)) = ap (drop 8) (f.begins.spelled ∙ marker_shape k after) in
    let size : 8 + n - 8 ≡ length k = omega (arith, f.len) in
    let front : taken ≡ k = e ∙ (ap₂ take size opened ∙ take-append_seam k (93 ∷ (125 ∷ after))) in
    let whole : List ℕ = text_marker k in
    let long : 8 + n + 2 ≡ length whole = sym (length-append (codes "${Token[") (k ++ codes "]}") ∙ (ap (λ i. 8 + i) (length-append k (codes "]}")) ∙ omega (arith, f.len))) in
    let back : rest ≡ after = g ∙ (ap₂ drop long f.begins.spelled ∙ drop-append_seam whole after) in
    ap cut_of f.begins.spelled ∙ (cut-marker k after f.begins.right ∙ ap₂ (λ a b. key a ∷ cut_of b) (sym front) (sym back))

pub key_step : (s : List ℕ) (n : ℕ) (bytes taken rest : List ℕ) (r : Option ℕ) → bytes ≡ s → r ≡ option_map length (first_key bytes) → r ≡ Some n → taken ≡ slice_range s 8 (8 + n) → rest ≡ drop (8 + n + 2) s → cut_of s ≡ key taken ∷ cut_of rest
key_step s n bytes taken rest r same e f g h = found_step s n taken rest (found_key s bytes n r same e f) g h

-- a literal

pub full_text : (s : List ℕ) (b : Bool) → b ≡ (length s == 0) → b ≡ false → s ≢ []
full_text s b e f g = true≢false (ap (λ t. length t == 0) (sym g) ∙ (sym e ∙ f))

none_at : (o : Option (List ℕ)) → None ≡ option_map length o → o ≡ None
none_at None e = refl
none_at (Some k) e = absurd (true≢false (sym (ap is_some e)))

pub no_key : (s bytes : List ℕ) (r : Option ℕ) → bytes ≡ s → r ≡ option_map length (first_key bytes) → r ≡ None → first_key s ≡ None
no_key s bytes r same e f = none_at (first_key s) (sym f ∙ (e ∙ ap (λ t. option_map length (first_key t)) same))

first_dollar : (x : ℕ) (xs k : List ℕ) → first_key (x ∷ xs) ≡ Some k → x ≡ 36
first_dollar x xs k e = ap (λ s. get_or s 0 0) ((first_key-some (x ∷ xs) k e).spelled)

le_step : (x : ℕ) (xs : List ℕ) (o : Option (List ℕ)) → first_key (x ∷ xs) ≡ o → literal_len xs ≤ length xs → literal_len (x ∷ xs) ≤ suc (length xs)
le_step x xs None e h = omega (arith, literal_len-none x xs e, h)
le_step x xs (Some k) e h = omega (arith, literal_len-some x xs k e)

literal_len-le : (s : List ℕ) → literal_len s ≤ length s
literal_len-le [] = omega arith
literal_len-le (x ∷ xs) = le_step x xs (first_key (x ∷ xs)) refl (literal_len-le xs)

abbrev EndsAtDollar : List ℕ → ℕ → Type 0
EndsAtDollar s n = n < length s → get_or s n 0 ≡ 36

dollar_step : (x : ℕ) (xs : List ℕ) (o : Option (List ℕ)) → first_key (x ∷ xs) ≡ o → EndsAtDollar xs (literal_len xs) → EndsAtDollar (x ∷ xs) (literal_len (x ∷ xs))
dollar_step x xs None e h = let P : ℕ → Type 0 = λ n. EndsAtDollar (x ∷ xs) n in subst P (sym (literal_len-none x xs e)) (λ low. h (omega (arith, low)))
dollar_step x xs (Some k) e h = let P : ℕ → Type 0 = λ n. EndsAtDollar (x ∷ xs) n in subst P (sym (literal_len-some x xs k e)) (λ low. first_dollar x xs k e)

ends_at_dollar : (s : List ℕ) → EndsAtDollar s (literal_len s)
ends_at_dollar [] = λ low. absurd (omega (arith, low))
ends_at_dollar (x ∷ xs) = dollar_step x xs (first_key (x ∷ xs)) refl (ends_at_dollar xs)

at_literal : (s : List ℕ) (n : ℕ) → n ≡ literal_len s → IsCharBoundary s n
at_literal s n e =
    let le : literal_len s ≤ length s = literal_len-le s in
    let ends : EndsAtDollar s (literal_len s) = ends_at_dollar s in
    let P : ℕ → Type 0 = λ i. IsCharBoundary s i in
    subst P (sym e) (le, λ low high. absurd (omega (arith, ends low, high)))

pub literal_boundary : (s : List ℕ) (n : ℕ) (bytes : List ℕ) → bytes ≡ s → n ≡ literal_len bytes → IsCharBoundary s n
literal_boundary s n bytes same e = at_literal s n (e ∙ ap literal_len same)

literal_first : (s : List ℕ) (n : ℕ) (taken rest : List ℕ) → s ≢ [] → first_key s ≡ None → n ≡ literal_len s → taken ≡ take n s → rest ≡ drop n s → cut_of s ≡ literal taken ∷ cut_of rest
literal_first [] n taken rest full none e f g = absurd (full refl)
literal_first (x ∷ xs) n taken rest full none e f g =
    let s : List ℕ = x ∷ xs in
    cut-literal x xs none ∙ ap₂ (λ a b. literal a ∷ cut_of b) (sym (f ∙ ap (λ i. take i s) e)) (sym (g ∙ ap (λ i. drop i s) e))

pub literal_step : (s : List ℕ) (n : ℕ) (bytes taken rest : List ℕ) → s ≢ [] → first_key s ≡ None → bytes ≡ s → n ≡ literal_len bytes → taken ≡ slice_range s 0 n → rest ≡ drop n s → cut_of s ≡ literal taken ∷ cut_of rest
literal_step s n bytes taken rest full none same e f g =
    literal_first s n taken rest full none (e ∙ ap literal_len same) (f ∙ ap (λ i. take i s) (omega arith)) g

-- what is left after a piece is shorter
pub fewer : (ps qs : List Piece) (p : Piece) → ps ≡ p ∷ qs → length qs < length ps
fewer ps qs p e = omega (arith, ap length e)
