-- The measure of the token of a number, by those of lower numbers.
use Rattle.std.proofs.Common.{◌≡◌, ◌<◌, ℕ, zero, suc, ◌+◌, List, [], ◌∷◌, ◌++◌, length, take, Option, Some, option_map, option_and_then, sym, ap, ◌∙◌, append_assoc, append-nil, length-append, arith}
use Rattle.std.specs.Prelude.{slice_get}
use Rattle.std.proofs.lemmas.List.{take_all, take_at}
use Rattle.cdk_value_measures.proofs.Places.{get-at, get-past, get-take}
use Rattle.cdk_value_measures.specs.Expanding.{form_measure, known_below, known_by, known_in, measures_after, token_measures}
use Rattle.cdk_measure.specs.declared.measure.Measure.{Measure}
use Rattle.cdk_tokens.specs.Token.{find_token, Token}

-- what stands in front stays there
record Begins (whole done : List Measure) : Type 0 where
  more : List Measure
  same : whole ≡ done ++ more

begun : (path : ℕ → List ℕ) (lazies : ℕ → Measure) (ts rest : List Token) (done : List Measure) → Begins (measures_after path lazies ts done rest) done
begun path lazies ts [] done = record { more = []; same = sym (append-nil done) }
begun path lazies ts (t ∷ rest) done =
    let m : Measure = form_measure path lazies (known_by ts done) t.form in
    let b = begun path lazies ts rest (done ++ m ∷ []) in
    record { more = m ∷ b.more; same = b.same ∙ append_assoc done (m ∷ []) b.more }

-- of the token at the place i in the rest
abbrev found : (ℕ → List ℕ) → (ℕ → Measure) → List Token → List Measure → ℕ → Option Token → Option Measure
found path lazies ts whole n o = option_map (λ t. form_measure path lazies (known_by ts (take n whole)) t.form) o

found_first : (path : ℕ → List ℕ) (lazies : ℕ → Measure) (ts : List Token) (t : Token) (whole done more : List Measure) (n : ℕ)
    → whole ≡ done ++ form_measure path lazies (known_by ts done) t.form ∷ more → n ≡ length done → slice_get whole n ≡ found path lazies ts whole n (Some t)
found_first path lazies ts t whole done more n e at =
    let m : Measure = form_measure path lazies (known_by ts done) t.form in
    let front : take n whole ≡ done = ap (take n) e ∙ take_at done (m ∷ more) n (sym at) in
    ap (λ ms. slice_get ms n) e ∙ (get-at done more m n at ∙ ap (λ ms. Some (form_measure path lazies (known_by ts ms) t.form)) (sym front))

found_after : (path : ℕ → List ℕ) (lazies : ℕ → Measure) (ts rest : List Token) (done : List Measure) (i n : ℕ) → n ≡ length done + i
    → slice_get (measures_after path lazies ts done rest) n ≡ found path lazies ts (measures_after path lazies ts done rest) n (slice_get rest i)
found_after path lazies ts [] done i n e = get-past done n (omega (arith, e))
found_after path lazies ts (t ∷ rest) done zero n e =
    let m : Measure = form_measure path lazies (known_by ts done) t.form in
    let b = begun path lazies ts rest (done ++ m ∷ []) in
    found_first path lazies ts t (measures_after path lazies ts (done ++ m ∷ []) rest) done b.more n (b.same ∙ append_assoc done (m ∷ []) b.more) (omega (arith, e))
found_after path lazies ts (t ∷ rest) done (suc i) n e =
    let m : Measure = form_measure path lazies (known_by ts done) t.form in
    found_after path lazies ts rest (done ++ m ∷ []) i n (omega (arith, e, length-append done (m ∷ [])))

after-length : (path : ℕ → List ℕ) (lazies : ℕ → Measure) (ts rest : List Token) (done : List Measure) → length (measures_after path lazies ts done rest) ≡ length done + length rest
after-length path lazies ts [] done = omega arith
after-length path lazies ts (t ∷ rest) done =
    let m : Measure = form_measure path lazies (known_by ts done) t.form in
    let more = after-length path lazies ts rest (done ++ m ∷ []) in
    omega (arith, more, length-append done (m ∷ []))

-- ---- by keys

module _ (path : ℕ → List ℕ) (lazies : ℕ → Measure) (ts : List Token) where
  -- all tokens are known below their number
  pub known_to_all : known_below path lazies ts (length ts) ≡ known_in path lazies ts
  known_to_all = ap (known_by ts) (take_all (length ts) (token_measures path lazies ts) (omega (arith, after-length path lazies ts ts [])))

  found_below : (b n : ℕ) (k : List ℕ) → find_token ts k ≡ Some n → n < b
      → known_below path lazies ts b k ≡ option_map (λ t. form_measure path lazies (known_below path lazies ts n) t.form) (slice_get ts n)
  found_below b n k e h =
      ap (option_and_then (slice_get (take b (token_measures path lazies ts)))) e
      ∙ (get-take (token_measures path lazies ts) n b h ∙ found_after path lazies ts ts [] n n (omega arith))

  token_below : (b n : ℕ) (k : List ℕ) (t : Token) → find_token ts k ≡ Some n → n < b → slice_get ts n ≡ Some t
      → known_below path lazies ts b k ≡ Some (form_measure path lazies (known_below path lazies ts n) t.form)
  token_below b n k t e h at = found_below b n k e h ∙ ap (option_map (λ u. form_measure path lazies (known_below path lazies ts n) u.form)) at

  pub measured_below : (b n : ℕ) (k : List ℕ) (t : Token) (m : Measure) → find_token ts k ≡ Some n → n < b → slice_get ts n ≡ Some t
      → m ≡ form_measure path lazies (known_below path lazies ts n) t.form → Some m ≡ known_below path lazies ts b k
  measured_below b n k t m e h at same = ap Some same ∙ sym (token_below b n k t e h at)
