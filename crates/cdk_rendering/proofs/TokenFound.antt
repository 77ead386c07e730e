-- What is found of the token of a number, by what is found of those of lower numbers.
use Rattle.std.proofs.Common.{◌≡◌, ◌<◌, ◌≤◌, ℕ, zero, suc, ◌+◌, List, [], ◌∷◌, ◌++◌, length, take, Option, Some, None, option_map, option_and_then, is_some, refl, sym, ap, ◌∙◌, append_assoc, append-nil, length-append, length-take, arith}
use Rattle.std.specs.Prelude.{slice_get}
use Rattle.std.proofs.lemmas.List.{take_all, take_at}
use Rattle.cdk_rendering.proofs.Places.{get-at, get-past, get-take, is_some-same, past-get}
use Rattle.cdk_rendering.specs.Folding.{Known, found_after, found_of_all, known_below, known_by, known_in}
use Rattle.cdk_tokens.specs.Token.{find_token, Form, Token}

-- what stands in front stays there
record Begins (A : Type 0) (whole done : List A) : Type 0 where
  more : List A
  same : whole ≡ done ++ more

module _ {A : Type 0} (form : Known A → Form → A) (ts : List Token) where
  begun : (rest : List Token) (done : List A) → Begins A (found_after form ts done rest) done
  begun [] done = record { more = []; same = sym (append-nil done) }
  begun (t ∷ rest) done =
      let a : A = form (known_by ts done) t.form in
      let b = begun rest (done ++ a ∷ []) in
      record { more = a ∷ b.more; same = b.same ∙ append_assoc done (a ∷ []) b.more }

  -- of the token at the place n, by what is found before it
  abbrev found_at : List A → ℕ → Option Token → Option A
  found_at whole n o = option_map (λ t. form (known_by ts (take n whole)) t.form) o

  found_first : (t : Token) (whole done more : List A) (n : ℕ)
      → whole ≡ done ++ form (known_by ts done) t.form ∷ more → n ≡ length done → slice_get whole n ≡ found_at whole n (Some t)
  found_first t whole done more n e at =
      let a : A = form (known_by ts done) t.form in
      let front : take n whole ≡ done = ap (take n) e ∙ take_at done (a ∷ more) n (sym at) in
      ap (λ xs. slice_get xs n) e ∙ (get-at done more a n at ∙ ap (λ xs. Some (form (known_by ts xs) t.form)) (sym front))

  found_in_rest : (rest : List Token) (done : List A) (i n : ℕ) → n ≡ length done + i
      → slice_get (found_after form ts done rest) n ≡ found_at (found_after form ts done rest) n (slice_get rest i)
  found_in_rest [] done i n e = get-past done n (omega (arith, e))
  found_in_rest (t ∷ rest) done zero n e =
      let a : A = form (known_by ts done) t.form in
      let b = begun rest (done ++ a ∷ []) in
      found_first t (found_after form ts (done ++ a ∷ []) rest) done b.more n (b.same ∙ append_assoc done (a ∷ []) b.more) (omega (arith, e))
  found_in_rest (t ∷ rest) done (suc i) n e =
      let a : A = form (known_by ts done) t.form in
      found_in_rest rest (done ++ a ∷ []) i n (omega (arith, e, length-append done (a ∷ [])))

  after-length : (rest : List Token) (done : List A) → length (found_after form ts done rest) ≡ length done + length rest
  after-length [] done = omega arith
  after-length (t ∷ rest) done =
      let a : A = form (known_by ts done) t.form in
      let more = after-length rest (done ++ a ∷ []) in
      omega (arith, more, length-append done (a ∷ []))

  -- something is found of each token
  pub found-length : length (found_of_all form ts) ≡ length ts
  found-length = let all = after-length ts [] in omega (arith, all)

  -- ---- by keys

  -- all tokens are known below their number
  pub known_below_all : known_below form ts (length ts) ≡ known_in form ts
  known_below_all = ap (known_by ts) (take_all (length ts) (found_of_all form ts) (omega (arith, found-length)))

  found_below : (b n : ℕ) (k : List ℕ) → find_token ts k ≡ Some n → n < b
      → known_below form ts b k ≡ option_map (λ t. form (known_below form ts n) t.form) (slice_get ts n)
  found_below b n k e h =
      ap (option_and_then (slice_get (take b (found_of_all form ts)))) e
      ∙ (get-take (found_of_all form ts) n b h ∙ found_in_rest ts [] n n (omega arith))

  pub token_below : (b n : ℕ) (k : List ℕ) (t : Token) → find_token ts k ≡ Some n → n < b → slice_get ts n ≡ Some t
      → known_below form ts b k ≡ Some (form (known_below form ts n) t.form)
  token_below b n k t e h at = found_below b n k e h ∙ ap (option_map (λ u. form (known_below form ts n) u.form)) at

  pub found_of_token : (b n : ℕ) (k : List ℕ) (t : Token) (a : A) → find_token ts k ≡ Some n → n < b → slice_get ts n ≡ Some t
      → a ≡ form (known_below form ts n) t.form → Some a ≡ known_below form ts b k
  found_of_token b n k t a e h at same = ap Some same ∙ sym (token_below b n k t e h at)

  -- a key that no token has
  pub none_of_key : (b : ℕ) (k : List ℕ) → find_token ts k ≡ None → known_below form ts b k ≡ None
  none_of_key b k e = ap (option_and_then (slice_get (take b (found_of_all form ts)))) e

  pub none_beyond : (b n : ℕ) (k : List ℕ) → find_token ts k ≡ Some n → b ≤ n → known_below form ts b k ≡ None
  none_beyond b n k e h =
      let found : List A = found_of_all form ts in
      ap (option_and_then (slice_get (take b found))) e ∙ get-past (take b found) n (omega (arith, length-take b found))

  pub none_there : (b n : ℕ) (k : List ℕ) → find_token ts k ≡ Some n → slice_get ts n ≡ None → known_below form ts b k ≡ None
  none_there b n k e h =
      let found : List A = found_of_all form ts in
      let far : length ts ≤ n = past-get ts n h in
      ap (option_and_then (slice_get (take b found))) e ∙ get-past (take b found) n (omega (arith, length-take b found, found-length, far))

-- which tokens something is found of rests on their keys alone
module _ {A B : Type 0} (first : Known A → Form → A) (second : Known B → Form → B) (ts : List Token) where
  same_there : (b : ℕ) (o : Option ℕ) → is_some (option_and_then (slice_get (take b (found_of_all first ts))) o) ≡ is_some (option_and_then (slice_get (take b (found_of_all second ts))) o)
  same_there b None = refl
  same_there b (Some n) =
      let found : List A = found_of_all first ts in
      let others : List B = found_of_all second ts in
      is_some-same (take b found) (take b others) n (omega (arith, length-take b found, length-take b others, found-length first ts, found-length second ts))

  pub same_known : (b : ℕ) (k : List ℕ) → is_some (known_below first ts b k) ≡ is_some (known_below second ts b k)
  same_known b k = same_there b (find_token ts k)
