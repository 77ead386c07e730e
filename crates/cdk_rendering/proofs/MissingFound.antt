-- What is found of the tokens of a table: what each keeps that is found from those before it, all have.
use Rattle.std.proofs.Common.{◌≡◌, ℕ, zero, suc, ◌+◌, List, [], ◌∷◌, ◌++◌, length, Some, inl, inr, refl, sym, ap, ◌∙◌, subst, length-append, arith}
use Rattle.std.specs.Prelude.{◌⊎◌, slice_get}
use Rattle.cdk_rendering.specs.Folding.{Known, found_after, found_of_all, known_by}
use Rattle.cdk_tokens.specs.Token.{Form, Token}

-- the tokens from the number n on
abbrev Follow : List Token → ℕ → List Token → Type 0
Follow ts n rest = (i j : ℕ) → j ≡ n + i → slice_get ts j ≡ slice_get rest i

-- an element of a list with one more is one of the list or the last
pushed : {A : Type 0} (xs : List A) (x y : A) (i : ℕ) → slice_get (xs ++ x ∷ []) i ≡ Some y → (slice_get xs i ≡ Some y) ⊎ ((i ≡ length xs) × (x ≡ y))
pushed [] x y zero e = inr (refl, cc e)
pushed [] x y (suc i) e = absurd (cc e)
pushed (z ∷ xs) x y zero e = inl e
pushed (z ∷ xs) x y (suc i) e = elim (pushed xs x y i e) [
  | inl before ↦ inl before
  | inr last ↦ inr (ap suc last.0, last.1)
]

-- two tokens at one place are one
same_token : (ts : List Token) (i j : ℕ) (t u : Token) → i ≡ j → slice_get ts j ≡ Some t → slice_get ts i ≡ Some u → t ≡ u
same_token ts i j t u e at also = let same : Some t ≡ Some u = sym at ∙ (sym (ap (slice_get ts) e) ∙ also) in cc same

module _ {A : Type 0} (form : Known A → Form → A) (ts : List Token) (P : Token → A → Type 0) where
  -- of each token of which something is found
  abbrev pub Each : List A → Type 0
  Each found = (i : ℕ) (t : Token) (x : A) → slice_get ts i ≡ Some t → slice_get found i ≡ Some x → P t x

  -- what is found next has it, where those before have it
  abbrev pub Keeps : Type 0
  Keeps = (done : List A) (t : Token) → slice_get ts (length done) ≡ Some t → Each done → P t (form (known_by ts done) t.form)

  one_more : (done : List A) (t : Token) (x : A) → slice_get ts (length done) ≡ Some t → Each done → P t x → Each (done ++ x ∷ [])
  one_more done t x here each new i u y at found = elim (pushed done x y i found) [
    | inl before ↦ each i u y at before
    | inr last ↦ subst (λ v. P v y) (same_token ts i (length done) t u last.0 here at) (subst (P t) last.1 new)
  ]

  each_after : Keeps → (done : List A) (rest : List Token) → Follow ts (length done) rest → Each done → Each (found_after form ts done rest)
  each_after keeps done [] follow each = each
  each_after keeps done (t ∷ rest) follow each =
      let x : A = form (known_by ts done) t.form in
      let more : length (done ++ x ∷ []) ≡ length done + 1 = length-append done (x ∷ []) in
      let here : slice_get ts (length done) ≡ Some t = follow 0 (length done) (omega arith) in
      each_after keeps (done ++ x ∷ []) rest (λ i j e. follow (suc i) j (omega (arith, e, more))) (one_more done t x here each (keeps done t here each))

  pub each_found : Keeps → Each (found_of_all form ts)
  each_found keeps = each_after keeps [] ts (λ i j e. ap (slice_get ts) (omega (arith, e))) (λ i t x at found. absurd (cc found))

  after-length : (done : List A) (rest : List Token) → length (found_after form ts done rest) ≡ length done + length rest
  after-length done [] = omega arith
  after-length done (t ∷ rest) =
      let x : A = form (known_by ts done) t.form in
      let more = after-length (done ++ x ∷ []) rest in
      omega (arith, more, length-append done (x ∷ []))

  pub found-length : length (found_of_all form ts) ≡ length ts
  found-length = let long = after-length [] ts in omega (arith, long)
