-- A key leads to its token by the number behind its last dot.
use Rattle.std.proofs.Common.{◌≡◌, map, length, get_or, slice_get, option_map, ℕ, ◌<◌, ◌≤◌, ◌^◌, List, Some, refl, sym, ap, subst, ◌∙◌, arith, Ok}
use Rattle.std.specs.Prelude.{decimal}
use Rattle.std.specs.Result.{result_ok}
use Rattle.std.specs.Str.{bytes_eq}
use Rattle.std.proofs.lemmas.Bool.Decides.{Decides-at, not_from_Decides}
use Rattle.std.proofs.lemmas.List.{length-map}
use Rattle.std.proofs.lemmas.Option.{none-some, same_Some, slice_get_within, slice_get_read, slice_get-map}
use Rattle.std.proofs.lemmas.Slice.Eq.{bytes_eq-Decides}
use Rattle.cdk_tokens.specs.Views.{token_view}
use Rattle.cdk_tokens.specs.Token.{Token as TokenView}
use Rattle.cdk_tokens.specs.TableView.{tokens_in}
use Rattle.cdk_tokens.specs.declared.form.Token.{Token}
use Rattle.cdk_tokens.proofs.table.Table.find.Goals as goal
use Rattle.cdk_tokens.proofs.LastDot.{NoDot-from_rsplit, dot_inside}
use Rattle.cdk_tokens.proofs.Numbered.{keys_differ, no_key, no_such_number}

-- what the slice says of the tokens as they are viewed
length_viewed : {items xs : List Token} → xs ≡ items → length (map token_view items) ≡ length xs
length_viewed {items} {xs} same = length-map items token_view ∙ sym (ap length same)

viewed_at : {items xs : List Token} (n : ℕ) (x : Token) → xs ≡ items → n < length xs → x ≡ get_or xs n x → slice_get (map token_view items) n ≡ Some (token_view x)
viewed_at {items} {xs} n x same within is =
    slice_get-map token_view items n ∙ ap (option_map token_view) (subst (λ l. slice_get l n ≡ Some x) same (slice_get_read xs (length xs) n x refl within is))

-- no dot
pub returns-in_err-digits : goal.returns-in_err-digits
returns-in_err-digits c =
    let key = c.args.key.now in
    let no_dot = NoDot-from_rsplit key c.in_err-digits.ensures.cases in
    c.from_residual.ensures ∙ sym (no_key (tokens_in c.args.self.now) key c.args.self.now.numbered (λ m t front at same cut. dot_inside key front (decimal m) no_dot cut))

-- no number behind it
pub returns-in_err-number : goal.returns-in_err-number
returns-in_err-number c =
    let ts = tokens_in c.args.self.now in
    let few : length ts ≤ 2 ^ 64 = omega (arith, c.as_slice-tokens.type_inv, length_viewed c.as_slice-tokens.ensures.value) in
    let none : (m : ℕ) (t : TokenView) → c.parse.result ≡ Ok m → slice_get ts m ≡ Some t → t.key ≡ c.args.key.now → ⊥ = λ m t is at same. none-some m (c.in_err-number.ensures.value ∙ ap result_ok is) in
    c.from_residual-in_err-number.ensures
    ∙ sym (no_such_number ts c.args.key.now c.in_ok-digits.field-0-0.now c.in_ok-digits.digits.now c.parse.result c.args.self.now.numbered few c.in_ok-digits.ensures.cases c.parse.ensures.value.0 none)

-- a number that no token has
pub returns-in_err-token : goal.returns-in_err-token
returns-in_err-token c =
    let ts = tokens_in c.args.self.now in
    let count : length ts ≡ length c.as_slice-tokens.result.now = length_viewed c.as_slice-tokens.ensures.value in
    let few : length ts ≤ 2 ^ 64 = omega (arith, c.as_slice-tokens.type_inv) in
    let number : (m : ℕ) → c.parse.result ≡ Ok m → c.in_ok-number.number ≡ m = λ m is. same_Some c.in_ok-number.number m (c.in_ok-number.ensures.value ∙ ap result_ok is) in
    let none : (m : ℕ) (t : TokenView) → c.parse.result ≡ Ok m → slice_get ts m ≡ Some t → t.key ≡ c.args.key.now → ⊥ = λ m t is at same. omega (arith, number m is, slice_get_within ts m t at, c.in_err-token.ensures.lookup.3) in
    c.from_residual-in_err-token.ensures
    ∙ sym (no_such_number ts c.args.key.now c.in_ok-digits.field-0-0.now c.in_ok-digits.digits.now c.parse.result c.args.self.now.numbered few c.in_ok-digits.ensures.cases c.parse.ensures.value.0 none)

-- the token's key
pub returns-then-eq : goal.returns-then-eq
returns-then-eq c =
    let ts = tokens_in c.args.self.now in
    let token = c.in_ok-token.token.now in
    let key = c.args.key.now in
    let few : length ts ≤ 2 ^ 64 = omega (arith, c.as_slice-tokens.type_inv, length_viewed c.as_slice-tokens.ensures.value) in
    let at = viewed_at c.in_ok-number.number token c.as_slice-tokens.ensures.value c.in_ok-token.ensures.lookup.3.0 c.in_ok-token.ensures.lookup.1 in
    let same : token.key ≡ key = sym c.as_str.ensures ∙ (bytes_eq-Decides c.as_str.result.now key).0 (sym c.eq.ensures ∙ c.if-eq.true) in
    sym (keys_differ ts c.in_ok-number.number (token_view token) key c.args.self.now.numbered few at same)

-- another token's key
pub returns-else-eq : goal.returns-else-eq
returns-else-eq c =
    let ts = tokens_in c.args.self.now in
    let token = c.in_ok-token.token.now in
    let key = c.args.key.now in
    let few : length ts ≤ 2 ^ 64 = omega (arith, c.as_slice-tokens.type_inv, length_viewed c.as_slice-tokens.ensures.value) in
    let here = viewed_at c.in_ok-number.number token c.as_slice-tokens.ensures.value c.in_ok-token.ensures.lookup.3.0 c.in_ok-token.ensures.lookup.1 in
    let number : (m : ℕ) → c.parse.result ≡ Ok m → c.in_ok-number.number ≡ m = λ m is. same_Some c.in_ok-number.number m (c.in_ok-number.ensures.value ∙ ap result_ok is) in
    let one : (m : ℕ) (t : TokenView) → c.parse.result ≡ Ok m → slice_get ts m ≡ Some t → token_view token ≡ t = λ m t is at. same_Some (token_view token) t (sym here ∙ ap (slice_get ts) (number m is) ∙ at) in
    let none : (m : ℕ) (t : TokenView) → c.parse.result ≡ Ok m → slice_get ts m ≡ Some t → t.key ≡ key → ⊥ = λ m t is at same. not_from_Decides c.eq.result (Decides-at c.eq.result (bytes_eq c.as_str.result.now key) c.eq.ensures (bytes_eq-Decides c.as_str.result.now key)) c.if-eq.false (c.as_str.ensures ∙ ap (λ x. x.key) (one m t is at) ∙ same) in
    sym (no_such_number ts key c.in_ok-digits.field-0-0.now c.in_ok-digits.digits.now c.parse.result c.args.self.now.numbered few c.in_ok-digits.ensures.cases c.parse.ensures.value.0 none)
