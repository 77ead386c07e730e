-- The new token has the next number.
use Rattle.std.proofs.Common.{rules, ◌≡◌, map, [], ◌∷◌, ◌++◌, length, ℕ, List, Bool, true, false, sym, ap, ◌∙◌, zero-add}
use Rattle.std.specs.Prelude.{decimal, if◌then◌else◌}
use Rattle.std.specs.Result.{is_ok}
use Rattle.std.proofs.lemmas.List.{length-map, map_push}
use Rattle.cdk_tokens.specs.Views.{token_view, are_numbered, has_number}
use Rattle.cdk_tokens.specs.declared.form.Token.{Token}
use Rattle.cdk_tokens.proofs.table.Table.push.Goals as goal
use Rattle.cdk_tokens.proofs.LastDot.{has_number-key}
use Rattle.cdk_tokens.proofs.Numbered.{numbered-push}

stays_numbered : (items new : List Token) (t : Token) (pushed : Bool) (n : ℕ) (hint : List ℕ) → t.key ≡ hint ++ 46 ∷ decimal n → n ≡ length items → are_numbered 0 (map token_view items) ≡ true → new ≡ (if pushed then items ++ t ∷ [] else items) → are_numbered 0 (map token_view new) ≡ true
stays_numbered items new t true n hint named count h is =
    let own : has_number n t.key ≡ true = ap (has_number n) named ∙ has_number-key n hint in
    ap (λ l. are_numbered 0 (map token_view l)) is ∙ ap (are_numbered 0) (map_push token_view items t)
    ∙ numbered-push 0 n (map token_view items) (token_view t) (count ∙ sym (length-map items token_view) ∙ sym (zero-add (length (map token_view items)))) h own
stays_numbered items new t false n hint named count h is = ap (λ l. are_numbered 0 (map token_view l)) is ∙ h

pub invariant_of-self : goal.invariant_of-self
invariant_of-self c =
    let count : c.len.result ≡ length c.args.self.now.tokens.items = search rules in
    let token : Token = record { key = c.in-Ok.made.0; owner = c.args.owner; list = c.args.list; form = c.args.form } in
    record { numbered = stays_numbered c.args.self.now.tokens.items c.push.new.self.items token (is_ok c.push.result) c.len.result c.args.hint.now c.in-Ok.ensures.0 count c.args.self.now.numbered c.push.ensures.items }
