-- What may still be measured: a value by its parts, and the tokens below a bound by their arguments.
use Rattle.std.proofs.Common.{◌≡◌, ◌<◌, ◌≤◌, ℕ, zero, suc, ◌+◌, List, [], ◌∷◌, take, Some, sym, ap, true≢false, is_some, arith}
use Rattle.std.specs.Prelude.{slice_get}
use Rattle.serde_json.specs.Data.{Data, null, boolean, number, string, array, object, Items, no_items, item, Members, no_members, member}
use Rattle.cdk_tokens.specs.Token as token
use Rattle.cdk_tokens.specs.Token.{Form, Token}

abbrev mutual
  pub weight : Data → ℕ
  weight null = 1
  weight (boolean b) = 1
  weight (number n) = 1
  weight (string s) = 1
  weight (array ds) = 1 + items_weight ds
  weight (object ms) = 1 + members_weight ms

  pub items_weight : Items → ℕ
  items_weight no_items = 0
  items_weight (item d ds) = weight d + items_weight ds

  pub members_weight : Members → ℕ
  members_weight no_members = 0
  members_weight (member k d ms) = weight d + members_weight ms

abbrev pub form_weight : Form → ℕ
form_weight (token.join d v) = 1 + weight v
form_weight (token.select n v) = 1 + weight v
form_weight (token.split d v) = 1 + weight v
form_weight (token.choice c x y) = 1 + (weight x + weight y)
form_weight (token.find_in_map m x y) = 1 + (weight x + weight y)
form_weight f = 1

abbrev tokens_weight : List Token → ℕ
tokens_weight [] = 0
tokens_weight (t ∷ ts) = form_weight t.form + tokens_weight ts

-- of the tokens of numbers below the bound
abbrev pub weight_below : List Token → ℕ → ℕ
weight_below ts b = tokens_weight (take b ts)

pub lighter : (ts : List Token) (t : Token) (n b : ℕ) → slice_get ts n ≡ Some t → n < b → form_weight t.form + weight_below ts n ≤ weight_below ts b
lighter ts t n zero e h = absurd (omega (arith, h))
lighter [] t n (suc b) e h = absurd (true≢false (sym (ap is_some e)))
lighter (u ∷ ts) t zero (suc b) e h =
    let same : u ≡ t = cc in
    let equal : form_weight u.form ≡ form_weight t.form = ap (λ v. form_weight v.form) same in
    omega (arith, equal)
lighter (u ∷ ts) t (suc n) (suc b) e h = let low = lighter ts t n b e (omega (arith, h)) in omega (arith, low)
