-- How often lazies have to be opened where they stand in an order.
use Rattle.std.proofs.Common.{◌≡◌, ◌<◌, ℕ, zero, suc, List, Some, arith}
use Rattle.std.specs.Prelude.{slice_get}
use Rattle.cdk_expansion.specs.Bounds.{OrdersSuffice, PlacesSuffice}
use Rattle.cdk_expansion.specs.Expanded.{opened}
use Rattle.cdk_expansion.specs.Mentions.{IsOrder, lazy_value}
use Rattle.cdk_expansion.proofs.MentionForms.{same_plain}
use Rattle.cdk_tokens.specs.Token.{Token}
use Rattle.cdk_tokens.specs.Whole.{MarkedBody}

-- of the places before b
places_before : (ts : List Token) (ms : List MarkedBody) (order : List ℕ) → IsOrder ts ms order → (b p n k l : ℕ) → p < b → slice_get order p ≡ Some n → p < k → p < l → opened k ts ms n ≡ opened l ts ms n
places_before ts ms order is zero p n k l low at more also = absurd (omega (arith, low))
places_before ts ms order is (suc b) p n zero l low at more also = absurd (omega (arith, more))
places_before ts ms order is (suc b) p n (suc k) zero low at more also = absurd (omega (arith, also))
places_before ts ms order is (suc b) p n (suc k) (suc l) low at more also =
    same_plain ts (opened k ts ms) (opened l ts ms) (lazy_value ms n)
    (λ m mentioned. let s = is p n m at mentioned in
    places_before ts ms order is b s.place m k l (omega (arith, low, s.before)) s.there (omega (arith, more, s.before)) (omega (arith, also, s.before)))

pub places_suffice : PlacesSuffice
places_suffice ts ms order is p n k l at more also = places_before ts ms order is (suc p) p n k l (omega arith) at more also

pub orders_suffice : OrdersSuffice
orders_suffice ts ms order is d stand k l more also =
    same_plain ts (opened k ts ms) (opened l ts ms) d
    (λ m mentioned. let s = stand m mentioned in places_suffice ts ms order is s.place m k l s.there (omega (arith, more, s.before)) (omega (arith, also, s.before)))
