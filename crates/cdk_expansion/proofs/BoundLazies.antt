-- How often lazies have to be opened where none reaches itself. With each opening one more lazy can't come again, so that the list of those
-- that still can is shorter than before.
use Rattle.std.proofs.Common.{◌≡◌, ◌≤◌, ℕ, zero, suc, ◌⊎◌, inl, inr, List, length, subst, arith}
use Rattle.std.specs.List.{Contains}
use Rattle.serde_json.specs.Data.{Data}
use Rattle.cdk_expansion.specs.Bounds.{LaziesSuffice}
use Rattle.cdk_expansion.specs.Expanded.{opened, plain_of}
use Rattle.cdk_expansion.specs.Mentions.{further, lazy_value, Mentions, once, Reaches, ReachesItself}
use Rattle.cdk_expansion.proofs.BoundRemoved.{without}
use Rattle.cdk_expansion.proofs.MentionForms.{same_plain}
use Rattle.cdk_tokens.specs.Token.{Token}
use Rattle.cdk_tokens.specs.Whole.{MarkedBody}

-- mentioned by the value, or reached by a lazy that it mentions
abbrev ReachedFrom : List Token → List MarkedBody → Data → ℕ → Type 0
ReachedFrom ts ms d m = Mentions ts d m ⊎ ((n : ℕ) × Mentions ts d n × Reaches ts ms n m)

from_lazy : (ts : List Token) (ms : List MarkedBody) (n m : ℕ) → ReachedFrom ts ms (lazy_value ms n) m → Reaches ts ms n m
from_lazy ts ms n m (inl c) = once n m c
from_lazy ts ms n m (inr (l, c, r)) = further n l m c r

-- `left` has each lazy that can still come
enough : (ts : List Token) (ms : List MarkedBody) → ((n : ℕ) → ReachesItself ts ms n → ⊥) → (k l : ℕ) (left : List ℕ) (d : Data) → ((m : ℕ) → ReachedFrom ts ms d m → Contains left m) → length left ≤ k → length left ≤ l → plain_of k ts ms d ≡ plain_of l ts ms d
enough ts ms none zero l left d have more also =
    same_plain ts (opened zero ts ms) (opened l ts ms) d (λ m c. let w = without left m (have m (inl c)) in absurd (omega (arith, more, w.shorter)))
enough ts ms none (suc k) zero left d have more also =
    same_plain ts (opened (suc k) ts ms) (opened zero ts ms) d (λ m c. let w = without left m (have m (inl c)) in absurd (omega (arith, also, w.shorter)))
enough ts ms none (suc k) (suc l) left d have more also =
    same_plain ts (opened (suc k) ts ms) (opened (suc l) ts ms) d
    (λ m c. let w = without left m (have m (inl c)) in
    enough ts ms none k l w.rest (lazy_value ms m)
    (λ r reached. let path = from_lazy ts ms m r reached in w.others r (have r (inr (m, c, path))) (λ e. none m (subst (Reaches ts ms m) e path)))
    (omega (arith, more, w.shorter))
    (omega (arith, also, w.shorter)))

reached_is_mentioned : (ts : List Token) (ms : List MarkedBody) (lazies : List ℕ) → ((d : Data) (m : ℕ) → Mentions ts d m → Contains lazies m) → (n m : ℕ) → Reaches ts ms n m → Contains lazies m
reached_is_mentioned ts ms lazies every x y (once n m c) = every (lazy_value ms n) m c
reached_is_mentioned ts ms lazies every x y (further n l m c r) = reached_is_mentioned ts ms lazies every l m r

all_are_mentioned : (ts : List Token) (ms : List MarkedBody) (lazies : List ℕ) → ((d : Data) (m : ℕ) → Mentions ts d m → Contains lazies m) → (d : Data) (m : ℕ) → ReachedFrom ts ms d m → Contains lazies m
all_are_mentioned ts ms lazies every d m (inl c) = every d m c
all_are_mentioned ts ms lazies every d m (inr (n, c, r)) = reached_is_mentioned ts ms lazies every n m r

pub lazies_suffice : LaziesSuffice
lazies_suffice ts ms lazies every none d k l more also = enough ts ms none k l lazies d (all_are_mentioned ts ms lazies every d) more also
