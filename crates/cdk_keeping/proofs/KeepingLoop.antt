-- A measure for keeping lazies one by one, each after those that it mentions: it falls with each that is kept, and where a lazy that
-- the one at hand mentions is taken first.
use Rattle.std.proofs.Common.{◌≡◌, ◌<◌, ◌≤◌, ◌==◌, ℕ, zero, suc, ◌+◌, ◌*◌, List, [], ◌∷◌, length, Bool, true, false, Option, Some, None, inl, inr, refl, ap, ap₂, ◌∙◌, arith, if◌then◌else◌}
use Rattle.std.specs.Prelude.{◌⊎◌, slice_get, Contains}
use Rattle.std.proofs.lemmas.Bool.{cond-true, eq-eqb, eqb-false, eqb-true}
use Rattle.std.proofs.lemmas.Nat.{mul-add-lt}
use Rattle.serde_json.specs.Data.{Data}
use Rattle.cdk_expansion.specs.Mentions.{LazyMentions, lazy_value}
use Rattle.cdk_graphs.specs.Graph.{StandsBefore}
use Rattle.cdk_leaves.specs.Lazies.{Results}
use Rattle.cdk_leaves.specs.Ready.{IsReady, Scope}
use Rattle.cdk_rendering.proofs.MissingMentions.{missing_is_mentioned}
use Rattle.cdk_rendering.specs.Folding.{known_in}
use Rattle.cdk_rendering.specs.Missing.{form_missing, value_missing}

-- ---- places

-- the first place of a number, or the length where it stands nowhere
abbrev pub place_in : List ℕ → ℕ → ℕ
place_in [] n = 0
place_in (m ∷ ms) n = if m == n then 0 else suc (place_in ms n)

-- that of a lazy in the order
abbrev pub place : Scope → ℕ → ℕ
place s n = place_in s.order n

within_one : (b : Bool) (p l : ℕ) → p ≤ l → (if b then 0 else suc p) ≤ suc l
within_one true p l h = omega arith
within_one false p l h = omega (arith, h)

pub place_in-le : (order : List ℕ) (n : ℕ) → place_in order n ≤ length order
place_in-le [] n = omega arith
place_in-le (m ∷ ms) n = within_one (m == n) (place_in ms n) (length ms) (place_in-le ms n)

-- the place q is one of the number's, and not behind p
record IsPlace (order : List ℕ) (n p q : ℕ) : Type 0 where
  early : q ≤ p
  there : slice_get order q ≡ Some n

first_here : (m n : ℕ) (ms : List ℕ) (q : ℕ) (b : Bool) → (m == n) ≡ b → Some m ≡ Some n → IsPlace (m ∷ ms) n 0 (if b then 0 else q)
first_here m n ms q true e at = record { early = omega arith; there = at }
first_here m n ms q false e at = let same : m ≡ n = cc at in absurd (eqb-false m n e same)

first_later : (m n : ℕ) (ms : List ℕ) (p q : ℕ) (b : Bool) → (m == n) ≡ b → IsPlace ms n p q → IsPlace (m ∷ ms) n (suc p) (if b then 0 else suc q)
first_later m n ms p q true e is = record { early = omega arith; there = ap Some (eqb-true m n e) }
first_later m n ms p q false e is = record { early = omega (arith, is.early); there = is.there }

first_place : (order : List ℕ) (p n : ℕ) → slice_get order p ≡ Some n → IsPlace order n p (place_in order n)
first_place [] p n at = absurd (cc at)
first_place (m ∷ ms) zero n at = first_here m n ms (suc (place_in ms n)) (m == n) refl at
first_place (m ∷ ms) (suc p) n at = first_later m n ms p (place_in ms n) (m == n) refl (first_place ms p n at)

-- it is a place of the number, or past the end
there_or_past : (m n : ℕ) (ms : List ℕ) (q : ℕ) (b : Bool) → (m == n) ≡ b → (slice_get ms q ≡ Some n) ⊎ (q ≡ length ms)
    → (slice_get (m ∷ ms) (if b then 0 else suc q) ≡ Some n) ⊎ ((if b then 0 else suc q) ≡ suc (length ms))
there_or_past m n ms q true e h = inl (ap Some (eqb-true m n e))
there_or_past m n ms q false e (inl at) = inl at
there_or_past m n ms q false e (inr past) = inr (ap suc past)

place_cases : (order : List ℕ) (n : ℕ) → (slice_get order (place_in order n) ≡ Some n) ⊎ (place_in order n ≡ length order)
place_cases [] n = inr refl
place_cases (m ∷ ms) n = there_or_past m n ms (place_in ms n) (m == n) refl (place_cases ms n)

lower_than : (order : List ℕ) (p m : ℕ) → StandsBefore order p m → place_in order m < p
lower_than order p m s = let is = first_place order s.place m s.there in omega (arith, is.early, s.before)

-- a lazy that a lazy's value mentions has a lower place, also where the first stands nowhere
pub mentioned_is_lower : (s : Scope) → IsReady s.tokens s.bodies s.order → (n m : ℕ) → LazyMentions s.tokens s.bodies n m → place s m < place s n
mentioned_is_lower s ready n m mentioned = elim (place_cases s.order n) [
  | inl at ↦ lower_than s.order (place s n) m (ready.behind (place s n) n m at mentioned)
  | inr past ↦ let low = lower_than s.order (length s.order) m (ready.all (lazy_value s.bodies n) m mentioned) in omega (arith, low, past)
]

-- ---- lazies of which nothing is kept

abbrev pub unkept_at : Option Data → ℕ
unkept_at None = 1
unkept_at (Some r) = 0

abbrev pub unkept_in : Results → List ℕ → ℕ
unkept_in kept [] = 0
unkept_in kept (n ∷ ns) = unkept_at (kept n) + unkept_in kept ns

-- how many entries of the order are of such a lazy
abbrev pub unkept : Scope → Results → ℕ
unkept s kept = unkept_in kept s.order

unkept_at-le : (o : Option Data) → unkept_at o ≤ 1
unkept_at-le None = omega arith
unkept_at-le (Some r) = omega arith

pub unkept_in-le : (kept : Results) (ns : List ℕ) → unkept_in kept ns ≤ length ns
unkept_in-le kept [] = omega arith
unkept_in-le kept (n ∷ ns) = let one = unkept_at-le (kept n) in let rest = unkept_in-le kept ns in omega (arith, one, rest)

abbrev pub Agree : Results → Results → Type 0
Agree after before = (m : ℕ) → after m ≡ before m

pub unkept_in-same : (after before : Results) → Agree after before → (ns : List ℕ) → unkept_in after ns ≡ unkept_in before ns
unkept_in-same after before same [] = refl
unkept_in-same after before same (n ∷ ns) = ap₂ (λ (i j : ℕ). i + j) (ap unkept_at (same n)) (unkept_in-same after before same ns)

-- a result of a lazy is kept, and the others stay as they were
abbrev pub KeepsOne : Results → Results → ℕ → Data → Type 0
KeepsOne after before n r = (m : ℕ) → after m ≡ (if m == n then Some r else before m)

no_more_at : (b : Bool) (r : Data) (o : Option Data) → unkept_at (if b then Some r else o) ≤ unkept_at o
no_more_at true r o = omega arith
no_more_at false r o = omega arith

no_more : (after before : Results) (n : ℕ) (r : Data) → KeepsOne after before n r → (ns : List ℕ) → unkept_in after ns ≤ unkept_in before ns
no_more after before n r keeps [] = omega arith
no_more after before n r keeps (m ∷ ns) =
    let same : unkept_at (after m) ≡ unkept_at (if m == n then Some r else before m) = ap unkept_at (keeps m) in
    let one = no_more_at (m == n) r (before m) in
    let rest = no_more after before n r keeps ns in
    omega (arith, same, one, rest)

fewer : (after before : Results) (n : ℕ) (r : Data) → KeepsOne after before n r → before n ≡ None → (ns : List ℕ) (p : ℕ) → slice_get ns p ≡ Some n → unkept_in after ns < unkept_in before ns
fewer after before n r keeps new [] p at = absurd (cc at)
fewer after before n r keeps new (m ∷ ns) zero at =
    let same : m ≡ n = cc at in
    let now : unkept_at (after m) ≡ 0 = ap unkept_at (keeps m ∙ cond-true (m == n) (Some r) (before m) (eq-eqb m n same)) in
    let was : unkept_at (before m) ≡ 1 = ap unkept_at (ap before same ∙ new) in
    let rest = no_more after before n r keeps ns in
    omega (arith, now, was, rest)
fewer after before n r keeps new (m ∷ ns) (suc p) at =
    let same : unkept_at (after m) ≡ unkept_at (if m == n then Some r else before m) = ap unkept_at (keeps m) in
    let one = no_more_at (m == n) r (before m) in
    let rest = fewer after before n r keeps new ns p at in
    omega (arith, same, one, rest)

pub keeping_leaves_fewer : (s : Scope) (after before : Results) (n : ℕ) (r : Data) → KeepsOne after before n r → before n ≡ None → StandsBefore s.order (length s.order) n → unkept s after < unkept s before
keeping_leaves_fewer s after before n r keeps new stands = fewer after before n r keeps new s.order stands.place stands.there

-- ---- the measure

-- with `top` at hand
abbrev pub left : Scope → Results → ℕ → ℕ
left s kept top = unkept s kept * suc (length s.order) + place s top

row_before : (a h w b c : ℕ) → a < h → b < w → a * w + b < h * w + c
row_before a h w b c less within = let low = mul-add-lt a w b h less within in omega (arith, low)

same_row : (a h w b c : ℕ) → a ≡ h → b < c → a * w + b < h * w + c
same_row a h w b c same less = let rows : a * w ≡ h * w = ap (λ x. x * w) same in omega (arith, rows, less)

-- a lazy is kept, whatever comes next
pub left_falls_by_keeping : (s : Scope) (after before : Results) (n : ℕ) (r : Data) (next top : ℕ) → KeepsOne after before n r → before n ≡ None → StandsBefore s.order (length s.order) n
    → left s after next < left s before top
left_falls_by_keeping s after before n r next top keeps new stands =
    row_before (unkept s after) (unkept s before) (suc (length s.order)) (place s next) (place s top) (keeping_leaves_fewer s after before n r keeps new stands)
    (let low = place_in-le s.order next in omega (arith, low))

-- a lower one comes next, with the same results
pub left_falls_by_lower : (s : Scope) (after before : Results) (next top : ℕ) → Agree after before → place s next < place s top → left s after next < left s before top
left_falls_by_lower s after before next top same low =
    same_row (unkept s after) (unkept s before) (suc (length s.order)) (place s next) (place s top) (unkept_in-same after before same s.order) low

-- as one does that the one at hand mentions
pub left_falls_by_mention : (s : Scope) → IsReady s.tokens s.bodies s.order → (after before : Results) (next top : ℕ) → Agree after before → LazyMentions s.tokens s.bodies top next
    → left s after next < left s before top
left_falls_by_mention s ready after before next top same mentioned = left_falls_by_lower s after before next top same (mentioned_is_lower s ready top next mentioned)

-- ---- what is missing in the value of the one at hand

-- nothing is kept of it, and it stands in the order, at a lower place
pub record IsNext (s : Scope) (kept : Results) (top m : ℕ) : Type 0 where
  pub new : kept m ≡ None
  pub stands : StandsBefore s.order (length s.order) m
  pub lower : place s m < place s top

pub missing_is_next : (s : Scope) → IsReady s.tokens s.bodies s.order → (kept : Results) (top m : ℕ) → Contains (value_missing (known_in (form_missing kept) s.tokens) (lazy_value s.bodies top)) m
    → IsNext s kept top m
missing_is_next s ready kept top m c =
    let h = missing_is_mentioned kept s.tokens (lazy_value s.bodies top) m c in
    record { new = h.1; stands = ready.all (lazy_value s.bodies top) m h.0; lower = mentioned_is_lower s ready top m h.0 }
