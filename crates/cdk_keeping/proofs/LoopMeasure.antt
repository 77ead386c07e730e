-- Each step of the loop that keeps lazies leaves less to do.
use Rattle.std.proofs.Common.{◌≡◌, ◌<◌, ◌≤◌, ℕ, suc, ◌+◌, ◌*◌, List, [], ◌∷◌, ◌++◌, length, None, true≢false, refl, sym, ap, ◌∙◌, subst, arith}
use Rattle.std.specs.Prelude.{Contains, is_none, if◌then◌else◌, Bool, true, false}
use Rattle.std.proofs.Math.Path.{fun_ext}
use Rattle.std.proofs.lemmas.Nat.{mul-add-lt}
use Rattle.std.proofs.lemmas.List.Elements.{filter-append}
use Rattle.cdk_expansion.proofs.MentionContains.{contains_first, contains_later}
use Rattle.cdk_expansion.specs.Mentions.{lazy_value}
use Rattle.cdk_keeping.proofs.KeepingLoop.{keeping_leaves_fewer, missing_is_next, place, place_in-le, unkept as unkept_count, unkept_in-same}
use Rattle.cdk_keeping.proofs.Waiting.{last_is_new, last_is_there, Waits}
use Rattle.cdk_keeping.specs.Steps.{Steps, StepsOver, unkept}
use Rattle.cdk_leaves.specs.Lazies.{Results}
use Rattle.cdk_leaves.specs.Ready.{IsReady, Scope}
use Rattle.cdk_rendering.specs.Missing.{value_missing}
use Rattle.cdk_rendering.specs.TokenJson.{value_json}
use Rattle.cdk_rendering.specs.Views.{json_in, missing_in}

-- ---- the place of the last

abbrev pub last_place : Scope → List ℕ → ℕ
last_place s [] = 0
last_place s (n ∷ []) = place s n
last_place s (n ∷ m ∷ ns) = last_place s (m ∷ ns)

last_place-le : (s : Scope) (ns : List ℕ) → last_place s ns ≤ length s.order
last_place-le s [] = omega arith
last_place-le s (n ∷ []) = place_in-le s.order n
last_place-le s (n ∷ m ∷ ns) = last_place-le s (m ∷ ns)

last_behind : (s : Scope) (xs : List ℕ) (y : ℕ) (ys : List ℕ) → last_place s (xs ++ y ∷ ys) ≡ last_place s (y ∷ ys)
last_behind s [] y ys = refl
last_behind s (x ∷ []) y ys = refl
last_behind s (x ∷ z ∷ xs) y ys = last_behind s (z ∷ xs) y ys

last_is_low : (s : Scope) (p : ℕ) (y : ℕ) (ys : List ℕ) → ((m : ℕ) → Contains (y ∷ ys) m → place s m < p) → last_place s (y ∷ ys) < p
last_is_low s p y [] low = low y (contains_first y [])
last_is_low s p y (z ∷ ys) low = last_is_low s p z ys (λ m c. low m (contains_later y (z ∷ ys) m c))

-- ---- lists of which nothing is kept

takes : (b : Bool) (n : ℕ) (ns : List ℕ) → b ≡ true → (if b then n ∷ ns else ns) ≡ n ∷ ns
takes true n ns e = refl
takes false n ns e = absurd (true≢false (sym e))

all_unkept : (kept : Results) (ns : List ℕ) → ((m : ℕ) → Contains ns m → kept m ≡ None) → unkept kept ns ≡ ns
all_unkept kept [] none = refl
all_unkept kept (n ∷ ns) none =
    takes (is_none (kept n)) n (unkept kept ns) (ap is_none (none n (contains_first n ns)))
    ∙ ap (λ ms. n ∷ ms) (all_unkept kept ns (λ m c. none m (contains_later n ns m c)))

-- ---- what is left to do

abbrev pub to_do : Scope → Results → List ℕ → ℕ
to_do s kept ns = unkept_count s kept * suc (length s.order) + last_place s (unkept kept ns)

module _ (s : Scope) (ready : IsReady s.tokens s.bodies s.order) (start : List ℕ) (first kept : Results) (w : List ℕ) (n : ℕ) (ns : List ℕ) (waits : Waits s start first kept ns)
    (last : unkept kept ns ≡ unkept kept w ++ n ∷ []) where
  place_of_last : last_place s (unkept kept ns) ≡ place s n
  place_of_last = ap (last_place s) last ∙ last_behind s (unkept kept w) n []

  falls_over : (missing : List ℕ) → value_missing (missing_in s kept) (lazy_value s.bodies n) ≡ missing → (after : Results) (v : List ℕ)
      → StepsOver missing (value_json (json_in s kept) (lazy_value s.bodies n)) n kept w after v → to_do s after v < to_do s kept ns
  falls_over [] e after v step =
      let fewer = keeping_leaves_fewer s after kept n (value_json (json_in s kept) (lazy_value s.bodies n)) step.0
      (last_is_new s ready start first kept w n ns waits last) (last_is_there s ready start first kept w n ns waits last) in
      let low = last_place-le s (unkept after v) in
      let within : last_place s (unkept after v) < suc (length s.order) = omega (arith, low) in
      let more = mul-add-lt (unkept_count s after) (suc (length s.order)) (last_place s (unkept after v)) (unkept_count s kept) fewer within in
      omega (arith, more)
  falls_over (x ∷ xs) e after v step =
      let P : List ℕ → Type 0 = λ ys. Contains ys x in
      let among : (m : ℕ) → Contains (x ∷ xs) m → Contains (value_missing (missing_in s kept) (lazy_value s.bodies n)) m = λ m c. let Q : List ℕ → Type 0 = λ ys. Contains ys m in subst Q (sym e) c in
      let next = λ (m : ℕ) (c : Contains (x ∷ xs) m). missing_is_next s ready kept n m (among m c) in
      let none_behind : unkept kept (n ∷ x ∷ xs) ≡ n ∷ x ∷ xs =
      takes (is_none (kept n)) n (unkept kept (x ∷ xs)) (ap is_none (last_is_new s ready start first kept w n ns waits last))
      ∙ ap (λ ms. n ∷ ms) (all_unkept kept (x ∷ xs) (λ m c. (next m c).new)) in
      let same : unkept after v ≡ unkept kept w ++ n ∷ x ∷ xs =
      ap (λ r. unkept r v) (fun_ext step.0)
      ∙ (ap (unkept kept) step.1 ∙ (filter-append (λ m. is_none (kept m)) w (n ∷ x ∷ xs) ∙ ap (λ ms. unkept kept w ++ ms) none_behind)) in
      let place_now : last_place s (unkept after v) ≡ last_place s (x ∷ xs) = ap (last_place s) same ∙ last_behind s (unkept kept w) n (x ∷ xs) in
      let low = last_is_low s (place s n) x xs (λ m c. (next m c).lower) in
      let row : unkept_count s after ≡ unkept_count s kept = unkept_in-same after kept step.0 s.order in
      let rows : unkept_count s after * suc (length s.order) ≡ unkept_count s kept * suc (length s.order) = ap (λ c. c * suc (length s.order)) row in
      omega (arith, place_now, low, rows, place_of_last)

  pub falls : (after : Results) (v : List ℕ) → Steps s n kept w after v → to_do s after v < to_do s kept ns
  falls after v step = falls_over (value_missing (missing_in s kept) (lazy_value s.bodies n)) refl after v step
