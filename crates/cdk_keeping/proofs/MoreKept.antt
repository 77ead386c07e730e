-- Where something is kept that wasn't, fewer lazies of the order are left.
use Rattle.std.proofs.Common.{◌≡◌, ◌<◌, ◌≤◌, ℕ, zero, suc, List, [], ◌∷◌, ◌++◌, length, Option, Some, None, is_some, true≢false, refl, sym, ap, ◌∙◌, subst, arith}
use Rattle.std.specs.Prelude.{◌==◌, Contains, slice_get, true, false}
use Rattle.std.proofs.lemmas.Bool.{eq-eqb, eqb-true}
use Rattle.serde_json.specs.Data.{Data}
use Rattle.cdk_expansion.proofs.MentionContains.{contains_first}
use Rattle.cdk_graphs.specs.Graph.{StandsBefore}
use Rattle.cdk_keeping.proofs.KeepingLoop.{unkept, unkept_at, unkept_in}
use Rattle.cdk_leaves.specs.Lazies.{IsKept, Stays, Results}
use Rattle.cdk_leaves.specs.Ready.{IsReady, Scope}
use Rattle.cdk_rendering.proofs.MissingMentions.{missing_is_mentioned}
use Rattle.cdk_rendering.specs.Missing.{value_missing}
use Rattle.cdk_rendering.specs.Views.{missing_in}

no_more_at : (before after : Results) → Stays before after → (n : ℕ) (o : Option Data) → before n ≡ o → unkept_at (after n) ≤ unkept_at (before n)
no_more_at before after stays n None e =
    let was : unkept_at (before n) ≡ 1 = ap unkept_at e in
    let low = at_most (after n) in
    omega (arith, was, low)
  where
    at_most : (o : Option Data) → unkept_at o ≤ 1
    at_most None = omega arith
    at_most (Some r) = omega arith
no_more_at before after stays n (Some r) e =
    let now : unkept_at (after n) ≡ 0 = ap unkept_at (stays n r e) in
    omega (arith, now)

no_more : (before after : Results) → Stays before after → (ns : List ℕ) → unkept_in after ns ≤ unkept_in before ns
no_more before after stays [] = omega arith
no_more before after stays (n ∷ ns) =
    let one = no_more_at before after stays n (before n) refl in
    let rest = no_more before after stays ns in
    omega (arith, one, rest)

fewer : (before after : Results) → Stays before after → (m : ℕ) → before m ≡ None → IsKept after m → (ns : List ℕ) (p : ℕ) → slice_get ns p ≡ Some m → unkept_in after ns < unkept_in before ns
fewer before after stays m new kept [] p at = absurd (true≢false (sym (ap is_some at)))
fewer before after stays m new kept (n ∷ ns) zero at =
    let same : n ≡ m = cc in
    let was : unkept_at (before n) ≡ 1 = ap unkept_at (ap before same ∙ new) in
    let now : unkept_at (after n) ≡ 0 = ap unkept_at (ap after same ∙ kept.is) in
    let rest = no_more before after stays ns in
    omega (arith, was, now, rest)
fewer before after stays m new kept (n ∷ ns) (suc p) at =
    let one = no_more_at before after stays n (before n) refl in
    let rest = fewer before after stays m new kept ns p at in
    omega (arith, one, rest)

-- ---- of what was missing in a value

stands : (s : Scope) → IsReady s.tokens s.bodies s.order → (kept : Results) (d : Data) (missing : List ℕ) → missing ≡ value_missing (missing_in s kept) d → (m : ℕ) → Contains missing m
    → StandsBefore s.order (length s.order) m
stands s ready kept d missing e m c = let P : List ℕ → Type 0 = λ ns. Contains ns m in ready.all d m (missing_is_mentioned kept s.tokens d m (subst P e c)).0

-- all of it stands in the order
pub all_stand : (s : Scope) → IsReady s.tokens s.bodies s.order → (kept : Results) (d : Data) (first missing : List ℕ) → first ≡ [] → missing ≡ first ++ value_missing (missing_in s kept) d → (m : ℕ) → Contains missing m
    → StandsBefore s.order (length s.order) m
all_stand s ready kept d first missing none e m c = stands s ready kept d missing (e ∙ ap (λ ns. ns ++ value_missing (missing_in s kept) d) none) m c

fewer_over : (s : Scope) → IsReady s.tokens s.bodies s.order → (kept after : Results) (d : Data) (missing : List ℕ) → missing ≡ value_missing (missing_in s kept) d → (missing ≡ [] → ⊥)
    → Stays kept after → ((m : ℕ) → Contains missing m → IsKept after m) → unkept s after < unkept s kept
fewer_over s ready kept after d [] e some stays all = absurd (some refl)
fewer_over s ready kept after d (x ∷ xs) e some stays all =
    let here : Contains (x ∷ xs) x = contains_first x xs in
    let P : List ℕ → Type 0 = λ ns. Contains ns x in
    let there = stands s ready kept d (x ∷ xs) e x here in
    fewer kept after stays x (missing_is_mentioned kept s.tokens d x (subst P e here)).1 (all x here) s.order there.place there.there

-- and once it is kept, fewer are left
pub fewer_left : (s : Scope) → IsReady s.tokens s.bodies s.order → (kept after : Results) (d : Data) (first missing : List ℕ) → first ≡ [] → missing ≡ first ++ value_missing (missing_in s kept) d
    → (missing ≡ [] → ⊥) → Stays kept after → ((m : ℕ) → Contains missing m → IsKept after m) → unkept s after < unkept s kept
fewer_left s ready kept after d first missing none e some stays all = fewer_over s ready kept after d missing (e ∙ ap (λ ns. ns ++ value_missing (missing_in s kept) d) none) some stays all

pub nothing_missing : (s : Scope) (kept : Results) (d : Data) (first missing : List ℕ) → first ≡ [] → missing ≡ first ++ value_missing (missing_in s kept) d → missing ≡ [] → value_missing (missing_in s kept) d ≡ []
nothing_missing s kept d first missing none e nothing = sym (e ∙ ap (λ ns. ns ++ value_missing (missing_in s kept) d) none) ∙ nothing

pub stays_further : (first before after : Results) → Stays first before → Stays before after → Stays first after
stays_further first before after one two n r e = two n r (one n r e)

pub nil_of : (ns : List ℕ) → (length ns == 0) ≡ true → ns ≡ []
nil_of [] e = refl
nil_of (n ∷ ns) e = let none = eqb-true (length (n ∷ ns)) 0 e in absurd (omega (arith, none))

pub not_nil_of : (ns : List ℕ) → (length ns == 0) ≡ false → ns ≡ [] → ⊥
not_nil_of ns e nil = true≢false (sym (eq-eqb (length ns) 0 (ap length nil)) ∙ e)
