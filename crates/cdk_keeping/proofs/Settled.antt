-- A value of which nothing is missing is rendered rightly by what is kept, and a lazy that is kept so leaves all settled.
use Rattle.std.proofs.Common.{◌≡◌, ◌<◌, ◌≤◌, ℕ, suc, [], length, Option, Some, None, is_some, true≢false, refl, sym, ap, ◌∙◌, arith}
use Rattle.std.specs.Prelude.{slice_get}
use Rattle.serde_json.specs.Data.{Data}
use Rattle.cdk_expansion.proofs.MentionForms.{same_plain}
use Rattle.cdk_expansion.proofs.OrderPlaces.{places_suffice}
use Rattle.cdk_expansion.specs.Expanded.{opened}
use Rattle.cdk_expansion.specs.Mentions.{further, lazy_value, once, Reaches}
use Rattle.cdk_keeping.specs.Keeping.{AreClosed, AreRenderings, IsLazyRendering, IsRendering, KeepsReached, mentioned, reached, ReachesFrom}
use Rattle.cdk_leaves.specs.Lazies.{IsKept, shown, Results}
use Rattle.cdk_leaves.specs.Ready.{IsReady, Scope}
use Rattle.cdk_plain.specs.Plain.{Plain, text}
use Rattle.cdk_plain.specs.Rendered.{rendered}
use Rattle.cdk_rendering.proofs.MissingMentions.{what_is_mentioned_is_kept}
use Rattle.cdk_rendering.proofs.RenderedForms.{same_json}
use Rattle.cdk_rendering.specs.Missing.{value_missing}
use Rattle.cdk_rendering.specs.TokenJson.{value_json}
use Rattle.cdk_rendering.specs.Views.{json_in, missing_in}

-- the plain forms of lazies of which something is kept; others are told as empty texts
abbrev told : (ℕ → Plain) → Option Data → ℕ → Plain
told plains None n = text []
told plains (Some d) n = plains n

told_kept : (plains : ℕ → Plain) (o : Option Data) (n : ℕ) (d : Data) → o ≡ Some d → told plains o n ≡ plains n
told_kept plains None n d same = absurd (true≢false (sym (ap is_some same)))
told_kept plains (Some e) n d same = refl

module _ (s : Scope) (kept : Results) (ready : IsReady s.tokens s.bodies s.order) where
  told_right : (k : ℕ) → length s.order ≤ k → AreRenderings s kept → (n : ℕ) (o : Option Data) → kept n ≡ o
      → shown kept n ≡ rendered s.homes (told (opened k s.tokens s.bodies) (kept n) n)
  told_right k enough right n None e = grind (arith, e)
  told_right k enough right n (Some d) e = grind (arith, e, right n d e k enough)

  pub rendered_right : AreRenderings s kept → (d : Data) → value_missing (missing_in s kept) d ≡ [] → IsRendering s d (value_json (json_in s kept) d)
  rendered_right right d none k enough =
      let lazies : ℕ → Plain = λ n. told (opened k s.tokens s.bodies) (kept n) n in
      same_json s.homes lazies (shown kept) (λ n. told_right k enough right n (kept n) refl) s.tokens d
      ∙ ap (rendered s.homes) (same_plain s.tokens lazies (opened k s.tokens s.bodies) d
      (λ m at. let is = what_is_mentioned_is_kept kept s.tokens ready.lower d m none at in told_kept (opened k s.tokens s.bodies) (kept m) m is.result is.is))

  -- the lazy's own value is opened once more than the lazy
  pub lazy_right : AreRenderings s kept → (p n : ℕ) → slice_get s.order p ≡ Some n → p < length s.order → value_missing (missing_in s kept) (lazy_value s.bodies n) ≡ []
      → IsLazyRendering s n (value_json (json_in s kept) (lazy_value s.bodies n))
  lazy_right right p n at low none k enough =
      rendered_right right (lazy_value s.bodies n) none k enough
      ∙ ap (rendered s.homes) (places_suffice s.tokens s.bodies s.order ready.behind p n (suc k) k at (omega (arith, low, enough)) (omega (arith, low, enough)))

  -- ---- what a value reaches

  closed_reaches : AreClosed s kept → (n m : ℕ) → IsKept kept n → Reaches s.tokens s.bodies n m → IsKept kept m
  closed_reaches closed n m is (once a b at) = closed n m is at
  closed_reaches closed n m is (further a b c at rest) = closed_reaches closed b m (closed n b is at) rest

  reached_kept : AreClosed s kept → (d : Data) → value_missing (missing_in s kept) d ≡ [] → (m : ℕ) → ReachesFrom s d m → IsKept kept m
  reached_kept closed d none m (mentioned a at) = what_is_mentioned_is_kept kept s.tokens ready.lower d m none at
  reached_kept closed d none m (reached n a at rest) = closed_reaches closed n m (what_is_mentioned_is_kept kept s.tokens ready.lower d n none at) rest

  pub keeps_reached : AreClosed s kept → (d : Data) → value_missing (missing_in s kept) d ≡ [] → KeepsReached s d kept
  keeps_reached closed d none m from = reached_kept closed d none m from
