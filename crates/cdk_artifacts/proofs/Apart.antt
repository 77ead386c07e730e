-- The stacks of a manifest have ids that differ, as the keys of an object do.
use Rattle.std.proofs.Common.{◌≡◌, ℕ, List, [], ◌∷◌, Bool, true, false, Less, nat_cmp, string_bytes, refl, sym, ap, ◌∙◌}
use Rattle.std.specs.Prelude.{◌||◌, bytes_eq, if◌then◌else◌}
use Rattle.std.specs.Cmp.Lexicographic.{slice_cmp}
use Rattle.std.specs.List.{AllByRecursion}
use Rattle.std.specs.List.Sorted.{IsStrictlySortedBy}
use Rattle.std.specs.Map.{keys_of}
use Rattle.std.specs.Ordering.{is_eq}
use Rattle.std.specs.String.{string_cmp}
use Rattle.std.proofs.lemmas.Map.Text.{is_eq-slice_cmp}
use Rattle.serde_json.specs.Data.{Members, no_members, member}
use Rattle.serde_json.specs.View.{view, members_view}
use Rattle.serde_json.proofs.Views.{Entry}
use Rattle.cdk_eval.specs.Manifest.{stack_artifacts, stack_at, ids, AreApart}
use Rattle.cdk_eval.specs.Reach.{is_among}
use Rattle.cdk_artifacts.specs.Found.{is_stack, stack_by, stacks_by}

pub stacks_by_ids : (names : List (List ℕ)) (ms : Members) → stacks_by (λ n. is_among n names) ms ≡ stack_artifacts names ms
stacks_by_ids names no_members = refl
stacks_by_ids names (member id a ms) = ap (λ ss. if is_stack a then stack_at names id a ∷ ss else ss) (stacks_by_ids names ms)

module _ (known : List ℕ → Bool) where
  below_differs : (k l : List ℕ) → slice_cmp nat_cmp k l ≡ Less → bytes_eq k l ≡ false
  below_differs k l h = sym (is_eq-slice_cmp k l) ∙ ap is_eq h

  above_none : (e : Entry) (es : List Entry) → AllByRecursion (λ y. string_cmp e.0 y ≡ Less) (keys_of es) → is_among (string_bytes e.0) (ids (stacks_by known (members_view es))) ≡ false
  above_none e [] below = refl
  above_none e (x ∷ es) below = at (is_stack (view x.1)) (above_none e es below.1)
    where
      at : (b : Bool) → is_among (string_bytes e.0) (ids (stacks_by known (members_view es))) ≡ false
          → is_among (string_bytes e.0) (ids (if b then stack_by known (string_bytes x.0) (view x.1) ∷ stacks_by known (members_view es) else stacks_by known (members_view es))) ≡ false
      at true later = ap (λ b. b || is_among (string_bytes e.0) (ids (stacks_by known (members_view es)))) (below_differs (string_bytes e.0) (string_bytes x.0) below.0) ∙ later
      at false later = later

  pub stacks_apart : (es : List Entry) → IsStrictlySortedBy string_cmp (keys_of es) → AreApart (stacks_by known (members_view es))
  unfolding IsStrictlySortedBy
  stacks_apart [] sorted = tt
  stacks_apart (e ∷ es) sorted = at (is_stack (view e.1)) (stacks_apart es sorted.1)
    where
      at : (b : Bool) → AreApart (stacks_by known (members_view es)) → AreApart (if b then stack_by known (string_bytes e.0) (view e.1) ∷ stacks_by known (members_view es) else stacks_by known (members_view es))
      at true later = (above_none e es sorted.0, later)
      at false later = later
