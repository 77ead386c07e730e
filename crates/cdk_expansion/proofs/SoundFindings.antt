-- Where no findings are listed, no test finds anything at any construct.
use Rattle.std.proofs.Common.{◌≡◌, ◌<◌, ℕ, zero, suc, ◌+◌, List, [], ◌∷◌, ◌++◌, map, length, Bool, true, false, refl, arith}
use Rattle.std.specs.List.{list_any}
use Rattle.cdk_base.specs.declared.code.Code.{Code}
use Rattle.cdk_base.specs.declared.code.Code.TheVariants.{LiteralMarker, NoContext, NoTarget, WrongTarget}
use Rattle.cdk_tree.specs.Expected.{expected_of, is_condition, is_missing, is_wrong, target_at, target_findings, target_findings_from, wrong_targets_at}
use Rattle.cdk_tree.specs.Lists.{list_lazies}
use Rattle.cdk_tree.specs.PlaceFindings.{when}
use Rattle.cdk_tree.specs.Placed.{Placed, construct_at}
use Rattle.cdk_contexts.specs.Contexts.{context_findings, context_findings_from, has_marked_run, misses_context, wrong_contexts_at}
use Rattle.cdk_contexts.specs.Expressions.{expressions_in}

-- ---- empty lists

nil_parts : {A B : Type 0} (f : A → B) (xs : List A) (ys : List B) → map f xs ++ ys ≡ [] → (xs ≡ []) × (ys ≡ [])
nil_parts f [] ys e = (refl, e)
nil_parts f (x ∷ xs) ys e = cc

when_nil : (a b : Bool) (c d : Code) → when a c ++ when b d ≡ [] → (a ≡ false) × (b ≡ false)
when_nil false false c d e = (refl, refl)
when_nil false true c d e = cc
when_nil true b c d e = cc

-- ---- each construct

no_targets_from : (cs : List Placed) (lazies : List Bool) (n : ℕ) (rest : List Placed) (k : ℕ) → k < length rest → target_findings_from cs lazies n rest ≡ [] → wrong_targets_at cs lazies (construct_at rest k) ≡ []
no_targets_from cs lazies n [] k h e = absurd (omega arith)
no_targets_from cs lazies n (c ∷ rest) zero h e = (nil_parts (target_at n) (wrong_targets_at cs lazies c) (target_findings_from cs lazies (n + 1) rest) e).0
no_targets_from cs lazies n (c ∷ rest) (suc k) h e =
    no_targets_from cs lazies (n + 1) rest k (omega arith) (nil_parts (target_at n) (wrong_targets_at cs lazies c) (target_findings_from cs lazies (n + 1) rest) e).1

no_contexts_from : (n : ℕ) (rest : List Placed) (k : ℕ) → k < length rest → context_findings_from n rest ≡ [] → wrong_contexts_at (construct_at rest k) ≡ []
no_contexts_from n [] k h e = absurd (omega arith)
no_contexts_from n (c ∷ rest) zero h e = (nil_parts (target_at n) (wrong_contexts_at c) (context_findings_from (n + 1) rest) e).0
no_contexts_from n (c ∷ rest) (suc k) h e = no_contexts_from (n + 1) rest k (omega arith) (nil_parts (target_at n) (wrong_contexts_at c) (context_findings_from (n + 1) rest) e).1

module _ (cs : List Placed) (at : ℕ) (within : at < length cs) where
  abbrev here : Placed
  here = construct_at cs at

  -- none of its targets is missing, and none is wrong
  pub no_wrong_targets : target_findings cs ≡ [] → (list_any (is_missing cs) (expected_of here.head here.body) ≡ false)
      × (list_any (is_wrong cs (list_lazies cs) (is_condition here.body) here.contexts) (expected_of here.head here.body) ≡ false)
  no_wrong_targets none =
      when_nil (list_any (is_missing cs) (expected_of here.head here.body)) (list_any (is_wrong cs (list_lazies cs) (is_condition here.body) here.contexts) (expected_of here.head here.body))
      NoTarget WrongTarget (no_targets_from cs (list_lazies cs) 0 cs at within none)

  -- none of its Concats has a marked run, and it misses no context
  pub no_wrong_contexts : context_findings cs ≡ [] → (list_any (has_marked_run here.contexts) (expressions_in here.body) ≡ false) × (list_any (misses_context here.contexts) (expressions_in here.body) ≡ false)
  no_wrong_contexts none =
      when_nil (list_any (has_marked_run here.contexts) (expressions_in here.body)) (list_any (misses_context here.contexts) (expressions_in here.body)) LiteralMarker NoContext (no_contexts_from 0 cs at within none)
