-- Stacks and stages of constructs stand no later than they do.
use Rattle.std.proofs.Common.{◌≡◌, ◌<◌, ◌≤◌, ℕ, List, [], ◌∷◌, ◌++◌, length, Bool, true, false, Option, Some, None, refl, ap, ◌∙◌, inl, inr, arith}
use Rattle.std.specs.Prelude.{◌⊎◌, ◌&&◌, nat_le, if◌then◌else◌}
use Rattle.std.specs.Option.{option_map_or}
use Rattle.std.proofs.lemmas.Bool.{cases_lt, leb-true, le-leb}
use Rattle.std.proofs.lemmas.List.{length-append, get_or_append_left}
use Rattle.std.proofs.Math.Seq.{get_or-append_seam}
use Rattle.cdk_language.specs.Construct.{kind_view}
use Rattle.cdk_tree.specs.Placed.{Placed, construct_at, is_stack, is_stage, nowhere}
use Rattle.cdk_tree.specs.Slots.{is_scoped, placed_of, slot_in, AreScoped}
use Rattle.cdk_tree.specs.declared.part.Part.{Part}
use Rattle.cdk_tree.specs.declared.slot.Slot.{Slot}
use Rattle.cdk_tree.proofs.Tests.{and_left, and_right, and_both}

-- what holds among some constructs holds among more
stack_more : (cs : List Placed) (c : Placed) (m n : ℕ) (o : Option ℕ) → m < length cs → m ≤ n
    → option_map_or (λ k. nat_le k m && is_stack (construct_at cs k).body) o true ≡ true → option_map_or (λ k. nat_le k n && is_stack (construct_at (cs ++ c ∷ []) k).body) o true ≡ true
stack_more cs c m n None within le h = refl
stack_more cs c m n (Some k) within le h =
    let below : k ≤ m = leb-true k m (and_left (nat_le k m) (is_stack (construct_at cs k).body) h) in
    and_both (nat_le k n) (is_stack (construct_at (cs ++ c ∷ []) k).body) (le-leb k n (omega arith))
    (ap (λ (p : Placed). is_stack p.body) (get_or_append_left cs (c ∷ []) nowhere k (omega arith)) ∙ and_right (nat_le k m) (is_stack (construct_at cs k).body) h)

is_scoped-more : (cs : List Placed) (c p : Placed) (n : ℕ) → n < length cs → is_scoped cs n p ≡ true → is_scoped (cs ++ c ∷ []) n p ≡ true
is_scoped-more cs c p n within h =
    let old = option_map_or (λ k. nat_le k n && is_stack (construct_at cs k).body) p.stack true in
    and_both (option_map_or (λ k. nat_le k n && is_stack (construct_at (cs ++ c ∷ []) k).body) p.stack true) (nat_le p.stage n)
    (stack_more cs c n n p.stack within (omega arith) (and_left old (nat_le p.stage n) h)) (and_right old (nat_le p.stage n) h)

pub AreScoped-push : (cs : List Placed) (c : Placed) → AreScoped cs → is_scoped (cs ++ c ∷ []) (length cs) c ≡ true → AreScoped (cs ++ c ∷ [])
AreScoped-push cs c all here n within = by (cases_lt n (length cs))
  where
    by : (n < length cs) ⊎ (length cs ≤ n) → is_scoped (cs ++ c ∷ []) n (construct_at (cs ++ c ∷ []) n) ≡ true
    by (inl less) = ap (is_scoped (cs ++ c ∷ []) n) (get_or_append_left cs (c ∷ []) nowhere n less) ∙ is_scoped-more cs c (construct_at cs n) n less (all n less)
    by (inr past) =
        let last : n ≡ length cs = omega (arith, length-append cs (c ∷ [])) in
        ap (λ k. is_scoped (cs ++ c ∷ []) k (construct_at (cs ++ c ∷ []) k)) last ∙ ap (is_scoped (cs ++ c ∷ []) (length cs)) (get_or-append_seam cs c [] nowhere) ∙ here

-- ---- a construct in its scope

module _ (cs : List Placed) (m : ℕ) (scope : Slot) (part : Part) (within : m < length cs) (same : placed_of cs scope ≡ construct_at cs m) (scoped : is_scoped cs m (construct_at cs m) ≡ true) where
  abbrev n : ℕ
  n = length cs

  abbrev c : Placed
  c = placed_of cs (slot_in n m scope part)

  of_scope : is_scoped cs m (placed_of cs scope) ≡ true
  of_scope = ap (is_scoped cs m) same ∙ scoped

  stage_le : scope.stage ≤ m
  stage_le = leb-true scope.stage m (and_right (option_map_or (λ k. nat_le k m && is_stack (construct_at cs k).body) scope.stack true) (nat_le scope.stage m) of_scope)

  stage_part : (b : Bool) → nat_le (if b then n else scope.stage) n ≡ true
  stage_part true = le-leb n n (omega arith)
  stage_part false = le-leb scope.stage n (omega (arith, stage_le))

  stack_part : (b : Bool) → is_stack (kind_view part.kind) ≡ b → option_map_or (λ k. nat_le k n && is_stack (construct_at (cs ++ c ∷ []) k).body) (if b then Some n else scope.stack) true ≡ true
  stack_part true is = and_both (nat_le n n) (is_stack (construct_at (cs ++ c ∷ []) n).body) (le-leb n n (omega arith)) (ap (λ (p : Placed). is_stack p.body) (get_or-append_seam cs c [] nowhere) ∙ is)
  stack_part false is = stack_more cs c m n scope.stack within (omega arith) (and_left (option_map_or (λ k. nat_le k m && is_stack (construct_at cs k).body) scope.stack true) (nat_le scope.stage m) of_scope)

  pub is_scoped-next : is_scoped (cs ++ c ∷ []) n c ≡ true
  is_scoped-next =
      and_both (option_map_or (λ k. nat_le k n && is_stack (construct_at (cs ++ c ∷ []) k).body) c.stack true) (nat_le c.stage n)
      (stack_part (is_stack (kind_view part.kind)) refl) (stage_part (is_stage (kind_view part.kind)))
