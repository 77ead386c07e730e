-- The condition under which a resource or output is made is found, and is one of the stack's.
use Rattle.std.proofs.Common.{ℕ, List, false, Option, Some, None, refl, ap, subst, sym}
use Rattle.std.specs.Prelude.{is_some}
use Rattle.cdk_elements.specs.Elements.{parts_of}
use Rattle.cdk_language.specs.Construct as language
use Rattle.cdk_language.specs.Construct.{Body}
use Rattle.cdk_meaning.proofs.NameLists.{each_back}
use Rattle.cdk_meaning.specs.Names.{Each}
use Rattle.cdk_meaning.specs.StackTemplate.{IsGuardIn}
use Rattle.cdk_tokens.specs.Marking.{target}
use Rattle.cdk_tree.specs.Expected.{expected, expected_when}
use Rattle.cdk_tree.specs.Placed.{Placed, construct_at}
use Rattle.cdk_premises.specs.MentionsLaws.{GuardsAreConditions, IsGuarded, guard_of}
use Rattle.cdk_premises.specs.OneTree.{IsOneTree}
use Rattle.cdk_premises.proofs.Targets.{BodyIsMet, IsMetAt, body_is_met, condition_there}

module _ (cs : List Placed) (stack : ℕ) (tree : IsOneTree cs stack) where
  guarded : (o : Option (List ℕ)) → Each (IsMetAt cs false) (expected_when o) → IsGuarded cs stack o
  guarded None h = record { there = tt; found = refl }
  guarded (Some t) h = record { there = subst (IsGuardIn (parts_of cs stack).conditions) (sym h.0.found) (condition_there cs stack tree (target cs t) h.0.serving); found = ap is_some h.0.found }

  guarded_body : (b : Body) → BodyIsMet cs b → IsGuarded cs stack (guard_of b)
  guarded_body (language.resource r) h = guarded r.condition (each_back (IsMetAt cs false) (expected r.properties) (expected_when r.condition) h)
  guarded_body (language.output o) h = guarded o.condition (each_back (IsMetAt cs false) (expected o.value) (expected_when o.condition) h)
  guarded_body b h = guarded None tt

pub guards_are_conditions : GuardsAreConditions
guards_are_conditions cs stack tree n within = guarded_body cs stack tree (construct_at cs n).body (body_is_met cs tree.sound n within)
