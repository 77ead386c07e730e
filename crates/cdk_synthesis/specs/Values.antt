-- The values that the tree file shows, and what files are made of.
use Rattle.std.specs.Prelude.{◌≡◌, ℕ, List, ⊤}
use Rattle.serde_json.specs.View.{view}
use Rattle.serde_json.specs.declared.value.Value.{Value}
use Rattle.cdk_language.specs.Construct as language
use Rattle.cdk_language.specs.Construct.{Body}
use Rattle.cdk_elements.specs.Kinds.{stacks_of}
use Rattle.cdk_meaning.specs.Names.{IsIn}
use Rattle.cdk_template.specs.Laws.{HasWholeValues}
use Rattle.cdk_template.specs.Own.{spelling_of}
use Rattle.cdk_template.specs.Sources.{AreSources, SpellsOwn, constructs_in, scope_in}
use Rattle.cdk_template.specs.declared.sources.Sources.{Sources}
use Rattle.cdk_tree.specs.Placed.{Placed}
use Rattle.cdk_tree_meaning.specs.Checked.{AreChecked}

-- of the properties of a resource, as the one stack spells them
abbrev pub IsValueOf : Value → List Placed → ℕ → Body → Type 0
IsValueOf v cs n (language.resource r) = view v ≡ (spelling_of cs).value n r.properties
IsValueOf v cs n b = ⊤

-- the sources of a checked tree, whose values read back, and which this stack, the only one, spells as the one stack does
pub record CanBeMade (s : Sources) (stack : ℕ) : Type 0 where
  pub checked : AreChecked (constructs_in s)
  pub whole : HasWholeValues (constructs_in s)
  pub sources : AreSources s
  pub own : SpellsOwn (constructs_in s) (scope_in s stack)
  pub alone : (n : ℕ) → IsIn n (stacks_of (constructs_in s)) → n ≡ stack
