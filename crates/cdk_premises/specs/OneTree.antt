-- What the laws ask of a tree and of its stack (own): the tree of an application of one stack, in which nothing was found.
use Rattle.std.specs.Prelude.{◌≡◌, ℕ, List, []}
use Rattle.cdk_elements.specs.Kinds.{stacks_of}
use Rattle.cdk_elements.specs.OneStack.{AreOneStack}
use Rattle.cdk_expansion.specs.Laws.{IsSound}
use Rattle.cdk_language.specs.Construct as language
use Rattle.cdk_language.specs.Construct.{Application}
use Rattle.cdk_meaning.specs.Names.{IsIn}
use Rattle.cdk_tree.specs.PlaceFindings.{place_findings}
use Rattle.cdk_tree.specs.Placed.{Placed, constructs_of}

-- The root construct is nothing but the root, as it is in each application that is read.
abbrev pub IsRooted : Application → Type 0
IsRooted (language.construct h b cs) = b ≡ language.root

pub record IsOneTree (cs : List Placed) (stack : ℕ) : Type 0 where
  pub application : Application
  pub rooted : IsRooted application
  pub walked : cs ≡ constructs_of application
  pub one : AreOneStack cs
  pub placed : place_findings cs ≡ []
  pub sound : IsSound cs
  pub there : IsIn stack (stacks_of cs)
