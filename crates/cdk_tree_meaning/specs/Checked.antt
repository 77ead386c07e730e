-- Constructs in which no pass finds anything (own).
use Rattle.std.specs.Prelude.{◌≡◌, List, []}
use Rattle.cdk_elements.specs.OneStack.{AreOneStack}
use Rattle.cdk_expansion.specs.Laws.{IsSound}
use Rattle.cdk_premises.specs.Formed.{TreeIsFormed}
use Rattle.cdk_language.specs.Construct.{Application}
use Rattle.cdk_lazies.specs.CycleFindings.{cycle_findings}
use Rattle.cdk_premises.specs.OneTree.{IsRooted}
use Rattle.cdk_premises.specs.Operands.{OperandsArePlain}
use Rattle.cdk_sizes.specs.SizeFindings.{size_findings}
use Rattle.cdk_stacks.specs.Claims.{name_findings}
use Rattle.cdk_tokens.specs.Whole.{marking, tokens_of}
use Rattle.cdk_tree.specs.PlaceFindings.{place_findings}
use Rattle.cdk_tree.specs.Placed.{Placed, constructs_of}

-- Those of an application of one stack, read without a finding, with right places, targets and contexts; nothing reaches itself, nothing
-- is too large or too deep, and the names are right. Markers in templates are looked for when these are made.
pub record AreChecked (cs : List Placed) : Type 0 where
  pub application : Application
  pub rooted : IsRooted application
  pub walked : cs ≡ constructs_of application
  pub one : AreOneStack cs
  pub places : place_findings cs ≡ []
  pub sound : IsSound cs
  pub formed : TreeIsFormed cs
  pub operands : OperandsArePlain cs
  pub cycles : cycle_findings cs (tokens_of cs) (marking cs) ≡ []
  pub sizes : size_findings cs (tokens_of cs) (marking cs) ≡ []
  pub named : name_findings cs ≡ []
