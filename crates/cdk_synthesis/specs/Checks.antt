-- What the steps of a synthesis answer.
use Rattle.std.specs.Prelude.{◌≡◌, ◌<◌, ◌^◌, ℕ, List, [], length, true, None, Result, Ok, Err}
use Rattle.cdk_base.specs.declared.Setting.{Setting}
use Rattle.cdk_base.specs.declared.fault.Fault.{Fault}
use Rattle.cdk_carried.specs.Carried.{is_carried}
use Rattle.cdk_elements.specs.OneStack.{AreOneStack}
use Rattle.cdk_expansion.specs.Clean.{TreeIsClean}
use Rattle.cdk_expansion.specs.Laws.{IsSound}
use Rattle.cdk_premises.specs.Formed.{TreeIsFormed}
use Rattle.cdk_language.specs.Construct.{Application}
use Rattle.cdk_language.specs.declared.finding.Finding.{Finding}
use Rattle.cdk_lazies.specs.CycleFindings.{cycle_findings}
use Rattle.cdk_premises.specs.OneTree.{IsRooted}
use Rattle.cdk_premises.specs.Operands.{OperandsArePlain}
use Rattle.cdk_passes.specs.Faults.{IsFaultOf, first_of}
use Rattle.cdk_tokens.specs.Token.{Token}
use Rattle.cdk_tokens.specs.Whole.{MarkedBody, marking, tokens_of}
use Rattle.cdk_tree.specs.PlaceFindings.{place_findings}
use Rattle.cdk_tree.specs.Placed.{Placed, constructs_of}
use Rattle.cdk_tree.specs.TreeView.{constructs}
use Rattle.cdk_tree.specs.declared.tree.Tree.{Tree}
use Rattle.cdk_synthesis.specs.Assembly.{assembly_of, files_of, tree_of}
use Rattle.cdk_synthesis.specs.Passes.{first_fault, passes}
use Rattle.cdk_synthesis.specs.declared.files.File.{File}

-- they are the marked values and the tokens of the constructs
pub record AreMarksOf (cs : List Placed) (ms : List MarkedBody) (ts : List Token) : Type 0 where
  pub marks : ms ≡ marking cs
  pub tokens : ts ≡ tokens_of cs

-- fewer tokens than a table holds
abbrev pub AreCounted : List Placed → Type 0
AreCounted cs = length (tokens_of cs) < 2 ^ 64

-- What a synthesis answers for an application's bytes and settings: its files where it has no fault, else its first fault.
abbrev pub Synthesises : List ℕ → List Setting → Result (List File) Fault → Type 0
Synthesises bytes settings (Ok files) = (first_fault bytes settings ≡ None) × ((files ≡ assembly_of bytes settings) × AreCounted (tree_of bytes settings))
Synthesises bytes settings (Err fault) = IsFaultOf (first_fault bytes settings) fault

-- the constructs of a carried application with whose ids and places nothing is wrong, or the first fault of these passes
abbrev pub Builds : Application → Result Tree Fault → Type 0
Builds a (Ok tree) = (is_carried a ≡ true) × (constructs tree ≡ constructs_of a) × (place_findings (constructs_of a) ≡ [])
Builds a (Err fault) = IsFaultOf (first_of (passes a)) fault

-- ---- what is known of constructs after these passes

-- those of an application that was read without a finding and is carried, with whose ids and places nothing is wrong
pub record IsBuilt (cs : List Placed) : Type 0 where
  pub application : Application
  pub rooted : IsRooted application
  pub walked : cs ≡ constructs_of application
  pub one : AreOneStack cs
  pub places : place_findings cs ≡ []
  pub clean : TreeIsClean cs
  pub formed : TreeIsFormed cs
  pub operands : OperandsArePlain cs

-- with whose targets and contexts nothing is wrong
pub record IsMarked (cs : List Placed) : Type 0 where
  pub built : IsBuilt cs
  pub sound : IsSound cs

-- of which none reaches itself
pub record IsOrdered (cs : List Placed) : Type 0 where
  pub marked : IsMarked cs
  pub cycles : cycle_findings cs (tokens_of cs) (marking cs) ≡ []

-- ---- what is answered for them

-- the files are those of the application that has these constructs
abbrev pub AreFilesOf : List Placed → List File → Type 0
AreFilesOf cs files = (a : Application) → cs ≡ constructs_of a → files ≡ files_of a

-- the files of constructs in which none of these passes finds anything, or their first fault
abbrev pub Answers : List Placed → List (List Finding) → Result (List File) Fault → Type 0
Answers cs later (Ok files) = (first_of later ≡ None) × (AreFilesOf cs files × AreCounted cs)
Answers cs later (Err fault) = IsFaultOf (first_of later) fault
