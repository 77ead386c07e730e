-- The logical names of a tree's constructs, as its templates have them (own).
use Rattle.std.specs.Prelude.{ℕ, List}
use Rattle.cdk_elements.specs.Elements.{logical_of}
use Rattle.cdk_entries.specs.declared.naming.Named.{Named}
use Rattle.cdk_stacks.specs.Made.{AreNamesOf}
use Rattle.cdk_tokens.specs.Marking.{target}
use Rattle.cdk_tree.specs.Placed.{Placed}
use Rattle.cdk_tree.specs.TreeView.{constructs}

abbrev pub constructs_in : Named → List Placed
constructs_in n = constructs n.tree.now

-- the names are the tree's own
abbrev pub IsNamed : Named → Type 0
IsNamed n = AreNamesOf n.names.now (constructs_in n)

-- the logical name of the construct at a path
abbrev pub named_at : List Placed → List ℕ → List ℕ
named_at cs t = logical_of cs (target cs t)
