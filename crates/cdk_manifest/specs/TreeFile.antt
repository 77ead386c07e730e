-- The tree file: every construct of an application by its place (AWS CDK's tree metadata, version tree-0.1).
use Rattle.std.specs.Prelude.{ℕ, ◌+◌, List, length, Option, Some, None, codes}
use Rattle.serde_json.specs.Data.{Data, string, object, Members, no_members, member, put}
use Rattle.cdk_language.specs.Construct as language
use Rattle.cdk_language.specs.Construct.{Application, Body, Construct, Constructs}
use Rattle.cdk_language.specs.Expression.{Expression}
use Rattle.cdk_tree.specs.Placed.{Placed, placed_in, root_placed, walk}
use Rattle.cdk_manifest.specs.Objects.{if_given, unless_empty}

-- what a construct's node is called: the root `App`, each other by its id
abbrev pub shown_id : Option ℕ → List ℕ → List ℕ
shown_id None id = codes "App"
shown_id (Some scope) id = id

abbrev pub node_with : Option Data → Option Data → List ℕ → List ℕ → Data
node_with attributes children id path =
    object (if_given (codes "attributes") attributes
    (if_given (codes "children") children
    (member (codes "id") (string id)
    (member (codes "path") (string path)
    no_members))))

abbrev pub id_of : Construct → List ℕ
id_of (language.construct h b cs) = h.id

abbrev pub resource_attributes : Data → List ℕ → Data
resource_attributes properties resource_type =
    object (member (codes "aws:cdk:cloudformation:props") properties
    (member (codes "aws:cdk:cloudformation:type") (string resource_type)
    no_members))

-- the file, by the root's node
abbrev pub tree_document : Data → Data
tree_document root = object (member (codes "tree") root (member (codes "version") (string (codes "tree-0.1")) no_members))

-- with the value of an expression of the construct of a number
module _ (value : ℕ → Expression → Data) where
  abbrev pub attributes_of : ℕ → Body → Option Data
  attributes_of n (language.resource r) = Some (resource_attributes (value n r.properties) r.resource_type)
  attributes_of n b = None

  -- the node of the construct of the number n, which has these children
  abbrev pub node_of : ℕ → Placed → Members → Data
  node_of n c children = node_with (attributes_of n c.body) (unless_empty children) (shown_id c.parent c.head.id) c.path

  abbrev mutual
    -- a construct of the number n, in the scope of the number m
    pub node : ℕ → ℕ → Placed → Construct → Data
    node n m p (language.construct h b cs) = node_of n (placed_in n m p h b) (nodes (n + 1) n (placed_in n m p h b) cs)

    -- children by their ids, from the number n on
    pub nodes : ℕ → ℕ → Placed → Constructs → Members
    nodes n m p language.no_constructs = no_members
    nodes n m p (language.child c cs) = put (id_of c) (node n m p c) (nodes (n + length (walk n m p c)) m p cs)

  abbrev pub root_node : Application → Data
  root_node (language.construct h b cs) = node_of 0 (root_placed h b) (nodes 1 0 (root_placed h b) cs)

  abbrev pub tree_file_of : Application → Data
  tree_file_of a = tree_document (root_node a)
