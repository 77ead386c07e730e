-- The constructs of an application in the order of the walk, each with where it stands (AWS CDK's construct tree: paths, scopes, context).
use Rattle.std.specs.Prelude.{ℕ, ◌+◌, List, [], ◌∷◌, ◌++◌, length, slice_index_or, position, if◌then◌else◌, Option, Some, None}
use Rattle.std.specs.Option.{option_or}
use Rattle.std.specs.Str.{bytes_eq}
use Rattle.serde_json.specs.Data.{Data, Members, no_members}
use Rattle.serde_json.specs.Find.{get_member}
use Rattle.cdk_language.specs.Construct as language
use Rattle.cdk_language.specs.Construct.{Application, Body, Construct, Constructs, Head}
pub use Rattle.cdk_scoping.specs.Ids.{path_in}
pub use Rattle.cdk_scoping.specs.Places.{is_stack, is_stage}

-- Constructs are named by their numbers in the walk, from 0, which is the root.
pub record Placed : Type 0 where
  pub head : Head
  pub body : Body
  pub parent : Option ℕ
  -- the ids from below the root down to its own, with `/` between them
  pub path : List ℕ
  -- 0 for the root, and one more for each scope above
  pub level : ℕ
  -- itself or its nearest scope that is a stack
  pub stack : Option ℕ
  -- itself or its nearest scope that is a stage, else the root
  pub stage : ℕ
  -- its own context, then its parent's, and so on up to the root's
  pub contexts : List Members

-- the root of an application, which has the empty path whatever its id
abbrev pub root_placed : Head → Body → Placed
root_placed h b = record { head = h; body = b; parent = None; path = []; level = 0; stack = if is_stack b then Some 0 else None; stage = 0; contexts = h.context ∷ [] }

-- the construct of the number n, whose parent p has the number m
abbrev pub placed_in : ℕ → ℕ → Placed → Head → Body → Placed
placed_in n m p h b = record {
  head = h;
  body = b;
  parent = Some m;
  path = path_in p.path h.id;
  level = p.level + 1;
  stack = if is_stack b then Some n else p.stack;
  stage = if is_stage b then n else p.stage;
  contexts = h.context ∷ p.contexts;
}

abbrev mutual
  -- a construct and all below it, from the number n on
  pub walk : ℕ → ℕ → Placed → Construct → List Placed
  walk n m p (language.construct h b cs) = placed_in n m p h b ∷ walk_children (n + 1) n (placed_in n m p h b) cs

  -- the subtrees of children, one after another
  pub walk_children : ℕ → ℕ → Placed → Constructs → List Placed
  walk_children n m p language.no_constructs = []
  walk_children n m p (language.child c cs) = walk n m p c ++ walk_children (n + length (walk n m p c)) m p cs

-- all constructs of an application
abbrev pub constructs_of : Application → List Placed
constructs_of (language.construct h b cs) = root_placed h b ∷ walk_children 1 0 (root_placed h b) cs

-- what stands where there is no construct
abbrev pub nowhere : Placed
nowhere = root_placed (record { id = []; context = no_members; aspects = []; depends = []; logical = None }) language.root

abbrev pub construct_at : List Placed → ℕ → Placed
construct_at cs n = slice_index_or cs n nowhere

-- the number of the construct at a path
abbrev pub find_path : List Placed → List ℕ → Option ℕ
find_path cs t = position (λ c. bytes_eq t c.path) cs

-- the value of a key in the first of the contexts that has it
abbrev pub look_up : List ℕ → List Members → Option Data
look_up k [] = None
look_up k (c ∷ cs) = option_or (get_member k c) (look_up k cs)

-- what a Context finds: the value of its key, else its default
abbrev pub found_value : List Members → List ℕ → Option Data → Option Data
found_value cs k d = option_or (look_up k cs) d
