-- Tokens: what stands in an application's values in place of an expression, until it is known who consumes it (AWS CDK's tokens; the
-- keys are our own).
use Rattle.std.specs.Prelude.{ℕ, List, ◌∷◌, ◌++◌, Bool, Option, decimal, position, if◌then◌else◌}
use Rattle.std.specs.Str.{bytes_eq}
use Rattle.serde_json.specs.Data.{Data, string}
use Rattle.cdk_language.specs.declared.expression.Pseudo.{Pseudo}
use Rattle.cdk_markers.specs.Key.{text_marker, list_marker}

-- An expression that is a token, with its arguments marked, and with constructs as its targets, by number.
pub data Form : Type 0 where
  pseudo : Pseudo → Form
  ref : ℕ → Form
  get_att : ℕ → List ℕ → Form
  join : List ℕ → Data → Form
  select : ℕ → Data → Form
  split : List ℕ → Data → Form
  choice : ℕ → Data → Data → Form
  find_in_map : ℕ → Data → Data → Form
  import_value : List ℕ → Form
  lazy : ℕ → Form

pub record Token : Type 0 where
  pub key : List ℕ
  -- the construct whose value the expression stands in
  pub owner : ℕ
  -- whether the expression is a list
  pub is_list : Bool
  pub form : Form

-- the key of the token of a hint and a number
abbrev pub key_of : List ℕ → ℕ → List ℕ
key_of h n = h ++ 46 ∷ decimal n

-- how a token is written where its value stands
abbrev pub marker : Bool → List ℕ → Data
marker is_list k = if is_list then list_marker k else string (text_marker k)

-- the number of the token of a key
abbrev pub find_token : List Token → List ℕ → Option ℕ
find_token ts k = position (λ t. bytes_eq k t.key) ts
