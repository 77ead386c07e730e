-- Which lazies a marked value mentions, and which reach themselves by mentions (own, after AWS CDK's lazies).
use Rattle.std.specs.Prelude.{◌≡◌, ℕ, List, [], ◌∷◌, ◌++◌, slice_get, Contains, Option, Some, None}
use Rattle.std.specs.Option.{unwrap_or}
use Rattle.serde_json.specs.Data.{Data, null, boolean, number, string, array, object, Items, no_items, item, Members, no_members, member}
use Rattle.cdk_graphs.specs.Graph.{StandsBefore}
use Rattle.cdk_markers.specs.Cut.{cut_of}
use Rattle.cdk_markers.specs.ListKey.{list_key_of}
use Rattle.cdk_markers.specs.Pieces.{Piece, literal, key}
use Rattle.cdk_tokens.specs.Token as token
use Rattle.cdk_tokens.specs.Token.{Token, Form}
use Rattle.cdk_tokens.specs.Values.{token_at}
use Rattle.cdk_tokens.specs.Whole.{MarkedBody, value_at}

-- ---- the keys of a marked value's tokens

abbrev pub piece_keys : List Piece → List (List ℕ)
piece_keys [] = []
piece_keys (literal l ∷ ps) = piece_keys ps
piece_keys (key k ∷ ps) = k ∷ piece_keys ps

abbrev pub list_keys : Option (List ℕ) → List (List ℕ) → List (List ℕ)
list_keys None ks = ks
list_keys (Some k) ks = k ∷ []

abbrev mutual
  pub keys_in : Data → List (List ℕ)
  keys_in null = []
  keys_in (boolean b) = []
  keys_in (number n) = []
  keys_in (string s) = piece_keys (cut_of s)
  keys_in (array ds) = list_keys (list_key_of (array ds)) (keys_in_items ds)
  keys_in (object ms) = keys_in_members ms

  pub keys_in_items : Items → List (List ℕ)
  keys_in_items no_items = []
  keys_in_items (item d ds) = keys_in d ++ keys_in_items ds

  pub keys_in_members : Members → List (List ℕ)
  keys_in_members no_members = []
  keys_in_members (member k d ms) = keys_in d ++ keys_in_members ms

-- the marked arguments of a form
abbrev pub arguments : Form → List Data
arguments (token.join d v) = v ∷ []
arguments (token.select n v) = v ∷ []
arguments (token.split d v) = v ∷ []
arguments (token.choice c x y) = x ∷ y ∷ []
arguments (token.find_in_map m x y) = x ∷ y ∷ []
arguments f = []

-- ---- mentions

-- A value mentions a lazy where a token in it, or in the arguments of such a token, is that lazy's.
pub data Mentions (ts : List Token) : Data → ℕ → Type 0 where
  directly : (d : Data) (n : ℕ) (k : List ℕ) (t : Token) → Contains (keys_in d) k → token_at ts k ≡ Some t → t.form ≡ token.lazy n → Mentions ts d n
  through : (d a : Data) (n : ℕ) (k : List ℕ) (t : Token) → Contains (keys_in d) k → token_at ts k ≡ Some t → Contains (arguments t.form) a → Mentions ts a n → Mentions ts d n

-- the marked value of a lazy
abbrev pub lazy_value : List MarkedBody → ℕ → Data
lazy_value ms n = unwrap_or (value_at ms n) null

abbrev pub LazyMentions : List Token → List MarkedBody → ℕ → ℕ → Type 0
LazyMentions ts ms n m = Mentions ts (lazy_value ms n) m

-- by one or more mentions, one after another
pub data Reaches (ts : List Token) (ms : List MarkedBody) : ℕ → ℕ → Type 0 where
  once : (n m : ℕ) → LazyMentions ts ms n m → Reaches ts ms n m
  further : (n m l : ℕ) → LazyMentions ts ms n m → Reaches ts ms m l → Reaches ts ms n l

abbrev pub ReachesItself : List Token → List MarkedBody → ℕ → Type 0
ReachesItself ts ms n = Reaches ts ms n n

-- ---- orders

-- each lazy stands after those that it mentions
abbrev pub IsOrder : List Token → List MarkedBody → List ℕ → Type 0
IsOrder ts ms order = (p n m : ℕ) → slice_get order p ≡ Some n → LazyMentions ts ms n m → StandsBefore order p m
