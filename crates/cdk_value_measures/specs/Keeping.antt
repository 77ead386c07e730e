-- What is kept of lazies: the measure of each, found in an order in which each stands behind those that it mentions.
use Rattle.std.specs.Prelude.{◌≡◌, ℕ, List, [], ◌∷◌, length, replicate, slice_set}
use Rattle.serde_json.specs.Data.{Data}
use Rattle.cdk_expansion.specs.Expanded.{plain_of}
use Rattle.cdk_expansion.specs.Mentions.{lazy_value}
use Rattle.cdk_value_measures.specs.Expanding.{Known, kept_at, known_below, known_in, value_measure}
use Rattle.cdk_measure.specs.Wholes.{leaf}
use Rattle.cdk_value_measures.specs.Measures.{measure}
use Rattle.cdk_value_measures.specs.Constructs.{lazy_count, path_in}
use Rattle.cdk_measure.specs.declared.measure.Measure.{Measure}
use Rattle.cdk_tokens.specs.TableView.{tokens_in}
use Rattle.cdk_tokens.specs.Token.{Token}
use Rattle.cdk_tokens.specs.Whole.{MarkedBody}
use Rattle.cdk_tokens.specs.declared.table.Table.{Table}
use Rattle.cdk_tree.specs.Placed.{Placed}
use Rattle.cdk_tree.specs.TreeView.{constructs}
use Rattle.cdk_tree.specs.declared.tree.Tree.{Tree}

-- what the keys of the tokens below the bound are measured as
abbrev pub known_to : Tree → Table → List Measure → ℕ → Known
known_to tree table kept below = known_below (path_in (constructs tree)) (kept_at kept) (tokens_in table) below

-- the measure of a marked value
abbrev pub measured : List Placed → List Token → List Measure → Data → Measure
measured cs ts kept d = value_measure (known_in (path_in cs) (kept_at kept) ts) d

-- once the lazies of the order are measured one after another
abbrev pub kept_after : List Placed → List Token → List MarkedBody → List Measure → List ℕ → List Measure
kept_after cs ts ms kept [] = kept
kept_after cs ts ms kept (n ∷ order) = kept_after cs ts ms (slice_set kept n (measured cs ts kept (lazy_value ms n))) order

abbrev pub kept_in : List Placed → List Token → List MarkedBody → List ℕ → List Measure
kept_in cs ts ms order = kept_after cs ts ms (replicate (length cs) (leaf 0)) order

-- with what is kept, each marked value has the measure of its plain form
pub record Serves (cs : List Placed) (ts : List Token) (ms : List MarkedBody) (kept : List Measure) : Type 0 where
  pub each : (d : Data) → measured cs ts kept d ≡ measure (path_in cs) (plain_of (lazy_count cs) ts ms d)
