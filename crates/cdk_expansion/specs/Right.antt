-- What the checks of targets and of contexts have found besides, told of each expression.
use Rattle.std.specs.Prelude.{◌≡◌, ℕ, List, [], ◌∷◌, true, false, ⊤}
use Rattle.std.specs.Option.{option_map_or}
use Rattle.cdk_base.specs.Marker.{has_marker}
use Rattle.cdk_base.specs.Json.{is_whole}
use Rattle.serde_json.specs.Find.{of_integer}
use Rattle.cdk_language.specs.Expression as expression
use Rattle.cdk_language.specs.Expression.{Expression, Expressions, Fields}
use Rattle.cdk_language.specs.Runs.{is_marked_run}
use Rattle.cdk_tree.specs.Expected.{finds_no_text}
use Rattle.cdk_tree.specs.Lists.{is_list}
use Rattle.cdk_tree.specs.Placed.{Placed, construct_at, found_value}
use Rattle.cdk_contexts.specs.Contexts.{pieces_literals}
use Rattle.cdk_expansion.specs.Clean.{IsNoCollection, is_clean_value}

-- it is clean, its contexts are found, the pieces of its Concats are texts, and no run of literals in them holds the beginning
-- of a marker
abbrev mutual
  pub IsRight : List Placed → ℕ → Expression → Type 0
  IsRight cs at (expression.text s) = has_marker s ≡ false
  IsRight cs at (expression.whole z) = is_whole (of_integer z) ≡ true
  IsRight cs at (expression.list es) = AreRight cs at es
  IsRight cs at (expression.object fs) = FieldsAreRight cs at fs
  IsRight cs at (expression.concat es) = PiecesAreRight cs at es × (is_marked_run [] (pieces_literals (construct_at cs at).contexts es) ≡ false)
  IsRight cs at (expression.join d e) = IsRight cs at e
  IsRight cs at (expression.select i e) = IsRight cs at e
  IsRight cs at (expression.split d e) = IsRight cs at e
  IsRight cs at (expression.choice c x y) = IsRight cs at x × IsRight cs at y
  IsRight cs at (expression.find_in_map m x y) = IsRight cs at x × IsRight cs at y
  IsRight cs at (expression.context k d) = option_map_or is_clean_value (found_value (construct_at cs at).contexts k d) false ≡ true
  IsRight cs at e = ⊤

  pub AreRight : List Placed → ℕ → Expressions → Type 0
  AreRight cs at expression.no_expressions = ⊤
  AreRight cs at (expression.expression e es) = IsRight cs at e × AreRight cs at es

  pub FieldsAreRight : List Placed → ℕ → Fields → Type 0
  FieldsAreRight cs at expression.no_fields = ⊤
  FieldsAreRight cs at (expression.field k e fs) = IsRight cs at e × FieldsAreRight cs at fs

  pub PiecesAreRight : List Placed → ℕ → Expressions → Type 0
  PiecesAreRight cs at expression.no_expressions = ⊤
  PiecesAreRight cs at (expression.expression e es) =
      IsNoCollection e × (is_list cs at e ≡ false) × (finds_no_text (construct_at cs at).contexts e ≡ false) × IsRight cs at e × PiecesAreRight cs at es

abbrev pub ListIsRight : List Placed → ℕ → List Expression → Type 0
ListIsRight cs at [] = ⊤
ListIsRight cs at (e ∷ es) = IsRight cs at e × ListIsRight cs at es
