-- What is wrong with the contexts of constructs: a Context that isn't found, and a run of literals that holds the beginning of a
-- marker once context values are put in (own).
use Rattle.std.specs.Prelude.{ℕ, ◌+◌, ◌||◌, List, [], ◌∷◌, ◌++◌, map, Bool, false, Some, is_none, option_and_then}
use Rattle.std.specs.List.{list_any}
use Rattle.serde_json.specs.Data.{Members, number, boolean}
use Rattle.serde_json.specs.Find.{of_integer}
use Rattle.cdk_base.specs.Json.{text_of}
use Rattle.cdk_base.specs.declared.code.Code.{Code}
use Rattle.cdk_base.specs.declared.code.Code.TheVariants.{LiteralMarker, NoContext}
use Rattle.cdk_language.specs.Expression as expression
use Rattle.cdk_language.specs.Expression.{Expression, Expressions, Fields}
use Rattle.cdk_language.specs.Runs.{Literals, no_literal, is_marked_run}
use Rattle.cdk_tree.specs.Expected.{target_at}
use Rattle.cdk_tree.specs.PlaceFindings.{when}
use Rattle.cdk_tree.specs.Placed.{Placed, found_value}
use Rattle.cdk_tree.specs.declared.role.Found.{Found}
use Rattle.cdk_contexts.specs.Expressions.{expressions_in}

-- the texts of an expression as a piece, those of a Concat one by one; what is no literal ends a run, and so does a Context
-- that finds no text
abbrev mutual
  pub literals_of : List Members → Expression → Literals
  literals_of scopes (expression.text s) = Some s ∷ []
  literals_of scopes (expression.whole z) = text_of (number (of_integer z)) ∷ []
  literals_of scopes (expression.truth b) = text_of (boolean b) ∷ []
  literals_of scopes (expression.concat es) = pieces_literals scopes es
  literals_of scopes (expression.context k d) = option_and_then text_of (found_value scopes k d) ∷ []
  literals_of scopes e = no_literal

  pub pieces_literals : List Members → Expressions → Literals
  pieces_literals scopes expression.no_expressions = []
  pieces_literals scopes (expression.expression e es) = literals_of scopes e ++ pieces_literals scopes es

-- a Concat in the expression has a run of literals that holds the beginning of a marker
abbrev mutual
  pub has_marked_run : List Members → Expression → Bool
  has_marked_run scopes (expression.list es) = any_marked_run scopes es
  has_marked_run scopes (expression.object fs) = fields_marked_run scopes fs
  has_marked_run scopes (expression.concat es) = is_marked_run [] (pieces_literals scopes es) || any_marked_run scopes es
  has_marked_run scopes (expression.join d e) = has_marked_run scopes e
  has_marked_run scopes (expression.select i e) = has_marked_run scopes e
  has_marked_run scopes (expression.split d e) = has_marked_run scopes e
  has_marked_run scopes (expression.choice c x y) = has_marked_run scopes x || has_marked_run scopes y
  has_marked_run scopes (expression.find_in_map m x y) = has_marked_run scopes x || has_marked_run scopes y
  has_marked_run scopes e = false

  pub any_marked_run : List Members → Expressions → Bool
  any_marked_run scopes expression.no_expressions = false
  any_marked_run scopes (expression.expression e es) = has_marked_run scopes e || any_marked_run scopes es

  pub fields_marked_run : List Members → Fields → Bool
  fields_marked_run scopes expression.no_fields = false
  fields_marked_run scopes (expression.field k e fs) = has_marked_run scopes e || fields_marked_run scopes fs

-- a Context in the expression is found in no scope and has no default
abbrev mutual
  pub misses_context : List Members → Expression → Bool
  misses_context scopes (expression.list es) = any_misses_context scopes es
  misses_context scopes (expression.object fs) = fields_miss_context scopes fs
  misses_context scopes (expression.concat es) = any_misses_context scopes es
  misses_context scopes (expression.join d e) = misses_context scopes e
  misses_context scopes (expression.select i e) = misses_context scopes e
  misses_context scopes (expression.split d e) = misses_context scopes e
  misses_context scopes (expression.choice c x y) = misses_context scopes x || misses_context scopes y
  misses_context scopes (expression.find_in_map m x y) = misses_context scopes x || misses_context scopes y
  misses_context scopes (expression.context k d) = is_none (found_value scopes k d)
  misses_context scopes e = false

  pub any_misses_context : List Members → Expressions → Bool
  any_misses_context scopes expression.no_expressions = false
  any_misses_context scopes (expression.expression e es) = misses_context scopes e || any_misses_context scopes es

  pub fields_miss_context : List Members → Fields → Bool
  fields_miss_context scopes expression.no_fields = false
  fields_miss_context scopes (expression.field k e fs) = misses_context scopes e || fields_miss_context scopes fs

abbrev pub wrong_contexts_at : Placed → List Code
wrong_contexts_at c =
    when (list_any (has_marked_run c.contexts) (expressions_in c.body)) LiteralMarker
    ++ when (list_any (misses_context c.contexts) (expressions_in c.body)) NoContext

-- of the constructs from the number n on
abbrev pub context_findings_from : ℕ → List Placed → List Found
context_findings_from n [] = []
context_findings_from n (c ∷ rest) = map (target_at n) (wrong_contexts_at c) ++ context_findings_from (n + 1) rest

-- in walk order, at each construct the lowest number first
abbrev pub context_findings : List Placed → List Found
context_findings cs = context_findings_from 0 cs
