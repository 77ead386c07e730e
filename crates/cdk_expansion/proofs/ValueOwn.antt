-- A marked value has the plain form of its expression, where its tokens are known.
use Rattle.std.proofs.Common.{◌≡◌, ℕ, ◌+◌, pos, negsuc, ℤ, List, refl, ap, ap₂, ◌∙◌, unwrap_or}
use Rattle.serde_json.specs.Data.{null, number, Members, no_members, put}
use Rattle.serde_json.specs.Find.{of_integer}
use Rattle.cdk_language.specs.Expression as expression
use Rattle.cdk_language.specs.Expression.{Expression, Expressions, Fields}
use Rattle.cdk_plain.specs.Plain as plain
use Rattle.cdk_plain.specs.Plain.{Plain, whole, list_of, object_of, no_fields}
use Rattle.cdk_expansion.specs.Expanded.{Known, array_plain, value_plain, items_plain, members_plain}
use Rattle.cdk_expansion.specs.Knows.{Knows, KnowsAll, KnowsFields}
use Rattle.cdk_expansion.specs.Laws.{MarkedIsOwn}
use Rattle.cdk_expansion.specs.Own.{own, own_all, own_fields, put_field}
use Rattle.cdk_expansion.specs.Pieces.{PiecesAreCutAgain}
use Rattle.cdk_expansion.specs.Right.{IsRight, AreRight, FieldsAreRight}
use Rattle.cdk_expansion.proofs.ConcatStands.{pieces_stand, stands_is_plain}
use Rattle.cdk_expansion.proofs.LiteralFound.{clean_is_unmarked, found_is_clean}
use Rattle.cdk_expansion.proofs.LiteralPlain.{PiecesAreNoListMarker, literal_is_plain, unmarked_text}
use Rattle.cdk_expansion.proofs.ValueFields.{members_plain-put}
use Rattle.cdk_expansion.proofs.ValueLists.{list_is_no_key}
use Rattle.cdk_expansion.proofs.ValueTokens.{spelled_is_plain}
use Rattle.cdk_tokens.specs.Marking.{count, marked, marked_items, marked_members}
use Rattle.cdk_tree.specs.Placed.{Placed, construct_at, found_value}

whole_is_plain : (known : Known) (z : ℤ) → value_plain known (number (of_integer z)) ≡ whole z
whole_is_plain known (pos n) = refl
whole_is_plain known (negsuc n) = refl

mutual
  value_is_own : PiecesAreCutAgain → PiecesAreNoListMarker → (known : Known) (lazies : ℕ → Plain) (cs : List Placed) (at n : ℕ) (e : Expression) → IsRight cs at e → Knows known lazies cs at n e → value_plain known (marked cs at n e) ≡ own lazies cs at e
  value_is_own cut no_list known lazies cs at n (expression.text s) right knows = unmarked_text known cut s right
  value_is_own cut no_list known lazies cs at n (expression.whole z) right knows = whole_is_plain known z
  value_is_own cut no_list known lazies cs at n (expression.truth b) right knows = refl
  value_is_own cut no_list known lazies cs at n (expression.list es) right knows =
      ap (λ o. array_plain known o (items_plain known (marked_items cs at n es))) (list_is_no_key known lazies cs at n es no_list right knows)
      ∙ ap list_of (items_are_own cut no_list known lazies cs at n es right knows)
  value_is_own cut no_list known lazies cs at n (expression.object fs) right knows = ap object_of (members_are_own cut no_list known lazies cs at n fs no_members right knows)
  value_is_own cut no_list known lazies cs at n (expression.pseudo p) right knows = spelled_is_plain known lazies cs at n (expression.pseudo p) cut knows
  value_is_own cut no_list known lazies cs at n (expression.ref t) right knows = spelled_is_plain known lazies cs at n (expression.ref t) cut knows
  value_is_own cut no_list known lazies cs at n (expression.get_att t a) right knows = spelled_is_plain known lazies cs at n (expression.get_att t a) cut knows
  value_is_own cut no_list known lazies cs at n (expression.concat es) right knows = stands_is_plain known _ _ _ cut (pieces_stand known lazies cs at n es right.0 knows) right.1
  value_is_own cut no_list known lazies cs at n (expression.join d e) right knows = spelled_is_plain known lazies cs at (n + count e) (expression.join d e) cut knows.1
  value_is_own cut no_list known lazies cs at n (expression.select i e) right knows = spelled_is_plain known lazies cs at (n + count e) (expression.select i e) cut knows.1
  value_is_own cut no_list known lazies cs at n (expression.split d e) right knows = spelled_is_plain known lazies cs at (n + count e) (expression.split d e) cut knows.1
  value_is_own cut no_list known lazies cs at n (expression.choice c x y) right knows = spelled_is_plain known lazies cs at (n + (count x + count y)) (expression.choice c x y) cut knows.2
  value_is_own cut no_list known lazies cs at n (expression.find_in_map m x y) right knows = spelled_is_plain known lazies cs at (n + (count x + count y)) (expression.find_in_map m x y) cut knows.2
  value_is_own cut no_list known lazies cs at n (expression.import_value t) right knows = spelled_is_plain known lazies cs at n (expression.import_value t) cut knows
  value_is_own cut no_list known lazies cs at n (expression.context k d) right knows =
      let o = found_value (construct_at cs at).contexts k d in
      literal_is_plain known cut no_list (unwrap_or o null) (clean_is_unmarked (unwrap_or o null) (found_is_clean o right))
  value_is_own cut no_list known lazies cs at n (expression.lazy t) right knows = spelled_is_plain known lazies cs at n (expression.lazy t) cut knows

  items_are_own : PiecesAreCutAgain → PiecesAreNoListMarker → (known : Known) (lazies : ℕ → Plain) (cs : List Placed) (at n : ℕ) (es : Expressions) → AreRight cs at es → KnowsAll known lazies cs at n es → items_plain known (marked_items cs at n es) ≡ own_all lazies cs at es
  items_are_own cut no_list known lazies cs at n expression.no_expressions right knows = refl
  items_are_own cut no_list known lazies cs at n (expression.expression e es) right knows =
      ap₂ plain.plain (value_is_own cut no_list known lazies cs at n e right.0 knows.0) (items_are_own cut no_list known lazies cs at (n + count e) es right.1 knows.1)

  members_are_own : PiecesAreCutAgain → PiecesAreNoListMarker → (known : Known) (lazies : ℕ → Plain) (cs : List Placed) (at n : ℕ) (fs : Fields) (done : Members) → FieldsAreRight cs at fs → KnowsFields known lazies cs at n fs
      → members_plain known (marked_members cs at n fs done) ≡ own_fields lazies cs at fs (members_plain known done)
  members_are_own cut no_list known lazies cs at n expression.no_fields done right knows = refl
  members_are_own cut no_list known lazies cs at n (expression.field k e fs) done right knows =
      members_are_own cut no_list known lazies cs at (n + count e) fs (put k (marked cs at n e) done) right.1 knows.1
      ∙ ap (own_fields lazies cs at fs) (members_plain-put known k (marked cs at n e) done ∙ ap (λ p. put_field k p (members_plain known done)) (value_is_own cut no_list known lazies cs at n e right.0 knows.0))

pub marked_is_own : PiecesAreCutAgain → PiecesAreNoListMarker → MarkedIsOwn
marked_is_own cut no_list known lazies cs at n e right knows = value_is_own cut no_list known lazies cs at n e right knows
