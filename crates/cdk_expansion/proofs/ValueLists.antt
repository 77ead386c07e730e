-- A list that was marked is no list marker.
use Rattle.std.proofs.Common.{◌≡◌, ℕ, ◌+◌, List, None, refl, unwrap_or}
use Rattle.serde_json.specs.Data.{null, array, item, no_items}
use Rattle.cdk_language.specs.Expression as expression
use Rattle.cdk_language.specs.Expression.{Expression, Expressions}
use Rattle.cdk_markers.specs.ListKey.{list_key_of}
use Rattle.cdk_plain.specs.Plain.{Plain}
use Rattle.cdk_expansion.specs.Expanded.{Known}
use Rattle.cdk_expansion.specs.Knows.{Knows, KnowsAll}
use Rattle.cdk_expansion.specs.Right.{IsRight, AreRight}
use Rattle.cdk_expansion.proofs.ConcatStands.{pieces_stand, stands_is_no_list}
use Rattle.cdk_expansion.proofs.LiteralFound.{clean_is_unmarked, found_is_clean}
use Rattle.cdk_expansion.proofs.LiteralPlain.{PiecesAreNoListMarker, two_or_more, unmarked_is_no_list, unmarked_item}
use Rattle.cdk_expansion.proofs.ValueTokens.{marker_is_no_key}
use Rattle.cdk_tokens.specs.Marking.{count, hint, marked, marked_items}
use Rattle.cdk_tokens.specs.Token.{key_of, marker}
use Rattle.cdk_tree.specs.Lists.{is_list}
use Rattle.cdk_tree.specs.Placed.{Placed, construct_at, found_value}

spelled_is_no_key : (cs : List Placed) (at n : ℕ) (e : Expression) → list_key_of (array (item (marker (is_list cs at e) (key_of (hint e) n)) no_items)) ≡ None
spelled_is_no_key cs at n e = marker_is_no_key (is_list cs at e) (key_of (hint e) n)

one_is_no_key : (known : Known) (lazies : ℕ → Plain) (cs : List Placed) (at n : ℕ) (e : Expression) → PiecesAreNoListMarker → IsRight cs at e → Knows known lazies cs at n e
    → list_key_of (array (item (marked cs at n e) no_items)) ≡ None
one_is_no_key known lazies cs at n (expression.text s) no_list right knows = unmarked_is_no_list no_list s right
one_is_no_key known lazies cs at n (expression.whole z) no_list right knows = refl
one_is_no_key known lazies cs at n (expression.truth b) no_list right knows = refl
one_is_no_key known lazies cs at n (expression.list es) no_list right knows = refl
one_is_no_key known lazies cs at n (expression.object fs) no_list right knows = refl
one_is_no_key known lazies cs at n (expression.pseudo p) no_list right knows = spelled_is_no_key cs at n (expression.pseudo p)
one_is_no_key known lazies cs at n (expression.ref t) no_list right knows = spelled_is_no_key cs at n (expression.ref t)
one_is_no_key known lazies cs at n (expression.get_att t a) no_list right knows = spelled_is_no_key cs at n (expression.get_att t a)
one_is_no_key known lazies cs at n (expression.concat es) no_list right knows = stands_is_no_list known _ _ _ no_list (pieces_stand known lazies cs at n es right.0 knows) right.1
one_is_no_key known lazies cs at n (expression.join d e) no_list right knows = spelled_is_no_key cs at (n + count e) (expression.join d e)
one_is_no_key known lazies cs at n (expression.select i e) no_list right knows = spelled_is_no_key cs at (n + count e) (expression.select i e)
one_is_no_key known lazies cs at n (expression.split d e) no_list right knows = spelled_is_no_key cs at (n + count e) (expression.split d e)
one_is_no_key known lazies cs at n (expression.choice c x y) no_list right knows = spelled_is_no_key cs at (n + (count x + count y)) (expression.choice c x y)
one_is_no_key known lazies cs at n (expression.find_in_map m x y) no_list right knows = spelled_is_no_key cs at (n + (count x + count y)) (expression.find_in_map m x y)
one_is_no_key known lazies cs at n (expression.import_value t) no_list right knows = spelled_is_no_key cs at n (expression.import_value t)
one_is_no_key known lazies cs at n (expression.context k d) no_list right knows =
    let o = found_value (construct_at cs at).contexts k d in
    unmarked_item no_list (unwrap_or o null) (clean_is_unmarked (unwrap_or o null) (found_is_clean o right))
one_is_no_key known lazies cs at n (expression.lazy t) no_list right knows = spelled_is_no_key cs at n (expression.lazy t)

pub list_is_no_key : (known : Known) (lazies : ℕ → Plain) (cs : List Placed) (at n : ℕ) (es : Expressions) → PiecesAreNoListMarker → AreRight cs at es → KnowsAll known lazies cs at n es
    → list_key_of (array (marked_items cs at n es)) ≡ None
list_is_no_key known lazies cs at n expression.no_expressions no_list right knows = refl
list_is_no_key known lazies cs at n (expression.expression e expression.no_expressions) no_list right knows = one_is_no_key known lazies cs at n e no_list right.0 knows.0
list_is_no_key known lazies cs at n (expression.expression e (expression.expression f es)) no_list right knows =
    two_or_more (marked cs at n e) (marked cs at (n + count e) f) (marked_items cs at (n + count e + count f) es)
