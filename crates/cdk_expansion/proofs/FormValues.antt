-- The marked value of a right expression has right markers, where its tokens are found.
use Rattle.std.proofs.Common.{◌≡◌, ℕ, ◌+◌, List, Bool, true, false, not, IsTrue, Option, Some, refl, ap, ◌∙◌, unwrap_or}
use Rattle.serde_json.specs.Data.{null, Members, no_members, put}
use Rattle.cdk_language.specs.Expression as expression
use Rattle.cdk_language.specs.Expression.{Expression, Expressions, Fields}
use Rattle.cdk_markers.specs.Key.{is_key, list_marker}
use Rattle.cdk_markers.specs.ListKey.{list_key_of}
use Rattle.cdk_expansion.specs.Right.{IsRight, AreRight, FieldsAreRight}
use Rattle.cdk_expansion.proofs.FormCollections.{AreFine, FieldsAreFine, array_is_fine, item_is_fine, literal_is_fine, put_is_fine}
use Rattle.cdk_expansion.proofs.FormConcat.{concat_is_fine}
use Rattle.cdk_expansion.proofs.FormMade.{AllMade, FieldsMade, Made, MadeOne}
use Rattle.cdk_expansion.proofs.FormPieces.{IsFine, key_is_fine, unmarked_is_fine}
use Rattle.cdk_expansion.proofs.LiteralFound.{clean_is_unmarked, found_is_clean}
use Rattle.cdk_expansion.proofs.ValueKeys.{is_key-key_of}
use Rattle.cdk_expansion.proofs.ValueTokens.{list_marker_is_key}
use Rattle.cdk_tokens.specs.Marking.{count, hint, marked, marked_items, marked_members, spelled}
use Rattle.cdk_tokens.specs.Token.{Token, key_of, marker}
use Rattle.cdk_tokens.specs.Values.{has_unknown_list, is_list_token, is_text_token, unless_list}
use Rattle.cdk_tree.specs.Lists.{is_list}
use Rattle.cdk_tree.specs.Placed.{Placed, construct_at, found_value}

-- of an array that is the list marker of a list token
known_list : (ts : List Token) (o : Option (List ℕ)) (k : List ℕ) (items : Bool) → o ≡ Some k → is_list_token ts k ≡ true → has_unknown_list ts o items ≡ false
known_list ts o k items named list = ap (λ p. has_unknown_list ts p items) named ∙ ap not list

list_alone : (o : Option (List ℕ)) (k : List ℕ) (items : Bool) → o ≡ Some k → unless_list o items ≡ false
list_alone o k items named = ap (λ p. unless_list p items) named

marker_is_fine : (ts : List Token) (b : Bool) (k : List ℕ) → IsTrue (is_key k) → is_text_token ts k ≡ not b → is_list_token ts k ≡ b → IsFine ts (marker b k)
marker_is_fine ts true k right text list =
    let named = list_marker_is_key k right in (known_list ts (list_key_of (list_marker k)) k _ named list, list_alone (list_key_of (list_marker k)) k _ named)
marker_is_fine ts false k right text list = key_is_fine ts k right text

token_is_fine : (ts : List Token) (cs : List Placed) (at n : ℕ) (e : Expression) → MadeOne ts cs at n e → IsFine ts (spelled cs at n e)
token_is_fine ts cs at n e made = marker_is_fine ts (is_list cs at e) (key_of (hint e) n) (is_key-key_of e n) (made.0) (made.1)

mutual
  pub value_is_fine : (ts : List Token) (cs : List Placed) (at n : ℕ) (e : Expression) → IsRight cs at e → Made ts cs at n e → IsFine ts (marked cs at n e)
  value_is_fine ts cs at n (expression.text s) right made = unmarked_is_fine ts s right
  value_is_fine ts cs at n (expression.whole z) right made = (refl, refl)
  value_is_fine ts cs at n (expression.truth b) right made = (refl, refl)
  value_is_fine ts cs at n (expression.list es) right made = array_is_fine ts (marked_items cs at n es) (items_are_fine ts cs at n es right made)
  value_is_fine ts cs at n (expression.object fs) right made = members_are_fine ts cs at n fs no_members right made (refl, refl)
  value_is_fine ts cs at n (expression.pseudo p) right made = token_is_fine ts cs at n (expression.pseudo p) made
  value_is_fine ts cs at n (expression.ref t) right made = token_is_fine ts cs at n (expression.ref t) made
  value_is_fine ts cs at n (expression.get_att t a) right made = token_is_fine ts cs at n (expression.get_att t a) made
  value_is_fine ts cs at n (expression.concat es) right made = concat_is_fine ts cs at n es (right.0) made (right.1)
  value_is_fine ts cs at n (expression.join d e) right made = token_is_fine ts cs at (n + count e) (expression.join d e) made
  value_is_fine ts cs at n (expression.select i e) right made = token_is_fine ts cs at (n + count e) (expression.select i e) made
  value_is_fine ts cs at n (expression.split d e) right made = token_is_fine ts cs at (n + count e) (expression.split d e) made
  value_is_fine ts cs at n (expression.choice c x y) right made = token_is_fine ts cs at (n + (count x + count y)) (expression.choice c x y) made
  value_is_fine ts cs at n (expression.find_in_map m x y) right made = token_is_fine ts cs at (n + (count x + count y)) (expression.find_in_map m x y) made
  value_is_fine ts cs at n (expression.import_value t) right made = token_is_fine ts cs at n (expression.import_value t) made
  value_is_fine ts cs at n (expression.context k d) right made =
      let o = found_value (construct_at cs at).contexts k d in
      literal_is_fine ts (unwrap_or o null) (clean_is_unmarked (unwrap_or o null) (found_is_clean o right))
  value_is_fine ts cs at n (expression.lazy t) right made = token_is_fine ts cs at n (expression.lazy t) made

  items_are_fine : (ts : List Token) (cs : List Placed) (at n : ℕ) (es : Expressions) → AreRight cs at es → AllMade ts cs at n es → AreFine ts (marked_items cs at n es)
  items_are_fine ts cs at n expression.no_expressions right made = (refl, refl)
  items_are_fine ts cs at n (expression.expression e es) right made =
      item_is_fine ts (marked cs at n e) (marked_items cs at (n + count e) es) (value_is_fine ts cs at n e (right.0) (made.0)) (items_are_fine ts cs at (n + count e) es (right.1) (made.1))

  members_are_fine : (ts : List Token) (cs : List Placed) (at n : ℕ) (fs : Fields) (done : Members) → FieldsAreRight cs at fs → FieldsMade ts cs at n fs → FieldsAreFine ts done
      → FieldsAreFine ts (marked_members cs at n fs done)
  members_are_fine ts cs at n expression.no_fields done right made fine = fine
  members_are_fine ts cs at n (expression.field k e fs) done right made fine =
      members_are_fine ts cs at (n + count e) fs (put k (marked cs at n e) done) (right.1) (made.1) (put_is_fine ts k (marked cs at n e) done (value_is_fine ts cs at n e (right.0) (made.0)) fine)
