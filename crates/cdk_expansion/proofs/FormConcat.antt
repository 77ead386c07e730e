-- The text of a Concat stands in pieces whose keys are those of text tokens and whose literals are those that were checked.
use Rattle.std.proofs.Common.{◌≡◌, ℕ, ◌+◌, List, [], ◌∷◌, ◌++◌, map, Bool, true, false, not, IsTrue, Option, Some, None, is_some, refl, sym, ap, ap₂, ◌∙◌, subst, true≢false, append-nil, unwrap_or}
use Rattle.std.specs.Option.{option_map_or}
use Rattle.std.specs.Prelude.{option_and_then}
use Rattle.std.proofs.lemmas.List.{map-append}
use Rattle.serde_json.specs.Data.{Data, null, number, string, boolean}
use Rattle.serde_json.specs.Find.{of_integer}
use Rattle.cdk_base.specs.Json.{text_of}
use Rattle.cdk_language.specs.Expression as expression
use Rattle.cdk_language.specs.Expression.{Expression, Expressions}
use Rattle.cdk_language.specs.Runs.{Literals, no_literal, is_marked_run}
use Rattle.cdk_markers.specs.Key.{is_key, text_marker}
use Rattle.cdk_markers.specs.Pieces.{Piece, literal, key, joined}
use Rattle.cdk_expansion.specs.Clean.{IsNoCollection, is_clean_value}
use Rattle.cdk_expansion.specs.Pieces.{HaveKeys, piece_literal}
use Rattle.cdk_expansion.specs.Right.{IsRight, PiecesAreRight}
use Rattle.cdk_expansion.proofs.ConcatStands.{HaveKeys-append, joined-append}
use Rattle.cdk_expansion.proofs.FormMade.{AllMade, Made, MadeOne}
use Rattle.cdk_expansion.proofs.FormPieces.{HaveTexts, IsFine, pieces_are_fine}
use Rattle.cdk_expansion.proofs.LiteralFound.{clean_has_text, whole_has_text}
use Rattle.cdk_expansion.proofs.ValueKeys.{is_key-key_of}
use Rattle.cdk_contexts.specs.Contexts.{literals_of, pieces_literals}
use Rattle.cdk_tokens.specs.Marking.{count, hint, marked, marked_text}
use Rattle.cdk_tokens.specs.Token.{Token, key_of, marker}
use Rattle.cdk_tokens.specs.Values.{is_text_token}
use Rattle.cdk_tree.specs.Expected.{is_array_or_object, finds_no_text}
use Rattle.cdk_tree.specs.Lists.{is_list}
use Rattle.cdk_tree.specs.Placed.{Placed, construct_at, found_value}

-- the text stands in pieces of these literals, whose keys are those of text tokens
record IsPieced (ts : List Token) (t : List ℕ) (ls : Literals) : Type 0 where
  pieces : List Piece
  spelled : joined pieces ≡ t
  literals : map piece_literal pieces ≡ ls
  keys : HaveKeys pieces
  texts : HaveTexts ts pieces

HaveTexts-append : (ts : List Token) (ps qs : List Piece) → HaveTexts ts ps → HaveTexts ts qs → HaveTexts ts (ps ++ qs)
HaveTexts-append ts [] qs a b = b
HaveTexts-append ts (literal s ∷ ps) qs a b = HaveTexts-append ts ps qs a b
HaveTexts-append ts (key k ∷ ps) qs a b = (a.0, HaveTexts-append ts ps qs (a.1) b)

both_pieced : (ts : List Token) (t u : List ℕ) (ls ms : Literals) → IsPieced ts t ls → IsPieced ts u ms → IsPieced ts (t ++ u) (ls ++ ms)
both_pieced ts t u ls ms a b = record {
  pieces = a.pieces ++ b.pieces;
  spelled = joined-append a.pieces b.pieces ∙ ap₂ (λ v w. v ++ w) a.spelled b.spelled;
  literals = map-append piece_literal a.pieces b.pieces ∙ ap₂ (λ v w. v ++ w) a.literals b.literals;
  keys = HaveKeys-append a.pieces b.pieces a.keys b.keys;
  texts = HaveTexts-append ts a.pieces b.pieces a.texts b.texts;
}

literal_pieced : (ts : List Token) (o : Option (List ℕ)) → is_some o ≡ true → IsPieced ts (unwrap_or o []) (o ∷ [])
literal_pieced ts None some = absurd (true≢false (sym some))
literal_pieced ts (Some s) some = record { pieces = literal s ∷ []; spelled = append-nil s; literals = refl; keys = tt; texts = tt }

context_pieced : (ts : List Token) (o : Option Data) → option_map_or is_clean_value o false ≡ true → option_map_or is_array_or_object o false ≡ false
    → IsPieced ts (unwrap_or (text_of (unwrap_or o null)) []) (option_and_then text_of o ∷ [])
context_pieced ts None right one = absurd (true≢false (sym right))
context_pieced ts (Some d) right one = literal_pieced ts (text_of d) (clean_has_text d right one)

key_pieced : (ts : List Token) (b : Bool) (k : List ℕ) → b ≡ false → IsTrue (is_key k) → is_text_token ts k ≡ not b → IsPieced ts (unwrap_or (text_of (marker b k)) []) no_literal
key_pieced ts true k one right text = absurd (true≢false one)
key_pieced ts false k one right text = record { pieces = key k ∷ []; spelled = append-nil (text_marker k); literals = refl; keys = (right, tt); texts = (text, tt) }

-- a token's expression, as a piece of a Concat
token_pieced : (ts : List Token) (cs : List Placed) (at n : ℕ) (e : Expression) → is_list cs at e ≡ false → MadeOne ts cs at n e
    → IsPieced ts (unwrap_or (text_of (marker (is_list cs at e) (key_of (hint e) n))) []) no_literal
token_pieced ts cs at n e one made = key_pieced ts (is_list cs at e) (key_of (hint e) n) one (is_key-key_of e n) (made.0)

mutual
  piece_pieced : (ts : List Token) (cs : List Placed) (at n : ℕ) (e : Expression) → IsNoCollection e → is_list cs at e ≡ false → finds_no_text (construct_at cs at).contexts e ≡ false → IsRight cs at e → Made ts cs at n e
      → IsPieced ts (unwrap_or (text_of (marked cs at n e)) []) (literals_of (construct_at cs at).contexts e)
  piece_pieced ts cs at n (expression.text s) single one found right made = literal_pieced ts (Some s) refl
  piece_pieced ts cs at n (expression.whole z) single one found right made = literal_pieced ts (text_of (number (of_integer z))) (whole_has_text (of_integer z) right)
  piece_pieced ts cs at n (expression.truth b) single one found right made = literal_pieced ts (text_of (boolean b)) refl
  piece_pieced ts cs at n (expression.list es) single one found right made = absurd single
  piece_pieced ts cs at n (expression.object fs) single one found right made = absurd single
  piece_pieced ts cs at n (expression.pseudo p) single one found right made = token_pieced ts cs at n (expression.pseudo p) one made
  piece_pieced ts cs at n (expression.ref t) single one found right made = token_pieced ts cs at n (expression.ref t) one made
  piece_pieced ts cs at n (expression.get_att t a) single one found right made = token_pieced ts cs at n (expression.get_att t a) one made
  piece_pieced ts cs at n (expression.concat es) single one found right made = pieces_pieced ts cs at n es (right.0) made
  piece_pieced ts cs at n (expression.join d e) single one found right made = token_pieced ts cs at (n + count e) (expression.join d e) one made
  piece_pieced ts cs at n (expression.select i e) single one found right made = token_pieced ts cs at (n + count e) (expression.select i e) one made
  piece_pieced ts cs at n (expression.split d e) single one found right made = token_pieced ts cs at (n + count e) (expression.split d e) one made
  piece_pieced ts cs at n (expression.choice c x y) single one found right made = token_pieced ts cs at (n + (count x + count y)) (expression.choice c x y) one made
  piece_pieced ts cs at n (expression.find_in_map m x y) single one found right made = token_pieced ts cs at (n + (count x + count y)) (expression.find_in_map m x y) one made
  piece_pieced ts cs at n (expression.import_value t) single one found right made = token_pieced ts cs at n (expression.import_value t) one made
  piece_pieced ts cs at n (expression.context k d) single one found right made = context_pieced ts (found_value (construct_at cs at).contexts k d) right found
  piece_pieced ts cs at n (expression.lazy t) single one found right made = token_pieced ts cs at n (expression.lazy t) one made

  pieces_pieced : (ts : List Token) (cs : List Placed) (at n : ℕ) (es : Expressions) → PiecesAreRight cs at es → AllMade ts cs at n es → IsPieced ts (marked_text cs at n es) (pieces_literals (construct_at cs at).contexts es)
  pieces_pieced ts cs at n expression.no_expressions right made = record { pieces = []; spelled = refl; literals = refl; keys = tt; texts = tt }
  pieces_pieced ts cs at n (expression.expression e es) right made =
      both_pieced ts _ _ _ _ (piece_pieced ts cs at n e (right.0) (right.1) (right.2) (right.3) (made.0)) (pieces_pieced ts cs at (n + count e) es (right.4) (made.1))

pieced_is_fine : (ts : List Token) (t : List ℕ) (ls : Literals) → IsPieced ts t ls → is_marked_run [] ls ≡ false → IsFine ts (string t)
pieced_is_fine ts t ls s free = subst (λ u. IsFine ts (string u)) s.spelled (pieces_are_fine ts s.pieces s.keys s.texts (ap (is_marked_run []) s.literals ∙ free))

pub concat_is_fine : (ts : List Token) (cs : List Placed) (at n : ℕ) (es : Expressions) → PiecesAreRight cs at es → AllMade ts cs at n es
    → is_marked_run [] (pieces_literals (construct_at cs at).contexts es) ≡ false → IsFine ts (string (marked_text cs at n es))
concat_is_fine ts cs at n es right made free = pieced_is_fine ts (marked_text cs at n es) (pieces_literals (construct_at cs at).contexts es) (pieces_pieced ts cs at n es right made) free
