-- The pieces that the text of a Concat is put together from, whose literals are those that were checked and which stand for its parts.
use Rattle.std.proofs.Common.{◌≡◌, ℕ, ◌+◌, List, [], ◌∷◌, ◌++◌, map, Bool, true, false, IsTrue, Option, Some, None, is_some, refl, sym, ap, ap₂, ◌∙◌, true≢false, append-nil, append_assoc, unwrap_or}
use Rattle.std.specs.Option.{option_map_or}
use Rattle.std.specs.Prelude.{option_and_then}
use Rattle.std.proofs.lemmas.List.{map-append}
use Rattle.serde_json.specs.Data.{Data, null, number, boolean}
use Rattle.serde_json.specs.Find.{of_integer}
use Rattle.cdk_base.specs.Json.{text_of}
use Rattle.cdk_language.specs.Expression as expression
use Rattle.cdk_language.specs.Expression.{Expression, Expressions}
use Rattle.cdk_language.specs.Runs.{Literals, no_literal, is_marked_run}
use Rattle.cdk_markers.specs.Cut.{cut_of}
use Rattle.cdk_markers.specs.Key.{is_key, text_marker}
use Rattle.cdk_markers.specs.ListKey.{list_text_key}
use Rattle.cdk_markers.specs.Pieces.{Piece, literal, key, spelling, joined}
use Rattle.cdk_plain.specs.Plain.{Plain, text}
use Rattle.cdk_expansion.specs.Clean.{IsNoCollection, is_clean_value}
use Rattle.cdk_expansion.specs.Expanded as expanded
use Rattle.cdk_expansion.specs.Expanded.{Known}
use Rattle.cdk_expansion.specs.Knows.{Knows, KnowsAll}
use Rattle.cdk_expansion.specs.Own as own
use Rattle.cdk_expansion.specs.Own.{Part, other_part, text_part, parts, all_parts}
use Rattle.cdk_expansion.specs.Pieces.{HaveKeys, piece_literal, PiecesAreCutAgain}
use Rattle.cdk_expansion.specs.Right.{IsRight, PiecesAreRight}
use Rattle.cdk_expansion.proofs.ConcatMerged.{part_of, assembled-merged}
use Rattle.cdk_expansion.proofs.LiteralFound.{clean_has_text, whole_has_text}
use Rattle.cdk_expansion.proofs.LiteralPlain.{PiecesAreNoListMarker}
use Rattle.cdk_expansion.proofs.ValueKeys.{is_key-key_of}
use Rattle.cdk_contexts.specs.Contexts.{literals_of, pieces_literals}
use Rattle.cdk_tokens.specs.Marking.{count, hint, marked, marked_text}
use Rattle.cdk_tokens.specs.Token.{key_of, marker}
use Rattle.cdk_tree.specs.Expected.{is_array_or_object, finds_no_text}
use Rattle.cdk_tree.specs.Lists.{is_list}
use Rattle.cdk_tree.specs.Placed.{Placed, construct_at, found_value}

-- the text stands in pieces of these literals and parts
pub record Stands (known : Known) (t : List ℕ) (ls : Literals) (ps : List Part) : Type 0 where
  pub pieces : List Piece
  pub spelled : joined pieces ≡ t
  pub literals : map piece_literal pieces ≡ ls
  pub keys : HaveKeys pieces
  pub parts : map (part_of known) pieces ≡ ps

pub joined-append : (ps qs : List Piece) → joined (ps ++ qs) ≡ joined ps ++ joined qs
joined-append [] qs = refl
joined-append (p ∷ ps) qs = ap (λ t. spelling p ++ t) (joined-append ps qs) ∙ sym (append_assoc (spelling p) (joined ps) (joined qs))

pub HaveKeys-append : (ps qs : List Piece) → HaveKeys ps → HaveKeys qs → HaveKeys (ps ++ qs)
HaveKeys-append [] qs a b = b
HaveKeys-append (literal s ∷ ps) qs a b = HaveKeys-append ps qs a b
HaveKeys-append (key k ∷ ps) qs a b = (a.0, HaveKeys-append ps qs a.1 b)

nothing_stands : (known : Known) → Stands known [] [] []
nothing_stands known = record { pieces = []; spelled = refl; literals = refl; keys = tt; parts = refl }

both_stand : (known : Known) (t u : List ℕ) (ls ms : Literals) (ps qs : List Part) → Stands known t ls ps → Stands known u ms qs → Stands known (t ++ u) (ls ++ ms) (ps ++ qs)
both_stand known t u ls ms ps qs a b = record {
  pieces = a.pieces ++ b.pieces;
  spelled = joined-append a.pieces b.pieces ∙ ap₂ (λ v w. v ++ w) a.spelled b.spelled;
  literals = map-append piece_literal a.pieces b.pieces ∙ ap₂ (λ v w. v ++ w) a.literals b.literals;
  keys = HaveKeys-append a.pieces b.pieces a.keys b.keys;
  parts = map-append (part_of known) a.pieces b.pieces ∙ ap₂ (λ v w. v ++ w) a.parts b.parts;
}

literal_stands : (known : Known) (o : Option (List ℕ)) → is_some o ≡ true → Stands known (unwrap_or o []) (o ∷ []) (text_part o)
literal_stands known None some = absurd (true≢false (sym some))
literal_stands known (Some s) some = record { pieces = literal s ∷ []; spelled = append-nil s; literals = refl; keys = tt; parts = refl }

context_stands : (known : Known) (o : Option Data) → option_map_or is_clean_value o false ≡ true → option_map_or is_array_or_object o false ≡ false
    → Stands known (unwrap_or (text_of (unwrap_or o null)) []) (option_and_then text_of o ∷ []) (text_part (text_of (unwrap_or o null)))
context_stands known None right one = absurd (true≢false (sym right))
context_stands known (Some d) right one = literal_stands known (text_of d) (clean_has_text d right one)

token_stands : (known : Known) (b : Bool) (k : List ℕ) (p : Plain) → b ≡ false → IsTrue (is_key k) → known k ≡ Some p → Stands known (unwrap_or (text_of (marker b k)) []) no_literal (other_part b p)
token_stands known true k p one right is = absurd (true≢false one)
token_stands known false k p one right is = record {
  pieces = key k ∷ [];
  spelled = append-nil (text_marker k);
  literals = refl;
  keys = (right, tt);
  parts = ap (λ o. own.other (unwrap_or o (text (text_marker k))) ∷ []) is;
}

-- a token's expression, as a piece of a Concat
spelled_stands : (known : Known) (lazies : ℕ → Plain) (cs : List Placed) (at n : ℕ) (e : Expression) → is_list cs at e ≡ false → known (key_of (hint e) n) ≡ Some (own.own lazies cs at e)
    → Stands known (unwrap_or (text_of (marker (is_list cs at e) (key_of (hint e) n))) []) no_literal (other_part (is_list cs at e) (own.own lazies cs at e))
spelled_stands known lazies cs at n e one is = token_stands known (is_list cs at e) (key_of (hint e) n) (own.own lazies cs at e) one (is_key-key_of e n) is

mutual
  piece_stands : (known : Known) (lazies : ℕ → Plain) (cs : List Placed) (at n : ℕ) (e : Expression) → IsNoCollection e → is_list cs at e ≡ false → finds_no_text (construct_at cs at).contexts e ≡ false → IsRight cs at e → Knows known lazies cs at n e
      → Stands known (unwrap_or (text_of (marked cs at n e)) []) (literals_of (construct_at cs at).contexts e) (parts lazies cs at e (own.own lazies cs at e))
  piece_stands known lazies cs at n (expression.text s) single one found right knows = literal_stands known (Some s) refl
  piece_stands known lazies cs at n (expression.whole z) single one found right knows = literal_stands known (text_of (number (of_integer z))) (whole_has_text (of_integer z) right)
  piece_stands known lazies cs at n (expression.truth b) single one found right knows = literal_stands known (text_of (boolean b)) refl
  piece_stands known lazies cs at n (expression.list es) single one found right knows = absurd single
  piece_stands known lazies cs at n (expression.object fs) single one found right knows = absurd single
  piece_stands known lazies cs at n (expression.pseudo p) single one found right knows = spelled_stands known lazies cs at n (expression.pseudo p) one knows
  piece_stands known lazies cs at n (expression.ref t) single one found right knows = spelled_stands known lazies cs at n (expression.ref t) one knows
  piece_stands known lazies cs at n (expression.get_att t a) single one found right knows = spelled_stands known lazies cs at n (expression.get_att t a) one knows
  piece_stands known lazies cs at n (expression.concat es) single one found right knows = pieces_stand known lazies cs at n es right.0 knows
  piece_stands known lazies cs at n (expression.join d e) single one found right knows = spelled_stands known lazies cs at (n + count e) (expression.join d e) one knows.1
  piece_stands known lazies cs at n (expression.select i e) single one found right knows = spelled_stands known lazies cs at (n + count e) (expression.select i e) one knows.1
  piece_stands known lazies cs at n (expression.split d e) single one found right knows = spelled_stands known lazies cs at (n + count e) (expression.split d e) one knows.1
  piece_stands known lazies cs at n (expression.choice c x y) single one found right knows = spelled_stands known lazies cs at (n + (count x + count y)) (expression.choice c x y) one knows.2
  piece_stands known lazies cs at n (expression.find_in_map m x y) single one found right knows = spelled_stands known lazies cs at (n + (count x + count y)) (expression.find_in_map m x y) one knows.2
  piece_stands known lazies cs at n (expression.import_value t) single one found right knows = spelled_stands known lazies cs at n (expression.import_value t) one knows
  piece_stands known lazies cs at n (expression.context k d) single one found right knows = context_stands known (found_value (construct_at cs at).contexts k d) right found
  piece_stands known lazies cs at n (expression.lazy t) single one found right knows = spelled_stands known lazies cs at n (expression.lazy t) one knows

  pub pieces_stand : (known : Known) (lazies : ℕ → Plain) (cs : List Placed) (at n : ℕ) (es : Expressions) → PiecesAreRight cs at es → KnowsAll known lazies cs at n es
      → Stands known (marked_text cs at n es) (pieces_literals (construct_at cs at).contexts es) (all_parts lazies cs at es)
  pieces_stand known lazies cs at n expression.no_expressions right knows = nothing_stands known
  pieces_stand known lazies cs at n (expression.expression e es) right knows =
      both_stand known _ _ _ _ _ _ (piece_stands known lazies cs at n e right.0 right.1 right.2 right.3 knows.0) (pieces_stand known lazies cs at (n + count e) es right.4 knows.1)

-- the text of pieces whose runs hold no marker has the plain form of the parts
pub stands_is_plain : (known : Known) (t : List ℕ) (ls : Literals) (ps : List Part) → PiecesAreCutAgain → Stands known t ls ps → is_marked_run [] ls ≡ false
    → expanded.assembled known (cut_of t) ≡ own.assembled (own.merged ps)
stands_is_plain known t ls ps cut s none =
    ap (λ u. expanded.assembled known (cut_of u)) (sym s.spelled)
    ∙ (ap (expanded.assembled known) (cut s.pieces s.keys (ap (is_marked_run []) s.literals ∙ none))
    ∙ (assembled-merged known s.pieces ∙ ap (λ qs. own.assembled (own.merged qs)) s.parts))

pub stands_is_no_list : (known : Known) (t : List ℕ) (ls : Literals) (ps : List Part) → PiecesAreNoListMarker → Stands known t ls ps → is_marked_run [] ls ≡ false → list_text_key t ≡ None
stands_is_no_list known t ls ps no_list s none = ap list_text_key (sym s.spelled) ∙ no_list s.pieces s.keys (ap (is_marked_run []) s.literals ∙ none)
