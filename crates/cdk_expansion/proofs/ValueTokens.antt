-- The marker of a known token has the token's plain form.
use Rattle.std.proofs.Common.{◌≡◌, ℕ, ◌-◌, ◌&&◌, List, [], ◌∷◌, ◌++◌, length, take, drop, codes, nat_eq, if◌then◌else◌, ap₂, length-append, arith, Bool, true, false, IsTrue, Option, Some, None, refl, sym, ap, ◌∙◌, append-nil, unwrap_or}
use Rattle.std.specs.Cmp.Lexicographic.{pointwise}
use Rattle.std.proofs.Math.Seq.{take-append_seam, drop-append_seam}
use Rattle.serde_json.specs.Data.{array, item, no_items}
use Rattle.cdk_language.specs.Expression.{Expression}
use Rattle.cdk_markers.specs.Cut.{cut_of}
use Rattle.cdk_markers.specs.Key.{is_key, text_marker, list_marker}
use Rattle.cdk_markers.specs.ListKey.{list_key_of}
use Rattle.cdk_markers.specs.Pieces.{key}
use Rattle.cdk_plain.specs.Plain.{Plain, text, list_of, Plains}
use Rattle.cdk_expansion.specs.Expanded.{Known, assembled, array_plain, value_plain}
use Rattle.cdk_expansion.specs.Own.{own}
use Rattle.cdk_expansion.specs.Pieces.{PiecesAreCutAgain}
use Rattle.cdk_expansion.proofs.ValueKeys.{is_key-key_of}
use Rattle.cdk_tokens.specs.Marking.{hint, spelled}
use Rattle.cdk_tokens.specs.Token.{key_of, marker}
use Rattle.cdk_tree.specs.Lists.{is_list}
use Rattle.cdk_tree.specs.Placed.{Placed}

text_marker_is_cut : PiecesAreCutAgain → (k : List ℕ) → IsTrue (is_key k) → cut_of (text_marker k) ≡ key k ∷ []
text_marker_is_cut cut k right = ap cut_of (sym (append-nil (text_marker k))) ∙ cut (key k ∷ []) (right, tt) refl

pub list_marker_is_key : (k : List ℕ) → IsTrue (is_key k) → list_key_of (list_marker k) ≡ Some k
list_marker_is_key k right =
    let s : List ℕ = k ++ codes "]}" in
    let n : length s - 2 ≡ length k = omega (arith, length-append k (codes "]}")) in
    let front : take (length s - 2) s ≡ k = ap (λ i. take i s) n ∙ take-append_seam k (codes "]}") in
    let back : drop (length s - 2) s ≡ codes "]}" = ap (λ i. drop i s) n ∙ drop-append_seam k (codes "]}") in
    ap₂ (λ f b. if pointwise nat_eq (codes "]}") b && is_key f then Some f else None) front back ∙ rw right refl

array_is : (known : Known) (o : Option (List ℕ)) (k : List ℕ) (ps : Plains) (p : Plain) → o ≡ Some k → known k ≡ Some p → array_plain known o ps ≡ p
array_is known o k ps p e is = ap (λ q. array_plain known q ps) e ∙ ap (λ q. unwrap_or q (list_of ps)) is

marker_is_plain : (known : Known) → PiecesAreCutAgain → (b : Bool) (k : List ℕ) (p : Plain) → IsTrue (is_key k) → known k ≡ Some p → value_plain known (marker b k) ≡ p
marker_is_plain known cut true k p right is =
    array_is known (list_key_of (list_marker k)) k _ p (list_marker_is_key k right) is
marker_is_plain known cut false k p right is =
    ap (assembled known) (text_marker_is_cut cut k right) ∙ ap (λ o. unwrap_or o (text (text_marker k))) is

pub spelled_is_plain : (known : Known) (lazies : ℕ → Plain) (cs : List Placed) (at n : ℕ) (e : Expression) → PiecesAreCutAgain
    → known (key_of (hint e) n) ≡ Some (own lazies cs at e) → value_plain known (spelled cs at n e) ≡ own lazies cs at e
spelled_is_plain known lazies cs at n e cut is = marker_is_plain known cut (is_list cs at e) (key_of (hint e) n) (own lazies cs at e) (is_key-key_of e n) is

-- the marker of a token alone in an array makes no list marker of the array
pub marker_is_no_key : (b : Bool) (k : List ℕ) → list_key_of (array (item (marker b k) no_items)) ≡ None
marker_is_no_key true k = refl
marker_is_no_key false k = refl
