-- A text has a first key exactly where it begins with that key's marker.
use Rattle.std.proofs.Common.{◌≡◌, ℕ, ◌+◌, ◌&&◌, List, [], ◌∷◌, ◌++◌, length, take, drop, Bool, true, false, codes, nat_eq, IsTrue, Option, Some, None, is_some, unwrap_or, if◌then◌else◌, refl, sym, ap, ap₂, ◌∙◌, subst, append_assoc, take-append-drop, arith}
use Rattle.std.specs.List.{list_all, starts_with, prefix_len, take_while}
use Rattle.std.proofs.lemmas.Bool.{and_parts, true≢false}
use Rattle.std.proofs.lemmas.Bool.Decides.{Decides-eqb}
use Rattle.std.proofs.lemmas.Slice.Eq.{starts_is}
use Rattle.std.proofs.Math.Seq.{take-append_seam, drop-append_seam}
use Rattle.cdk_markers.specs.Key.{is_key_byte, is_key, text_marker}
use Rattle.cdk_markers.specs.Cut.{closed_key, opened_key, first_key}

some_if : {A : Type 0} (b : Bool) (o : Option A) (x : A) → (if b then o else None) ≡ Some x → (b ≡ true) × (o ≡ Some x)
some_if true o x e = (refl, e)
some_if false o x e = absurd (true≢false (sym (ap is_some e)))

begun : (p s : List ℕ) → starts_with nat_eq s p ≡ true → s ≡ p ++ drop (length p) s
begun p s e = (starts_is Decides-eqb s p _ refl).0 e

begins : (p rest : List ℕ) → starts_with nat_eq (p ++ rest) p ≡ true
begins p rest = (starts_is Decides-eqb (p ++ rest) p _ refl).1 rest refl

-- key characters up to a `]`
pub run_to_bracket : (k rest : List ℕ) → list_all is_key_byte k ≡ true → prefix_len is_key_byte (k ++ (93 ∷ rest)) ≡ length k
run_to_bracket [] rest all = refl
run_to_bracket (x ∷ xs) rest all =
    let parts = and_parts (is_key_byte x) (list_all is_key_byte xs) all in
    rw (parts.0) (ap (λ n. 1 + n) (run_to_bracket xs rest (parts.1)) ∙ omega arith)

opened-marker : (k rest : List ℕ) → IsTrue (is_key k) → opened_key (k ++ (93 ∷ (125 ∷ rest))) ≡ Some k
opened-marker k rest right =
    let all : list_all is_key_byte k ≡ true = (and_parts _ _ right).0 in
    let s : List ℕ = k ++ (93 ∷ (125 ∷ rest)) in
    let run : prefix_len is_key_byte s ≡ length k = run_to_bracket k (125 ∷ rest) all in
    let front : take_while is_key_byte s ≡ k = ap (λ n. take n s) run ∙ take-append_seam k (93 ∷ (125 ∷ rest)) in
    let back : drop (prefix_len is_key_byte s) s ≡ 93 ∷ (125 ∷ rest) = ap (λ n. drop n s) run ∙ drop-append_seam k (93 ∷ (125 ∷ rest)) in
    ap₂ closed_key front back ∙ rw right refl

pub marker_shape : (k rest : List ℕ) → text_marker k ++ rest ≡ codes "${Token[" ++ (k ++ (93 ∷ (125 ∷ rest)))
marker_shape k rest = ap (λ t. codes "${Token[" ++ t) (append_assoc k (codes "]}") rest)

-- the marker of a key gives the key, whatever follows
pub first_key-marker : (k rest : List ℕ) → IsTrue (is_key k) → first_key (text_marker k ++ rest) ≡ Some k
first_key-marker k rest right = ap first_key (marker_shape k rest) ∙ opened-marker k rest right

closed-some : (k after found : List ℕ) → closed_key k after ≡ Some found → (k ≡ found) × (IsTrue (is_key k) × (after ≡ codes "]}" ++ drop 2 after))
closed-some k after found e =
    let parts = some_if (is_key k && starts_with nat_eq after (codes "]}")) (Some k) found e in
    let tests = and_parts (is_key k) (starts_with nat_eq after (codes "]}")) (parts.0) in
    (ap (λ o. unwrap_or o []) (parts.1), (tests.0, begun (codes "]}") after (tests.1)))

-- what a first key says of the text
pub record BeginsWith (s k : List ℕ) : Type 0 where
  pub rest : List ℕ
  pub spelled : s ≡ text_marker k ++ rest
  pub right : IsTrue (is_key k)

pub first_key-some : (s k : List ℕ) → first_key s ≡ Some k → BeginsWith s k
first_key-some s k e =
    let parts = some_if (starts_with nat_eq s (codes "${Token[")) (opened_key (drop 8 s)) k e in
    let opened : s ≡ codes "${Token[" ++ drop 8 s = begun (codes "${Token[") s (parts.0) in
    let t : List ℕ = drop 8 s in
    let n : ℕ = prefix_len is_key_byte t in
    let closed = closed-some (take n t) (drop n t) k (parts.1) in
    let rest : List ℕ = drop 2 (drop n t) in
    let shape : t ≡ k ++ (93 ∷ (125 ∷ rest)) = sym (take-append-drop n t) ∙ ap₂ (λ a b. a ++ b) (closed.0) ((closed.1).1) in
    let P : List ℕ → Type 0 = λ x. IsTrue (is_key x) in
    record { rest = rest; spelled = opened ∙ (ap (λ x. codes "${Token[" ++ x) shape ∙ sym (marker_shape k rest)); right = subst P (closed.0) ((closed.1).0) }
