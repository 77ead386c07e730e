-- A run that goes on with the pieces of a Sub.
use Rattle.std.proofs.Common.{◌≡◌, ◌≢◌, ℕ, List, [], ◌∷◌, ◌++◌, Bool, true, false, Option, Some, None, option_map, option_and_then, cond, codes, length, string_bytes, Ordering, Less, Equal, Greater, nat_cmp, is_eq, bytes_eq, refl, sym, ap, ◌∙◌, append_assoc, append-nil}
use Rattle.std.specs.List.{list_any}
use Rattle.std.specs.Prelude.{flat_map}
use Rattle.std.specs.Cmp.Lexicographic.{slice_cmp}
use Rattle.std.specs.Ordering.{match_ordering}
use Rattle.std.proofs.lemmas.Map.Text.{is_eq-slice_cmp}
use Rattle.std.proofs.lemmas.Slice.Eq.{bytes_eq-Decides}
use Rattle.serde_json.specs.Data.{Data, null, boolean, number, string, array, object, Items, no_items, item, Members, no_members, member}
use Rattle.serde_json.specs.Find.{get_member, as_str, as_object}
use Rattle.serde_json.specs.View.{view, items_view, members_view}
use Rattle.serde_json.specs.declared.value.Value.{Value}
use Rattle.serde_json.proofs.Views.{Entry}
use Rattle.cdk_language.specs.Runs.{Literals, is_marked_run, piece_literals, sub_literals, no_literal, literals_of, form_literals, concat_literals, items_literals, substituted_literals, variable, variables_literals}
use Rattle.cdk_language.specs.Schema.{is_barred_piece, are_wrong_pieces, is_wrong_sub_text}
use Rattle.cdk_language.specs.Sub.{Piece, name, is_variable_name, no_piece, wrong_piece, first_piece, first_piece_of, literal_before, pieces_of}
use Rattle.cdk_language.specs.declared.schema.Within.TheVariants as within
use Rattle.cdk_language.proofs.Pieces.{pieces-literal, pieces-wrong, pieces-step}
use Rattle.cdk_runs.specs.Reads.{Reads, opening}

abbrev Variables : Type 0
Variables = List (List ℕ × Literals)

-- ---- a text that can be cut

none_barred : (ps : List Piece) → list_any (is_barred_piece within.Construct) ps ≡ false
none_barred [] = refl
none_barred (p ∷ ps) = none_barred ps

wrong_is_none : (o : Option (List Piece)) → are_wrong_pieces within.Construct o ≡ true → o ≡ None
wrong_is_none None e = refl
wrong_is_none (Some ps) e = let f = none_barred ps in absurd (cc)

pub uncut : (s : List ℕ) → is_wrong_sub_text within.Construct s ≡ true → pieces_of s ≡ None
uncut s e = wrong_is_none (pieces_of s) e

pub never_wrong : (s : List ℕ) → first_piece_of s ≡ wrong_piece → is_wrong_sub_text within.Construct s ≡ false → ⊥
never_wrong s e f = let g = ap (are_wrong_pieces within.Construct) (pieces-wrong s e) in cc

-- ---- one piece

after_text : (n m : ℕ) (b : List ℕ) (vs : Variables) (ps : List Piece) (more : Literals) → Reads n (Some b ∷ []) m
    → is_marked_run (opening n) (flat_map (piece_literals vs) (literal_before b ps) ++ more) ≡ is_marked_run (opening m) (flat_map (piece_literals vs) ps ++ more)
after_text n m [] vs ps more r = ap (λ s. is_marked_run s (flat_map (piece_literals vs) ps ++ more)) (sym (append-nil (opening n))) ∙ r.same (flat_map (piece_literals vs) ps ++ more)
after_text n m (x ∷ xs) vs ps more r = r.same (flat_map (piece_literals vs) ps ++ more)

after_piece : (n m k : ℕ) (b : List ℕ) (p : Piece) (vs : Variables) (o : Option (List Piece)) (more : Literals) → Reads n (Some b ∷ []) m → Reads m (piece_literals vs p) k
    → are_wrong_pieces within.Construct (option_map (λ ps. literal_before b (p ∷ ps)) o) ≡ false
    → is_marked_run (opening n) (sub_literals vs (option_map (λ ps. literal_before b (p ∷ ps)) o) ++ more) ≡ is_marked_run (opening k) (sub_literals vs o ++ more)
after_piece n m k b p vs None more r s e = absurd (cc)
after_piece n m k b p vs (Some ps) more r s e =
    after_text n m b vs (p ∷ ps) more r ∙ ap (is_marked_run (opening m)) (append_assoc (piece_literals vs p) (flat_map (piece_literals vs) ps) more) ∙ s.same (flat_map (piece_literals vs) ps ++ more)

still_cut : (b : List ℕ) (p : Piece) (o : Option (List Piece)) → are_wrong_pieces within.Construct (option_map (λ ps. literal_before b (p ∷ ps)) o) ≡ false → are_wrong_pieces within.Construct o ≡ false
still_cut b p None e = e
still_cut b p (Some ps) e = none_barred ps

-- ---- the first piece of a text, and its end

pub next_cut : (s b a : List ℕ) (p : Piece) → first_piece_of s ≡ first_piece b p a → is_wrong_sub_text within.Construct s ≡ false → is_wrong_sub_text within.Construct a ≡ false
next_cut s b a p e f = still_cut b p (pieces_of a) (sym (ap (are_wrong_pieces within.Construct) (pieces-step s b p a e)) ∙ f)

pub next_same : (n m k : ℕ) (s b a : List ℕ) (p : Piece) (vs : Variables) (more : Literals) → first_piece_of s ≡ first_piece b p a → is_wrong_sub_text within.Construct s ≡ false
    → Reads n (Some b ∷ []) m → Reads m (piece_literals vs p) k
    → is_marked_run (opening n) (sub_literals vs (pieces_of s) ++ more) ≡ is_marked_run (opening k) (sub_literals vs (pieces_of a) ++ more)
next_same n m k s b a p vs more e f r t =
    ap (λ o. is_marked_run (opening n) (sub_literals vs o ++ more)) (pieces-step s b p a e)
    ∙ after_piece n m k b p vs (pieces_of a) more r t (sym (ap (are_wrong_pieces within.Construct) (pieces-step s b p a e)) ∙ f)

pub last_same : (n m : ℕ) (s : List ℕ) (vs : Variables) (more : Literals) → first_piece_of s ≡ no_piece → Reads n (Some s ∷ []) m
    → is_marked_run (opening n) (sub_literals vs (pieces_of s) ++ more) ≡ is_marked_run (opening m) more
last_same n m s vs more e r = ap (λ o. is_marked_run (opening n) (sub_literals vs o ++ more)) (pieces-literal s e) ∙ after_text n m s vs [] more r

-- ---- a variable

abbrev pub found : Option Data → Literals
found None = no_literal
found (Some d) = literals_of d

same_key : (o : Ordering) (b : Bool) (e : Data) (rest : Literals) (more : Option Data) → b ≡ is_eq o → rest ≡ found more
    → cond b (literals_of e) rest ≡ found (match_ordering o more (Some e) more)
same_key Less true e rest more h k = absurd (cc)
same_key Less false e rest more h k = k
same_key Equal true e rest more h k = refl
same_key Equal false e rest more h k = absurd (cc)
same_key Greater true e rest more h k = absurd (cc)
same_key Greater false e rest more h k = k

variable-get : (x : List ℕ) (ms : Members) → variable x (variables_literals ms) ≡ found (get_member x ms)
variable-get x no_members = refl
variable-get x (member l e ms) = same_key (slice_cmp nat_cmp x l) (bytes_eq x l) e _ (get_member x ms) (sym (is_eq-slice_cmp x l)) (variable-get x ms)

pub name_found : (x : List ℕ) (ms : Members) (o : Option Data) → is_variable_name x ≡ true → get_member x ms ≡ o → piece_literals (variables_literals ms) (name x) ≡ found o
name_found x ms o e f = ap (λ b. cond b (variable x (variables_literals ms)) no_literal) e ∙ variable-get x ms ∙ ap found f

-- ---- an object of one member, by its key

abbrev form_by : List ℕ → Data → Literals
form_by k d = cond (bytes_eq k (codes "CDK::Concat")) (concat_literals d) (cond (bytes_eq k (codes "Fn::Sub")) (substituted_literals d) no_literal)

pub concat_form : (e : Entry) (k : List ℕ) → k ≡ string_bytes e.0 → k ≡ codes "CDK::Concat" → form_literals (members_view (e ∷ [])) ≡ concat_literals (view e.1)
concat_form e k named is = ap (λ l. form_by l (view e.1)) (sym named ∙ is)

pub sub_form : (e : Entry) (k : List ℕ) → k ≡ string_bytes e.0 → k ≡ codes "Fn::Sub" → form_literals (members_view (e ∷ [])) ≡ substituted_literals (view e.1)
sub_form e k named is = ap (λ l. form_by l (view e.1)) (sym named ∙ is)

other_name : (k n : List ℕ) (b : Bool) → bytes_eq k n ≡ b → k ≢ n → bytes_eq k n ≡ false
other_name k n true e h = absurd (h ((bytes_eq-Decides k n).0 e))
other_name k n false e h = e

pub other_form : (e : Entry) (k : List ℕ) → k ≡ string_bytes e.0 → k ≢ codes "CDK::Concat" → k ≢ codes "Fn::Sub" → form_literals (members_view (e ∷ [])) ≡ no_literal
other_form e k named no_concat no_sub =
    let d = view e.1 in
    ap (λ l. form_by l d) (sym named)
    ∙ ap (λ b. cond b (concat_literals d) (cond (bytes_eq k (codes "Fn::Sub")) (substituted_literals d) no_literal)) (other_name k (codes "CDK::Concat") (bytes_eq k (codes "CDK::Concat")) refl no_concat)
    ∙ ap (λ b. cond b (substituted_literals d) no_literal) (other_name k (codes "Fn::Sub") (bytes_eq k (codes "Fn::Sub")) refl no_sub)

-- ---- a Concat's next item

pub item_read : (n m : ℕ) (v : Value) (vs : List Value) (more : Literals) → Reads n (literals_of (view v)) m
    → is_marked_run (opening n) (items_literals (items_view (v ∷ vs)) ++ more) ≡ is_marked_run (opening m) (items_literals (items_view vs) ++ more)
item_read n m v vs more r = ap (is_marked_run (opening n)) (append_assoc (literals_of (view v)) (items_literals (items_view vs)) more) ∙ r.same (items_literals (items_view vs) ++ more)

-- ---- an object of no or more members

pub no_form_literals : (es : List Entry) → length es ≢ 1 → form_literals (members_view es) ≡ no_literal
no_form_literals [] h = refl
no_form_literals (e ∷ []) h = absurd (h refl)
no_form_literals (e ∷ f ∷ es) h = refl

-- ---- a Sub that has no pieces

past_two : (d e f : Data) (ds : Items) → substituted_literals (array (item d (item e (item f ds)))) ≡ no_literal
past_two d null f ds = refl
past_two d (boolean b) f ds = refl
past_two d (number n) f ds = refl
past_two d (string s) f ds = refl
past_two d (array es) f ds = refl
past_two d (object ms) f ds = refl

pub not_two : (vs : List Value) → length vs ≢ 2 → substituted_literals (array (items_view vs)) ≡ no_literal
not_two [] h = refl
not_two (v ∷ []) h = refl
not_two (v ∷ w ∷ []) h = absurd (h refl)
not_two (v ∷ w ∷ x ∷ vs) h = past_two (view v) (view w) (view x) (items_view vs)

pub two_other : (d e : Data) → as_object e ≡ None → substituted_literals (array (item d (item e no_items))) ≡ no_literal
two_other d null f = refl
two_other d (boolean b) f = refl
two_other d (number n) f = refl
two_other d (string s) f = refl
two_other d (array ds) f = refl
two_other d (object ms) f = absurd (cc)

pub two_no_text : (d e : Data) → as_str d ≡ None → substituted_literals (array (item d (item e no_items))) ≡ no_literal
two_no_text d null f = refl
two_no_text d (boolean b) f = refl
two_no_text d (number n) f = refl
two_no_text d (string s) f = refl
two_no_text d (array ds) f = refl
two_no_text d (object ms) f = ap (λ o. sub_literals (variables_literals ms) (option_and_then pieces_of o)) f

-- ---- a Sub of a text and its variables

pub two_same : (d e : Data) (ms : Members) (t : List ℕ) → as_object e ≡ Some ms → as_str d ≡ Some t → substituted_literals (array (item d (item e no_items))) ≡ sub_literals (variables_literals ms) (pieces_of t)
two_same d null ms t f g = absurd (cc)
two_same d (boolean b) ms t f g = absurd (cc)
two_same d (number n) ms t f g = absurd (cc)
two_same d (string s) ms t f g = absurd (cc)
two_same d (array ds) ms t f g = absurd (cc)
two_same d (object ns) ms t f g =
    let same : ns ≡ ms = cc in
    ap (λ o. sub_literals (variables_literals ns) (option_and_then pieces_of o)) g ∙ ap (λ xs. sub_literals (variables_literals xs) (pieces_of t)) same
