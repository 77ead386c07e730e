-- Cutting at `||` undoes joining by it, where no item holds a `|`.
use Rattle.std.proofs.Common.{◌≡◌, ℕ, List, [], ◌∷◌, ◌++◌, Bool, true, false, refl, sym, ap, ◌∙◌, append_assoc, append-nil, eq-eqb, eqb-true}
use Rattle.std.specs.Prelude.{◌==◌, ◌&&◌, nat_eq, if◌then◌else◌}
use Rattle.std.specs.List.{starts_with}
use Rattle.serde_json.specs.Data.{string, item}
use Rattle.cdk_eval.specs.Texts.{with_before, cut}
use Rattle.cdk_plain.specs.Rendered.{list_delimiter}
use Rattle.cdk_meaning.specs.Names.{Each}
use Rattle.cdk_meaning.specs.ListsKept.{has_bar, text_items, CuttingUndoesJoining}
use Rattle.cdk_meaning.proofs.NameLists.{neither}

turned : (a b : ℕ) → a == b ≡ false → b == a ≡ false
turned a b h = at (b == a) refl
  where
    at : (e : Bool) → b == a ≡ e → e ≡ false
    at true g = let t : a == b ≡ true = eq-eqb a b (sym (eqb-true b a g)) in cc (t, h)
    at false g = refl

-- what holds no `|` is passed
passed : (part t s : List ℕ) → has_bar t ≡ false → cut list_delimiter 0 part (t ++ s) ≡ cut list_delimiter 0 (part ++ t) s
passed part [] s h = ap (λ p. cut list_delimiter 0 p s) (sym (append-nil part))
passed part (c ∷ t) s h =
    let n = neither (c == 124) (has_bar t) h in
    ap (λ b. if b && starts_with nat_eq (t ++ s) (124 ∷ []) then item (string part) (cut list_delimiter 1 [] (t ++ s)) else cut list_delimiter 0 (part ++ c ∷ []) (t ++ s)) (turned c 124 n.0)
    ∙ passed (part ++ c ∷ []) t s n.1 ∙ ap (λ p. cut list_delimiter 0 p s) (append_assoc part (c ∷ []) t)

cut_before : (part : List ℕ) (ts : List (List ℕ)) → Each (λ s. has_bar s ≡ false) ts → cut list_delimiter 0 part (with_before list_delimiter ts) ≡ item (string part) (text_items ts)
cut_before part [] h = refl
cut_before part (t ∷ ts) h = ap (item (string part)) (passed [] t (with_before list_delimiter ts) h.0 ∙ cut_before t ts h.1)

pub cutting_undoes_joining : CuttingUndoesJoining
cutting_undoes_joining t ts h = passed [] t (with_before list_delimiter ts) h.0 ∙ cut_before t ts h.1
