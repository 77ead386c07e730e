-- The items of a list parameter are texts, at least one.
use Rattle.std.proofs.Common.{◌≡◌, ℕ, zero, suc, List, [], ◌∷◌, ◌++◌, length, map, Bool, true, false, Some, refl, ap, ◌∙◌}
use Rattle.std.specs.Prelude.{◌-◌, nat_eq, if◌then◌else◌, codes}
use Rattle.std.specs.List.{starts_with}
use Rattle.serde_json.specs.Data.{string, Items, item}
use Rattle.cdk_eval.specs.Texts.{text_before, item_texts, cut, trimmed, trimmed_items, list_items}
use Rattle.cdk_meaning.specs.Names.{Each}
use Rattle.cdk_meaning.specs.ListsKept.{has_bar, text_items}
use Rattle.cdk_meaning.specs.AssemblyKept.{ItemsHaveNoBar}

pub record AreTexts (ds : Items) : Type 0 where
  pub first : List ℕ
  pub rest : List (List ℕ)
  pub same : ds ≡ text_items (first ∷ rest)

more_texts : (t : List ℕ) (ds : Items) → AreTexts ds → AreTexts (item (string t) ds)
more_texts t ds k = record { first = t; rest = k.first ∷ k.rest; same = ap (item (string t)) k.same }

cut_texts : (d : List ℕ) (skip : ℕ) (part s : List ℕ) → AreTexts (cut d skip part s)
cut_texts d zero part [] = record { first = part; rest = []; same = refl }
cut_texts d (suc skip) part [] = record { first = part; rest = []; same = refl }
cut_texts d (suc skip) part (c ∷ s) = cut_texts d skip part s
cut_texts d zero part (c ∷ s) = at (starts_with nat_eq (c ∷ s) d) (more_texts part (cut d (length d - 1) [] s) (cut_texts d (length d - 1) [] s)) (cut_texts d zero (part ++ c ∷ []) s)
  where
    at : (b : Bool) → AreTexts (item (string part) (cut d (length d - 1) [] s)) → AreTexts (cut d zero (part ++ c ∷ []) s) → AreTexts (if b then item (string part) (cut d (length d - 1) [] s) else cut d zero (part ++ c ∷ []) s)
    at true k l = k
    at false k l = l

trimmed_texts : (ts : List (List ℕ)) → trimmed_items (text_items ts) ≡ text_items (map trimmed ts)
trimmed_texts [] = refl
trimmed_texts (t ∷ ts) = ap (item (string (trimmed t))) (trimmed_texts ts)

pub list_texts : (t : List ℕ) → AreTexts (list_items t)
list_texts t =
    let k = cut_texts (codes ",") 0 [] t in
    record { first = trimmed k.first; rest = map trimmed k.rest; same = ap trimmed_items k.same ∙ trimmed_texts (k.first ∷ k.rest) }

pub texts_of_items : (ts : List (List ℕ)) → item_texts (text_items ts) ≡ Some ts
texts_of_items [] = refl
texts_of_items (t ∷ ts) = ap (text_before (Some t)) (texts_of_items ts)

pub each_has_no_bar : (ts : List (List ℕ)) → ItemsHaveNoBar (text_items ts) → Each (λ s. has_bar s ≡ false) ts
each_has_no_bar [] h = tt
each_has_no_bar (t ∷ ts) h = (h.0, each_has_no_bar ts h.1)
