-- A list that crosses stacks: its items are joined by `||` in an export, and cut at each `||` where it is imported (AWS CDK's list
-- references across stacks).
use Rattle.std.specs.Prelude.{◌≡◌, ℕ, ◌==◌, List, [], ◌∷◌, Bool, false}
use Rattle.std.specs.List.{list_any}
use Rattle.serde_json.specs.Data.{string, Items, no_items, item}
use Rattle.cdk_eval.specs.Texts.{join_with, cut}
use Rattle.cdk_plain.specs.Rendered.{list_delimiter}
use Rattle.cdk_meaning.specs.Names.{Each}

-- the text holds a `|`
abbrev pub has_bar : List ℕ → Bool
has_bar s = list_any (λ c. c == 124) s

abbrev pub text_items : List (List ℕ) → Items
text_items [] = no_items
text_items (t ∷ ts) = item (string t) (text_items ts)

-- At least one item, of which none holds a `|`.
abbrev pub CuttingUndoesJoining : Type 0
CuttingUndoesJoining =
    (t : List ℕ) (ts : List (List ℕ)) → Each (λ s. has_bar s ≡ false) (t ∷ ts) → cut list_delimiter 0 [] (join_with list_delimiter (t ∷ ts)) ≡ text_items (t ∷ ts)
