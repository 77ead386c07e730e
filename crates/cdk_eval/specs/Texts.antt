-- Texts in lists: joined, cut, trimmed and counted (CloudFormation: Fn::Join, Fn::Split, Fn::Select and list parameters).
use Rattle.std.specs.Prelude.{ℕ, zero, suc, ◌^◌, ◌*◌, ◌+◌, ◌-◌, ◌&&◌, ◌==◌, List, [], ◌∷◌, ◌++◌, reverse, length, fold, Option, Some, None, nat_lt, nat_eq, if◌then◌else◌, bytes_eq, codes, decimal}
use Rattle.std.specs.List.{starts_with}
use Rattle.serde_json.specs.Data.{unsigned, Data, number, string, Items, no_items, item}
use Rattle.cdk_base.specs.Json.{text_of}

-- a text before the rest, where all are there
abbrev pub text_before : Option (List ℕ) → Option (List (List ℕ)) → Option (List (List ℕ))
text_before None ts = None
text_before (Some t) None = None
text_before (Some t) (Some ts) = Some (t ∷ ts)

-- the texts of the items, unless one has none
abbrev pub item_texts : Items → Option (List (List ℕ))
item_texts no_items = Some []
item_texts (item d ds) = text_before (text_of d) (item_texts ds)

-- the texts, each with the delimiter before it
abbrev pub with_before : List ℕ → List (List ℕ) → List ℕ
with_before d [] = []
with_before d (t ∷ ts) = d ++ (t ++ with_before d ts)

-- the texts with the delimiter between them
abbrev pub join_with : List ℕ → List (List ℕ) → List ℕ
join_with d [] = []
join_with d (t ∷ ts) = t ++ with_before d ts

-- the parts between the delimiters, which are looked for from the left and don't overlap: `skip` bytes of a
-- delimiter are still to pass, `part` is the part so far
abbrev pub cut : List ℕ → ℕ → List ℕ → List ℕ → Items
cut d skip part [] = item (string part) no_items
cut d (suc skip) part (c ∷ s) = cut d skip part s
cut d zero part (c ∷ s) = if starts_with nat_eq (c ∷ s) d then item (string part) (cut d (length d - 1) [] s) else cut d zero (part ++ c ∷ []) s

-- the text without spaces at its beginning
abbrev pub without_spaces : List ℕ → List ℕ
without_spaces [] = []
without_spaces (c ∷ s) = if c == 32 then without_spaces s else c ∷ s

-- the text without spaces at its ends
abbrev pub trimmed : List ℕ → List ℕ
trimmed s = reverse (without_spaces (reverse (without_spaces s)))

abbrev pub trimmed_items : Items → Items
trimmed_items no_items = no_items
trimmed_items (item (string s) ds) = item (string (trimmed s)) (trimmed_items ds)
trimmed_items (item d ds) = item d (trimmed_items ds)

-- the items of a list parameter: its text is cut at each comma, and each item is trimmed
abbrev pub list_items : List ℕ → Items
list_items t = trimmed_items (cut (codes ",") 0 [] t)

abbrev pub digits_value : List ℕ → ℕ
digits_value s = fold (λ n c. n * 10 + (c - 48)) 0 s

-- an index: a whole number from 0 within 64 bits, or its decimals
abbrev pub index_of : Data → Option ℕ
index_of (number (unsigned n)) = if nat_lt n (2 ^ 64) then Some n else None
index_of (string s) = if bytes_eq (decimal (digits_value s)) s && nat_lt (digits_value s) (2 ^ 64) then Some (digits_value s) else None
index_of _ = None
