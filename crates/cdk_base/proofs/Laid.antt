-- What `json` lays out for the tokens of a value is the pretty text.
use Rattle.std.proofs.Common.{◌≡◌, ℕ, ◌+◌, ◌-◌, ◌^◌, ◌<◌, ◌≤◌, min, List, [], ◌∷◌, ◌++◌, Bool, true, false, cond, refl, sym, ap, ap₂, ◌∙◌, arith, append_assoc, append-nil}
use Rattle.json.specs.Token.{Token}
use Rattle.json.specs.Print.{quoted, token_text, begins}
use Rattle.json.specs.Layout.{Last, nothing, bracket, name, value, is_value, line, gap, step, piece, pretty, pretty_from}
use Rattle.json.specs.Tree.{json_tokens, items_tokens, members_tokens}
use Rattle.serde_json.specs.Data.{Data, null, boolean, number, string, array, object, Items, no_items, item, Members, no_members, member, depth, items_depth, members_depth}
use Rattle.serde_json.specs.Read.{max_depth}
use Rattle.serde_json.specs.Written.{outline, items_outline, members_outline, comma_if, number_text}
use Rattle.cdk_base.specs.Pretty.{pretty_value, pretty_items, pretty_members, pretty_text}

-- what stands before a value or a key
abbrev lead : Last → ℕ → List ℕ
lead s n = comma_if (is_value s) ++ gap s true n

piece_begins : (s : Last) (n : ℕ) (t : Token) → begins t ≡ true → piece (s, n) t ≡ lead s n ++ token_text t
piece_begins nothing n t b = refl
piece_begins bracket n t b = rw b
piece_begins name n t b = refl
piece_begins value n t b = rw b

leaf : (s : Last) (n : ℕ) (t : Token) (ts : List Token) → begins t ≡ true → step (s, n) t ≡ (value, n)
    → pretty_from (s, n) (t ∷ ts) ≡ lead s n ++ (token_text t ++ pretty_from (value, n) ts)
unfolding pretty_from
leaf s n t ts b after = ap₂ (λ p r. p ++ pretty_from r ts) (piece_begins s n t b) after ∙ append_assoc (lead s n) (token_text t) _

-- the state inside a bracket, before and after the first
abbrev inner : Bool → Last
inner later = cond later value bracket

lead_inner : (later : Bool) (n : ℕ) → lead (inner later) n ≡ comma_if later ++ line n
lead_inner true n = refl
lead_inner false n = refl

below : (n : ℕ) → n < 2 ^ 63 → min (n + 1) (2 ^ 64 - 1) ≡ n + 1
below n h = omega arith

up : (n : ℕ) → n + 1 - 1 ≡ n
up n = omega arith

regroup4 : (a b c d e : List ℕ) → a ++ (b ++ (c ++ (d ++ e))) ≡ (a ++ (b ++ (c ++ d))) ++ e
regroup4 a b c d e = simp append_assoc

regroup_member : (a b q c d e : List ℕ) → ((a ++ b) ++ (q ++ 58 ∷ [])) ++ 32 ∷ (c ++ (d ++ e)) ≡ (a ++ (b ++ (q ++ 58 ∷ 32 ∷ (c ++ d)))) ++ e
regroup_member a b q c d e = simp append_assoc

piece_closes : (later : Bool) (n : ℕ) (t : Token) → begins t ≡ false → piece (inner later, n + 1) t ≡ cond later (line n) [] ++ token_text t
piece_closes true n t b = rw (b, up n)
piece_closes false n t b = rw b

close : (later : Bool) (n : ℕ) (t : Token) (ts : List Token) → begins t ≡ false → step (inner later, n + 1) t ≡ (value, n + 1 - 1)
    → pretty_from (inner later, n + 1) (t ∷ ts) ≡ (cond later (line n) [] ++ token_text t) ++ pretty_from (value, n) ts
unfolding pretty_from
close later n t ts b after = ap₂ (λ p r. p ++ pretty_from r ts) (piece_closes later n t b) (after ∙ ap (λ k. (value, k)) (up n))

mutual
  unfolding pretty_from

  value_laid : (s : Last) (n : ℕ) (d : Data) (ts : List Token) → n + depth d < 2 ^ 63
      → pretty_from (s, n) (json_tokens (outline d) ++ ts) ≡ lead s n ++ (pretty_value n d ++ pretty_from (value, n) ts)
  value_laid s n null ts h = leaf s n Token.null ts refl refl
  value_laid s n (boolean b) ts h = leaf s n (Token.boolean b) ts refl refl
  value_laid s n (number x) ts h = leaf s n (Token.number (number_text x)) ts refl refl
  value_laid s n (string x) ts h = leaf s n (Token.string x) ts refl refl
  value_laid s n (array ds) ts h =
      ap₂ (λ p m. p ++ pretty_from (bracket, m) (items_tokens (items_outline ds) ++ ts)) (piece_begins s n Token.begin_array refl) (below n (omega arith))
      ∙ ap (λ r. (lead s n ++ 91 ∷ []) ++ r) (items_laid n false ds ts (omega arith)) ∙ append_assoc (lead s n) (91 ∷ []) _
  value_laid s n (object ms) ts h =
      ap₂ (λ p m. p ++ pretty_from (bracket, m) (members_tokens (members_outline ms) ++ ts)) (piece_begins s n Token.begin_object refl) (below n (omega arith))
      ∙ ap (λ r. (lead s n ++ 123 ∷ []) ++ r) (members_laid n false ms ts (omega arith)) ∙ append_assoc (lead s n) (123 ∷ []) _

  items_laid : (n : ℕ) (later : Bool) (ds : Items) (ts : List Token) → n + 1 + items_depth ds < 2 ^ 63
      → pretty_from (inner later, n + 1) (items_tokens (items_outline ds) ++ ts) ≡ pretty_items n later ds ++ pretty_from (value, n) ts
  items_laid n true no_items ts h = close true n Token.end_array ts refl refl
  items_laid n false no_items ts h = close false n Token.end_array ts refl refl
  items_laid n later (item d ds) ts h =
      let rest = items_tokens (items_outline ds) in
      ap (pretty_from (inner later, n + 1)) (append_assoc (json_tokens (outline d)) rest ts)
      ∙ value_laid (inner later) (n + 1) d (rest ++ ts) (omega arith)
      ∙ ap₂ (λ l r. l ++ (pretty_value (n + 1) d ++ r)) (lead_inner later (n + 1)) (items_laid n true ds ts (omega arith))
      ∙ append_assoc (comma_if later) (line (n + 1)) _
      ∙ regroup4 (comma_if later) (line (n + 1)) (pretty_value (n + 1) d) (pretty_items n true ds) (pretty_from (value, n) ts)

  members_laid : (n : ℕ) (later : Bool) (ms : Members) (ts : List Token) → n + 1 + members_depth ms < 2 ^ 63
      → pretty_from (inner later, n + 1) (members_tokens (members_outline ms) ++ ts) ≡ pretty_members n later ms ++ pretty_from (value, n) ts
  members_laid n true no_members ts h = close true n Token.end_object ts refl refl
  members_laid n false no_members ts h = close false n Token.end_object ts refl refl
  members_laid n later (member k d ms) ts h =
      let rest = members_tokens (members_outline ms) in
      let tail = pretty_from (value, n) ts in
      ap₂ (λ p us. p ++ pretty_from (name, n + 1) us) (piece_begins (inner later) (n + 1) (Token.key k) refl) (append_assoc (json_tokens (outline d)) rest ts)
      ∙ ap (λ r. (lead (inner later) (n + 1) ++ (quoted k ++ 58 ∷ [])) ++ r)
      (value_laid name (n + 1) d (rest ++ ts) (omega arith) ∙ ap (λ r. (32 ∷ []) ++ (pretty_value (n + 1) d ++ r)) (members_laid n true ms ts (omega arith)))
      ∙ ap (λ l. (l ++ (quoted k ++ 58 ∷ [])) ++ (32 ∷ (pretty_value (n + 1) d ++ (pretty_members n true ms ++ tail)))) (lead_inner later (n + 1))
      ∙ regroup_member (comma_if later) (line (n + 1)) (quoted k) (pretty_value (n + 1) d) (pretty_members n true ms) tail

pub pretty-outline : (d : Data) → depth d ≤ max_depth → pretty (json_tokens (outline d)) ≡ pretty_text d
unfolding pretty_from
pretty-outline d h = ap pretty (sym (append-nil (json_tokens (outline d)))) ∙ value_laid nothing 0 d [] (omega arith) ∙ append-nil (pretty_text d)
