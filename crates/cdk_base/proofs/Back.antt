-- The pretty text is read back as the value.
use Rattle.std.proofs.Common.{◌≡◌, ℕ, zero, suc, ◌*◌, ◌≤◌, pos, negsuc, List, [], ◌∷◌, ◌++◌, Bool, true, false, Some, option_map, option_and_then, map, Greater, nat_cmp, inl, inr, refl, sym, ap, ◌∙◌, arith, append_assoc, append-nil}
use Rattle.std.specs.Prelude.{⊤, replicate}
use Rattle.std.specs.Cmp.Lexicographic.{slice_cmp}
use Rattle.json.specs.Token.{Token}
use Rattle.json.specs.Lex.{tokens}
use Rattle.json.specs.Print.{begins, ends, separator, token_text, ArePrintable}
use Rattle.json.specs.Layout.{Last, nothing, bracket, name, value, is_value, gap, depth_at, step, pretty, pretty_from}
use Rattle.json.specs.Spaced.{IsGap, AreGaps, print_spaced}
use Rattle.json.specs.Json as json
use Rattle.json.specs.Tree.{json_tokens, HasNumbers, ItemsHaveNumbers, MembersHaveNumbers}
use Rattle.json.specs.Tree as tree
use Rattle.json.proofs.Printed.Decimals.{IsNumber-decimal, IsNumber-signed_decimal}
use Rattle.json.proofs.Printed.Tokens.{tokens-print_spaced}
use Rattle.json.proofs.Printed.Trees.{value-json_tokens, ArePrintable-json_tokens}
use Rattle.serde_json.specs.Data.{Num, unsigned, negative, float, Data, null, boolean, number, string, array, object, Items, no_items, item, Members, no_members, member, put, depth, items_depth, members_depth}
use Rattle.serde_json.specs.Read.{of_json, of_items, of_members, number_of, read, max_depth}
use Rattle.serde_json.specs.Written.{outline, items_outline, members_outline, number_text}
use Rattle.serde_json.proofs.Numbers.{number_of-decimal, number_of-negative}
use Rattle.cdk_base.specs.Pretty.{pretty_text, IsWhole, AllAbove, IsCanonical, ItemsAreCanonical, MembersAreCanonical}
use Rattle.cdk_base.proofs.Laid.{pretty-outline}

-- ---- the tokens of a pretty text

spaced : Last × ℕ → List Token → List (List ℕ × Token)
spaced s [] = []
spaced s (t ∷ ts) = (gap s.0 (begins t) (depth_at s.1 t), t) ∷ spaced (step s t) ts

spaces : (n : ℕ) → IsGap (replicate n 32)
spaces zero = tt
spaces (suc n) = (inl refl, spaces n)

IsGap-gap : (s : Last) (b : Bool) (n : ℕ) → IsGap (gap s b n)
IsGap-gap nothing b n = tt
IsGap-gap bracket true n = (inr refl, spaces (2 * n))
IsGap-gap bracket false n = tt
IsGap-gap name b n = (inl refl, tt)
IsGap-gap value b n = (inr refl, spaces (2 * n))

ends_step : (s : Last × ℕ) (t : Token) → is_value (step s t).0 ≡ ends t
ends_step s Token.begin_object = refl
ends_step s Token.end_object = refl
ends_step s Token.begin_array = refl
ends_step s Token.end_array = refl
ends_step s (Token.key k) = refl
ends_step s (Token.string k) = refl
ends_step s (Token.number k) = refl
ends_step s (Token.boolean b) = refl
ends_step s Token.null = refl
ends_step s Token.bad = refl

AreGaps-spaced : (s : Last × ℕ) (ts : List Token) → AreGaps (spaced s ts)
unfolding spaced
AreGaps-spaced s [] = tt
AreGaps-spaced s (t ∷ ts) = (IsGap-gap s.0 (begins t) (depth_at s.1 t), AreGaps-spaced (step s t) ts)

tokens_spaced : (s : Last × ℕ) (ts : List Token) → map (λ p. p.1) (spaced s ts) ≡ ts
unfolding spaced
tokens_spaced s [] = refl
tokens_spaced s (t ∷ ts) = ap (λ us. t ∷ us) (tokens_spaced (step s t) ts)

pretty_spaced : (s : Last × ℕ) (ts : List Token) → pretty_from s ts ≡ print_spaced (is_value s.0) (spaced s ts)
unfolding spaced pretty_from print_spaced
pretty_spaced s [] = refl
pretty_spaced s (t ∷ ts) =
    let before = separator (is_value s.0) t in
    let g = gap s.0 (begins t) (depth_at s.1 t) in
    let rest = pretty_spaced (step s t) ts ∙ ap (λ b. print_spaced b (spaced (step s t) ts)) (ends_step s t) in
    append_assoc before (g ++ token_text t) _ ∙ ap (λ r. before ++ r) (append_assoc g (token_text t) _) ∙ ap (λ r. before ++ (g ++ (token_text t ++ r))) rest

pub tokens-pretty : (ts : List Token) → ArePrintable ts → tokens (pretty ts) ≡ ts
tokens-pretty ts h =
    let same = tokens_spaced (nothing, 0) ts in
    ap tokens (pretty_spaced (nothing, 0) ts) ∙ tokens-print_spaced (spaced (nothing, 0) ts) (AreGaps-spaced (nothing, 0) ts) (rw same h) ∙ same

-- ---- the value that a text stands for

number_read : (x : Num) → IsWhole x → number_of (number_text x) ≡ Some x
number_read (unsigned n) h = number_of-decimal n h
number_read (negative (pos n)) h = absurd h
number_read (negative (negsuc n)) h = number_of-negative n h
number_read (float x) h = absurd h

abbrev joined : Members → Members → Members
joined no_members ms = ms
joined (member k d found) ms = member k d (joined found ms)

-- k is above each key
abbrev AllBelow : List ℕ → Members → Type 0
AllBelow k no_members = ⊤
AllBelow k (member l d ms) = (slice_cmp nat_cmp k l ≡ Greater) × AllBelow k ms

abbrev Follows : Members → Members → Type 0
Follows found no_members = ⊤
Follows found (member k d ms) = AllBelow k found × Follows found ms

put_last : (k : List ℕ) (d : Data) (found : Members) → AllBelow k found → put k d found ≡ joined found (member k d no_members)
put_last k d no_members h = refl
put_last k d (member l e ms) h = rw h.0 (ap (member l e) (put_last k d ms h.1))

below_joined : (l : List ℕ) (found : Members) (k : List ℕ) (d : Data) → AllBelow l found → slice_cmp nat_cmp l k ≡ Greater → AllBelow l (joined found (member k d no_members))
below_joined l no_members k d h above = (above, tt)
below_joined l (member m e found) k d h above = (h.0, below_joined l found k d h.1 above)

follows_next : (found : Members) (k : List ℕ) (d : Data) (ms : Members) → Follows found ms → AllAbove k ms → Follows (joined found (member k d no_members)) ms
follows_next found k d no_members h above = tt
follows_next found k d (member l e ms) h above = (below_joined l found k d h.0 above.0, follows_next found k d ms h.1 above.1)

joined_next : (found : Members) (k : List ℕ) (d : Data) (ms : Members) → joined (joined found (member k d no_members)) ms ≡ joined found (member k d ms)
joined_next no_members k d ms = refl
joined_next (member l e found) k d ms = ap (member l e) (joined_next found k d ms)

follows_none : (ms : Members) → Follows no_members ms
follows_none no_members = tt
follows_none (member k d ms) = (tt, follows_none ms)

joined_nothing : (found : Members) → found ≡ joined found no_members
joined_nothing no_members = refl
joined_nothing (member k d found) = ap (member k d) (joined_nothing found)

mutual
  value_back : (d : Data) → IsCanonical d → of_json (outline d) ≡ Some d
  value_back null h = refl
  value_back (boolean b) h = refl
  value_back (number x) h = ap (option_map number) (number_read x h)
  value_back (string s) h = refl
  value_back (array ds) h = ap (option_map array) (items_back ds h)
  value_back (object ms) h = ap (option_map object) (members_back no_members ms h (follows_none ms))

  items_back : (ds : Items) → ItemsAreCanonical ds → of_items (items_outline ds) ≡ Some ds
  items_back no_items h = refl
  items_back (item d ds) h =
      ap (option_and_then (λ e. option_map (item e) (of_items (items_outline ds)))) (value_back d h.0) ∙ ap (option_map (item d)) (items_back ds h.1)

  members_back : (found ms : Members) → MembersAreCanonical ms → Follows found ms → of_members (members_outline ms) found ≡ Some (joined found ms)
  members_back found no_members h after = ap Some (joined_nothing found)
  members_back found (member k d ms) h after =
      ap (option_and_then (λ e. of_members (members_outline ms) (put k e found))) (value_back d h.0)
      ∙ ap (of_members (members_outline ms)) (put_last k d found after.0)
      ∙ members_back (joined found (member k d no_members)) ms h.1.1 (follows_next found k d ms after.1 h.1.0)
      ∙ ap Some (joined_next found k d ms)

mutual
  numbers_outline : (d : Data) → IsCanonical d → HasNumbers (outline d)
  numbers_outline null h = tt
  numbers_outline (boolean b) h = tt
  numbers_outline (number (unsigned n)) h = IsNumber-decimal n h
  numbers_outline (number (negative (pos n))) h = absurd h
  numbers_outline (number (negative (negsuc n))) h = IsNumber-signed_decimal (negsuc n) h
  numbers_outline (number (float x)) h = absurd h
  numbers_outline (string s) h = tt
  numbers_outline (array ds) h = items_numbers ds h
  numbers_outline (object ms) h = members_numbers ms h

  items_numbers : (ds : Items) → ItemsAreCanonical ds → ItemsHaveNumbers (items_outline ds)
  items_numbers no_items h = tt
  items_numbers (item d ds) h = (numbers_outline d h.0, items_numbers ds h.1)

  members_numbers : (ms : Members) → MembersAreCanonical ms → MembersHaveNumbers (members_outline ms)
  members_numbers no_members h = tt
  members_numbers (member k d ms) h = (numbers_outline d h.0, members_numbers ms h.1.1)

mutual
  depth-outline : (d : Data) → tree.depth (outline d) ≡ depth d
  depth-outline null = refl
  depth-outline (boolean b) = refl
  depth-outline (number x) = refl
  depth-outline (string s) = refl
  depth-outline (array ds) = ap suc (depth-items ds)
  depth-outline (object ms) = ap suc (depth-members ms)

  depth-items : (ds : Items) → tree.items_depth (items_outline ds) ≡ items_depth ds
  depth-items no_items = refl
  depth-items (item d ds) = omega (arith, depth-outline d, depth-items ds)

  depth-members : (ms : Members) → tree.members_depth (members_outline ms) ≡ members_depth ms
  depth-members no_members = refl
  depth-members (member k d ms) = omega (arith, depth-outline d, depth-members ms)

pub read-pretty_text : (d : Data) → IsCanonical d → depth d ≤ max_depth → read (pretty_text d) ≡ Some d
read-pretty_text d canonical shallow =
    let ts = json_tokens (outline d) in
    let lexed : tokens (pretty_text d) ≡ ts = ap tokens (sym (pretty-outline d shallow)) ∙ tokens-pretty ts (ArePrintable-json_tokens (outline d) (numbers_outline d canonical)) in
    ap (λ us. option_and_then of_json (option_and_then (λ p. json.if_last p.0 p.1) (json.value max_depth us))) (lexed ∙ sym (append-nil ts))
    ∙ ap (λ o. option_and_then of_json (option_and_then (λ p. json.if_last p.0 p.1) o)) (value-json_tokens (outline d) max_depth [] (omega (arith, depth-outline d)))
    ∙ value_back d canonical
