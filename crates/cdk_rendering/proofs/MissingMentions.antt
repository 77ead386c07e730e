-- The lazies that are missing in a value: it mentions each, and nothing is kept of it; where none is missing, each that it mentions is
-- kept.
use Rattle.std.proofs.Common.{◌≡◌, ◌<◌, ℕ, List, [], ◌∷◌, length, get_or, Option, Some, None, option_and_then, inl, inr, refl, sym, ap, ◌∙◌, arith}
use Rattle.std.specs.Prelude.{slice_get, Contains}
use Rattle.std.specs.Option.{unwrap_or}
use Rattle.std.specs.Str.{bytes_eq}
use Rattle.std.proofs.lemmas.List.Elements.{Contains-append_cases}
use Rattle.std.proofs.lemmas.List.Quantifiers.{position-Some}
use Rattle.std.proofs.lemmas.Option.{option_and_then_some, slice_get-get_or}
use Rattle.serde_json.specs.Data.{Data}
use Rattle.cdk_expansion.proofs.MentionContains.{contains_first, contains_later, contains_no, contains_one, first_or_rest}
use Rattle.cdk_expansion.specs.Mentions.{arguments, directly, keys_in, Mentions, through}
use Rattle.cdk_leaves.specs.Lazies.{IsKept, Results, lazy_missing}
use Rattle.cdk_leaves.specs.Ready.{AreLower}
use Rattle.cdk_rendering.proofs.MissingFound.{Each, each_found, found-length}
use Rattle.cdk_rendering.proofs.MissingKeys.{neither, value_missed_by, value_misses_none}
use Rattle.cdk_rendering.specs.Folding.{Known, found_of_all, known_by, known_in}
use Rattle.cdk_rendering.specs.Missing.{form_missing, value_missing}
use Rattle.cdk_tokens.specs.Token as token
use Rattle.cdk_tokens.specs.Token.{find_token, Form, Token}
use Rattle.cdk_tokens.specs.Values.{token_at}

-- ---- tokens by keys

pub found_within : (ts : List Token) (k : List ℕ) (n : ℕ) → find_token ts k ≡ Some n → n < length ts
found_within [] k n e = absurd (cc e)
found_within (t ∷ ts) k n e = (position-Some (λ (u : Token). bytes_eq k u.key) (t ∷ ts) n t e).0

token_there : (ts : List Token) (n : ℕ) → n < length ts → (t : Token) × (slice_get ts n ≡ Some t)
token_there [] n low = absurd (omega arith)
token_there (t ∷ ts) n low = (get_or (t ∷ ts) n t, slice_get-get_or (t ∷ ts) n t low)

-- ---- mentions, by the value's own tokens

-- a form mentions a lazy: it is the lazy's, or one of its arguments mentions it
pub data FormMentions (ts : List Token) (form : Form) (m : ℕ) : Type 0 where
  own : form ≡ token.lazy m → FormMentions ts form m
  by_argument : (a : Data) → Contains (arguments form) a → Mentions ts a m → FormMentions ts form m

token_mentions : (ts : List Token) (d : Data) (m : ℕ) (k : List ℕ) (t : Token) → Contains (keys_in d) k → token_at ts k ≡ Some t → FormMentions ts t.form m → Mentions ts d m
token_mentions ts d m k t c at (own e) = directly d m k t c at e
token_mentions ts d m k t c at (by_argument a among mentioned) = through d a m k t c at among mentioned

-- the token in the value that mentions the lazy
record MentionedBy (ts : List Token) (d : Data) (m : ℕ) : Type 0 where
  by : List ℕ
  is_there : Contains (keys_in d) by
  number : ℕ
  found : find_token ts by ≡ Some number
  token_by : Token
  token_is : slice_get ts number ≡ Some token_by
  mentions : FormMentions ts token_by.form m

by_token : (ts : List Token) (d : Data) (m : ℕ) (k : List ℕ) (t : Token) → Contains (keys_in d) k → token_at ts k ≡ Some t → FormMentions ts t.form m → MentionedBy ts d m
by_token ts d m k t c at mentions =
    option_and_then_some {P = MentionedBy ts d m} (slice_get ts) (find_token ts k) t at
    (λ n found is. record { by = k; is_there = c; number = n; found = found; token_by = t; token_is = is; mentions = mentions })

mentioned_by : (ts : List Token) (d : Data) (m : ℕ) → Mentions ts d m → MentionedBy ts d m
mentioned_by ts x y (directly d m k t c at e) = by_token ts d m k t c at (own e)
mentioned_by ts x y (through d a m k t c at among mentioned) = by_token ts d m k t c at (by_argument a among mentioned)

-- ---- what is missing is mentioned

module _ (kept : Results) (ts : List Token) where
  abbrev AreMentioned : Token → List ℕ → Type 0
  AreMentioned t ns = (m : ℕ) → Contains ns m → FormMentions ts t.form m × (kept m ≡ None)

  abbrev EachIsMentioned : List (List ℕ) → Type 0
  EachIsMentioned = Each (form_missing kept) ts AreMentioned

  token_is_mentioned : (found : List (List ℕ)) → EachIsMentioned found → (d : Data) (m : ℕ) (k : List ℕ) → Contains (keys_in d) k → (n : ℕ) → find_token ts k ≡ Some n → (o : Option (List ℕ)) → slice_get found n ≡ o
      → Contains (unwrap_or o []) m → Mentions ts d m × (kept m ≡ None)
  token_is_mentioned found each d m k there n e None at c = absurd (contains_no m c)
  token_is_mentioned found each d m k there n e (Some ns) at c =
      let t = token_there ts n (found_within ts k n e) in
      let h = each n t.0 ns t.1 at m c in
      (token_mentions ts d m k t.0 there (ap (option_and_then (slice_get ts)) e ∙ t.1) h.0, h.1)

  key_is_mentioned : (found : List (List ℕ)) → EachIsMentioned found → (d : Data) (m : ℕ) (k : List ℕ) → Contains (keys_in d) k → (o : Option ℕ) → find_token ts k ≡ o
      → Contains (unwrap_or (option_and_then (slice_get found) o) []) m → Mentions ts d m × (kept m ≡ None)
  key_is_mentioned found each d m k there None e c = absurd (contains_no m c)
  key_is_mentioned found each d m k there (Some n) e c = token_is_mentioned found each d m k there n e (slice_get found n) refl c

  value_is_mentioned : (found : List (List ℕ)) → EachIsMentioned found → (d : Data) (m : ℕ) → Contains (value_missing (known_by ts found) d) m → Mentions ts d m × (kept m ≡ None)
  value_is_mentioned found each d m c = let b = value_missed_by (known_by ts found) d m c in key_is_mentioned found each d m b.by b.is_there (find_token ts b.by) refl b.missed

  argument_is_mentioned : (found : List (List ℕ)) → EachIsMentioned found → (form : Form) (a : Data) (m : ℕ) → Contains (arguments form) a → Contains (value_missing (known_by ts found) a) m
      → FormMentions ts form m × (kept m ≡ None)
  argument_is_mentioned found each form a m among c = let h = value_is_mentioned found each a m c in (by_argument a among h.0, h.1)

  lazy_is_mentioned : (n m : ℕ) (o : Option Data) → kept n ≡ o → Contains (lazy_missing o n) m → FormMentions ts (token.lazy n) m × (kept m ≡ None)
  lazy_is_mentioned n m None e c = let same : m ≡ n = contains_one n m c in (own (ap token.lazy (sym same)), ap kept same ∙ e)
  lazy_is_mentioned n m (Some d) e c = absurd (contains_no m c)

  form_is_mentioned : (found : List (List ℕ)) → EachIsMentioned found → (form : Form) (m : ℕ) → Contains (form_missing kept (known_by ts found) form) m → FormMentions ts form m × (kept m ≡ None)
  form_is_mentioned found each (token.join d v) m c = argument_is_mentioned found each (token.join d v) v m (contains_first v []) c
  form_is_mentioned found each (token.select n v) m c = argument_is_mentioned found each (token.select n v) v m (contains_first v []) c
  form_is_mentioned found each (token.split d v) m c = argument_is_mentioned found each (token.split d v) v m (contains_first v []) c
  form_is_mentioned found each (token.choice n x y) m c = elim (Contains-append_cases (value_missing (known_by ts found) x) (value_missing (known_by ts found) y) m c) [
    | inl first ↦ argument_is_mentioned found each (token.choice n x y) x m (contains_first x (y ∷ [])) first
    | inr second ↦ argument_is_mentioned found each (token.choice n x y) y m (contains_later x (y ∷ []) y (contains_first y [])) second
  ]
  form_is_mentioned found each (token.find_in_map n x y) m c = elim (Contains-append_cases (value_missing (known_by ts found) x) (value_missing (known_by ts found) y) m c) [
    | inl first ↦ argument_is_mentioned found each (token.find_in_map n x y) x m (contains_first x (y ∷ [])) first
    | inr second ↦ argument_is_mentioned found each (token.find_in_map n x y) y m (contains_later x (y ∷ []) y (contains_first y [])) second
  ]
  form_is_mentioned found each (token.lazy n) m c = lazy_is_mentioned n m (kept n) refl c
  form_is_mentioned found each form m c = absurd (contains_no m c)

  pub missing_is_mentioned : (d : Data) (m : ℕ) → Contains (value_missing (known_in (form_missing kept) ts) d) m → Mentions ts d m × (kept m ≡ None)
  missing_is_mentioned d m c =
      value_is_mentioned (found_of_all (form_missing kept) ts) (each_found (form_missing kept) ts AreMentioned (λ done t at each n there. form_is_mentioned done each t.form n there)) d m c

  -- ---- where nothing is missing, what is mentioned is kept

  abbrev IsWhole : Token → List ℕ → Type 0
  IsWhole t ns = ns ≡ [] → (m : ℕ) → FormMentions ts t.form m → IsKept kept m

  abbrev EachIsWhole : List (List ℕ) → Type 0
  EachIsWhole = Each (form_missing kept) ts IsWhole

  -- the value holds only tokens of numbers below n
  abbrev HoldsBelow : ℕ → Data → Type 0
  HoldsBelow n d = (k : List ℕ) (m : ℕ) → Contains (keys_in d) k → find_token ts k ≡ Some m → m < n

  value_is_whole : (found : List (List ℕ)) → EachIsWhole found → (d : Data) (m : ℕ) → HoldsBelow (length found) d → value_missing (known_by ts found) d ≡ [] → Mentions ts d m → IsKept kept m
  value_is_whole found each d m below none mentioned =
      let b = mentioned_by ts d m mentioned in
      let ns : List ℕ = get_or found b.number [] in
      let at : slice_get found b.number ≡ Some ns = slice_get-get_or found b.number [] (below b.by b.number b.is_there b.found) in
      let known : known_by ts found b.by ≡ Some ns = ap (option_and_then (slice_get found)) b.found ∙ at in
      let empty : ns ≡ [] = sym (ap (λ o. unwrap_or o []) known) ∙ value_misses_none (known_by ts found) d b.by none b.is_there in
      each b.number b.token_by ns b.token_is at empty m b.mentions

  lazy_is_kept : (n : ℕ) (o : Option Data) → kept n ≡ o → lazy_missing o n ≡ [] → IsKept kept n
  lazy_is_kept n None e none = absurd (cc none)
  lazy_is_kept n (Some r) e none = record { result = r; is = e }

  argument_misses_none : (known : Known (List ℕ)) (form : Form) (a : Data) → Contains (arguments form) a → form_missing kept known form ≡ [] → value_missing known a ≡ []
  argument_misses_none known (token.join d v) a c none = ap (value_missing known) (contains_one v a c) ∙ none
  argument_misses_none known (token.select n v) a c none = ap (value_missing known) (contains_one v a c) ∙ none
  argument_misses_none known (token.split d v) a c none = ap (value_missing known) (contains_one v a c) ∙ none
  argument_misses_none known (token.choice n x y) a c none =
      let both = neither (value_missing known x) (value_missing known y) none in
      elim (first_or_rest x (y ∷ []) a c) [
        | inl same ↦ ap (value_missing known) same ∙ both.0
        | inr rest ↦ ap (value_missing known) (contains_one y a rest) ∙ both.1
      ]
  argument_misses_none known (token.find_in_map n x y) a c none =
      let both = neither (value_missing known x) (value_missing known y) none in
      elim (first_or_rest x (y ∷ []) a c) [
        | inl same ↦ ap (value_missing known) same ∙ both.0
        | inr rest ↦ ap (value_missing known) (contains_one y a rest) ∙ both.1
      ]
  argument_misses_none known form a c none = absurd (contains_no a c)

  form_is_whole : (found : List (List ℕ)) → EachIsWhole found → (form : Form) → ((a : Data) → Contains (arguments form) a → HoldsBelow (length found) a)
      → form_missing kept (known_by ts found) form ≡ [] → (m : ℕ) → FormMentions ts form m → IsKept kept m
  form_is_whole found each form below none m (own e) = lazy_is_kept m (kept m) refl (sym (ap (form_missing kept (known_by ts found)) e) ∙ none)
  form_is_whole found each form below none m (by_argument a among mentioned) =
      value_is_whole found each a m (below a among) (argument_misses_none (known_by ts found) form a among none) mentioned

  pub what_is_mentioned_is_kept : AreLower ts → (d : Data) (m : ℕ) → value_missing (known_in (form_missing kept) ts) d ≡ [] → Mentions ts d m → IsKept kept m
  what_is_mentioned_is_kept lower d m none mentioned =
      let long = found-length (form_missing kept) ts IsWhole in
      value_is_whole (found_of_all (form_missing kept) ts)
      (each_found (form_missing kept) ts IsWhole (λ done t at each empty n also. form_is_whole done each t.form (λ a among k i there finds. lower (length done) i t a k at among there finds) empty n also)) d m
      (λ k n there finds. omega (arith, found_within ts k n finds, long)) none mentioned
