-- Which tokens are among those that are found by keys, and what a token's form mentions.
use Rattle.std.proofs.Common.{◌≡◌, ◌<◌, ℕ, zero, suc, ◌∷◌, List, [], length, Bool, true, false, cond, Option, Some, None, refl, sym, ap, subst, ◌∙◌, arith, inl, inr}
use Rattle.std.specs.Prelude.{◌⊎◌, slice_get, Contains}
use Rattle.std.specs.Option.{option_and_then}
use Rattle.std.specs.Str.{bytes_eq}
use Rattle.std.proofs.lemmas.List.Elements.{Contains-append_cases, Contains-append_left, Contains-append_right}
use Rattle.std.proofs.lemmas.List.Quantifiers.{position-Some}
use Rattle.serde_json.specs.Data.{Data}
use Rattle.cdk_expansion.specs.Mentions.{arguments, keys_in}
use Rattle.cdk_expansion.proofs.MentionContains.{contains_first, contains_later, contains_no, contains_one, first_or_rest}
use Rattle.cdk_tokens.specs.Token as token
use Rattle.cdk_tokens.specs.Token.{find_token, Form, Token}
use Rattle.cdk_tokens.specs.Values.{token_at}
use Rattle.cdk_tree.specs.Expected.{is_lazy}
use Rattle.cdk_tree.specs.Placed.{Placed, construct_at}
use Rattle.cdk_lazies.specs.LazyOrder.{IsLazy}
use Rattle.cdk_lazies.specs.MentionGraph.{construct_node, form_mentions, lazy_node, onto, tokens_by, tokens_in_all}

-- ---- tokens by keys

pub found_within : (ts : List Token) (k : List ℕ) (i : ℕ) → find_token ts k ≡ Some i → i < length ts
found_within [] k i h = absurd (cc h)
found_within (t ∷ ts) k i h = (position-Some (λ (u : Token). bytes_eq k u.key) (t ∷ ts) i t h).0

-- each number below their count is a token's
pub token_there : (ts : List Token) (n : ℕ) → n < length ts → (t : Token) × (slice_get ts n ≡ Some t)
token_there [] n low = absurd (omega arith)
token_there (t ∷ ts) zero low = (t, refl)
token_there (t ∷ ts) (suc n) low = token_there ts n (omega arith)

-- the number of the token that has the key
pub record FoundAt (ts : List Token) (k : List ℕ) (t : Token) : Type 0 where
  pub number : ℕ
  pub found : find_token ts k ≡ Some number
  pub there : slice_get ts number ≡ Some t

pub found_at : (ts : List Token) (k : List ℕ) (t : Token) → token_at ts k ≡ Some t → FoundAt ts k t
found_at ts k t h = at (find_token ts k) refl h
  where
    at : (o : Option ℕ) → find_token ts k ≡ o → option_and_then (slice_get ts) o ≡ Some t → FoundAt ts k t
    at None e h = absurd (cc h)
    at (Some n) e h = record { number = n; found = e; there = h }

-- one of the keys finds the token
pub record Named (ts : List Token) (ks : List (List ℕ)) (i : ℕ) : Type 0 where
  pub key : List ℕ
  pub is_there : Contains ks key
  pub found : find_token ts key ≡ Some i

pub named_is_there : (ts : List Token) (ks : List (List ℕ)) (k : List ℕ) (i : ℕ) → Contains ks k → find_token ts k ≡ Some i → Contains (tokens_by ts ks) i
named_is_there ts [] k i c found = absurd (contains_no k c)
named_is_there ts (j ∷ ks) k i c found = elim (first_or_rest j ks k c) [
  | inl same ↦ subst (λ o. Contains (onto o (tokens_by ts ks)) i) (sym found ∙ ap (find_token ts) same) (contains_first i (tokens_by ts ks))
  | inr rest ↦ later (find_token ts j) (named_is_there ts ks k i rest found)
]
  where
    later : (o : Option ℕ) → Contains (tokens_by ts ks) i → Contains (onto o (tokens_by ts ks)) i
    later None h = h
    later (Some n) h = contains_later n (tokens_by ts ks) i h

named_later : (ts : List Token) (j : List ℕ) (ks : List (List ℕ)) (i : ℕ) → Named ts ks i → Named ts (j ∷ ks) i
named_later ts j ks i n = record { key = n.key; is_there = contains_later j ks n.key n.is_there; found = n.found }

pub is_named : (ts : List Token) (ks : List (List ℕ)) (i : ℕ) → Contains (tokens_by ts ks) i → Named ts ks i
is_named ts [] i c = absurd (contains_no i c)
is_named ts (j ∷ ks) i c = at (find_token ts j) refl c (is_named ts ks i)
  where
    at : (o : Option ℕ) → find_token ts j ≡ o → Contains (onto o (tokens_by ts ks)) i → (Contains (tokens_by ts ks) i → Named ts ks i) → Named ts (j ∷ ks) i
    at None e c rest = named_later ts j ks i (rest c)
    at (Some n) e c rest = elim (first_or_rest n (tokens_by ts ks) i c) [
      | inl same ↦ record { key = j; is_there = contains_first j ks; found = e ∙ ap Some (sym same) }
      | inr later ↦ named_later ts j ks i (rest later)
    ]

-- one of the values has a key that finds the token
pub record NamedIn (ts : List Token) (ds : List Data) (i : ℕ) : Type 0 where
  pub argument : Data
  pub among : Contains ds argument
  pub named : Named ts (keys_in argument) i

pub named_in_is_there : (ts : List Token) (ds : List Data) (d : Data) (k : List ℕ) (i : ℕ) → Contains ds d → Contains (keys_in d) k → find_token ts k ≡ Some i → Contains (tokens_in_all ts ds) i
named_in_is_there ts [] d k i among c found = absurd (contains_no d among)
named_in_is_there ts (e ∷ ds) d k i among c found = elim (first_or_rest e ds d among) [
  | inl same ↦ Contains-append_left (tokens_by ts (keys_in e)) (tokens_in_all ts ds) i (named_is_there ts (keys_in e) k i (subst (λ a. Contains (keys_in a) k) same c) found)
  | inr rest ↦ Contains-append_right (tokens_by ts (keys_in e)) (tokens_in_all ts ds) i (named_in_is_there ts ds d k i rest c found)
]

pub is_named_in : (ts : List Token) (ds : List Data) (i : ℕ) → Contains (tokens_in_all ts ds) i → NamedIn ts ds i
is_named_in ts [] i c = absurd (contains_no i c)
is_named_in ts (e ∷ ds) i c = elim (Contains-append_cases (tokens_by ts (keys_in e)) (tokens_in_all ts ds) i c) [
  | inl here ↦ record { argument = e; among = contains_first e ds; named = is_named ts (keys_in e) i here }
  | inr rest ↦ let n = is_named_in ts ds i rest in record { argument = n.argument; among = contains_later e ds n.argument n.among; named = n.named }
]

-- ---- what a form mentions

-- the form is the lazy's, whose number it is
pub record LeadsToLazy (cs : List Placed) (ts : List Token) (f : Form) (m : ℕ) : Type 0 where
  pub lazy : ℕ
  pub form : f ≡ token.lazy lazy
  pub node : m ≡ construct_node ts lazy
  pub is_lazy : IsLazy cs lazy

pub lazy_node_there : (cs : List Placed) (ts : List Token) (n : ℕ) → IsLazy cs n → Contains (lazy_node cs ts n) (construct_node ts n)
lazy_node_there cs ts n is = subst (λ b. Contains (cond b (construct_node ts n ∷ []) []) (construct_node ts n)) (sym is) (contains_first (construct_node ts n) [])

lazy_node_is : (cs : List Placed) (ts : List Token) (n m : ℕ) → Contains (lazy_node cs ts n) m → LeadsToLazy cs ts (token.lazy n) m
lazy_node_is cs ts n m c = at (is_lazy (construct_at cs n).body) refl c
  where
    at : (b : Bool) → is_lazy (construct_at cs n).body ≡ b → Contains (cond b (construct_node ts n ∷ []) []) m → LeadsToLazy cs ts (token.lazy n) m
    at true e c = record { lazy = n; form = refl; node = contains_one (construct_node ts n) m c; is_lazy = e }
    at false e c = absurd (contains_no m c)

pub argument_there : (cs : List Placed) (ts : List Token) (f : Form) (a : Data) (k : List ℕ) (i : ℕ) → Contains (arguments f) a → Contains (keys_in a) k → find_token ts k ≡ Some i → Contains (form_mentions cs ts f) i
argument_there cs ts (token.lazy n) a k i among c found = absurd (contains_no a among)
argument_there cs ts f a k i among c found = named_in_is_there ts (arguments f) a k i among c found

-- a lazy, or a token of an argument
pub form_leads : (cs : List Placed) (ts : List Token) (f : Form) (m : ℕ) → Contains (form_mentions cs ts f) m → LeadsToLazy cs ts f m ⊎ NamedIn ts (arguments f) m
form_leads cs ts (token.lazy n) m c = inl (lazy_node_is cs ts n m c)
form_leads cs ts f m c = inr (is_named_in ts (arguments f) m c)
