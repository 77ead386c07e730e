-- Tokens by their keys, and the numbers of the tokens that the keys of values find.
use Rattle.std.proofs.Common.{◌≡◌, ◌<◌, ℕ, zero, suc, ◌+◌, ◌++◌, inl, inr, List, [], ◌∷◌, length, Bool, true, false, true≢false, Option, Some, None, is_some, cond, not, option_and_then, refl, sym, ap, ◌∙◌, subst, arith}
use Rattle.std.specs.Prelude.{Contains, nat_lt, slice_get}
use Rattle.std.specs.List.{position, position_or_len}
use Rattle.std.specs.Str.{bytes_eq}
use Rattle.std.proofs.lemmas.Bool.{ltb-true}
use Rattle.std.proofs.lemmas.List.Elements.{Contains-append_cases, Contains-append_left, Contains-append_right}
use Rattle.serde_json.specs.Data.{Data}
use Rattle.cdk_expansion.proofs.MentionContains.{contains_first, contains_later, contains_no, first_or_rest}
use Rattle.cdk_expansion.specs.Mentions.{keys_in}
use Rattle.cdk_lazies.specs.MentionGraph.{onto, tokens_by, tokens_in_all}
use Rattle.cdk_tokens.specs.Token.{find_token, Token}
use Rattle.cdk_tokens.specs.Values.{token_at}

-- ---- a token by its key

some_when : (b : Bool) (i m : ℕ) → cond b (Some i) None ≡ Some m → (b ≡ true) × (i ≡ m)
some_when true i m e = (refl, cc e)
some_when false i m e = absurd (true≢false (sym (ap is_some e)))

position_is : {X : Type 0} (p : X → Bool) (xs : List X) (m : ℕ) → position p xs ≡ Some m → (position_or_len p xs < length xs) × (position_or_len p xs ≡ m)
position_is p xs m e =
    let parts = some_when (nat_lt (position_or_len p xs) (length xs)) (position_or_len p xs) m e in
    (ltb-true (position_or_len p xs) (length xs) (parts.0), parts.1)

next_place : (b : Bool) (i j n : ℕ) → (i < n → j ≡ i) → cond (not b) (1 + i) 0 < suc n → cond (not b) (1 + j) 0 ≡ cond (not b) (1 + i) 0
next_place true i j n same low = refl
next_place false i j n same low = ap (λ k. 1 + k) (same (omega (arith, low)))

same_place : {X : Type 0} (p : X → Bool) (xs ys : List X) → position_or_len p xs < length xs → position_or_len p (xs ++ ys) ≡ position_or_len p xs
same_place p [] ys low = absurd (omega (arith, low))
same_place p (x ∷ xs) ys low = next_place (p x) (position_or_len p xs) (position_or_len p (xs ++ ys)) (length xs) (same_place p xs ys) low

-- what is found in the beginning of a list is found there in the list
pub lower_position : {X : Type 0} (p : X → Bool) (xs ys : List X) (i m : ℕ) → position p xs ≡ Some i → position p (xs ++ ys) ≡ Some m → m < length xs
lower_position p xs ys i m first whole =
    let here = position_is p xs i first in
    let there = position_is p (xs ++ ys) m whole in
    omega (arith, here.0, there.1, same_place p xs ys (here.0))

there_at : {X : Type 0} (xs : List X) (i : ℕ) → i < length xs → (x : X) × (slice_get xs i ≡ Some x)
there_at [] i low = absurd (omega arith)
there_at (x ∷ xs) zero low = (x, refl)
there_at (x ∷ xs) (suc i) low = there_at xs i (omega arith)

pub found_within : (ts : List Token) (k : List ℕ) (i : ℕ) → find_token ts k ≡ Some i → i < length ts
found_within ts k i e = let p = position_is (λ t. bytes_eq k t.key) ts i e in omega (arith, p.0, p.1)

-- the token of a key, and its number
pub record IsToken (ts : List Token) (k : List ℕ) (i : ℕ) (t : Token) : Type 0 where
  pub finds : find_token ts k ≡ Some i
  pub there : slice_get ts i ≡ Some t
  pub known : token_at ts k ≡ Some t

pub token_found : (ts : List Token) (k : List ℕ) (i : ℕ) → find_token ts k ≡ Some i → (t : Token) × IsToken ts k i t
token_found ts k i e =
    let at = there_at ts i (found_within ts k i e) in
    (at.0, record { finds = e; there = at.1; known = ap (option_and_then (slice_get ts)) e ∙ at.1 })

found_from : (ts : List Token) (k : List ℕ) (t : Token) (o : Option ℕ) → find_token ts k ≡ o → token_at ts k ≡ Some t → option_and_then (slice_get ts) o ≡ Some t → (i : ℕ) × IsToken ts k i t
found_from ts k t None e known at = absurd (true≢false (sym (ap is_some at)))
found_from ts k t (Some i) e known at = (i, record { finds = e; there = at; known = known })

pub token_known : (ts : List Token) (k : List ℕ) (t : Token) → token_at ts k ≡ Some t → (i : ℕ) × IsToken ts k i t
token_known ts k t known = found_from ts k t (find_token ts k) refl known known

-- ---- the tokens of keys

-- one of the keys finds the token of the number
abbrev pub IsFoundBy : List Token → List (List ℕ) → ℕ → Type 0
IsFoundBy ts ks i = (k : List ℕ) × Contains ks k × (find_token ts k ≡ Some i)

found_later : (ts : List Token) (j : List ℕ) (ks : List (List ℕ)) (i : ℕ) → IsFoundBy ts ks i → IsFoundBy ts (j ∷ ks) i
found_later ts j ks i f = (f.0, contains_later j ks (f.0) (f.1), f.2)

found_onto : (ts : List Token) (j : List ℕ) (ks : List (List ℕ)) (i : ℕ) (o : Option ℕ) → find_token ts j ≡ o → Contains (onto o (tokens_by ts ks)) i → (Contains (tokens_by ts ks) i → IsFoundBy ts ks i)
    → IsFoundBy ts (j ∷ ks) i
found_onto ts j ks i None e c rest = found_later ts j ks i (rest c)
found_onto ts j ks i (Some n) e c rest = elim (first_or_rest n (tokens_by ts ks) i c) [
  | inl same ↦ (j, contains_first j ks, e ∙ ap Some (sym same))
  | inr more ↦ found_later ts j ks i (rest more)
]

pub found_by : (ts : List Token) (ks : List (List ℕ)) (i : ℕ) → Contains (tokens_by ts ks) i → IsFoundBy ts ks i
found_by ts [] i c = absurd (contains_no i c)
found_by ts (j ∷ ks) i c = found_onto ts j ks i (find_token ts j) refl c (found_by ts ks i)

onto_later : (o : Option ℕ) (ns : List ℕ) (i : ℕ) → Contains ns i → Contains (onto o ns) i
onto_later None ns i c = c
onto_later (Some n) ns i c = contains_later n ns i c

pub finds_by : (ts : List Token) (ks : List (List ℕ)) (k : List ℕ) (i : ℕ) → Contains ks k → find_token ts k ≡ Some i → Contains (tokens_by ts ks) i
finds_by ts [] k i c e = absurd (contains_no k c)
finds_by ts (j ∷ ks) k i c e = elim (first_or_rest j ks k c) [
  | inl same ↦ subst (λ (o : Option ℕ). Contains (onto o (tokens_by ts ks)) i) (sym (ap (find_token ts) (sym same) ∙ e)) (contains_first i (tokens_by ts ks))
  | inr more ↦ onto_later (find_token ts j) (tokens_by ts ks) i (finds_by ts ks k i more e)
]

-- ---- the tokens of values

-- one of the values has a key that finds the token of the number
abbrev pub IsFoundIn : List Token → List Data → ℕ → Type 0
IsFoundIn ts ds i = (d : Data) × Contains ds d × IsFoundBy ts (keys_in d) i

pub found_in : (ts : List Token) (ds : List Data) (i : ℕ) → Contains (tokens_in_all ts ds) i → IsFoundIn ts ds i
found_in ts [] i c = absurd (contains_no i c)
found_in ts (d ∷ ds) i c = elim (Contains-append_cases (tokens_by ts (keys_in d)) (tokens_in_all ts ds) i c) [
  | inl first ↦ (d, contains_first d ds, found_by ts (keys_in d) i first)
  | inr more ↦ let f = found_in ts ds i more in (f.0, contains_later d ds (f.0) (f.1), f.2)
]

pub finds_in : (ts : List Token) (ds : List Data) (d : Data) (k : List ℕ) (i : ℕ) → Contains ds d → Contains (keys_in d) k → find_token ts k ≡ Some i → Contains (tokens_in_all ts ds) i
finds_in ts [] d k i among c e = absurd (contains_no d among)
finds_in ts (x ∷ ds) d k i among c e = elim (first_or_rest x ds d among) [
  | inl same ↦ Contains-append_left (tokens_by ts (keys_in x)) (tokens_in_all ts ds) i (finds_by ts (keys_in x) k i (subst (λ (y : Data). Contains (keys_in y) k) same c) e)
  | inr more ↦ Contains-append_right (tokens_by ts (keys_in x)) (tokens_in_all ts ds) i (finds_in ts ds d k i more c e)
]
