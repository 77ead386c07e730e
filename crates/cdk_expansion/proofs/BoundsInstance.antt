-- Two lazies, of which the construct 1 mentions the construct 0, in the order 0, 1: two openings suffice, and one is too few.
use Rattle.std.proofs.Common.{◌≡◌, ◌<◌, ℕ, zero, suc, List, [], ◌∷◌, length, codes, false, Option, Some, None, is_some, option_and_then, refl, sym, ap, ◌∙◌, subst, true≢false, unwrap_or, arith}
use Rattle.std.specs.Prelude.{slice_get, Contains}
use Rattle.cdk_expansion.proofs.MentionContains.{contains_first, contains_later, contains_no, contains_one}
use Rattle.serde_json.specs.Data.{Data, string}
use Rattle.cdk_plain.specs.Plain.{text}
use Rattle.cdk_expansion.specs.Expanded.{opened, plain_of}
use Rattle.cdk_tokens.specs.Values.{token_at}
use Rattle.cdk_expansion.specs.Mentions.{arguments, directly, further, IsOrder, keys_in, lazy_value, LazyMentions, Mentions, once, Reaches, ReachesItself, through}
use Rattle.cdk_graphs.specs.Graph.{StandsBefore}
use Rattle.cdk_expansion.proofs.BoundLazies.{lazies_suffice}
use Rattle.cdk_expansion.proofs.OrderPlaces.{orders_suffice, places_suffice}
use Rattle.cdk_tokens.specs.Token as token
use Rattle.cdk_tokens.specs.Token.{find_token, Form, Token}
use Rattle.cdk_tokens.specs.Whole.{MarkedBody, value}

abbrev inner : Token
inner = record { key = codes "Lazy.0"; owner = 1; is_list = false; form = token.lazy 0 }

abbrev outer : Token
outer = record { key = codes "Lazy.1"; owner = 2; is_list = false; form = token.lazy 1 }

abbrev ts : List Token
ts = inner ∷ outer ∷ []

-- of the lazies 0 and 1, and of the construct 2, which shows the second
abbrev shown : Data
shown = string (codes "${Token[Lazy.1]}")

abbrev ms : List MarkedBody
ms = value (string (codes "a")) ∷ value (string (codes "${Token[Lazy.0]}")) ∷ value shown ∷ []

abbrev order : List ℕ
order = 0 ∷ 1 ∷ []

-- ---- what is mentioned

abbrev form_number : Form → ℕ
form_number (token.lazy n) = n
form_number f = 0

abbrev number_of : Option Token → ℕ
number_of None = 0
number_of (Some t) = form_number t.form

abbrev arguments_of : Option Token → List Data
arguments_of None = []
arguments_of (Some t) = arguments t.form

no_key : (d : Data) (m : ℕ) → keys_in d ≡ [] → Mentions ts d m → ⊥
no_key d m none (directly e n k t c at is) = contains_no k (subst (λ ks. Contains ks k) none c)
no_key d m none (through e a n k t c at among mentioned) = contains_no k (subst (λ ks. Contains ks k) none c)

same_token : (d : Data) (k j : List ℕ) (t u : Token) → keys_in d ≡ j ∷ [] → token_at ts j ≡ Some u → Contains (keys_in d) k → token_at ts k ≡ Some t → Some t ≡ Some u
same_token d k j t u one found c at = sym at ∙ (ap (token_at ts) (contains_one j k (subst (λ ks. Contains ks k) one c)) ∙ found)

-- a value whose only key is that of the lazy n mentions that lazy alone
one_key : (d : Data) (m n : ℕ) (j : List ℕ) (u : Token) → keys_in d ≡ j ∷ [] → token_at ts j ≡ Some u → u.form ≡ token.lazy n → Mentions ts d m → m ≡ n
one_key d m n j u one found form (directly e l k t c at is) = sym (ap form_number is) ∙ (ap number_of (same_token e k j t u one found c at) ∙ ap form_number form)
one_key d m n j u one found form (through e a l k t c at among mentioned) =
    absurd (contains_no a (subst (λ ds. Contains ds a) (ap arguments_of (same_token e k j t u one found c at) ∙ ap arguments form) among))

-- each construct mentions lower ones alone
lower : (n m : ℕ) → LazyMentions ts ms n m → m < n
lower zero m c = absurd (no_key (lazy_value ms 0) m refl c)
lower (suc zero) m c = let e = one_key (lazy_value ms 1) m 0 (codes "Lazy.0") inner refl refl refl c in omega (arith, e)
lower (suc (suc zero)) m c = let e = one_key (lazy_value ms 2) m 1 (codes "Lazy.1") outer refl refl refl c in omega (arith, e)
lower (suc (suc (suc n))) m c = absurd (no_key (lazy_value ms (suc (suc (suc n)))) m refl c)

reaches_lower : (n m : ℕ) → Reaches ts ms n m → m < n
reaches_lower x y (once n m c) = lower n m c
reaches_lower x y (further n l m c r) = let low = lower n l c in let lower_yet = reaches_lower l m r in omega (arith, low, lower_yet)

none_reaches_itself : (n : ℕ) → ReachesItself ts ms n → ⊥
none_reaches_itself n r = let low = reaches_lower n n r in omega (arith, low)

it_mentions : LazyMentions ts ms 1 0
it_mentions = directly (lazy_value ms 1) 0 (codes "Lazy.0") inner (contains_first (codes "Lazy.0") []) refl refl

-- ---- the order

is_order : IsOrder ts ms order
is_order zero n m at c = let low = lower n m c in let first : 0 ≡ n = ap (λ o. unwrap_or o 0) at in absurd (omega (arith, low, first))
is_order (suc zero) n m at c =
    let low = lower n m c in
    let second : 1 ≡ n = ap (λ o. unwrap_or o 1) at in
    let e : 0 ≡ m = omega (arith, low, second) in
    record { place = 0; before = omega arith; there = ap Some e }
is_order (suc (suc p)) n m at c = absurd (true≢false (sym (ap is_some at)))

shown_stands : (m : ℕ) → Mentions ts shown m → StandsBefore order (length order) m
shown_stands m c =
    let e = one_key shown m 1 (codes "Lazy.1") outer refl refl refl c in
    let two : length order ≡ 2 = refl in
    record { place = 1; before = omega (arith, two); there = ap Some (sym e) }

-- ---- which lazies there are

in_order : (i : ℕ) (t : Token) (n : ℕ) → slice_get ts i ≡ Some t → t.form ≡ token.lazy n → Contains order n
in_order zero t n at is = subst (Contains order) (ap number_of at ∙ ap form_number is) (contains_first 0 (1 ∷ []))
in_order (suc zero) t n at is = subst (Contains order) (ap number_of at ∙ ap form_number is) (contains_later 0 (1 ∷ []) 1 (contains_first 1 []))
in_order (suc (suc i)) t n at is = absurd (true≢false (sym (ap is_some at)))

no_arguments : (i : ℕ) (t : Token) → slice_get ts i ≡ Some t → arguments t.form ≡ []
no_arguments zero t at = sym (ap arguments_of at)
no_arguments (suc zero) t at = sym (ap arguments_of at)
no_arguments (suc (suc i)) t at = absurd (true≢false (sym (ap is_some at)))

lazy_found : (o : Option ℕ) (t : Token) (n : ℕ) → option_and_then (slice_get ts) o ≡ Some t → t.form ≡ token.lazy n → Contains order n
lazy_found None t n at is = absurd (true≢false (sym (ap is_some at)))
lazy_found (Some i) t n at is = in_order i t n at is

none_found : (o : Option ℕ) (t : Token) → option_and_then (slice_get ts) o ≡ Some t → arguments t.form ≡ []
none_found None t at = absurd (true≢false (sym (ap is_some at)))
none_found (Some i) t at = no_arguments i t at

each_is_listed : (d : Data) (m : ℕ) → Mentions ts d m → Contains order m
each_is_listed d m (directly e n k t c at is) = lazy_found (find_token ts k) t n at is
each_is_listed d m (through e a n k t c at among mentioned) = absurd (contains_no a (subst (λ ds. Contains ds a) (none_found (find_token ts k) t at) among))

-- ---- the laws

place : opened 2 ts ms 1 ≡ opened 7 ts ms 1
place = places_suffice ts ms order is_order 1 1 2 7 refl (omega arith) (omega arith)

place_enough : opened 2 ts ms 1 ≡ text (codes "a")
place_enough = refl

place_too_few : opened 1 ts ms 1 ≡ text []
place_too_few = refl

length_of_order : plain_of 2 ts ms shown ≡ plain_of 7 ts ms shown
length_of_order = let two : length order ≡ 2 = refl in orders_suffice ts ms order is_order shown shown_stands 2 7 (omega (arith, two)) (omega (arith, two))

number_of_lazies : plain_of 2 ts ms shown ≡ plain_of 7 ts ms shown
number_of_lazies = let two : length order ≡ 2 = refl in lazies_suffice ts ms order each_is_listed none_reaches_itself shown 2 7 (omega (arith, two)) (omega (arith, two))

enough : plain_of 2 ts ms shown ≡ text (codes "a")
enough = refl

too_few : plain_of 1 ts ms shown ≡ text []
too_few = refl
