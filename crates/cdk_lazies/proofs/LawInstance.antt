-- A small sound application with two lazies, of which the construct 2 mentions the construct 1 in a Join, in the order 1, 2; and one
-- whose lazy mentions itself.
use Rattle.std.proofs.Common.{◌≡◌, ◌<◌, ◌⊎◌, ℕ, zero, suc, List, [], ◌∷◌, codes, length, Bool, true, false, Some, None, option_and_then, option_map, refl, sym, ap, ◌∙◌, subst, true≢false, inl, inr, arith}
use Rattle.std.specs.Prelude.{Contains, slice_get}
use Rattle.std.specs.Fmt.{digits}
use Rattle.serde_json.specs.Data.{array, Data, item, member, no_items, no_members, object, string}
use Rattle.serde_json.specs.Read.{read}
use Rattle.serde_json.proofs.OnLiterals.{serde_json_on_literals}
use Rattle.cdk_expansion.proofs.MentionContains.{contains_first, contains_no, contains_one}
use Rattle.cdk_expansion.specs.Clean.{TreeIsClean}
use Rattle.cdk_expansion.specs.Laws.{IsSound}
use Rattle.cdk_expansion.specs.Mentions.{arguments, directly, IsOrder, keys_in, lazy_value, LazyMentions, Mentions, through}
use Rattle.cdk_graphs.specs.Graph.{ReachesItself, StandsBefore}
use Rattle.cdk_language.specs.Application.{application_of}
use Rattle.cdk_language.specs.Construct.{Application, child, Construct, construct, Head, lazy, no_constructs, resource, root, stack}
use Rattle.cdk_language.specs.Expression as expression
use Rattle.cdk_language.specs.Expression.{Expression, no_expressions, no_fields}
use Rattle.cdk_lazies.proofs.LawTargets.{lazy_orders_are_orders}
use Rattle.cdk_lazies.proofs.LawTokens.{tokens_are_downward}
use Rattle.cdk_lazies.proofs.LawWays.{lazy_cycles_are_mentions}
use Rattle.cdk_lazies.specs.Laws.{further, once, Reaches}
use Rattle.cdk_lazies.specs.LazyOrder.{IsHeld, IsLazy, IsLazyOrder}
use Rattle.cdk_lazies.specs.MentionGraph.{construct_node, mention_graph}
use Rattle.cdk_contexts.specs.Contexts.{context_findings}
use Rattle.cdk_tokens.specs.Token as token
use Rattle.cdk_tokens.specs.Token.{find_token, Form, Token}
use Rattle.cdk_tokens.specs.Values.{token_at}
use Rattle.cdk_tokens.specs.Whole.{MarkedBody, marking, nothing, tokens_of, value}
use Rattle.cdk_tree.proofs.Tests.{same_some}
use Rattle.cdk_tree.specs.Expected.{target_findings}
use Rattle.cdk_tree.specs.Placed.{constructs_of, Placed}

-- ---- the application

abbrev joined : Expression
joined = expression.join (codes ",") (expression.list (expression.expression (expression.lazy (codes "A")) (expression.expression (expression.text (codes "b")) no_expressions)))

abbrev head : List ℕ → Head
head id = record { id = id; context = no_members; aspects = []; depends = []; logical = None }

abbrev lazy_of : List ℕ → Expression → Construct
lazy_of id e = construct (head id) (lazy e) no_constructs

abbrev shown : Construct
shown =
    construct (head (codes "R")) (resource (record { resource_type = codes "T"; properties = expression.object (expression.field (codes "P") (expression.lazy (codes "B")) no_fields); condition = None; deletion = None; replace = None }))
    no_constructs

abbrev application : Application
application =
    construct (head []) root
    (child (lazy_of (codes "A") (expression.text (codes "a"))) (child (lazy_of (codes "B") joined) (child (construct (head (codes "S")) (stack None) (child shown no_constructs)) no_constructs)))

abbrev placed : List Placed
placed = constructs_of application

-- it is read from this text
is_read : option_map constructs_of (option_and_then application_of (read (codes "{\"app\":\"2\",\"children\":[{\"id\":\"A\",\"kind\":\"lazy\",\"value\":\"a\"},{\"id\":\"B\",\"kind\":\"lazy\",\"value\":{\"Fn::Join\":[\",\",[{\"CDK::Lazy\":\"A\"},\"b\"]]}},{\"children\":[{\"id\":\"R\",\"kind\":\"resource\",\"properties\":{\"P\":{\"CDK::Lazy\":\"B\"}},\"type\":\"T\"}],\"id\":\"S\",\"kind\":\"stack\"}]}")))
    ≡ Some placed
unfolding serde_json_on_literals digits
is_read = refl

clean : TreeIsClean placed
clean zero h = tt
clean (suc zero) h = (refl, tt)
clean (suc (suc zero)) h = ((tt, (refl, tt)), tt)
clean (suc (suc (suc zero))) h = tt
clean (suc (suc (suc (suc zero)))) h = ((tt, tt), tt)
clean (suc (suc (suc (suc (suc n))))) h = let few : length placed ≡ 5 = refl in absurd (omega (arith, h, few))

right_targets : target_findings placed ≡ []
right_targets = refl

right_contexts : context_findings placed ≡ []
right_contexts = refl

sound : IsSound placed
sound = let three : length (tokens_of placed) ≡ 3 = refl in record { clean = clean; targets = right_targets; contexts = right_contexts; few = omega (arith, three) }

-- ---- its tokens

abbrev first_token : Token
first_token = record { key = codes "Lazy.0"; owner = 2; is_list = false; form = token.lazy 1 }

-- what is joined
abbrev argument : Data
argument = array (item (string (codes "${Token[Lazy.0]}")) (item (string (codes "b")) no_items))

abbrev join_token : Token
join_token = record { key = codes "Join.1"; owner = 2; is_list = false; form = token.join (codes ",") argument }

abbrev last_token : Token
last_token = record { key = codes "Lazy.2"; owner = 4; is_list = false; form = token.lazy 2 }

abbrev ts : List Token
ts = first_token ∷ join_token ∷ last_token ∷ []

are_tokens : tokens_of placed ≡ ts
unfolding digits
are_tokens = refl

-- the first is lower than the Join that has it
downward : 0 < 1
downward =
    tokens_are_downward placed sound 1 0 join_token argument (codes "Lazy.0") (ap (λ us. slice_get us 1) are_tokens) (contains_first argument []) (contains_first (codes "Lazy.0") [])
    (ap (λ us. find_token us (codes "Lazy.0")) are_tokens)

-- ---- what is mentioned

abbrev ms : List MarkedBody
ms =
    nothing ∷ value (string (codes "a")) ∷ value (string (codes "${Token[Join.1]}")) ∷ nothing ∷ value (object (member (codes "P") (string (codes "${Token[Lazy.2]}")) no_members)) ∷ []

are_marked : marking placed ≡ ms
unfolding digits
are_marked = refl

-- the tokens come first, and then the constructs
graph : mention_graph placed ts ms ≡ (4 ∷ []) ∷ (0 ∷ []) ∷ (5 ∷ []) ∷ [] ∷ [] ∷ (1 ∷ []) ∷ [] ∷ [] ∷ []
graph = refl

no_key : (d : Data) (m : ℕ) → keys_in d ≡ [] → Mentions ts d m → ⊥
no_key d m none (directly e n k t c at is) = contains_no k (subst (λ ks. Contains ks k) none c)
no_key d m none (through e a n k t c at among mentioned) = contains_no k (subst (λ ks. Contains ks k) none c)

same_token : (d : Data) (k j : List ℕ) (t u : Token) → keys_in d ≡ j ∷ [] → token_at ts j ≡ Some u → Contains (keys_in d) k → token_at ts k ≡ Some t → t ≡ u
same_token d k j t u one found c at = same_some t u (sym at ∙ (ap (token_at ts) (contains_one j k (subst (λ ks. Contains ks k) one c)) ∙ found))

-- a value with one key mentions what the key's token does
by_one : (d : Data) (m : ℕ) (j : List ℕ) (u : Token) → keys_in d ≡ j ∷ [] → token_at ts j ≡ Some u → Mentions ts d m → (u.form ≡ token.lazy m) ⊎ ((a : Data) × Contains (arguments u.form) a × Mentions ts a m)
by_one d m j u one found (directly e n k t c at is) = inl (ap (λ (v : Token). v.form) (sym (same_token e k j t u one found c at)) ∙ is)
by_one d m j u one found (through e a n k t c at among mentioned) = inr (a, subst (λ (v : Token). Contains (arguments v.form) a) (same_token e k j t u one found c at) among, mentioned)

abbrev form_number : Form → ℕ
form_number (token.lazy n) = n
form_number f = 0

abbrev is_lazy_form : Form → Bool
is_lazy_form (token.lazy n) = true
is_lazy_form f = false

argument_mentions : (m : ℕ) → Mentions ts argument m → 1 ≡ m
argument_mentions m c = elim (by_one argument m (codes "Lazy.0") first_token refl refl c) [
  | inl is ↦ ap form_number is
  | inr a ↦ absurd (contains_no (a.0) (a.1))
]

second_mentions : (m : ℕ) → LazyMentions ts ms 2 m → 1 ≡ m
second_mentions m c = elim (by_one (lazy_value ms 2) m (codes "Join.1") join_token refl refl c) [
  | inl is ↦ absurd (true≢false (sym (ap is_lazy_form is)))
  | inr a ↦ argument_mentions m (subst (λ d. Mentions ts d m) (contains_one argument (a.0) (a.1)) (a.2))
]

no_lazy : {A : Type 0} → false ≡ true → A
no_lazy e = absurd (true≢false (sym e))

-- each lazy mentions lower constructs alone
lower : (n m : ℕ) → IsLazy placed n → LazyMentions ts ms n m → m < n
lower zero m is c = no_lazy is
lower (suc zero) m is c = absurd (no_key (lazy_value ms 1) m refl c)
lower (suc (suc zero)) m is c = let e = second_mentions m c in omega (arith, e)
lower (suc (suc (suc zero))) m is c = no_lazy is
lower (suc (suc (suc (suc zero)))) m is c = no_lazy is
lower (suc (suc (suc (suc (suc n))))) m is c = no_lazy is

-- ---- no lazy reaches itself

reaches_lower : (n m : ℕ) → Reaches placed ts ms n m → IsLazy placed n → m < n
reaches_lower x y (once n m there c) is = lower n m is c
reaches_lower x y (further n l m there c r) is = let low = lower n l is c in let lower_yet = reaches_lower l m r there in omega (arith, low, lower_yet)

straight : ReachesItself (mention_graph placed ts ms) (construct_node ts 2) → ⊥
straight r = let low = reaches_lower 2 2 ((lazy_cycles_are_mentions placed ts ms 2 refl).0 r) refl in omega (arith, low)

-- ---- the order

abbrev order : List ℕ
order = 1 ∷ 2 ∷ []

are_lazies : (p n : ℕ) → slice_get order p ≡ Some n → IsLazy placed n
are_lazies zero n at = subst (IsLazy placed) (same_some 1 n at) refl
are_lazies (suc zero) n at = subst (IsLazy placed) (same_some 2 n at) refl
are_lazies (suc (suc p)) n at = absurd (cc at)

two_places : (n : ℕ) → Some 1 ≡ Some n → Some 2 ≡ Some n → ⊥
two_places n e f = let one = same_some 1 n e in let two = same_some 2 n f in omega (arith, one, two)

stand_once : (p q n : ℕ) → slice_get order p ≡ Some n → slice_get order q ≡ Some n → p ≡ q
stand_once zero zero n e f = refl
stand_once zero (suc zero) n e f = absurd (two_places n e f)
stand_once (suc zero) zero n e f = absurd (two_places n f e)
stand_once (suc zero) (suc zero) n e f = refl
stand_once zero (suc (suc q)) n e f = absurd (cc f)
stand_once (suc zero) (suc (suc q)) n e f = absurd (cc f)
stand_once (suc (suc p)) q n e f = absurd (cc e)

stand_behind : (p n m : ℕ) → slice_get order p ≡ Some n → LazyMentions ts ms n m → IsLazy placed m → StandsBefore order p m
stand_behind zero n m at c is = absurd (no_key (lazy_value ms 1) m refl (subst (λ (k : ℕ). LazyMentions ts ms k m) (sym (same_some 1 n at)) c))
stand_behind (suc zero) n m at c is =
    let e = second_mentions m (subst (λ (k : ℕ). LazyMentions ts ms k m) (sym (same_some 2 n at)) c) in
    record { place = 0; before = omega arith; there = ap Some e }
stand_behind (suc (suc p)) n m at c is = absurd (cc at)

stand_least : (p n m : ℕ) → slice_get order p ≡ Some n → m < n → IsLazy placed m → StandsBefore order p m ⊎ IsHeld placed ts ms order p m
stand_least p n zero at low is = no_lazy is
stand_least zero n (suc m) at low is = let e = same_some 1 n at in absurd (omega (arith, low, e))
stand_least (suc zero) n (suc zero) at low is = inl (record { place = 0; before = omega arith; there = refl })
stand_least (suc zero) n (suc (suc m)) at low is = let e = same_some 2 n at in absurd (omega (arith, low, e))
stand_least (suc (suc p)) n (suc m) at low is = absurd (cc at)

stand_all : (m : ℕ) → IsLazy placed m → StandsBefore order (length order) m
stand_all zero is = no_lazy is
stand_all (suc zero) is = let two : length order ≡ 2 = refl in record { place = 0; before = omega (arith, two); there = refl }
stand_all (suc (suc zero)) is = let two : length order ≡ 2 = refl in record { place = 1; before = omega (arith, two); there = refl }
stand_all (suc (suc (suc zero))) is = no_lazy is
stand_all (suc (suc (suc (suc zero)))) is = no_lazy is
stand_all (suc (suc (suc (suc (suc m))))) is = no_lazy is

lazy_order : IsLazyOrder placed ts ms order
lazy_order = record { lazies = are_lazies; once = stand_once; behind = stand_behind; least = stand_least; whole = λ down m is. stand_all m is }

is_order : IsOrder (tokens_of placed) (marking placed) order
is_order =
    lazy_orders_are_orders placed sound order
    (subst (λ (us : List Token). IsLazyOrder placed us (marking placed) order) (sym are_tokens) (subst (λ (ns : List MarkedBody). IsLazyOrder placed ts ns order) (sym are_marked) lazy_order))

-- ---- a lazy that mentions itself

abbrev turned : List Placed
turned = constructs_of (construct (head []) root (child (lazy_of (codes "A") (expression.lazy (codes "A"))) no_constructs))

abbrev own_token : Token
own_token = record { key = codes "Lazy.0"; owner = 1; is_list = false; form = token.lazy 1 }

abbrev own_tokens : List Token
own_tokens = own_token ∷ []

abbrev own_bodies : List MarkedBody
own_bodies = nothing ∷ value (string (codes "${Token[Lazy.0]}")) ∷ []

are_own_tokens : tokens_of turned ≡ own_tokens
unfolding digits
are_own_tokens = refl

are_own_bodies : marking turned ≡ own_bodies
unfolding digits
are_own_bodies = refl

mentions_itself : LazyMentions own_tokens own_bodies 1 1
mentions_itself = directly (lazy_value own_bodies 1) 1 (codes "Lazy.0") own_token (contains_first (codes "Lazy.0") []) refl refl

turns : ReachesItself (mention_graph turned own_tokens own_bodies) (construct_node own_tokens 1)
turns = (lazy_cycles_are_mentions turned own_tokens own_bodies 1 refl).1 (once 1 1 refl mentions_itself)
