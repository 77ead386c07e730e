-- The law at a small application: the construct 1 is a lazy of a text, which the resource 3 mentions.
use Rattle.std.proofs.Common.{◌≡◌, ◌<◌, ◌⊎◌, ℕ, zero, suc, List, [], ◌∷◌, codes, length, true, false, true≢false, Some, None, option_and_then, option_map, refl, sym, subst, arith}
use Rattle.std.specs.Prelude.{Contains, slice_get}
use Rattle.std.specs.Fmt.{digits}
use Rattle.serde_json.specs.Data.{Data, member, no_members, object, string}
use Rattle.serde_json.specs.Read.{read}
use Rattle.serde_json.proofs.OnLiterals.{serde_json_on_literals}
use Rattle.cdk_expansion.proofs.MentionContains.{contains_no}
use Rattle.cdk_expansion.specs.Clean.{TreeIsClean}
use Rattle.cdk_expansion.specs.Laws.{IsSound}
use Rattle.cdk_expansion.specs.Mentions.{directly, keys_in, lazy_value, LazyMentions, Mentions, through}
use Rattle.cdk_graphs.specs.Graph.{StandsBefore}
use Rattle.cdk_language.specs.Application.{application_of}
use Rattle.cdk_language.specs.Construct.{Application, child, Construct, construct, Head, lazy, no_constructs, resource, root, stack}
use Rattle.cdk_language.specs.Expression as expression
use Rattle.cdk_lazies.specs.LazyOrder.{IsHeld, IsLazy, IsLazyOrder}
use Rattle.cdk_leaves.specs.Ready.{IsReady}
use Rattle.cdk_value_measures.specs.Ordered.{SuitsLazies}
use Rattle.cdk_premises.proofs.SuitedOrders.{lazy_orders_are_ready, lazy_orders_suit}
use Rattle.cdk_contexts.specs.Contexts.{context_findings}
use Rattle.cdk_tokens.specs.Token as token
use Rattle.cdk_tokens.specs.Token.{Token}
use Rattle.cdk_tokens.specs.Whole.{MarkedBody, marking, nothing, tokens_of, value}
use Rattle.cdk_tree.proofs.Tests.{same_some}
use Rattle.cdk_tree.specs.Expected.{target_findings}
use Rattle.cdk_tree.specs.Placed.{constructs_of, Placed}

-- ---- the application

abbrev head : List ℕ → Head
head id = record { id = id; context = no_members; aspects = []; depends = []; logical = None }

abbrev told : Construct
told = construct (head (codes "A")) (lazy (expression.text (codes "a"))) no_constructs

abbrev shown : Construct
shown =
    construct (head (codes "R"))
    (resource (record { resource_type = codes "T"; properties = expression.object (expression.field (codes "P") (expression.lazy (codes "A")) expression.no_fields); condition = None; deletion = None; replace = None }))
    no_constructs

abbrev application : Application
application = construct (head []) root (child told (child (construct (head (codes "S")) (stack None) (child shown no_constructs)) no_constructs))

abbrev placed : List Placed
placed = constructs_of application

-- it is read from this text
is_read : option_map constructs_of (option_and_then application_of (read (codes "{\"app\":\"2\",\"children\":[{\"id\":\"A\",\"kind\":\"lazy\",\"value\":\"a\"},{\"children\":[{\"id\":\"R\",\"kind\":\"resource\",\"properties\":{\"P\":{\"CDK::Lazy\":\"A\"}},\"type\":\"T\"}],\"id\":\"S\",\"kind\":\"stack\"}]}")))
    ≡ Some placed
unfolding serde_json_on_literals digits
is_read = refl

clean : TreeIsClean placed
clean zero h = tt
clean (suc zero) h = (refl, tt)
clean (suc (suc zero)) h = tt
clean (suc (suc (suc zero))) h = ((tt, tt), tt)
clean (suc (suc (suc (suc n)))) h = let few : length placed ≡ 4 = refl in absurd (omega (arith, h, few))

right_targets : target_findings placed ≡ []
right_targets = refl

right_contexts : context_findings placed ≡ []
right_contexts = refl

sound : IsSound placed
sound = let one : length (tokens_of placed) ≡ 1 = refl in record { clean = clean; targets = right_targets; contexts = right_contexts; few = omega (arith, one) }

-- ---- its tokens and marked values

abbrev ts : List Token
ts = record { key = codes "Lazy.0"; owner = 3; is_list = false; form = token.lazy 1 } ∷ []

are_tokens : tokens_of placed ≡ ts
unfolding digits
are_tokens = refl

abbrev ms : List MarkedBody
ms = nothing ∷ value (string (codes "a")) ∷ nothing ∷ value (object (member (codes "P") (string (codes "${Token[Lazy.0]}")) no_members)) ∷ []

are_marked : marking placed ≡ ms
unfolding digits
are_marked = refl

-- ---- the order

abbrev order : List ℕ
order = 1 ∷ []

no_lazy : {A : Type 0} → false ≡ true → A
no_lazy e = absurd (true≢false (sym e))

no_key : (d : Data) (m : ℕ) → keys_in d ≡ [] → Mentions ts d m → ⊥
no_key d m none (directly e n k t c at is) = contains_no k (subst (λ ks. Contains ks k) none c)
no_key d m none (through e a n k t c at among mentioned) = contains_no k (subst (λ ks. Contains ks k) none c)

is_the_lazy : (p n : ℕ) → slice_get order p ≡ Some n → IsLazy placed n
is_the_lazy zero n at = subst (IsLazy placed) (same_some 1 n at) refl
is_the_lazy (suc p) n at = absurd (cc at)

stands_once : (p q n : ℕ) → slice_get order p ≡ Some n → slice_get order q ≡ Some n → p ≡ q
stands_once zero zero n e f = refl
stands_once zero (suc q) n e f = absurd (cc f)
stands_once (suc p) q n e f = absurd (cc e)

stands_behind : (p n m : ℕ) → slice_get order p ≡ Some n → LazyMentions ts ms n m → IsLazy placed m → StandsBefore order p m
stands_behind zero n m at c is = absurd (no_key (lazy_value ms 1) m refl (subst (λ (k : ℕ). LazyMentions ts ms k m) (sym (same_some 1 n at)) c))
stands_behind (suc p) n m at c is = absurd (cc at)

stands_least : (p n m : ℕ) → slice_get order p ≡ Some n → m < n → IsLazy placed m → StandsBefore order p m ⊎ IsHeld placed ts ms order p m
stands_least p n zero at low is = no_lazy is
stands_least zero n (suc m) at low is = let e = same_some 1 n at in absurd (omega (arith, low, e))
stands_least (suc p) n (suc m) at low is = absurd (cc at)

stands : (m : ℕ) → IsLazy placed m → StandsBefore order (length order) m
stands zero is = no_lazy is
stands (suc zero) is = let one : length order ≡ 1 = refl in record { place = 0; before = omega (arith, one); there = refl }
stands (suc (suc zero)) is = no_lazy is
stands (suc (suc (suc zero))) is = no_lazy is
stands (suc (suc (suc (suc m)))) is = no_lazy is

is_lazy_order : IsLazyOrder placed ts ms order
is_lazy_order = record { lazies = is_the_lazy; once = stands_once; behind = stands_behind; least = stands_least; whole = λ down m is. stands m is }

is_order : IsLazyOrder placed (tokens_of placed) (marking placed) order
is_order = subst (λ (us : List Token). IsLazyOrder placed us (marking placed) order) (sym are_tokens) (subst (λ (ns : List MarkedBody). IsLazyOrder placed ts ns order) (sym are_marked) is_lazy_order)

suits : SuitsLazies placed (tokens_of placed) (marking placed) order
suits = lazy_orders_suit placed sound order is_order

ready : IsReady (tokens_of placed) (marking placed) order
ready = lazy_orders_are_ready placed sound order is_order
