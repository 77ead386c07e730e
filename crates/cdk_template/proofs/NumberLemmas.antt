-- Numbers of a stack's constructs, and their logical names.
use Rattle.std.proofs.Common.{◌≡◌, ◌<◌, ◌≤◌, ℕ, zero, suc, ◌+◌, List, [], ◌∷◌, ◌++◌, map, length, Bool, true, false, cond, Option, Some, None, IsSomeAnd, refl, sym, ap, ◌∙◌, subst, arith, true≢false, ⊎_elim}
use Rattle.std.specs.Prelude.{◌&&◌, ◌||◌, bytes_eq, unwrap_or, IsTrue}
use Rattle.std.specs.List.{range_with_len}
use Rattle.std.proofs.lemmas.Bool.{cases_lt, eqb-true}
use Rattle.serde_json.specs.Data.{Data, Members, put}
use Rattle.cdk_base.proofs.Canonical.{back_false, front_false, or_false}
use Rattle.cdk_elements.specs.Elements.{logical_of}
use Rattle.cdk_elements.specs.Kinds.{among, is_in, of_kind}
use Rattle.cdk_eval.specs.Reach.{is_among}
use Rattle.cdk_language.specs.Construct.{Body}
use Rattle.cdk_meaning.specs.Names.{AreDistinct, Each}
use Rattle.cdk_meaning.specs.Sections.{filled}
use Rattle.cdk_meaning.proofs.Joins.{bytes_same}
use Rattle.cdk_names.specs.Forms.{is_logical}
use Rattle.cdk_stacks.specs.Claims.{name_findings}
use Rattle.cdk_stacks.specs.Names.{logical_name}
use Rattle.cdk_stacks.proofs.NameLaws.{elements_have_logical_names, logical_names_differ}
use Rattle.cdk_tree.specs.PlaceFindings.{is_element}
use Rattle.cdk_tree.specs.Placed.{Placed, construct_at}
use Rattle.cdk_tree.proofs.Tests.{and_left, and_right}

-- ---- numbers

-- what holds of numbers that are looked at, of those that are the stack's constructs of the kind
pub each_among : (P Q : ℕ → Type 0) (cs : List Placed) (stack : ℕ) (kind : Body → Bool) (ns : List ℕ)
    → ((n : ℕ) → Q n → is_in stack (construct_at cs n).stack ≡ true → kind (construct_at cs n).body ≡ true → P n) → Each Q ns → Each P (among cs stack kind ns)
each_among P Q cs stack kind [] f h = tt
each_among P Q cs stack kind (n ∷ ns) f h = at (is_in stack (construct_at cs n).stack && kind (construct_at cs n).body) refl (each_among P Q cs stack kind ns f h.1)
  where
    at : (t : Bool) → (is_in stack (construct_at cs n).stack && kind (construct_at cs n).body) ≡ t → Each P (among cs stack kind ns) → Each P (cond t (n ∷ among cs stack kind ns) (among cs stack kind ns))
    at true e rest = (f n h.0 (and_left (is_in stack (construct_at cs n).stack) _ e) (and_right (is_in stack (construct_at cs n).stack) _ e), rest)
    at false e rest = rest

range_between : (b a n end : ℕ) → b ≤ a → a + n ≤ end → Each (λ k. (b ≤ k) × (k < end)) (range_with_len a n)
range_between b a zero end g h = tt
range_between b a (suc n) end g h = ((g, omega (arith, h)), range_between b (a + 1) n end (omega (arith, g)) (omega (arith, h)))

pub range_below : (a n end : ℕ) → a + n ≤ end → Each (λ k. k < end) (range_with_len a n)
range_below a zero end h = tt
range_below a (suc n) end h = (omega (arith, h), range_below (a + 1) n end (omega (arith, h)))

-- what each entry that is put in keeps, all of them keep
pub filled_keeps : (P : Members → Type 0) (name : ℕ → List ℕ) (entry : ℕ → Data) (ns : List ℕ) (ms : Members)
    → Each (λ n. (ms : Members) → P ms → P (put (name n) (entry n) ms)) ns → P ms → P (filled name entry ns ms)
filled_keeps P name entry [] ms keep p = p
filled_keeps P name entry (n ∷ ns) ms keep p = filled_keeps P name entry ns (put (name n) (entry n) ms) keep.1 (keep.0 ms p)

-- ---- lists of names

not_among : (x : List ℕ) (name : ℕ → List ℕ) (ms : List ℕ) → Each (λ m. x ≡ name m → ⊥) ms → is_among x (map name ms) ≡ false
not_among x name [] h = refl
not_among x name (m ∷ ms) h = at (bytes_eq x (name m)) refl (not_among x name ms h.1)
  where
    at : (t : Bool) → bytes_eq x (name m) ≡ t → is_among x (map name ms) ≡ false → (t || is_among x (map name ms)) ≡ false
    at true e rest = absurd (h.0 (bytes_same x (name m) e))
    at false e rest = rest

neither_among : (x : List ℕ) (name : ℕ → List ℕ) (ms ns : List ℕ) → is_among x (map name ms) ≡ false → is_among x (map name ns) ≡ false → is_among x (map name (ms ++ ns)) ≡ false
neither_among x name [] ns h g = g
neither_among x name (m ∷ ms) ns h g =
    or_false (bytes_eq x (name m)) _ (front_false (bytes_eq x (name m)) _ h) (neither_among x name ms ns (back_false (bytes_eq x (name m)) _ h) g)

-- names of two lists that share none
pub both_distinct : (name : ℕ → List ℕ) (ms ns : List ℕ) → AreDistinct (map name ms) → AreDistinct (map name ns) → Each (λ m. Each (λ n. name m ≡ name n → ⊥) ns) ms → AreDistinct (map name (ms ++ ns))
both_distinct name [] ns h g apart = g
both_distinct name (m ∷ ms) ns h g apart = (neither_among (name m) name ms ns h.0 (not_among (name m) name ns apart.0), both_distinct name ms ns h.1 g apart.1)

-- ---- logical names

pub inside_is : (stack : ℕ) (o : Option ℕ) → is_in stack o ≡ true → o ≡ Some stack
inside_is stack None h = absurd (true≢false (sym h))
inside_is stack (Some n) h = ap Some (eqb-true n stack h)

name_is : (P : List ℕ → Type 0) (o : Option (List ℕ)) → IsSomeAnd o P → o ≡ Some (unwrap_or o [])
name_is P None h = absurd h
name_is P (Some x) h = refl

pub has_name : (cs : List Placed) (n : ℕ) → name_findings cs ≡ [] → n < length cs → is_element (construct_at cs n).body ≡ true → logical_name cs n ≡ Some (logical_of cs n)
has_name cs n h within element = name_is (λ x. IsTrue (is_logical x)) (logical_name cs n) (elements_have_logical_names cs n h within element)

-- an element of the stack
pub record IsElementOf (cs : List Placed) (stack n : ℕ) : Type 0 where
  pub within : n < length cs
  pub inside : is_in stack (construct_at cs n).stack ≡ true
  pub element : is_element (construct_at cs n).body ≡ true

before_differs : (cs : List Placed) (stack m n : ℕ) → name_findings cs ≡ [] → IsElementOf cs stack m → IsElementOf cs stack n → m < n → logical_of cs m ≡ logical_of cs n → ⊥
before_differs cs stack m n h is_m is_n before same =
    let own = has_name cs m h is_m.within is_m.element in
    let other = has_name cs n h is_n.within is_n.element in
    logical_names_differ cs m n stack (logical_of cs n) h before is_n.within (inside_is stack (construct_at cs m).stack is_m.inside) (inside_is stack (construct_at cs n).stack is_n.inside) (own ∙ ap Some same) other

-- two elements of a stack have two names
pub names_differ : (cs : List Placed) (stack m n : ℕ) → name_findings cs ≡ [] → IsElementOf cs stack m → IsElementOf cs stack n → (m ≡ n → ⊥) → logical_of cs m ≡ logical_of cs n → ⊥
names_differ cs stack m n h is_m is_n other same = ⊎_elim ahead behind (cases_lt m n)
  where
    ahead : m < n → ⊥
    ahead lt = before_differs cs stack m n h is_m is_n lt same

    after : n < m → ⊥
    after lt = before_differs cs stack n m h is_n is_m lt (sym same)

    level : n ≤ m → m ≤ n → ⊥
    level le ge = let same_number : m ≡ n = omega arith in other same_number

    behind : n ≤ m → ⊥
    behind le = ⊎_elim after (level le) (cases_lt n m)

-- the constructs of the kind are elements
abbrev pub AreElements : (Body → Bool) → Type 0
AreElements kind = (b : Body) → kind b ≡ true → is_element b ≡ true

elements_among : (cs : List Placed) (stack a n : ℕ) (kind : Body → Bool) → AreElements kind → a + n ≤ length cs → Each (λ k. (a ≤ k) × IsElementOf cs stack k × (kind (construct_at cs k).body ≡ true)) (among cs stack kind (range_with_len a n))
elements_among cs stack a n kind are fits =
    each_among (λ k. (a ≤ k) × IsElementOf cs stack k × (kind (construct_at cs k).body ≡ true)) (λ k. (a ≤ k) × (k < length cs)) cs stack kind (range_with_len a n)
    (λ k between inside its. (between.0, record { within = between.1; inside = inside; element = are (construct_at cs k).body its }, its))
    (range_between a a n (length cs) (omega arith) fits)

each_is : (P Q : ℕ → Type 0) (ns : List ℕ) → ((n : ℕ) → P n → Q n) → Each P ns → Each Q ns
each_is P Q [] f h = tt
each_is P Q (n ∷ ns) f h = (f n h.0, each_is P Q ns f h.1)

-- of the constructs from the number a on
apart_from : (cs : List Placed) (stack : ℕ) (kind : Body → Bool) → AreElements kind → (a n : ℕ) → name_findings cs ≡ [] → a + n ≤ length cs → AreDistinct (map (logical_of cs) (among cs stack kind (range_with_len a n)))
apart_from cs stack kind are a zero h fits = tt
apart_from cs stack kind are a (suc n) h fits = at (is_in stack (construct_at cs a).stack && kind (construct_at cs a).body) refl (apart_from cs stack kind are (a + 1) n h later)
  where
    within : a < length cs
    within = omega (arith, fits)

    later : a + 1 + n ≤ length cs
    later = omega (arith, fits)

    rest : List ℕ
    rest = among cs stack kind (range_with_len (a + 1) n)

    at : (t : Bool) → (is_in stack (construct_at cs a).stack && kind (construct_at cs a).body) ≡ t → AreDistinct (map (logical_of cs) rest) → AreDistinct (map (logical_of cs) (cond t (a ∷ rest) rest))
    at true e others_apart =
        let own : IsElementOf cs stack a = record {
          within = within;
          inside = and_left (is_in stack (construct_at cs a).stack) _ e;
          element = are (construct_at cs a).body (and_right (is_in stack (construct_at cs a).stack) _ e);
        } in
        let differ : (k : ℕ) → (a + 1 ≤ k) × IsElementOf cs stack k × (kind (construct_at cs k).body ≡ true) → logical_of cs a ≡ logical_of cs k → ⊥ = λ k its. before_differs cs stack a k h own its.1 (omega (arith, its.0)) in
        let others = each_is (λ k. (a + 1 ≤ k) × IsElementOf cs stack k × (kind (construct_at cs k).body ≡ true)) (λ k. logical_of cs a ≡ logical_of cs k → ⊥) rest differ (elements_among cs stack (a + 1) n kind are later) in
        (not_among (logical_of cs a) (logical_of cs) rest others, others_apart)
    at false e others_apart = others_apart

pub names_apart : (cs : List Placed) (stack : ℕ) (kind : Body → Bool) → AreElements kind → name_findings cs ≡ [] → AreDistinct (map (logical_of cs) (of_kind cs stack kind))
names_apart cs stack kind are h = apart_from cs stack kind are 0 (length cs) h (omega arith)

-- of two kinds that have no construct in common
pub both_names_apart : (cs : List Placed) (stack : ℕ) (one other : Body → Bool) → AreElements one → AreElements other → ((b : Body) → one b ≡ true → other b ≡ true → ⊥) → name_findings cs ≡ []
    → AreDistinct (map (logical_of cs) (of_kind cs stack one ++ of_kind cs stack other))
both_names_apart cs stack one other are_one are_other never h =
    let ms = of_kind cs stack one in
    let ns = of_kind cs stack other in
    let ElementOf : (Body → Bool) → ℕ → Type 0 = λ kind k. (0 ≤ k) × IsElementOf cs stack k × (kind (construct_at cs k).body ≡ true) in
    let their_ms = elements_among cs stack 0 (length cs) one are_one (omega arith) in
    let their_ns = elements_among cs stack 0 (length cs) other are_other (omega arith) in
    let two : (m n : ℕ) → ElementOf one m → ElementOf other n → m ≡ n → ⊥ = λ m n is_m is_n same. never (construct_at cs n).body (subst (λ k. one (construct_at cs k).body ≡ true) same is_m.2) is_n.2 in
    let differ : (m n : ℕ) → ElementOf one m → ElementOf other n → logical_of cs m ≡ logical_of cs n → ⊥ = λ m n is_m is_n. names_differ cs stack m n h is_m.1 is_n.1 (two m n is_m is_n) in
    let all : (m : ℕ) → ElementOf one m → Each (λ n. logical_of cs m ≡ logical_of cs n → ⊥) ns = λ m is_m. each_is (ElementOf other) (λ n. logical_of cs m ≡ logical_of cs n → ⊥) ns (λ n is_n. differ m n is_m is_n) their_ns in
    both_distinct (logical_of cs) ms ns (names_apart cs stack one are_one h) (names_apart cs stack other are_other h) (each_is (ElementOf one) (λ m. Each (λ n. logical_of cs m ≡ logical_of cs n → ⊥) ns) ms all their_ms)
