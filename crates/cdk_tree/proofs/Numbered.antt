-- The index of paths, and the first place of a path.
use Rattle.std.proofs.Common.{◌≡◌, ℕ, zero, suc, ◌+◌, ◌<◌, List, [], ◌∷◌, ◌++◌, map, length, Bool, true, false, true≢false, Option, Some, None, option_map, cond, refl, sym, ap, ◌∙◌, arith, add-zero, zero-add, string_bytes, slice_get}
use Rattle.std.proofs.lemmas.List.{map-append}
use Rattle.std.specs.String.{string_eq}
use Rattle.indexmap.specs.IndexMap.{insert_entry}
use Rattle.cdk_tree.proofs.Tests.{same_some, not_none}
use Rattle.std.specs.Str.{bytes_eq}
use Rattle.std.specs.Map.{lookup}
use Rattle.std.specs.Prelude.{String}
use Rattle.std.specs.declared.alloc.Global.{Global}
use Rattle.std.proofs.lemmas.Bool.Decides.{nat_tests}
use Rattle.std.proofs.lemmas.List.{length-map}
use Rattle.std.specs.Prelude.{position, is_some, not, nat_lt, ◌||◌}
use Rattle.std.specs.List.{list_any, position_or_len}
use Rattle.cdk_tree.specs.Placed.{Placed, construct_at, find_path}
use Rattle.cdk_tree.specs.Slots.{numbered_paths}

position_or_len-map : {X Y : Type 0} (p : Y → Bool) (f : X → Y) (xs : List X) → position_or_len p (map f xs) ≡ position_or_len (λ x. p (f x)) xs
position_or_len-map p f [] = refl
position_or_len-map p f (x ∷ xs) = ap (λ n. cond (not (p (f x))) (1 + n) 0) (position_or_len-map p f xs)

pub position-map : {X Y : Type 0} (p : Y → Bool) (f : X → Y) (xs : List X) → position p (map f xs) ≡ position (λ x. p (f x)) xs
position-map p f xs = ap (λ n. cond (nat_lt n (length (map f xs))) (Some n) None) (position_or_len-map p f xs) ∙ ap (λ n. cond (nat_lt (position_or_len (λ x. p (f x)) xs) n) (Some (position_or_len (λ x. p (f x)) xs)) None) (length-map xs f)

position_or_len-numbered : (p : List ℕ → Bool) (n : ℕ) (cs : List Placed) → position_or_len (λ q. p q.0) (numbered_paths n cs) ≡ position_or_len (λ c. p c.path) cs
position_or_len-numbered p n [] = refl
position_or_len-numbered p n (c ∷ cs) = ap (λ k. cond (not (p c.path)) (1 + k) 0) (position_or_len-numbered p (n + 1) cs)

pub length-numbered : (n : ℕ) (cs : List Placed) → length (numbered_paths n cs) ≡ length cs
length-numbered n [] = refl
length-numbered n (c ∷ cs) = ap suc (length-numbered (n + 1) cs)

position-numbered : (p : List ℕ → Bool) (n : ℕ) (cs : List Placed) → position (λ q. p q.0) (numbered_paths n cs) ≡ position (λ c. p c.path) cs
position-numbered p n cs =
    ap (λ k. cond (nat_lt k (length (numbered_paths n cs))) (Some k) None) (position_or_len-numbered p n cs)
    ∙ ap (λ k. cond (nat_lt (position_or_len (λ c. p c.path) cs) k) (Some (position_or_len (λ c. p c.path) cs)) None) (length-numbered n cs)

abbrev pub Index : Type 0
Index = List (String Global × ℕ)

abbrev pub entries_view : Index → List (List ℕ × ℕ)
entries_view es = map (λ e. (string_bytes e.0, e.1)) es

-- the index finds what a walk over the constructs finds
pub find-indexed : (es : Index) (cs : List Placed) (t : List ℕ) → entries_view es ≡ numbered_paths 0 cs → position (λ k. bytes_eq t (string_bytes k)) (map (λ e. e.0) es) ≡ find_path cs t
find-indexed es cs t is =
    position-map (λ k. bytes_eq t (string_bytes k)) (λ e. e.0) es
    ∙ sym (position-map (λ q. bytes_eq t q.0) (λ e. (string_bytes e.0, e.1)) es)
    ∙ ap (position (λ q. bytes_eq t q.0)) is
    ∙ position-numbered (bytes_eq t) 0 cs

-- the path at a number
pub numbered-at : (n : ℕ) (cs : List Placed) (k : ℕ) → k < length cs → slice_get (numbered_paths n cs) k ≡ Some ((construct_at cs k).path, n + k)
numbered-at n [] k h = absurd (omega arith)
numbered-at n (c ∷ cs) zero h = ap (λ j. Some (c.path, j)) (sym (add-zero n))
numbered-at n (c ∷ cs) (suc k) h = let same : n + 1 + k ≡ n + suc k = omega arith in numbered-at (n + 1) cs k (omega arith) ∙ ap (λ j. Some ((construct_at cs k).path, j)) same

pub slice_get-map : {X Y : Type 0} (f : X → Y) (xs : List X) (k : ℕ) → slice_get (map f xs) k ≡ option_map f (slice_get xs k)
slice_get-map f [] zero = refl
slice_get-map f [] (suc k) = refl
slice_get-map f (x ∷ xs) zero = refl
slice_get-map f (x ∷ xs) (suc k) = slice_get-map f xs k

pub numbered-push : (n : ℕ) (cs : List Placed) (c : Placed) → numbered_paths n (cs ++ c ∷ []) ≡ numbered_paths n cs ++ (c.path, n + length cs) ∷ []
numbered-push n [] c = ap (λ j. (c.path, j) ∷ []) (sym (add-zero n))
numbered-push n (x ∷ cs) c = let same : n + 1 + length cs ≡ n + length (x ∷ cs) = omega arith in ap (λ r. (x.path, n) ∷ r) (numbered-push (n + 1) cs c ∙ ap (λ j. numbered_paths (n + 1) cs ++ (c.path, j) ∷ []) same)

-- ---- whether there is a place

found_here : {X : Type 0} (p : X → Bool) (x : X) (xs : List X) (b : Bool) → p x ≡ b → nat_lt (position_or_len p xs) (length xs) ≡ list_any p xs → nat_lt (cond (not b) (1 + position_or_len p xs) 0) (suc (length xs)) ≡ (b || list_any p xs)
found_here p x xs true e h = grind (arith, nat_tests)
found_here p x xs false e h = grind (arith, nat_tests)

pub some_position : {X : Type 0} (p : X → Bool) (xs : List X) → nat_lt (position_or_len p xs) (length xs) ≡ list_any p xs
some_position p [] = refl
some_position p (x ∷ xs) = found_here p x xs (p x) refl (some_position p xs)

is_some-cond : {X : Type 0} (b : Bool) (x : X) → is_some (cond b (Some x) None) ≡ b
is_some-cond true x = refl
is_some-cond false x = refl

pub is_some-position : {X : Type 0} (p : X → Bool) (xs : List X) → is_some (position p xs) ≡ list_any p xs
is_some-position p xs = is_some-cond (nat_lt (position_or_len p xs) (length xs)) (position_or_len p xs) ∙ some_position p xs

lookup-here : {X : Type 0} (b : Bool) (x : X) (r : Option X) (s : Bool) → (b || s) ≡ false → (s ≡ false → r ≡ None) → cond b (Some x) r ≡ None
lookup-here true x r s h k = absurd (true≢false h)
lookup-here false x r s h k = k h

-- no key that passes, so nothing is looked up
pub lookup-none : {K X : Type 0} (p : K → Bool) (es : List (K × X)) → list_any p (map (λ e. e.0) es) ≡ false → lookup p es ≡ None
lookup-none p [] h = refl
lookup-none p (e ∷ es) h = lookup-here (p e.0) e.1 (lookup p es) (list_any p (map (λ e. e.0) es)) h (lookup-none p es)

pub path_at : (es : Index) (cs : List Placed) (n : ℕ) (e : String Global × ℕ) → entries_view es ≡ numbered_paths 0 cs → n < length cs → slice_get es n ≡ Some e → string_bytes e.0 ≡ (construct_at cs n).path
path_at es cs n e is within here =
    let view : String Global × ℕ → List ℕ × ℕ = λ x. (string_bytes x.0, x.1) in
    let mapped : slice_get (entries_view es) n ≡ Some (string_bytes e.0, e.1) = slice_get-map view es n ∙ ap (option_map view) here in
    let there : slice_get (entries_view es) n ≡ Some ((construct_at cs n).path, 0 + n) = ap (λ xs. slice_get xs n) is ∙ numbered-at 0 cs n within in
    let first : List ℕ × ℕ → List ℕ = λ p. p.0 in
    ap first (same_some (string_bytes e.0, e.1) ((construct_at cs n).path, 0 + n) (sym mapped ∙ there))

pub entry_there : (es : Index) (cs : List Placed) (n : ℕ) → entries_view es ≡ numbered_paths 0 cs → n < length cs → slice_get es n ≡ None → ⊥
entry_there es cs n is within none =
    not_none es n (omega (arith, ap length is, length-numbered 0 cs, length-map es (let view : String Global × ℕ → List ℕ × ℕ = λ x. (string_bytes x.0, x.1) in view))) none

insert_last : (k : String Global) (n : ℕ) (es : Index) → list_any (λ x. bytes_eq (string_bytes k) (string_bytes x)) (map (λ e. e.0) es) ≡ false → insert_entry string_eq es k n ≡ es ++ (k, n) ∷ []
insert_last k n [] h = refl
insert_last k n (e ∷ es) h = insert_later k n e es (bytes_eq (string_bytes k) (string_bytes e.0)) refl h (insert_last k n es)
  where
    insert_later : (k : String Global) (n : ℕ) (e : String Global × ℕ) (es : Index) (b : Bool) → bytes_eq (string_bytes k) (string_bytes e.0) ≡ b → (b || list_any (λ x. bytes_eq (string_bytes k) (string_bytes x)) (map (λ e. e.0) es)) ≡ false
        → (list_any (λ x. bytes_eq (string_bytes k) (string_bytes x)) (map (λ e. e.0) es) ≡ false → insert_entry string_eq es k n ≡ es ++ (k, n) ∷ [])
        → cond b ((e.0, n) ∷ es) (e ∷ insert_entry string_eq es k n) ≡ (e ∷ es) ++ (k, n) ∷ []
    insert_later k n e es true is h rest = absurd (true≢false h)
    insert_later k n e es false is h rest = ap (λ r. e ∷ r) (rest h)

pub absent : (es : Index) (cs : List Placed) (t : List ℕ) → entries_view es ≡ numbered_paths 0 cs → find_path cs t ≡ None → list_any (λ x. bytes_eq t (string_bytes x)) (map (λ e. e.0) es) ≡ false
absent es cs t is none =
    sym (is_some-position (λ x. bytes_eq t (string_bytes x)) (map (λ e. e.0) es)) ∙ ap is_some (find-indexed es cs t is ∙ none)

pub indexed-push : (es new : Index) (cs : List Placed) (c : Placed) (k : String Global) → entries_view es ≡ numbered_paths 0 cs → find_path cs (string_bytes k) ≡ None → string_bytes k ≡ c.path → new ≡ insert_entry string_eq es k (length cs) → entries_view new ≡ numbered_paths 0 (cs ++ c ∷ [])
indexed-push es new cs c k is none named made =
    let view : String Global × ℕ → List ℕ × ℕ = λ x. (string_bytes x.0, x.1) in
    let last : new ≡ es ++ (k, length cs) ∷ [] = made ∙ insert_last k (length cs) es (absent es cs (string_bytes k) is none) in
    let spread : entries_view (es ++ (k, length cs) ∷ []) ≡ entries_view es ++ (string_bytes k, length cs) ∷ [] = map-append view es ((k, length cs) ∷ []) in
    ap (map view) last ∙ spread ∙ ap (λ r. r ++ (string_bytes k, length cs) ∷ []) is
    ∙ ap (λ p. numbered_paths 0 cs ++ (p, length cs) ∷ []) named
    ∙ ap (λ n. numbered_paths 0 cs ++ (c.path, n) ∷ []) (sym (zero-add (length cs))) ∙ sym (numbered-push 0 cs c)
