-- An item put behind others: what is found, and where.
use Rattle.std.proofs.Common.{◌≡◌, ℕ, ◌+◌, suc, List, [], ◌∷◌, ◌++◌, length, slice_get, Bool, true, false, cond, Option, Some, None, option_map, option_and_then, refl, ap, ◌∙◌, arith}
use Rattle.std.specs.List.{find, position_from}

none_after : {X : Type 0} (b : Bool) (x : X) (o : Option X) → cond b (Some x) o ≡ None → o ≡ None
none_after true x o h = cc
none_after false x o h = h

-- an item of the pair is found where the last isn't of it, or was not found before
step : {X Y : Type 0} (b q : Bool) (x : X) (rest : Option X) (here last : Y) (more old : Option Y) → (q ≡ true → cond b (Some x) rest ≡ None) → more ≡ cond q (Some last) old → cond b (Some here) more ≡ cond q (Some last) (cond b (Some here) old)
step true true x rest here last more old h m = absurd (cc (h refl))
step true false x rest here last more old h m = refl
step false q x rest here last more old h m = m

pub find-push : {X : Type 0} (p : X → Bool) (es : List X) (e : X) → (p e ≡ true → find p es ≡ None) → find p (es ++ e ∷ []) ≡ cond (p e) (Some e) (find p es)
find-push p [] e h = refl
find-push p (x ∷ es) e h = step (p x) (p e) x (find p es) x e _ _ h (find-push p es e (λ t. none_after (p x) x (find p es) (h t)))

-- what the last is not, it doesn't change
pub last_passed : {X : Type 0} (b : Bool) (x : X) (o : Option X) → (b ≡ true → ⊥) → cond b (Some x) o ≡ o
last_passed true x o h = absurd (h refl)
last_passed false x o h = refl

-- the place of the last is the length of those before it
pub place-push : {X : Type 0} (p : X → Bool) (i : ℕ) (es : List X) (e : X) → (p e ≡ true → find p es ≡ None) → position_from p i (es ++ e ∷ []) ≡ cond (p e) (Some (i + length es)) (position_from p i es)
place-push p i [] e h = ap (λ n. cond (p e) (Some n) None) (omega arith)
place-push p i (x ∷ es) e h =
    step (p x) (p e) x (find p es) i (i + suc (length es)) _ _ h
    (place-push p (i + 1) es e (λ t. none_after (p x) x (find p es) (h t)) ∙ ap (λ n. cond (p e) (Some n) (position_from p (i + 1) es)) (omega arith))

shift : {X : Type 0} (p : X → Bool) (i j : ℕ) (es : List X) → j ≡ suc i → position_from p j es ≡ option_map (λ n. suc n) (position_from p i es)
shift p i j [] h = refl
shift p i j (x ∷ es) h = shifted (p x) i j _ _ h (shift p (i + 1) (j + 1) es (omega arith))
  where
    shifted : (b : Bool) (i j : ℕ) (o q : Option ℕ) → j ≡ suc i → q ≡ option_map (λ n. suc n) o → cond b (Some j) q ≡ option_map (λ n. suc n) (cond b (Some i) o)
    shifted true i j o q h k = ap Some h
    shifted false i j o q h k = k

under : {X : Type 0} (x : X) (es : List X) (o : Option ℕ) → option_and_then (slice_get (x ∷ es)) (option_map (λ n. suc n) o) ≡ option_and_then (slice_get es) o
under x es None = refl
under x es (Some n) = refl

chosen : {X : Type 0} (b : Bool) (x : X) (es : List X) (o : Option ℕ) (q : Option X) → option_and_then (slice_get (x ∷ es)) o ≡ q → option_and_then (slice_get (x ∷ es)) (cond b (Some 0) o) ≡ cond b (Some x) q
chosen true x es o q h = refl
chosen false x es o q h = h

-- the item at the place is the one that is found
pub at_place : {X : Type 0} (p : X → Bool) (es : List X) → option_and_then (slice_get es) (position_from p 0 es) ≡ find p es
at_place p [] = refl
at_place p (x ∷ es) =
    chosen (p x) x es _ _ (ap (option_and_then (slice_get (x ∷ es))) (shift p 0 (0 + 1) es refl) ∙ under x es (position_from p 0 es) ∙ at_place p es)
