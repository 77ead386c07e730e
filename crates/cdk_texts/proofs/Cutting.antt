-- A text is cut at its first delimiter, and then after it.
use Rattle.std.proofs.Common.{◌≡◌, ℕ, zero, suc, ◌+◌, ◌-◌, ◌<◌, ◌≤◌, List, [], ◌∷◌, ◌++◌, length, drop, map, eqb, Bool, true, false, cond, Option, Some, None, option_map, reverse, eqb-true, refl, sym, ap, ◌∙◌, arith, append_assoc, append-nil}
use Rattle.std.specs.List.{starts_with}
use Rattle.serde_json.specs.Data.{Data, string, Items, no_items, item}
use Rattle.serde_json.specs.View.{view, items_view, items_of}
use Rattle.serde_json.specs.declared.value.Value.{Value}
use Rattle.std.proofs.lemmas.List.{reverse-append, reverse-reverse}
use Rattle.cdk_eval.specs.Texts.{cut, without_spaces}
use Rattle.cdk_texts.specs.Around.{around}
use Rattle.cdk_texts.specs.Steps.{items_before, values_before}

abbrev cut_by : List ℕ → List ℕ → List ℕ → Option (List ℕ × List ℕ) → Items
cut_by d part s None = item (string (part ++ s)) no_items
cut_by d part s (Some p) = item (string (part ++ p.0)) (cut d 0 [] p.1)

skips : (d : List ℕ) (n : ℕ) (s : List ℕ) → cut d n [] s ≡ cut d 0 [] (drop n s)
skips d zero s = refl
skips d (suc n) [] = refl
skips d (suc n) (c ∷ s) = skips d n s

by_later : (d part : List ℕ) (c : ℕ) (s : List ℕ) (o : Option (List ℕ × List ℕ)) → cut_by d (part ++ c ∷ []) s o ≡ cut_by d part (c ∷ s) (option_map (λ p. (c ∷ p.0, p.1)) o)
by_later d part c s None = ap (λ t. item (string t) no_items) (append_assoc part (c ∷ []) s)
by_later d part c s (Some p) = ap (λ t. item (string t) (cut d 0 [] p.1)) (append_assoc part (c ∷ []) p.0)

drop_by : (d : List ℕ) (c : ℕ) (s : List ℕ) → 0 < length d → drop (length d - 1) s ≡ drop (length d) (c ∷ s)
drop_by [] c s h = absurd (omega arith)
drop_by (x ∷ d) c s h = let e : length (x ∷ d) - 1 ≡ length d = omega arith in ap (λ n. drop n s) e

cut_at : (d part : List ℕ) (c : ℕ) (s : List ℕ) (b : Bool) → 0 < length d → starts_with eqb (c ∷ s) d ≡ b → cut d 0 (part ++ c ∷ []) s ≡ cut_by d (part ++ c ∷ []) s (around d s)
    → cond b (item (string part) (cut d (length d - 1) [] s)) (cut d 0 (part ++ c ∷ []) s)
    ≡ cut_by d part (c ∷ s) (cond b (Some ([], drop (length d) (c ∷ s))) (option_map (λ p. (c ∷ p.0, p.1)) (around d s)))
cut_at d part c s true low e later =
    ap (item (string part)) (skips d (length d - 1) s ∙ ap (cut d 0 []) (drop_by d c s low))
    ∙ ap (λ t. item (string t) (cut d 0 [] (drop (length d) (c ∷ s)))) (sym (append-nil part))
cut_at d part c s false low e later = later ∙ by_later d part c s (around d s)

pub cut-around : (d part s : List ℕ) → 0 < length d → cut d 0 part s ≡ cut_by d part s (around d s)
cut-around d part [] low = ap (λ t. item (string t) no_items) (sym (append-nil part))
cut-around d part (c ∷ s) low = cut_at d part c s (starts_with eqb (c ∷ s) d) low refl (cut-around d (part ++ c ∷ []) s low)

pub cut-last : (d s : List ℕ) → 0 < length d → None ≡ around d s → cut d 0 [] s ≡ item (string s) no_items
cut-last d s low e = cut-around d [] s low ∙ ap (cut_by d [] s) (sym e)

pub cut-first : (d s : List ℕ) (p : List ℕ × List ℕ) → 0 < length d → Some p ≡ around d s → cut d 0 [] s ≡ item (string p.0) (cut d 0 [] p.1)
cut-first d s p low e = cut-around d [] s low ∙ ap (cut_by d [] s) (sym e)

-- ---- items so far

before_more : (ds : List Data) (d : Data) (rest : Items) → items_before (ds ++ d ∷ []) rest ≡ items_before ds (item d rest)
before_more [] d rest = refl
before_more (x ∷ ds) d rest = ap (item x) (before_more ds d rest)

map_more : (vs : List Value) (v : Value) → map view (vs ++ v ∷ []) ≡ map view vs ++ view v ∷ []
map_more [] v = refl
map_more (w ∷ vs) v = ap (λ ds. view w ∷ ds) (map_more vs v)

pub values_before-more : (vs : List Value) (v : Value) (rest : Items) → values_before (vs ++ v ∷ []) rest ≡ values_before vs (item (view v) rest)
values_before-more vs v rest = ap (λ ds. items_before ds rest) (map_more vs v) ∙ before_more (map view vs) (view v) rest

before_none : (ds : List Data) → items_before ds no_items ≡ items_of ds
before_none [] = refl
before_none (d ∷ ds) = ap (item d) (before_none ds)

pub values_before-none : (vs : List Value) → values_before vs no_items ≡ items_view vs
values_before-none vs = before_none (map view vs)

-- ---- a loop over the parts, where f gives the items of a text

module _ (f : List ℕ → Items) (text rest : List ℕ) (vs ws : List Value) (v : Value) (u : List ℕ) where
  pub items_done : f text ≡ values_before vs (f rest) → f rest ≡ item (string u) no_items → view v ≡ string u → ws ≡ vs ++ v ∷ [] → items_view ws ≡ f text
  items_done so_far last seen pushed =
      ap items_view pushed ∙ sym (values_before-none (vs ++ v ∷ [])) ∙ values_before-more vs v no_items ∙ ap (λ x. values_before vs (item x no_items)) seen ∙ ap (values_before vs) (sym last) ∙ sym so_far

  pub items_more : (after : List ℕ) → f text ≡ values_before vs (f rest) → f rest ≡ item (string u) (f after) → view v ≡ string u → ws ≡ vs ++ v ∷ [] → f text ≡ values_before ws (f after)
  items_more after so_far first seen pushed =
      so_far ∙ ap (values_before vs) first ∙ ap (λ x. values_before vs (item x (f after))) (sym seen) ∙ sym (values_before-more vs v (f after)) ∙ ap (λ x. values_before x (f after)) (sym pushed)

-- ---- spaces

stays_at : (c : ℕ) (s : List ℕ) (b : Bool) → eqb c 32 ≡ b → ((r : List ℕ) → c ∷ s ≡ 32 ∷ r → ⊥) → without_spaces (c ∷ s) ≡ c ∷ s
stays_at c s true e no_space = absurd (no_space s (ap (λ x. x ∷ s) (eqb-true c 32 e)))
stays_at c s false e no_space = rw e refl

pub spaces_stay : (s : List ℕ) → ((r : List ℕ) → s ≡ 32 ∷ r → ⊥) → without_spaces s ≡ s
spaces_stay [] no_space = refl
spaces_stay (c ∷ s) no_space = stays_at c s (eqb c 32) refl no_space

pub spaces_stay_behind : (s : List ℕ) → ((front : List ℕ) → s ≡ front ++ 32 ∷ [] → ⊥) → without_spaces (reverse s) ≡ reverse s
spaces_stay_behind s no_space =
    spaces_stay (reverse s) (λ r e. no_space (reverse r) (sym (reverse-reverse s) ∙ ap reverse e ∙ reverse-append (32 ∷ []) r))
