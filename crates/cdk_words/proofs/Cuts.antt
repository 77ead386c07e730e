-- Where std's search finds the first `=`, a word is cut around it; and what the parts are.
use Rattle.std.proofs.Common.{◌≡◌, ℕ, zero, suc, ◌<◌, List, [], ◌∷◌, ◌++◌, length, get_or, Bool, true, false, ◌&&◌, Option, Some, None, option_map, cond, eqb, map, subst, Bor, refl, sym, ap, ap₂, ◌∙◌, arith, lit<}
use Rattle.std.specs.Prelude.{All}
use Rattle.std.specs.List.{list_all, list_any}
use Rattle.std.proofs.lemmas.Bool.{eqb-true, ne_eqb}
use Rattle.std.proofs.lemmas.Grind.{common_steps}
use Rattle.std.proofs.lemmas.Str.Pattern.{IsSplitOnceResult, split_parts}
use Rattle.cdk_base.specs.declared.Setting.{Setting}
use Rattle.cdk_words.specs.Settings.{around_equals, has_key, is_plain_word, is_setting_word, setting_with, settings_in, spelled, HasPlainKey}

-- ---- the cut

abbrev LacksEquals : List ℕ → Type 0
LacksEquals s = (i : ℕ) → i < length s → get_or s i 0 ≡ 61 → ⊥

around_equals-lacks : (s : List ℕ) → LacksEquals s → around_equals s ≡ None
around_equals-lacks [] h = refl
around_equals-lacks (x ∷ xs) h = rw (ne_eqb x 61 (h 0 (omega arith))) (ap (option_map (λ p. (x ∷ p.0, p.1))) (around_equals-lacks xs (λ i l. h (suc i) (omega arith))))

around_equals-has : (key value : List ℕ) → LacksEquals key → around_equals (key ++ (61 ∷ value)) ≡ Some (key, value)
around_equals-has [] value h = refl
around_equals-has (x ∷ xs) value h = rw (ne_eqb x 61 (h 0 (omega arith))) (ap (option_map (λ p. (x ∷ p.0, p.1))) (around_equals-has xs value (λ i l. h (suc i) (omega arith))))

-- the clause of `split_once`
pub around_equals-split_once : (s : List ℕ) (r : Option (Bor (List ℕ) × Bor (List ℕ))) → IsSplitOnceResult 61 s r → option_map (λ p. (p.0.now, p.1.now)) r ≡ around_equals s
around_equals-split_once s None h = sym (around_equals-lacks s (split_parts 61 s None h (lit< tt)))
around_equals-split_once s (Some x) h =
    let parts : (s ≡ x.0.now ++ (61 ∷ x.1.now)) × (LacksEquals x.0.now) = split_parts 61 s (Some x) h (lit< tt) in
    sym (ap around_equals parts.0 ∙ around_equals-has x.0.now x.1.now parts.1)

-- ---- its parts

abbrev is_equals : ℕ → Bool
is_equals c = eqb c 61

-- the parts stand around a `=`, and the first has none
abbrev AreParts : List ℕ → Option (List ℕ × List ℕ) → Type 0
AreParts s None = list_any is_equals s ≡ false
AreParts s (Some p) = (p.0 ++ (61 ∷ p.1) ≡ s) × (list_any is_equals p.0 ≡ false)

parts_after : (c : ℕ) (cs : List ℕ) (o : Option (List ℕ × List ℕ)) (b : Bool) → eqb c 61 ≡ b → AreParts cs o → AreParts (c ∷ cs) (cond b (Some ([], cs)) (option_map (λ p. (c ∷ p.0, p.1)) o))
parts_after c cs o true e h = (ap (λ x. x ∷ cs) (sym (eqb-true c 61 e)), refl)
parts_after c cs None false e h = rw e h
parts_after c cs (Some p) false e h = (ap (λ ys. c ∷ ys) h.0, rw e h.1)

parts : (s : List ℕ) → AreParts s (around_equals s)
parts [] = refl
parts (c ∷ cs) = parts_after c cs (around_equals cs) (eqb c 61) refl (parts cs)

-- ---- settings

spelled-with : (s : List ℕ) (o : Option (List ℕ × List ℕ)) → AreParts s o → (is_plain_word s && has_key o) ≡ true → spelled (setting_with s o) ≡ s
spelled-with s None h e = grind (arith, common_steps)
spelled-with s (Some p) h e = h.0

plain_key_with : (s : List ℕ) (o : Option (List ℕ × List ℕ)) → AreParts s o → HasPlainKey (setting_with s o)
plain_key_with s None h = h
plain_key_with s (Some p) h = h.1

both_true : (a b : Bool) → (a && b) ≡ true → (a ≡ true) × (b ≡ true)
both_true true true e = (refl, refl)
both_true true false e = cc
both_true false b e = cc

-- a setting's word is its key, `=` and its value
spelled-setting_in : (ws : List (List ℕ)) → list_all is_setting_word ws ≡ true → map spelled (settings_in ws) ≡ ws
spelled-setting_in [] e = refl
spelled-setting_in (w ∷ ws) e =
    let both : (is_setting_word w ≡ true) × (list_all is_setting_word ws ≡ true) = both_true (is_setting_word w) (list_all is_setting_word ws) e in
    ap₂ (λ x xs. x ∷ xs) (spelled-with w (around_equals w) (parts w) both.0) (spelled-setting_in ws both.1)

pub spelled-settings_in : (ws : List (List ℕ)) (ss : List Setting) → ss ≡ settings_in ws → list_all is_setting_word ws ≡ true → map spelled ss ≡ ws
spelled-settings_in ws ss is e = ap (map spelled) is ∙ spelled-setting_in ws e

plain_keys_in : (ws : List (List ℕ)) → All HasPlainKey (settings_in ws)
plain_keys_in [] k d l = absurd (omega (arith, l))
plain_keys_in (w ∷ ws) zero d l = plain_key_with w (around_equals w) (parts w)
plain_keys_in (w ∷ ws) (suc k) d l = plain_keys_in ws k d (omega arith)

-- no setting's key has a `=`
pub plain_keys : (ws : List (List ℕ)) (ss : List Setting) → ss ≡ settings_in ws → All HasPlainKey ss
plain_keys ws ss is = let P : List Setting → Type 0 = λ xs. All HasPlainKey xs in subst P (sym is) (plain_keys_in ws)
