-- The steps of the code over the components: the text that is hashed, and the human part.
use Rattle.std.proofs.lemmas.List.{length-take, take_all}
use Rattle.std.proofs.Common.{◌≡◌, ℕ, zero, suc, ◌-◌, ◌≤◌, List, [], ◌∷◌, ◌++◌, length, take, Bool, true, false, cond, nat_eq, refl, sym, ap, ◌∙◌, arith, append-nil}
use Rattle.std.specs.Prelude.{filter, flat_map}
use Rattle.std.specs.List.{ends_with, join_with_byte}
use Rattle.cdk_names.specs.Names.{is_visible, visible, is_shown, alphanumerics, unrepeated, unrepeated_after}
use Rattle.cdk_names.specs.Steps.{next_last, part_text}
use Rattle.cdk_names.specs.declared.visible.Visible.{Visible}
use Rattle.cdk_names.specs.declared.visible.Visible.TheVariants.{Nothing, One, Many}

-- what is found so far, beside the rest
abbrev pub SoFar : Visible → List (List ℕ) → List (List ℕ) → Type 0
SoFar Nothing all rest = all ≡ rest
SoFar (One c) all rest = all ≡ c.now ∷ rest
SoFar Many all rest = ⊥

-- the text that is hashed, with a `/` before each component after the first
abbrev pub slashed : Bool → List (List ℕ) → List ℕ
slashed later [] = []
slashed later (c ∷ cs) = cond (is_visible c) (cond later (47 ∷ []) [] ++ (c ++ slashed true cs)) (slashed later cs)

pub slashed_visible : (later : Bool) (c : List ℕ) (cs : List (List ℕ)) → is_visible c ≡ true → slashed later (c ∷ cs) ≡ cond later (47 ∷ []) [] ++ (c ++ slashed true cs)
slashed_visible later c cs e = rw e

pub slashed_hidden : (later : Bool) (c : List ℕ) (cs : List (List ℕ)) → is_visible c ≡ false → slashed later (c ∷ cs) ≡ slashed later cs
slashed_hidden later c cs e = rw e

abbrev after_first : List (List ℕ) → List ℕ
after_first [] = []
after_first (c ∷ cs) = 47 ∷ join_with_byte 47 (c ∷ cs)

join_more : (c : List ℕ) (cs : List (List ℕ)) → c ++ after_first cs ≡ join_with_byte 47 (c ∷ cs)
join_more c [] = append-nil c
join_more c (d ∷ cs) = refl

slashed_step : (b : Bool) (c : List ℕ) (cs : List (List ℕ)) (more : List ℕ) → more ≡ after_first (visible cs) → more ≡ after_first (visible cs)
    → cond b ((47 ∷ []) ++ (c ++ more)) more ≡ after_first (cond b (c ∷ visible cs) (visible cs))
slashed_step true c cs more e f = ap (λ s. 47 ∷ (c ++ s)) e ∙ ap (λ s. 47 ∷ s) (join_more c (visible cs))
slashed_step false c cs more e f = e

slashed-after : (cs : List (List ℕ)) → slashed true cs ≡ after_first (visible cs)
slashed-after [] = refl
slashed-after (c ∷ cs) = slashed_step (is_visible c) c cs _ (slashed-after cs) (slashed-after cs)

join_step : (b : Bool) (c : List ℕ) (cs : List (List ℕ)) (more : List ℕ) → more ≡ join_with_byte 47 (visible cs)
    → cond b (c ++ slashed true cs) more ≡ join_with_byte 47 (cond b (c ∷ visible cs) (visible cs))
join_step true c cs more e = ap (λ s. c ++ s) (slashed-after cs) ∙ join_more c (visible cs)
join_step false c cs more e = e

pub slashed-join : (cs : List (List ℕ)) → slashed false cs ≡ join_with_byte 47 (visible cs)
slashed-join [] = refl
slashed-join (c ∷ cs) = join_step (is_visible c) c cs _ (slashed-join cs)

-- ---- the human part

abbrev pub human_text : List ℕ → List (List ℕ) → List ℕ
human_text last cs = flat_map alphanumerics (filter is_shown (unrepeated_after last (visible cs)))

name_step : (b : Bool) (c : List ℕ) (cs : List (List ℕ)) → flat_map alphanumerics (cond b (c ∷ cs) cs) ≡ cond b (alphanumerics c) [] ++ flat_map alphanumerics cs
name_step true c cs = refl
name_step false c cs = refl

end_step : (b : Bool) (last c : List ℕ) (cs : List (List ℕ))
    → flat_map alphanumerics (filter is_shown (cond b (unrepeated_after last cs) (c ∷ unrepeated_after c cs))) ≡ cond b [] (cond (is_shown c) (alphanumerics c) []) ++ flat_map alphanumerics (filter is_shown (unrepeated_after (cond b last c) cs))
end_step true last c cs = refl
end_step false last c cs = name_step (is_shown c) c (filter is_shown (unrepeated_after c cs))

visible_step : (b : Bool) (last c : List ℕ) (cs : List (List ℕ))
    → flat_map alphanumerics (filter is_shown (unrepeated_after last (cond b (c ∷ visible cs) (visible cs))))
    ≡ cond b (cond (ends_with nat_eq last c) [] (cond (is_shown c) (alphanumerics c) [])) [] ++ flat_map alphanumerics (filter is_shown (unrepeated_after (cond b (cond (ends_with nat_eq last c) last c) last) (visible cs)))
visible_step true last c cs = end_step (ends_with nat_eq last c) last c (visible cs)
visible_step false last c cs = refl

pub human_text_step : (last c : List ℕ) (cs : List (List ℕ)) → human_text last (c ∷ cs) ≡ part_text last c ++ human_text (next_last last c) cs
human_text_step last c cs = visible_step (is_visible c) last c cs

not_ended : (x : ℕ) (c : List ℕ) → ends_with nat_eq [] (x ∷ c) ≡ false
not_ended x c = let none : 0 - length (x ∷ c) ≡ 0 = omega arith in rw none

start_text : (b : Bool) (x : ℕ) (c : List ℕ) (cs : List (List ℕ)) → b ≡ false
    → flat_map alphanumerics (filter is_shown ((x ∷ c) ∷ unrepeated_after (x ∷ c) cs)) ≡ flat_map alphanumerics (filter is_shown (cond b (unrepeated_after [] cs) ((x ∷ c) ∷ unrepeated_after (x ∷ c) cs)))
start_text b x c cs e = rw e

-- to begin after the empty text changes no character: only an empty component ends it
pub human_text-start : (cs : List (List ℕ)) → flat_map alphanumerics (filter is_shown (unrepeated_after [] cs)) ≡ flat_map alphanumerics (filter is_shown (unrepeated cs))
human_text-start [] = refl
human_text-start ([] ∷ cs) = refl
human_text-start ((x ∷ c) ∷ cs) = sym (start_text (ends_with nat_eq [] (x ∷ c)) x c cs (not_ended x c))

-- ---- texts that are cut

pub take_twice : (n : ℕ) (xs ys : List ℕ) → take n (take n xs ++ ys) ≡ take n (xs ++ ys)
take_twice zero xs ys = refl
take_twice (suc n) [] ys = refl
take_twice (suc n) (x ∷ xs) ys = ap (λ zs. x ∷ zs) (take_twice n xs ys)

pub length_taken : (n : ℕ) (xs ys : List ℕ) → ys ≡ take n xs → length ys ≤ n
length_taken n xs ys e = omega (arith, length-take n xs, ap length e)

pub unchanged : (n : ℕ) (xs p : List ℕ) → length xs ≤ n → p ≡ [] → xs ≡ take n (xs ++ p)
unchanged n xs p h e = sym (take_all n xs h) ∙ ap (take n) (sym (append-nil xs) ∙ ap (λ q. xs ++ q) (sym e))

pub part_hidden : (last c : List ℕ) → is_visible c ≡ false → part_text last c ≡ []
part_hidden last c k = rw k

pub part_ended : (last c : List ℕ) → is_visible c ≡ true → ends_with nat_eq last c ≡ true → part_text last c ≡ []
part_ended last c k e = rw (k, e)

pub part_unshown : (last c : List ℕ) → is_visible c ≡ true → ends_with nat_eq last c ≡ false → is_shown c ≡ false → part_text last c ≡ []
part_unshown last c k e n = rw (k, e, n)
