-- What a name of either form has, and which unique ids are logical names.
use Rattle.std.proofs.Common.{◌≡◌, ℕ, zero, suc, ◌+◌, ◌<◌, List, [], ◌∷◌, ◌++◌, length, length-append, length-drop, codes, min, ◌-◌, take, Bool, true, false, cond, ◌&&◌, refl, sym, ap, subst, ◌∙◌, arith, IsAscii, IsSomeAnd, filter, flat_map, nat_le}
use Rattle.std.proofs.lemmas.Bool.Decides.{nat_tests}
use Rattle.std.specs.Char.{is_ascii_alphabetic, is_ascii_alphanumeric}
use Rattle.std.specs.List.{list_all, join_with_byte}
use Rattle.cdk_names.specs.Names.{visible, is_shown, unrepeated_after, alphanumerics, hash, hashed_name, name_of_visible}
use Rattle.cdk_names.specs.Forms.{is_stack_name_byte, is_logical, last_of}
use Rattle.cdk_names.specs.Laws.{IsAlphanumericName, LetterFirstIsLogical, LogicalNamesAreAlphanumeric, StackNamesAreAscii, ExportNamesFit}
use Rattle.cdk_names.proofs.Alphanumerics.{and_both, both_and, hashed_name_lem, single_name}

letter_is_alphanumeric : (c : ℕ) → is_ascii_alphabetic c ≡ true → is_ascii_alphanumeric c ≡ true
letter_is_alphanumeric c h = grind (arith, nat_tests, h)

letter_in_stack_names : (c : ℕ) → is_ascii_alphabetic c ≡ true → is_stack_name_byte c ≡ true
letter_in_stack_names c h = grind (arith, nat_tests, h)

-- the bytes that names have are ASCII
below_128 : (c : ℕ) → is_stack_name_byte c ≡ true → c < 128
below_128 c h = grind (arith, nat_tests, h)

ascii : (s : List ℕ) → list_all is_stack_name_byte s ≡ true → IsAscii s
ascii [] h i = omega arith
ascii (c ∷ s) h zero = below_128 c (and_both (is_stack_name_byte c) (list_all is_stack_name_byte s) h).0
ascii (c ∷ s) h (suc i) = ascii s (and_both (is_stack_name_byte c) (list_all is_stack_name_byte s) h).1 i

alphanumeric_in_stack_names : (c : ℕ) → is_ascii_alphanumeric c ≡ true → is_stack_name_byte c ≡ true
alphanumeric_in_stack_names c h = rw h

all_in_stack_names : (s : List ℕ) → list_all is_ascii_alphanumeric s ≡ true → list_all is_stack_name_byte s ≡ true
all_in_stack_names [] h = refl
all_in_stack_names (c ∷ s) h =
    let both = and_both (is_ascii_alphanumeric c) (list_all is_ascii_alphanumeric s) h in
    both_and _ _ (alphanumeric_in_stack_names c both.0) (all_in_stack_names s both.1)

pub logical_lem : LogicalNamesAreAlphanumeric
logical_lem [] h = absurd (grind (arith, h))
logical_lem (c ∷ s) h =
    let letter = and_both (is_ascii_alphabetic c) (list_all is_ascii_alphanumeric s && nat_le (length (c ∷ s)) 255) h in
    let rest = and_both (list_all is_ascii_alphanumeric s) (nat_le (length (c ∷ s)) 255) letter.1 in
    let all : list_all is_ascii_alphanumeric (c ∷ s) ≡ true = both_and _ _ (letter_is_alphanumeric c letter.0) rest.0 in
    (record { fits = grind (arith, nat_tests, rest.1); alphanumeric = all }, ascii (c ∷ s) (all_in_stack_names (c ∷ s) all))

pub stack_name_lem : StackNamesAreAscii
stack_name_lem [] h = absurd (grind (arith, h))
stack_name_lem (c ∷ s) h =
    let letter = and_both (is_ascii_alphabetic c) (list_all is_stack_name_byte s && nat_le (length (c ∷ s)) 128) h in
    let rest = and_both (list_all is_stack_name_byte s) (nat_le (length (c ∷ s)) 128) letter.1 in
    let all : list_all is_stack_name_byte (c ∷ s) ≡ true = both_and _ _ (letter_in_stack_names c letter.0) rest.0 in
    (grind (arith, nat_tests, rest.1), ascii (c ∷ s) all)

-- ---- unique ids that are logical names

-- a name of letters and digits that begins with a letter is a logical name
pub logical_from_letter : (c : ℕ) (s : List ℕ) → is_ascii_alphabetic c ≡ true → IsAlphanumericName (c ∷ s) → is_logical (c ∷ s) ≡ true
logical_from_letter c s letter name =
    let fits : nat_le (length (c ∷ s)) 255 ≡ true = grind (arith, nat_tests, name.fits) in
    both_and _ _ letter (both_and _ _ (and_both (is_ascii_alphanumeric c) (list_all is_ascii_alphanumeric s) name.alphanumeric).1 fits)

from_first : (name : List ℕ) (c : ℕ) (s : List ℕ) → name ≡ c ∷ s → is_ascii_alphabetic c ≡ true → IsAlphanumericName name → is_logical name ≡ true
from_first name c s e letter h = ap is_logical e ∙ logical_from_letter c s letter (subst IsAlphanumericName e h)

kept_letter : (c : ℕ) (s : List ℕ) → is_ascii_alphabetic c ≡ true → alphanumerics (c ∷ s) ≡ c ∷ alphanumerics s
kept_letter c s letter = rw (letter_is_alphanumeric c letter)

shown_letter : (c : ℕ) (s : List ℕ) (rest : List (List ℕ)) → is_ascii_alphabetic c ≡ true → is_shown (c ∷ s) ≡ true
    → take 240 (flat_map alphanumerics (filter is_shown ((c ∷ s) ∷ rest))) ≡ c ∷ take 239 (alphanumerics s ++ flat_map alphanumerics (filter is_shown rest))
shown_letter c s rest letter shown = rw (shown, letter_is_alphanumeric c letter)

hashed_letter : (c : ℕ) (s : List ℕ) (cs : List (List ℕ)) → is_ascii_alphabetic c ≡ true → is_shown (c ∷ s) ≡ true → is_logical (hashed_name ((c ∷ s) ∷ cs)) ≡ true
hashed_letter c s cs letter shown =
    from_first _ c _ (ap (λ h. h ++ hash (join_with_byte 47 ((c ∷ s) ∷ cs))) (shown_letter c s (unrepeated_after (c ∷ s) cs) letter shown)) letter (hashed_name_lem ((c ∷ s) ∷ cs))

single_letter : (c : ℕ) (s : List ℕ) (b : Bool) → nat_le (length (alphanumerics (c ∷ s))) 255 ≡ b → is_ascii_alphabetic c ≡ true → is_shown (c ∷ s) ≡ true
    → is_logical (cond b (alphanumerics (c ∷ s)) (hashed_name ((c ∷ s) ∷ []))) ≡ true
single_letter c s true e letter shown = from_first (alphanumerics (c ∷ s)) c (alphanumerics s) (kept_letter c s letter) letter (single_name (c ∷ s) true e)
single_letter c s false e letter shown = hashed_letter c s [] letter shown

visible_letter : (c : ℕ) (s : List ℕ) (cs : List (List ℕ)) → is_ascii_alphabetic c ≡ true → is_shown (c ∷ s) ≡ true
    → IsSomeAnd (name_of_visible ((c ∷ s) ∷ cs)) (λ name. is_logical name ≡ true)
visible_letter c s [] letter shown = single_letter c s _ refl letter shown
visible_letter c s (d ∷ cs) letter shown = hashed_letter c s (d ∷ cs) letter shown

pub letter_first_lem : LetterFirstIsLogical
letter_first_lem c s cs letter seen shown =
    let first : visible ((c ∷ s) ∷ cs) ≡ (c ∷ s) ∷ visible cs = rw seen in
    subst (λ vs. IsSomeAnd (name_of_visible vs) (λ name. is_logical name ≡ true)) (sym first) (visible_letter c s (visible cs) letter shown)

pub export_name_lem : ExportNamesFit
export_name_lem stack logical h =
    let end = last_of (254 - length stack) logical in
    let parts : length (stack ++ codes ":" ++ end) ≡ min 255 (length stack + 1 + length logical) = omega (arith, length-append (stack ++ codes ":") end, length-append stack (codes ":"), length-drop (length logical - (254 - length stack)) logical) in
    parts
