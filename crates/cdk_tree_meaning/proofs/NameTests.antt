-- Tests on names, numbers and constructs, and what they tell.
use Rattle.std.proofs.Common.{◌≡◌, ℕ, zero, suc, ◌<◌, List, [], ◌∷◌, length, Bool, true, false, Option, Some, None, IsSomeAnd, refl, sym, ap, ◌∙◌, arith, true≢false}
use Rattle.std.specs.Prelude.{◌==◌, ◌&&◌, ◌||◌, nat_le, unwrap_or}
use Rattle.std.specs.Char.{is_ascii_alphabetic, is_ascii_alphanumeric}
use Rattle.std.specs.List.{list_all}
use Rattle.std.proofs.lemmas.Bool.Decides.{nat_tests}
use Rattle.cdk_meaning.specs.StackTemplate.{has_colon}
use Rattle.cdk_names.specs.Forms.{is_logical}
use Rattle.cdk_tree.specs.Placed.{Placed, construct_at}
use Rattle.cdk_tree.proofs.Tests.{and_left, and_right}

-- a letter or digit is no colon
no_colon_letter : (c : ℕ) → is_ascii_alphabetic c ≡ true → (c == 58) ≡ false
no_colon_letter c h = grind (arith, nat_tests, h)

no_colon_character : (c : ℕ) → is_ascii_alphanumeric c ≡ true → (c == 58) ≡ false
no_colon_character c h = grind (arith, nat_tests, h)

no_colons : (s : List ℕ) → list_all is_ascii_alphanumeric s ≡ true → has_colon s ≡ false
no_colons [] h = refl
no_colons (c ∷ s) h =
    ap (λ b. b || has_colon s) (no_colon_character c (and_left (is_ascii_alphanumeric c) (list_all is_ascii_alphanumeric s) h))
    ∙ no_colons s (and_right (is_ascii_alphanumeric c) (list_all is_ascii_alphanumeric s) h)

logical_has_no_colon : (name : List ℕ) → is_logical name ≡ true → has_colon name ≡ false
logical_has_no_colon [] h = absurd (true≢false (sym h))
logical_has_no_colon (c ∷ s) h =
    let rest = and_right (is_ascii_alphabetic c) (list_all is_ascii_alphanumeric s && nat_le (length (c ∷ s)) 255) h in
    ap (λ b. b || has_colon s) (no_colon_letter c (and_left (is_ascii_alphabetic c) (list_all is_ascii_alphanumeric s && nat_le (length (c ∷ s)) 255) h))
    ∙ no_colons s (and_left (list_all is_ascii_alphanumeric s) (nat_le (length (c ∷ s)) 255) rest)

pub named_without_colon : (o : Option (List ℕ)) → IsSomeAnd o (λ name. is_logical name ≡ true) → has_colon (unwrap_or o []) ≡ false
named_without_colon None h = absurd h
named_without_colon (Some name) h = logical_has_no_colon name h

-- what all pass, one passes
pub all_at : (test : Placed → Bool) (cs : List Placed) (n : ℕ) → list_all test cs ≡ true → n < length cs → test (construct_at cs n) ≡ true
all_at test [] n h within = absurd (omega (arith, within))
all_at test (c ∷ cs) zero h within = and_left (test c) (list_all test cs) h
all_at test (c ∷ cs) (suc n) h within = all_at test cs n (and_right (test c) (list_all test cs) h) (omega (arith, within))
