-- What has the letters of a stack's name is a file's name with the ending of templates.
use Rattle.std.proofs.Common.{◌≡◌, ℕ, List, [], ◌∷◌, ◌++◌, codes, true, false, refl, arith}
use Rattle.std.proofs.lemmas.Bool.Decides.{nat_tests}
use Rattle.std.specs.Prelude.{◌==◌, not}
use Rattle.std.specs.Char.{is_ascii_alphabetic, is_ascii_alphanumeric}
use Rattle.std.specs.List.{list_all}
use Rattle.cdk_eval.specs.Form.{is_file_name}
use Rattle.cdk_names.specs.Forms.{is_stack_name_byte}
use Rattle.cdk_names.proofs.Alphanumerics.{and_both, both_and}
use Rattle.cdk_manifest.specs.Manifest.{template_file}

pub letter_in_names : (c : ℕ) → is_ascii_alphabetic c ≡ true → is_stack_name_byte c ≡ true
letter_in_names c h = grind (arith, nat_tests, h)

alphanumeric_in_names : (c : ℕ) → is_ascii_alphanumeric c ≡ true → is_stack_name_byte c ≡ true
alphanumeric_in_names c h = rw h

pub letters_in_names : (s : List ℕ) → list_all is_ascii_alphanumeric s ≡ true → list_all is_stack_name_byte s ≡ true
letters_in_names [] h = refl
letters_in_names (c ∷ s) h =
    let both = and_both (is_ascii_alphanumeric c) (list_all is_ascii_alphanumeric s) h in
    both_and _ _ (alphanumeric_in_names c both.0) (letters_in_names s both.1)

not_slash : (c : ℕ) → is_stack_name_byte c ≡ true → not (c == 47) ≡ true
not_slash c h = grind (arith, nat_tests, h)

not_dot : (c : ℕ) → is_stack_name_byte c ≡ true → (c == 46) ≡ false
not_dot c h = grind (arith, nat_tests, h)

no_slashes : (s rest : List ℕ) → list_all is_stack_name_byte s ≡ true → list_all (λ c. not (c == 47)) rest ≡ true → list_all (λ c. not (c == 47)) (s ++ rest) ≡ true
no_slashes [] rest h g = g
no_slashes (c ∷ s) rest h g =
    let both = and_both (is_stack_name_byte c) (list_all is_stack_name_byte s) h in
    both_and (not (c == 47)) _ (not_slash c both.0) (no_slashes s rest both.1 g)

pub template_is_file : (s : List ℕ) → list_all is_stack_name_byte s ≡ true → is_file_name (template_file s) ≡ true
template_is_file [] h = refl
template_is_file (c ∷ s) h =
    let both = and_both (is_stack_name_byte c) (list_all is_stack_name_byte s) h in
    let dot : (c == 46) ≡ false = not_dot c both.0 in
    let slashes = both_and (not (c == 47)) _ (not_slash c both.0) (no_slashes s (codes ".template.json") both.1 refl) in
    rw dot slashes
