-- Keys are the same where their scopes and names are.
use Rattle.std.proofs.Common.{◌≡◌, ℕ, List, refl, sym, ap, ◌∙◌}
use Rattle.std.specs.Prelude.{◌&&◌, ◌==◌}
use Rattle.std.specs.declared.cmp.Ordering.{Ordering}
use Rattle.std.specs.declared.cmp.Ordering.TheVariants.{Less, Equal, Greater}
use Rattle.std.specs.Ordering.{nat_cmp, is_eq, ordering_then}
use Rattle.std.specs.Cmp.{unsigned_ties}
use Rattle.std.specs.Cmp.Lexicographic.{slice_cmp}
use Rattle.std.specs.Str.{bytes_eq}
use Rattle.std.proofs.lemmas.Map.Text.{is_eq-slice_cmp}

is_eq-then : (o p : Ordering) → is_eq (ordering_then o p) ≡ (is_eq o && is_eq p)
is_eq-then Less p = refl
is_eq-then Equal p = refl
is_eq-then Greater p = refl

pub same_key : (a s : ℕ) (x n : List ℕ) → is_eq (ordering_then (nat_cmp a s) (slice_cmp nat_cmp x n)) ≡ (a == s && bytes_eq x n)
same_key a s x n =
    is_eq-then (nat_cmp a s) (slice_cmp nat_cmp x n) ∙ ap (λ b. b && is_eq (slice_cmp nat_cmp x n)) (sym (unsigned_ties a s)) ∙ ap (λ b. a == s && b) (is_eq-slice_cmp x n)
