-- What settling one has to show: where it waits, and where it is met.
use Rattle.std.proofs.Common.{◌≡◌, ◌<◌, ◌≤◌, ℕ, List, [], ◌∷◌, ◌++◌, length, get_or, slice_get, Bool, false, Option, Some, None, sym, ap, subst, ◌∙◌, inl, inr}
use Rattle.std.specs.Prelude.{◌⊎◌, nat_lt, MatchBool}
use Rattle.std.proofs.lemmas.Bool.{lt-ltb, le-ltb}
use Rattle.std.proofs.lemmas.List.{get_or_default}
use Rattle.std.proofs.lemmas.Option.{get_or_from_slice_get, slice_get_cases}
use Rattle.std.proofs.Math.ListN.{set}
use Rattle.cdk_needs.specs.Needs.{Advances, IsFirstUnmet, IsMarked, Settles, Waits}
use Rattle.cdk_needs.specs.declared.marking.Marking.{Marking}

module _ (o : Option (List ℕ)) (ls : List ℕ) (old new : Marking) (user at : ℕ) (is : o ≡ Some ls) (unmet : get_or old.met.items user false ≡ false) (first : IsFirstUnmet ls old.met.items (get_or old.passed.items user 0) at) (passed : new.passed.items ≡ set old.passed.items user at) where
  advances : MatchBool (nat_lt at (length ls)) (Waits old new user (get_or ls at 0)) (IsMarked old new user) → Settles o old new user
  advances rest =
      let way : Advances ls old new user = record { at = at; unmet = first; passed = passed; rest = rest } in
      subst (λ o. Settles o old new user) (sym is) (subst (λ b. MatchBool b (new ≡ old) (Advances ls old new user)) (sym unmet) way)

  pub settles_waiting : at < length ls → Waits old new user (get_or ls at 0) → Settles o old new user
  settles_waiting short waits = advances (subst (λ b. MatchBool b (Waits old new user (get_or ls at 0)) (IsMarked old new user)) (sym (lt-ltb at (length ls) short)) waits)

  pub settles_met : length ls ≤ at → IsMarked old new user → Settles o old new user
  settles_met past marked = advances (subst (λ b. MatchBool b (Waits old new user (get_or ls at 0)) (IsMarked old new user)) (sym (le-ltb at (length ls) past)) marked)

-- the numbers, what is met and how many are passed may be known by other names
pub first_of : (ls ls' : List ℕ) (ms ms' : List Bool) (ps : List ℕ) (user passed at : ℕ) → user < length ps → ls' ≡ ls → ms' ≡ ms → passed ≡ get_or ps user passed → IsFirstUnmet ls' ms' passed at → IsFirstUnmet ls ms (get_or ps user 0) at
first_of ls ls' ms ms' ps user passed at within same_ls same_ms is first =
    subst (λ p. IsFirstUnmet ls ms p at) (is ∙ get_or_default ps user passed 0 within) (subst (λ m. IsFirstUnmet ls m passed at) same_ms (subst (λ l. IsFirstUnmet l ms' passed at) same_ls first))

-- one is put behind those that wait for the number at `at`
pub waits_there : (ws : List (List ℕ)) (ls : List ℕ) (at user leaf : ℕ) (old new : List ℕ) → get_or ls at 0 < length ws → Some leaf ≡ slice_get ls at → old ≡ get_or ws leaf old → new ≡ old ++ user ∷ []
    → set ws leaf new ≡ set ws (get_or ls at 0) (get_or ws (get_or ls at 0) [] ++ user ∷ [])
waits_there ws ls at user leaf old new within there is made =
    let same : get_or ls at 0 ≡ leaf = get_or_from_slice_get ls at leaf 0 (sym there) in
    ap (set ws leaf) (made ∙ ap (λ x. x ++ user ∷ []) (is ∙ get_or_default ws leaf old [] (subst (λ k. k < length ws) same within)))
    ∙ ap (λ k. set ws k (get_or ws k [] ++ user ∷ [])) (sym same)

pub past : (ls : List ℕ) (at : ℕ) → None ≡ slice_get ls at → length ls ≤ at
past ls at none = by (slice_get_cases ls at).1
  where
    by : ((x : ℕ) × (at < length ls) × (slice_get ls at ≡ Some x) × (get_or ls at x ≡ x)) ⊎ ((length ls ≤ at) × (slice_get ls at ≡ None)) → length ls ≤ at
    by (inl there) = let clash : None ≡ Some there.0 = none ∙ there.2 in cc
    by (inr long) = long.0
