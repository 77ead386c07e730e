-- Claims, and the names that are taken.
use Rattle.std.proofs.Common.{◌≡◌, ℕ, ◌+◌, List, [], ◌∷◌, ◌++◌, map, Bool, true, false, cond, Option, Some, None, refl, sym, ap, ◌∙◌}
use Rattle.std.specs.Prelude.{◌||◌, ◌&&◌}
use Rattle.std.specs.List.{list_any, range_with_len}
use Rattle.std.specs.Str.{bytes_eq}
use Rattle.std.proofs.lemmas.Bool.{eq-eqb}
use Rattle.std.proofs.lemmas.Slice.Eq.{bytes_eq-Decides}
use Rattle.cdk_base.specs.declared.code.Code.{Code}
use Rattle.cdk_base.specs.declared.code.Code.TheVariants.{BadName, SameName}
use Rattle.cdk_claims.specs.Claims.{Claim, is_claim, is_same}
use Rattle.cdk_claims.specs.Taken.{is_claim_taken, is_taken}
use Rattle.cdk_claims.specs.declared.scoped.ScopedNames.{ScopedNames}
use Rattle.cdk_tree.specs.Placed.{Placed}
use Rattle.cdk_tree.specs.PlaceFindings.{first, when}
use Rattle.cdk_tree.specs.declared.role.Found.{Found}
use Rattle.cdk_stacks.specs.Claims.{artifact_claim, found_at, has_taken_name, logical_claim, stack_claim, tree_claim}
use Rattle.cdk_stacks.specs.Taken.{HasTaken, TakesBefore}
use Rattle.cdk_stacks.specs.declared.taken.Taken.{Taken}
use Rattle.cdk_stacks.proofs.Tests.{any_more, any_never, any_or, or_last, or_tree}

-- ---- claims

pub same_claims : (a b : Option Claim) (s : ℕ) (x : List ℕ) → a ≡ Some (s, x) → b ≡ Some (s, x) → is_same a b ≡ true
same_claims a b s x e f = rw (e, f) (ap (λ t. t && bytes_eq x x) (eq-eqb s s refl) ∙ (bytes_eq-Decides x x).1 refl)

-- ---- what is taken

none_claims : (l : Option Claim) → is_same None l ≡ false
none_claims None = refl
none_claims (Some c) = refl

taken_claim : (s : ScopedNames) (at_first : Option Claim) (claim_of : ℕ → Option Claim) (n : ℕ) → TakesBefore s at_first claim_of n → (l : Option Claim)
    → is_claim_taken s l ≡ (is_same at_first l || list_any (λ m. is_same (claim_of m) l) (range_with_len 0 n))
taken_claim s at_first claim_of n h None = sym (any_never (range_with_len 0 n))
taken_claim s at_first claim_of n h (Some c) = h.taken c.0 c.1

taken_plain : (s : ScopedNames) (claim_of : ℕ → Option Claim) (n : ℕ) → TakesBefore s None claim_of n → (l : Option Claim)
    → is_claim_taken s l ≡ list_any (λ m. is_same (claim_of m) l) (range_with_len 0 n)
taken_plain s claim_of n h l = taken_claim s None claim_of n h l ∙ ap (λ b. b || list_any (λ m. is_same (claim_of m) l) (range_with_len 0 n)) (none_claims l)

pub takes_more : (s t : ScopedNames) (at_first : Option Claim) (claim_of : ℕ → Option Claim) (n : ℕ) (l : Option Claim) → TakesBefore s at_first claim_of n → l ≡ claim_of n
    → ((scope : ℕ) (name : List ℕ) → is_taken t scope name ≡ (is_claim l scope name || is_taken s scope name)) → TakesBefore t at_first claim_of (n + 1)
takes_more s t at_first claim_of n l h e put = record {
  taken = λ scope name.
      let p : ℕ → Bool = λ m. is_claim (claim_of m) scope name in
      put scope name ∙ ap (λ k. is_claim k scope name || is_taken s scope name) e ∙ ap (λ b. p n || b) (h.taken scope name)
      ∙ or_last (p n) (is_claim at_first scope name) (list_any p (range_with_len 0 n))
      ∙ ap (λ b. is_claim at_first scope name || b) (sym (any_more p n));
}

-- what the three look-ups find is what is taken
pub taken_names : (t : Taken) (cs : List Placed) (n : ℕ) → HasTaken t cs n
    → ((is_claim_taken t.logical (logical_claim cs n) || is_claim_taken t.stacks (stack_claim cs n)) || is_claim_taken t.artifacts (artifact_claim cs n)) ≡ has_taken_name cs n
taken_names t cs n h =
    let ns = range_with_len 0 n in
    let p : ℕ → Bool = λ m. is_same (logical_claim cs m) (logical_claim cs n) in
    let q : ℕ → Bool = λ m. is_same (stack_claim cs m) (stack_claim cs n) in
    let r : ℕ → Bool = λ m. is_same (artifact_claim cs m) (artifact_claim cs n) in
    let tree = is_same tree_claim (artifact_claim cs n) in
    let l = taken_plain t.logical (logical_claim cs) n h.logical (logical_claim cs n) in
    let s = taken_plain t.stacks (stack_claim cs) n h.stacks (stack_claim cs n) in
    let a = taken_claim t.artifacts tree_claim (artifact_claim cs) n h.artifacts (artifact_claim cs n) in
    ap (λ b. (b || is_claim_taken t.stacks (stack_claim cs n)) || is_claim_taken t.artifacts (artifact_claim cs n)) l
    ∙ ap (λ b. (list_any p ns || b) || is_claim_taken t.artifacts (artifact_claim cs n)) s
    ∙ ap (λ b. (list_any p ns || list_any q ns) || b) a
    ∙ or_tree (list_any p ns) (list_any q ns) (list_any r ns) tree
    ∙ ap (λ b. b || tree) (ap (λ b. list_any p ns || b) (sym (any_or q r ns)) ∙ sym (any_or p (λ m. q m || r m) ns))

-- ---- the first finding

pub first-wrong : (a b : Bool) → first (when a BadName ++ when b SameName) ≡ cond a (Some BadName) (cond b (Some SameName) None)
first-wrong true b = refl
first-wrong false true = refl
first-wrong false false = refl

pub first-found : (n : ℕ) (codes : List Code) (rest : List Found) (c : Code) → first codes ≡ Some c → first (map (found_at n) codes ++ rest) ≡ Some (found_at n c)
first-found n [] rest c h = cc
first-found n (x ∷ codes) rest c h = let same : x ≡ c = cc in ap (λ k. Some (found_at n k)) same

pub first-none : {A : Type 0} (xs : List A) → first xs ≡ None → xs ≡ []
first-none [] h = refl
first-none (x ∷ xs) h = cc
