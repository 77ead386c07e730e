-- The findings of places, one construct at a time.
use Rattle.std.proofs.Common.{◌≡◌, ◌<◌, ℕ, List, [], ◌∷◌, ◌++◌, map, length, Bool, true, false, true≢false, Some, None, refl, sym, ap, ◌∙◌}
use Rattle.std.specs.Prelude.{not, is_some, if◌then◌else◌}
use Rattle.std.specs.Str.{bytes_eq}
use Rattle.std.proofs.lemmas.List.{append_assoc, append-nil}
use Rattle.cdk_base.specs.declared.code.Code.{Code}
use Rattle.cdk_base.specs.declared.code.Code.TheVariants.{BadId, SameId, BadPlace}
use Rattle.cdk_language.specs.Construct.{Body, Head}
use Rattle.cdk_language.specs.declared.finding.Finding.{Finding}
use Rattle.cdk_tree.proofs.Numbered.{is_some-position}
use Rattle.cdk_tree.proofs.PathLaw.{taken-paths}
use Rattle.cdk_tree.specs.PlaceFindings.{first, found_at, findings_from, place_findings, has_taken_id, is_id, is_misplaced, when, wrong_at}
use Rattle.cdk_tree.specs.Placed.{Placed, construct_at, find_path, placed_in}
use Rattle.cdk_tree.specs.Walking.{IsSound, wrong_code}

pub findings_from-append : (before xs ys : List Placed) → findings_from before (xs ++ ys) ≡ findings_from before xs ++ findings_from (before ++ xs) ys
findings_from-append before [] ys = ap (λ l. findings_from l ys) (sym (append-nil before))
findings_from-append before (x ∷ xs) ys =
    let own = map (found_at x.path) (wrong_at before x x.parent) in
    ap (λ r. own ++ r) (findings_from-append (before ++ x ∷ []) xs ys ∙ ap (λ l. findings_from (before ++ x ∷ []) xs ++ findings_from l ys) (append_assoc before (x ∷ []) xs))
    ∙ sym (append_assoc own (findings_from (before ++ x ∷ []) xs) (findings_from (before ++ x ∷ xs) ys))

-- after constructs with which nothing is wrong
pub findings-after : (cs rest : List Placed) → place_findings cs ≡ [] → place_findings (cs ++ rest) ≡ findings_from cs rest
findings-after cs rest clean = findings_from-append [] cs rest ∙ ap (λ r. r ++ findings_from cs rest) clean

pub first-none : {A : Type 0} (xs : List A) → first xs ≡ None → xs ≡ []
first-none [] h = refl
first-none (x ∷ xs) h = cc

first-found : (t : List ℕ) (codes : List Code) (rest : List Finding) (c : Code) → first codes ≡ Some c → first (map (found_at t) codes ++ rest) ≡ Some (found_at t c)
first-found t [] rest c h = cc
first-found t (x ∷ codes) rest c h = let same : x ≡ c = cc in ap (λ k. Some (found_at t k)) same

first-when : (a b t c : Bool) → (a ≡ true → t ≡ b) → first (when (not a) BadId ++ (when b SameId ++ when c BadPlace)) ≡ (if not a then Some BadId else if t then Some SameId else if c then Some BadPlace else None)
first-when false b t c same = refl
first-when true b t c same = after b t c (same refl)
  where
    after : (b t c : Bool) → t ≡ b → first (when false BadId ++ (when b SameId ++ when c BadPlace)) ≡ (if t then Some SameId else if c then Some BadPlace else None)
    after true true c e = refl
    after true false c e = absurd (true≢false (sym e))
    after false true c e = absurd (true≢false e)
    after false false true e = refl
    after false false false e = refl

module _ (cs : List Placed) (sound : IsSound cs) (m : ℕ) (within : m < length cs) (h : Head) (b : Body) where
  abbrev next : Placed
  next = placed_in (length cs) m (construct_at cs m) h b

  taken_here : is_id h.id ≡ true → is_some (find_path cs next.path) ≡ has_taken_id cs next
  taken_here right = is_some-position (λ c. bytes_eq next.path c.path) cs ∙ taken-paths cs sound next m within refl refl right

  -- what the code finds is the first thing that is wrong
  first-wrong : first (wrong_at cs next (Some m)) ≡ wrong_code cs m h.id b
  first-wrong = first-when (is_id h.id) (has_taken_id cs next) (is_some (find_path cs next.path)) (is_misplaced (construct_at cs m).stack next.level b) taken_here

  pub wrong-next : (rest : List Placed) (code : Code) → wrong_code cs m h.id b ≡ Some code → first (place_findings (cs ++ next ∷ rest)) ≡ Some (found_at next.path code)
  wrong-next rest code is =
      ap first (findings-after cs (next ∷ rest) sound.clean)
      ∙ first-found next.path (wrong_at cs next (Some m)) (findings_from (cs ++ next ∷ []) rest) code (first-wrong ∙ is)

  pub clean-next : wrong_code cs m h.id b ≡ None → place_findings (cs ++ next ∷ []) ≡ []
  clean-next none =
      findings-after cs (next ∷ []) sound.clean
      ∙ ap (λ codes. map (found_at next.path) codes ++ []) (first-none (wrong_at cs next (Some m)) (first-wrong ∙ none))
