-- An entry put behind others: what is spelled, and what the index has.
use Rattle.std.proofs.Common.{◌≡◌, ℕ, List, [], ◌∷◌, ◌++◌, length, slice_get, Bool, true, cond, Option, Some, None, option_map, option_and_then, refl, sym, ap, ◌∙◌, zero-add}
use Rattle.std.specs.List.{find, position_from}
use Rattle.cdk_homes.specs.Homes.{Entry, is_of, spelled, spelling_of}
use Rattle.cdk_homes.specs.Laws.{OthersKeepTheirs, PutIsSpelled}
use Rattle.cdk_homes.proofs.ListLemmas.{at_place, find-push, last_passed, place-push}
use Rattle.cdk_homes.proofs.PairLemmas.{same_numbers, same_pair}

none_found : {X Y : Type 0} (f : X → Y) (o : Option X) → option_map f o ≡ None → o ≡ None
none_found f None h = refl
none_found f (Some x) h = cc

-- a pair that has no spelling is found for none of the same
not_found : (es : List Entry) (e : Entry) → spelled es e.consumer e.at e.attribute ≡ None → (c a : ℕ) (t : Option (List ℕ)) → is_of c a t e ≡ true → find (is_of c a t) es ≡ None
not_found es e none c a t h =
    let same = same_numbers e.consumer e.at e.attribute c a t h in
    none_found spelling_of _ (rw (sym same.0, sym same.1, sym same.2) none)

pub put_is_spelled : PutIsSpelled
put_is_spelled es e none =
    let p : Entry → Bool = is_of e.consumer e.at e.attribute in
    ap (option_map spelling_of)
    (find-push p es e (not_found es e none e.consumer e.at e.attribute) ∙ ap (λ b. cond b (Some e) (find p es)) (same_pair e))

pub others_keep_theirs : OthersKeepTheirs
others_keep_theirs es e c a t other =
    let p : Entry → Bool = is_of c a t in
    let apart : p e ≡ true → ⊥ = λ h. other (same_numbers e.consumer e.at e.attribute c a t h) in
    ap (option_map spelling_of) (find-push p es e (λ h. absurd (apart h)) ∙ last_passed (p e) e (find p es) apart)

-- what is read at the place that an index has is how the pair is spelled
pub spelled_at : (es : List Entry) (c a : ℕ) (t : Option (List ℕ)) (place : Option ℕ) → place ≡ position_from (is_of c a t) 0 es → option_map spelling_of (option_and_then (slice_get es) place) ≡ spelled es c a t
spelled_at es c a t place h = ap (option_map spelling_of) (ap (option_and_then (slice_get es)) h ∙ at_place (is_of c a t) es)

-- the index of the old entries with the new one at the last place
pub indexed-push : (es all : List Entry) (e : Entry) → spelled es e.consumer e.at e.attribute ≡ None → all ≡ es ++ e ∷ [] → (c a : ℕ) (t : Option (List ℕ)) (place : ℕ) (new old : Option ℕ)
    → new ≡ cond (is_of c a t e) (Some place) old → old ≡ position_from (is_of c a t) 0 es → place ≡ length es → new ≡ position_from (is_of c a t) 0 all
indexed-push es all e none grown c a t place new old set was last =
    set ∙ ap (cond (is_of c a t e) (Some place)) was ∙ ap (λ n. cond (is_of c a t e) (Some n) (position_from (is_of c a t) 0 es)) (last ∙ sym (zero-add (length es)))
    ∙ sym (ap (position_from (is_of c a t) 0) grown ∙ place-push (is_of c a t) 0 es e (not_found es e none c a t))
