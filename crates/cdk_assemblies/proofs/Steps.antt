-- What an answer to a part says of the whole: it stops there, or reads on.
use Rattle.std.proofs.Common.{◌≡◌, ◌⊎◌, inl, inr, ℕ, ◌+◌, ◌<◌, List, [], ◌∷◌, ◌++◌, length, map, take, drop, get_or, Some, None, Result, Ok, Err, IfSome, refl, sym, ap, ◌∙◌, subst, append_assoc}
use Rattle.std.proofs.lemmas.List.{append-nil, map-append, take-append-drop, map_more}
use Rattle.std.specs.FinMap.{remove}
use Rattle.cdk_outside.specs.Outside.{Contents}
use Rattle.cdk_eval.specs.declared.assembly.AsmError.{AsmError}
use Rattle.cdk_eval.specs.declared.assembly.AsmError.TheVariants as refusals
use Rattle.cdk_eval.specs.Reading.{Absent, FileFault, ok_then, collected}
use Rattle.cdk_eval.specs.Stack.{Stack}
use Rattle.cdk_assemblies.specs.Answers.{Files, fault, Fails, Reads, onto, each_onto}
use Rattle.cdk_assemblies.proofs.Readings.{IsStable, each_stable}

-- ---- a refusal at given files

same_at : {A : Type 0} (e : AsmError) (whole part : Files → Result A FileFault) (m : Files) → ((n : Files) → whole n ≡ part n) → Fails e part m → Fails e whole m
same_at (refusals.ReadFault file) whole part m same h = same (remove m file) ∙ h
same_at (refusals.TooLong file) whole part m same h = same m ∙ h
same_at (refusals.NotJson file) whole part m same h = same m ∙ h
same_at (refusals.Shape file pointer) whole part m same h = same m ∙ h
same_at (refusals.Cycle file artifact) whole part m same h = same m ∙ h
same_at refusals.Memory whole part m same h = h

stop_at : {A B : Type 0} (e : AsmError) (first : Files → Result A FileFault) (next : A → Files → Result B FileFault) (m : Files) → Fails e first m → Fails e (λ n. ok_then (first n) (λ a. next a n)) m
stop_at (refusals.ReadFault file) first next m h = ap (λ r. ok_then r (λ a. next a (remove m file))) h
stop_at (refusals.TooLong file) first next m h = ap (λ r. ok_then r (λ a. next a m)) h
stop_at (refusals.NotJson file) first next m h = ap (λ r. ok_then r (λ a. next a m)) h
stop_at (refusals.Shape file pointer) first next m h = ap (λ r. ok_then r (λ a. next a m)) h
stop_at (refusals.Cycle file artifact) first next m h = ap (λ r. ok_then r (λ a. next a m)) h
stop_at refusals.Memory first next m h = h

-- with the file taken out, what was read before is as it was, or finds it absent
fault_at : {A B : Type 0} (first : Files → Result A FileFault) (next : A → Files → Result B FileFault) (a : A) (m : Files) (file : List ℕ) (gone : FileFault) → (first (remove m file) ≡ first m) ⊎ (first (remove m file) ≡ Err gone) → first m ≡ Ok a → next a (remove m file) ≡ Err gone → ok_then (first (remove m file)) (λ x. next x (remove m file)) ≡ Err gone
fault_at first next a m file gone (inl same) done h = ap (λ r. ok_then r (λ x. next x (remove m file))) (same ∙ done) ∙ h
fault_at first next a m file gone (inr absent) done h = ap (λ r. ok_then r (λ x. next x (remove m file))) absent

then_at : {A B : Type 0} (a : A) (e : AsmError) (first : Files → Result A FileFault) (next : A → Files → Result B FileFault) (m : Files) → IsStable first → first m ≡ Ok a → Fails e (next a) m → Fails e (λ n. ok_then (first n) (λ x. next x n)) m
then_at a (refusals.ReadFault file) first next m stable done h = fault_at first next a m file (fault file Absent) (stable m file) done h
then_at a (refusals.TooLong file) first next m stable done h = ap (λ r. ok_then r (λ x. next x m)) done ∙ h
then_at a (refusals.NotJson file) first next m stable done h = ap (λ r. ok_then r (λ x. next x m)) done ∙ h
then_at a (refusals.Shape file pointer) first next m stable done h = ap (λ r. ok_then r (λ x. next x m)) done ∙ h
then_at a (refusals.Cycle file artifact) first next m stable done h = ap (λ r. ok_then r (λ x. next x m)) done ∙ h
then_at a refusals.Memory first next m stable done h = h

-- ---- where files are told

pub fails_same : {A : Type 0} (e : AsmError) (c : Contents) (whole part : Files → Result A FileFault) → ((n : Files) → whole n ≡ part n) → IfSome c (Fails e part) → IfSome c (Fails e whole)
fails_same e None whole part same h = h
fails_same e (Some m) whole part same h = same_at e whole part m same h

pub gives_same : {A : Type 0} (a : A) (c : Contents) (whole part : Files → Result A FileFault) → ((n : Files) → whole n ≡ part n) → IfSome c (λ m. part m ≡ Ok a) → IfSome c (λ m. whole m ≡ Ok a)
gives_same a None whole part same h = h
gives_same a (Some m) whole part same h = same m ∙ h

-- the first refuses
pub fails_first : {A B : Type 0} (e : AsmError) (c : Contents) (first : Files → Result A FileFault) (next : A → Files → Result B FileFault) → IfSome c (Fails e first) → IfSome c (Fails e (λ n. ok_then (first n) (λ a. next a n)))
fails_first e None first next h = h
fails_first e (Some m) first next h = stop_at e first next m h

-- the first gives a value, and the next refuses
pub fails_next : {A B : Type 0} (a : A) (e : AsmError) (c : Contents) (first : Files → Result A FileFault) (next : A → Files → Result B FileFault) → IsStable first → IfSome c (λ m. first m ≡ Ok a) → IfSome c (Fails e (next a)) → IfSome c (Fails e (λ n. ok_then (first n) (λ x. next x n)))
fails_next a e None first next stable done h = h
fails_next a e (Some m) first next stable done h = then_at a e first next m stable done h

-- the first gives a value, and so does the next
pub gives_next : {A B : Type 0} (a : A) (b : B) (c : Contents) (first : Files → Result A FileFault) (next : A → Files → Result B FileFault) → IfSome c (λ m. first m ≡ Ok a) → IfSome c (λ m. next a m ≡ Ok b) → IfSome c (λ m. ok_then (first m) (λ x. next x m) ≡ Ok b)
gives_next a b None first next done h = h
gives_next a b (Some m) first next done h = ap (λ r. ok_then r (λ x. next x m)) done ∙ h

-- ---- one after another

onto_cons : (r s : Result (List Stack) FileFault) (before : List Stack) → onto before (ok_then r (λ bs. ok_then s (λ cs. Ok (bs ++ cs)))) ≡ ok_then (onto before r) (λ ss. onto ss s)
onto_cons (Err e) s before = refl
onto_cons (Ok bs) (Err e) before = refl
onto_cons (Ok bs) (Ok cs) before = ap Ok (sym (append_assoc before bs cs))

split_by : {A : Type 0} (g : A → Result (List Stack) FileFault) (before : List Stack) (xs ys : List A) (r : Result (List Stack) FileFault) → ((before : List Stack) → onto before (collected g (xs ++ ys)) ≡ ok_then (onto before (collected g xs)) (λ ss. onto ss (collected g ys))) → ok_then (onto before r) (λ ss. onto ss (collected g (xs ++ ys))) ≡ ok_then (ok_then (onto before r) (λ ss. onto ss (collected g xs))) (λ ss. onto ss (collected g ys))
split_by g before xs ys (Err e) split = refl
split_by g before xs ys (Ok bs) split = split (before ++ bs)

onto_split : {A : Type 0} (g : A → Result (List Stack) FileFault) (before : List Stack) (xs ys : List A) → onto before (collected g (xs ++ ys)) ≡ ok_then (onto before (collected g xs)) (λ ss. onto ss (collected g ys))
onto_split g before [] ys = ap (λ ss. onto ss (collected g ys)) (sym (append-nil before))
onto_split g before (x ∷ xs) ys =
    onto_cons (g x) (collected g (xs ++ ys)) before ∙ split_by g before xs ys (g x) (λ b. onto_split g b xs ys) ∙ sym (ap (λ r. ok_then r (λ ss. onto ss (collected g ys))) (onto_cons (g x) (collected g xs) before))

onto_one : (r : Result (List Stack) FileFault) (before : List Stack) → onto before (ok_then r (λ bs. Ok (bs ++ []))) ≡ onto before r
onto_one (Err e) before = refl
onto_one (Ok bs) before = ap (λ cs. Ok (before ++ cs)) (append-nil bs)

each_more : {A X : Type 0} (f : A → Files → Result (List Stack) FileFault) (h : X → A) (before : List Stack) (xs : List X) (k : ℕ) (x d : X) → k < length xs → x ≡ get_or xs k d → (m : Files) → each_onto f before (map h (take (k + 1) xs)) m ≡ ok_then (each_onto f before (map h (take k xs)) m) (λ ss. onto ss (f (h x) m))
each_more f h before xs k x d within is m =
    ap (λ ys. each_onto f before ys m) (map_more h xs k d within ∙ ap (λ y. map h (take k xs) ++ h y ∷ []) (sym is)) ∙ onto_split (λ y. f y m) before (map h (take k xs)) (h x ∷ []) ∙ last (each_onto f before (map h (take k xs)) m)
  where
    last : (r : Result (List Stack) FileFault) → ok_then r (λ ss. onto ss (collected (λ y. f y m) (h x ∷ []))) ≡ ok_then r (λ ss. onto ss (f (h x) m))
    last (Err e) = refl
    last (Ok ss) = onto_one (f (h x) m) ss

each_split : {A X : Type 0} (f : A → Files → Result (List Stack) FileFault) (h : X → A) (before : List Stack) (xs : List X) (k : ℕ) (m : Files) → each_onto f before (map h xs) m ≡ ok_then (each_onto f before (map h (take k xs)) m) (λ ss. each_onto f ss (map h (drop k xs)) m)
each_split f h before xs k m =
    ap (λ ys. each_onto f before ys m) (ap (map h) (sym (take-append-drop k xs)) ∙ map-append h (take k xs) (drop k xs)) ∙ onto_split (λ y. f y m) before (map h (take k xs)) (map h (drop k xs))

-- one more of a list is read, from the same contents
pub each_gives : {A X : Type 0} (next : List Stack) (c d : Contents) (f : A → Files → Result (List Stack) FileFault) (h : X → A) (before now : List Stack) (xs : List X) (k : ℕ) (y : X) → k < length xs → IfSome c (λ m. each_onto f before (map h (take k xs)) m ≡ Ok now) → d ≡ c → IfSome d (λ m. onto now (f (h (get_or xs k y)) m) ≡ Ok next) → IfSome c (λ m. each_onto f before (map h (take (k + 1) xs)) m ≡ Ok next)
each_gives next c d f h before now xs k y within done same more =
    let x = get_or xs k y in
    let P : Contents → Type 0 = λ o. IfSome o (λ m. onto now (f (h x) m) ≡ Ok next) in
    gives_same next c (each_onto f before (map h (take (k + 1) xs))) (λ m. ok_then (each_onto f before (map h (take k xs)) m) (λ ss. onto ss (f (h x) m))) (each_more f h before xs k x y within refl) (gives_next now next c (each_onto f before (map h (take k xs))) (λ ss m. onto ss (f (h x) m)) done (subst P same more))

-- the first of a list that refuses, after those that were read
pub each_fails : {A X : Type 0} (e : AsmError) (c d : Contents) (f : A → Files → Result (List Stack) FileFault) (h : X → A) (before now : List Stack) (xs : List X) (k : ℕ) (y : X) → ((a : A) → IsStable (f a)) → k < length xs → IfSome c (λ m. each_onto f before (map h (take k xs)) m ≡ Ok now) → d ≡ c → IfSome d (Fails e (λ m. onto now (f (h (get_or xs k y)) m))) → IfSome c (Fails e (each_onto f before (map h xs)))
each_fails e c d f h before now xs k y stable within done same refuses =
    let x = get_or xs k y in
    let P : Contents → Type 0 = λ o. IfSome o (Fails e (λ m. onto now (f (h x) m))) in
    let there = fails_same e c (each_onto f before (map h (take (k + 1) xs))) (λ m. ok_then (each_onto f before (map h (take k xs)) m) (λ ss. onto ss (f (h x) m))) (each_more f h before xs k x y within refl) (fails_next now e c (each_onto f before (map h (take k xs))) (λ ss m. onto ss (f (h x) m)) (each_stable f stable before (map h (take k xs))) done (subst P same refuses)) in
    fails_same e c (each_onto f before (map h xs)) (λ m. ok_then (each_onto f before (map h (take (k + 1) xs)) m) (λ ss. each_onto f ss (map h (drop (k + 1) xs)) m)) (each_split f h before xs (k + 1)) (fails_first e c (each_onto f before (map h (take (k + 1) xs))) (λ ss. each_onto f ss (map h (drop (k + 1) xs))) there)

-- an answer that is a refusal says what the refusal says
pub refusing : {T A : Type 0} (view : T → A) (r : Result T AsmError) (e : AsmError) (c : Contents) (reading : Files → Result A FileFault) → r ≡ Err e → IfSome c (Fails e reading) → Reads view r c reading
refusing view r e c reading is h = let P : Result _ AsmError → Type 0 = λ o. Reads view o c reading in subst P (sym is) h
