-- From the equation of the contents to what stands under each name.
use Rattle.std.proofs.Common.{◌≡◌, ◌⊎◌, inl, inr, ◌<◌, ℕ, List, [], ◌∷◌, length, take, Bool, true, false, Option, Some, None, cond, if◌then◌else◌, refl, sym, ap, ◌∙◌, subst}
use Rattle.std.specs.Prelude.{slice_get, unwrap_or}
use Rattle.std.specs.Str.{bytes_eq}
use Rattle.std.specs.Ordering.{nat_cmp}
use Rattle.std.specs.Cmp.Lexicographic.{slice_cmp, texts_ties}
use Rattle.std.specs.FinMap.{FinMap, get, insert, remove, get-insert, get-remove}
use Rattle.std.proofs.lemmas.Cmp.{nat_list_cmp_total}
use Rattle.std.proofs.lemmas.Slice.Eq.{bytes_eq-Decides}
use Rattle.cdk_outside.specs.Outside.{Contents, Directories}
use Rattle.cdk_write.specs.Steps.{WriteStep, make_directory, remove as removal, put, files_after, files_after_all, LeavesPartOf, StoppedAt}
use Rattle.cdk_write.specs.Standing.{left_by, left_by_all, IsCutShort, StandsAt}

abbrev pub Files : Type 0
Files = FinMap (slice_cmp nat_cmp) (List ℕ)

pub get_inserted : (m : Files) (n b q : List ℕ) → get (insert m n b) q ≡ (if bytes_eq q n then Some b else get m q)
get_inserted m n b q = get-insert nat_list_cmp_total m n b q ∙ ap (λ t. cond t (Some b) (get m q)) (sym (texts_ties q n))

pub get_removed : (m : Files) (n q : List ℕ) → get (remove m n) q ≡ (if bytes_eq q n then None else get m q)
get_removed m n q = get-remove nat_list_cmp_total m n q ∙ ap (λ t. cond t None (get m q)) (sym (texts_ties q n))

-- the files after steps, from told files
abbrev pub after : WriteStep → Files → Files
after (make_directory path) m = m
after (removal path) m = remove m path
after (put path bytes) m = insert m path bytes

abbrev pub after_all : List WriteStep → Files → Files
after_all [] m = m
after_all (s ∷ ss) m = after_all ss (after s m)

after_is : (s : WriteStep) (m : Files) → files_after s (Some m) ≡ Some (after s m)
after_is (make_directory path) m = refl
after_is (removal path) m = refl
after_is (put path bytes) m = refl

pub all_is : (ss : List WriteStep) (m : Files) → files_after_all ss (Some m) ≡ Some (after_all ss m)
all_is [] m = refl
all_is (s ∷ ss) m = ap (files_after_all ss) (after_is s m) ∙ all_is ss (after s m)

-- where files aren't told, they aren't afterwards
pub none_after_all : (ss : List WriteStep) → files_after_all ss None ≡ None
none_after_all [] = refl
none_after_all (make_directory path ∷ ss) = none_after_all ss
none_after_all (removal path ∷ ss) = none_after_all ss
none_after_all (put path bytes ∷ ss) = none_after_all ss

get_after : (s : WriteStep) (m : Files) (q : List ℕ) → get (after s m) q ≡ left_by s q (get m q)
get_after (make_directory path) m q = refl
get_after (removal path) m q = get_removed m path q
get_after (put path bytes) m q = get_inserted m path bytes q

pub get_after_all : (ss : List WriteStep) (m : Files) (q : List ℕ) → get (after_all ss m) q ≡ left_by_all ss q (get m q)
get_after_all [] m q = refl
get_after_all (s ∷ ss) m q = get_after_all ss (after s m) q ∙ ap (left_by_all ss q) (get_after s m q)

-- a put that left a part
cut_short : (b : Bool) (q path bytes : List ℕ) (n : ℕ) (now before : Option (List ℕ)) → bytes_eq q path ≡ b → n < length bytes → now ≡ (if b then Some (take n bytes) else before) → (now ≡ before) ⊎ ((q ≡ path) × ((n : ℕ) × (n < length bytes) × (now ≡ Some (take n bytes))))
cut_short true q path bytes n now before e fits is = inr ((bytes_eq-Decides q path).0 e, (n, fits, is))
cut_short false q path bytes n now before e fits is = inl is

told : (m n : Files) → Some n ≡ Some m → n ≡ m
told m n e = ap (λ o. unwrap_or o n) e

-- what one step leaves whose call has failed, under each name
part : (s : WriteStep) (m n : Files) (q : List ℕ) → LeavesPartOf s (Some m) (Some n) → (get n q ≡ get m q) ⊎ IsCutShort (Some s) q (get n q)
part (make_directory path) m n q same = inl (ap (λ x. get x q) (told m n same))
part (removal path) m n q same = inl (ap (λ x. get x q) (told m n same))
part (put path bytes) m n q (inl same) = inl (ap (λ x. get x q) (told m n same))
part (put path bytes) m n q (inr some) =
    cut_short (bytes_eq q path) q path bytes some.0 (get n q) (get m q) refl some.1 (ap (λ x. get x q) (told (insert m path (take some.0 bytes)) n some.2) ∙ get_inserted m path (take some.0 bytes) q)

along : (k : ℕ) (steps : List WriteStep) (m n : Files) (s : WriteStep) (q : List ℕ) → slice_get steps k ≡ Some s → (get n q ≡ get (after_all (take k steps) m) q) ⊎ IsCutShort (Some s) q (get n q) → (get n q ≡ left_by_all (take k steps) q (get m q)) ⊎ IsCutShort (slice_get steps k) q (get n q)
along k steps m n s q is (inl same) = inl (same ∙ get_after_all (take k steps) m q)
along k steps m n s q is (inr cut) = inr (let P : Option WriteStep → Type 0 = λ o. IsCutShort o q (get n q) in subst P (sym is) cut)

-- what stands where the writing stopped
pub stands_at : (steps : List WriteStep) (k : ℕ) (old new : Contents) (old_dirs dirs : Directories) (failed : Option (List ℕ)) → StoppedAt steps k old new old_dirs dirs failed → StandsAt steps k old new
stands_at steps k None new old_dirs dirs failed stop = tt
stands_at steps k (Some m) None old_dirs dirs failed stop = tt
stands_at steps k (Some m) (Some n) old_dirs dirs failed stop = λ q.
    let P : Contents → Type 0 = λ c. LeavesPartOf stop.step c (Some n) in
    along k steps m n stop.step q stop.is (part stop.step (after_all (take k steps) m) n q (subst P (all_is (take k steps) m) stop.part))
