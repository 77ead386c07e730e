-- What is known of every reading: with a file taken out it answers as before, or finds that file absent. So one that reads
-- on after another says of the whole what it says of its own part.
use Rattle.std.proofs.Common.{◌≡◌, ◌⊎◌, inl, inr, ℕ, zero, suc, List, [], ◌∷◌, ◌++◌, Bool, true, false, Option, Some, None, Result, Ok, Err, cond, refl, sym, ap, ◌∙◌, subst, append_assoc, map}
use Rattle.std.specs.Prelude.{codes}
use Rattle.std.proofs.lemmas.List.{append-nil}
use Rattle.std.specs.Str.{bytes_eq}
use Rattle.std.specs.Cmp.Lexicographic.{texts_ties}
use Rattle.std.specs.FinMap.{get, remove, get-remove}
use Rattle.std.proofs.lemmas.Cmp.{nat_list_cmp_total}
use Rattle.std.proofs.lemmas.Slice.Eq.{bytes_eq-Decides}
use Rattle.serde_json.specs.Data.{Data}
use Rattle.cdk_artifacts.specs.Files.{file_of}
use Rattle.cdk_eval.specs.declared.role.Role.{Role}
use Rattle.cdk_eval.specs.declared.role.Role.TheVariants.{Manifest, Template}
use Rattle.cdk_eval.specs.Manifest.{StackArtifact, artifacts, nested_directories, stacks_of, cyclic, in_order}
use Rattle.cdk_eval.specs.Reading.{Absent, FileFault, ok_then, collected, at_file, contents, path_in, no_cycle, stack_in, manifest_in, assembly_with, assembly_at}
use Rattle.cdk_eval.specs.Stack.{Stack}
use Rattle.cdk_assemblies.specs.Answers.{Files, most_bytes, fault, document_in, stack_at, files_in_order, onto, each_onto, assembly_in, nested_in, order_at, ordered_onto, own_onto}

abbrev pub IsStable : {A : Type 0} → (Files → Result A FileFault) → Type 0
IsStable reading = (m : Files) (file : List ℕ) → (reading (remove m file) ≡ reading m) ⊎ (reading (remove m file) ≡ Err (fault file Absent))

pub get_removed : (m : Files) (n q : List ℕ) → get (remove m n) q ≡ cond (bytes_eq q n) None (get m q)
get_removed m n q = get-remove nat_list_cmp_total m n q ∙ ap (λ t. cond t None (get m q)) (sym (texts_ties q n))

-- ---- one document

contents_same : (f g : List ℕ → Option (List ℕ)) (role : Role) (o : Option (List ℕ)) → contents (Some most_bytes) f role o ≡ contents (Some most_bytes) g role o
contents_same f g role None = refl
contents_same f g role (Some text) = refl

document_by : (role : Role) (path file : List ℕ) (m : Files) (b : Bool) → bytes_eq path file ≡ b → get (remove m file) path ≡ cond b None (get m path) → (document_in role path (remove m file) ≡ document_in role path m) ⊎ (document_in role path (remove m file) ≡ Err (fault file Absent))
document_by role path file m true e at =
    inr (ap (λ o. at_file path (contents (Some most_bytes) (get (remove m file)) role o)) at ∙ ap (λ p. Err (fault p Absent)) ((bytes_eq-Decides path file).0 e))
document_by role path file m false e at =
    inl (ap (λ o. at_file path (contents (Some most_bytes) (get (remove m file)) role o)) at ∙ ap (at_file path) (contents_same (get (remove m file)) (get m) role (get m path)))

pub document_stable : (role : Role) (path : List ℕ) → IsStable (document_in role path)
document_stable role path = λ m file. document_by role path file m (bytes_eq path file) refl (get_removed m file path)

-- a file that is taken out is absent
pub document_absent : (role : Role) (path : List ℕ) (m : Files) → document_in role path (remove m path) ≡ Err (fault path Absent)
document_absent role path m =
    ap (λ o. at_file path (contents (Some most_bytes) (get (remove m path)) role o)) (get_removed m path path ∙ ap (λ b. cond b None (get m path)) ((bytes_eq-Decides path path).1 refl))

-- ---- one reading after another

pub then_stable : {A B : Type 0} (first : Files → Result A FileFault) (next : A → Files → Result B FileFault) → IsStable first → ((a : A) → IsStable (next a)) → IsStable (λ m. ok_then (first m) (λ a. next a m))
then_stable first next one two = λ m file. elim (one m file) [
  | inl same ↦ let P : Result _ FileFault → Type 0 = λ r. (ok_then r (λ a. next a (remove m file)) ≡ ok_then (first m) (λ a. next a m)) ⊎ (ok_then r (λ a. next a (remove m file)) ≡ Err (fault file Absent)) in subst P (sym same) (second next two (first m) m file)
  | inr gone ↦ inr (ap (λ r. ok_then r (λ a. next a (remove m file))) gone)
]
  where
    second : {A B : Type 0} (next : A → Files → Result B FileFault) → ((a : A) → IsStable (next a)) → (r : Result A FileFault) (m : Files) (file : List ℕ) → (ok_then r (λ a. next a (remove m file)) ≡ ok_then r (λ a. next a m)) ⊎ (ok_then r (λ a. next a (remove m file)) ≡ Err (fault file Absent))
    second next two (Ok a) m file = two a m file
    second next two (Err e) m file = inl refl

-- what looks at no file
pub known_stable : {A : Type 0} (r : Result A FileFault) → IsStable (λ m. r)
known_stable r = λ m file. inl refl

pub onto_stable : (before : List Stack) (reading : Files → Result (List Stack) FileFault) → IsStable reading → IsStable (λ m. onto before (reading m))
onto_stable before reading h = then_stable reading (λ ss m. Ok (before ++ ss)) h (λ ss. known_stable (Ok (before ++ ss)))

pub collected_stable : {A B : Type 0} (f : A → Files → Result (List B) FileFault) → ((a : A) → IsStable (f a)) → (xs : List A) → IsStable (λ m. collected (λ x. f x m) xs)
collected_stable f h [] = known_stable (Ok [])
collected_stable f h (x ∷ xs) =
    then_stable (f x) (λ bs m. ok_then (collected (λ y. f y m) xs) (λ cs. Ok (bs ++ cs))) (h x) (λ bs. then_stable (λ m. collected (λ y. f y m) xs) (λ cs m. Ok (bs ++ cs)) (collected_stable f h xs) (λ cs. known_stable (Ok (bs ++ cs))))

pub each_stable : {A : Type 0} (f : A → Files → Result (List Stack) FileFault) → ((a : A) → IsStable (f a)) → (before : List Stack) (xs : List A) → IsStable (each_onto f before xs)
each_stable f h before xs = onto_stable before (λ m. collected (λ x. f x m) xs) (collected_stable f h xs)

-- ---- the parts of an assembly

pub stack_stable : (dir : List ℕ) (s : List ℕ × List ℕ) → IsStable (stack_at dir s)
stack_stable dir s =
    then_stable (document_in Template (path_in dir s.1)) (λ t m. Ok (record { name = s.0; template = t } ∷ [])) (document_stable Template (path_in dir s.1)) (λ t. known_stable (Ok (record { name = s.0; template = t } ∷ [])))

pub manifest_stable : (may_nest : Bool) (dir : List ℕ) → IsStable (λ m. manifest_in (Some most_bytes) (get m) may_nest dir)
manifest_stable may_nest dir =
    let path : List ℕ = path_in dir (codes "manifest.json") in
    then_stable (document_in (Manifest may_nest) path) (λ d m. ok_then (at_file path (no_cycle (cyclic (stacks_of d)))) (λ _. Ok d)) (document_stable (Manifest may_nest) path) (λ d. known_stable (ok_then (at_file path (no_cycle (cyclic (stacks_of d)))) (λ _. Ok d)))

pub ordered_stable : (dir path : List ℕ) (d : Data) (before : List Stack) → IsStable (ordered_onto dir path d before)
ordered_stable dir path d before =
    then_stable (λ m. order_at path d) (λ ss m. each_onto (stack_at dir) before ss m) (known_stable (order_at path d)) (λ ss. each_stable (stack_at dir) (stack_stable dir) before ss)

pub own_stable : (may_nest : Bool) (dir : List ℕ) (before : List Stack) → IsStable (own_onto may_nest dir before)
own_stable may_nest dir before =
    let path : List ℕ = path_in dir (codes "manifest.json") in
    then_stable {B = Data × List Stack} (document_in (Manifest may_nest) path) (λ d m. ok_then {B = Data × List Stack} (ordered_onto dir path d before m) (λ ss. Ok (d, ss))) (document_stable (Manifest may_nest) path) (λ d. then_stable {B = Data × List Stack} (ordered_onto dir path d before) (λ ss m. Ok (d, ss)) (ordered_stable dir path d before) (λ ss. known_stable (Ok (d, ss))))

-- ---- an assembly as its own stacks, and then what is nested

level_own : (own below : Result (List Stack) FileFault) (before : List Stack) → onto before (ok_then own (λ ss. ok_then below (λ ts. Ok (ss ++ ts)))) ≡ ok_then (onto before own) (λ ss. onto ss below)
level_own (Err e) below before = refl
level_own (Ok ss) (Err e) before = refl
level_own (Ok ss) (Ok ts) before = ap Ok (sym (append_assoc before ss ts))

pair_then : {A B C : Type 0} (r : Result B FileFault) (d : A) (f : A × B → Result C FileFault) → ok_then (ok_then r (λ b. Ok (d, b))) f ≡ ok_then r (λ b. f (d, b))
pair_then (Ok b) d f = refl
pair_then (Err e) d f = refl

own_files : (dir : List ℕ) (m : Files) (ss : List StackArtifact) → collected (stack_in (Some most_bytes) (get m) dir) ss ≡ collected (λ s. stack_at dir s m) (map file_of ss)
own_files dir m [] = refl
own_files dir m (s ∷ ss) = ap (λ r. ok_then (stack_in (Some most_bytes) (get m) dir s) (λ bs. ok_then r (λ cs. Ok (bs ++ cs)))) (own_files dir m ss)

level_order : {A : Type 0} (order : Result A FileFault) (d : Data) (nested : List ℕ → Result (List Stack) FileFault) (dir : List ℕ) (before : List Stack) (m : Files) → onto before (ok_then (ok_then order (λ _. Ok d)) (λ d. ok_then (collected (stack_in (Some most_bytes) (get m) dir) (in_order (stacks_of d))) (λ own. ok_then (collected (λ n. nested (path_in dir n)) (nested_directories (artifacts d))) (λ below. Ok (own ++ below))))) ≡ ok_then (ok_then {B = Data × List Stack} (ok_then (ok_then order (λ _. Ok (files_in_order d))) (λ ss. each_onto (stack_at dir) before ss m)) (λ ss. Ok (d, ss))) (λ p. onto p.1 (collected (λ n. nested (path_in dir n)) (nested_directories (artifacts p.0))))
level_order (Err e) d nested dir before m = refl
level_order (Ok _) d nested dir before m =
    let below : Result (List Stack) FileFault = collected (λ n. nested (path_in dir n)) (nested_directories (artifacts d)) in
    level_own (collected (stack_in (Some most_bytes) (get m) dir) (in_order (stacks_of d))) below before ∙ ap (λ r. ok_then (onto before r) (λ ss. onto ss below)) (own_files dir m (in_order (stacks_of d))) ∙ sym (pair_then (each_onto (stack_at dir) before (files_in_order d) m) d (λ p. onto p.1 (collected (λ n. nested (path_in dir n)) (nested_directories (artifacts p.0)))))

level_by : (manifest : Result Data FileFault) (nested : List ℕ → Result (List Stack) FileFault) (dir path : List ℕ) (before : List Stack) (m : Files) → onto before (ok_then (ok_then manifest (λ d. ok_then (at_file path (no_cycle (cyclic (stacks_of d)))) (λ _. Ok d))) (λ d. ok_then (collected (stack_in (Some most_bytes) (get m) dir) (in_order (stacks_of d))) (λ own. ok_then (collected (λ n. nested (path_in dir n)) (nested_directories (artifacts d))) (λ below. Ok (own ++ below))))) ≡ ok_then (ok_then {B = Data × List Stack} manifest (λ d. ok_then {B = Data × List Stack} (ordered_onto dir path d before m) (λ ss. Ok (d, ss)))) (λ p. onto p.1 (collected (λ n. nested (path_in dir n)) (nested_directories (artifacts p.0))))
level_by (Err e) nested dir path before m = refl
level_by (Ok d) nested dir path before m = level_order (at_file path (no_cycle (cyclic (stacks_of d)))) d nested dir before m

pub level_more : (levels : ℕ) (dir : List ℕ) (before : List Stack) (m : Files) → onto before (assembly_in (suc levels) dir m) ≡ ok_then (own_onto true dir before m) (λ p. each_onto (nested_in levels dir) p.1 (nested_directories (artifacts p.0)) m)
level_more levels dir before m =
    let path : List ℕ = path_in dir (codes "manifest.json") in
    level_by (document_in (Manifest true) path m) (assembly_at (Some most_bytes) (get m) levels) dir path before m

none_nested : (names : List (List ℕ)) → collected {B = Stack} {F = FileFault} (λ n. Ok []) names ≡ Ok []
none_nested [] = refl
none_nested (n ∷ names) = ap (λ r. ok_then r (λ cs. Ok cs)) (none_nested names)

none_onto : (own : Result (Data × List Stack) FileFault) → ok_then own (λ p. onto p.1 (collected (λ n. Ok []) (nested_directories (artifacts p.0)))) ≡ ok_then own (λ p. Ok p.1)
none_onto (Err e) = refl
none_onto (Ok p) = ap (onto p.1) (none_nested (nested_directories (artifacts p.0))) ∙ ap Ok (append-nil p.1)

pub level_last : (dir : List ℕ) (before : List Stack) (m : Files) → onto before (assembly_in zero dir m) ≡ ok_then (own_onto false dir before m) (λ p. Ok p.1)
level_last dir before m =
    let path : List ℕ = path_in dir (codes "manifest.json") in
    level_by (document_in (Manifest false) path m) (λ n. Ok []) dir path before m ∙ none_onto (own_onto false dir before m)

-- ---- an assembly

with_stable : (nested : List ℕ → Files → Result (List Stack) FileFault) → ((d : List ℕ) → IsStable (nested d)) → (may_nest : Bool) (dir : List ℕ) → IsStable (λ m. assembly_with (Some most_bytes) (get m) (λ d. nested d m) may_nest dir)
with_stable nested h may_nest dir =
    let own : List StackArtifact → Files → Result (List Stack) FileFault = λ ss m. collected (λ s. stack_at dir (file_of s) m) ss in
    let below : Data → Files → Result (List Stack) FileFault = λ d m. collected (λ n. nested (path_in dir n) m) (nested_directories (artifacts d)) in
    then_stable (λ m. manifest_in (Some most_bytes) (get m) may_nest dir) (λ d m. ok_then (own (in_order (stacks_of d)) m) (λ ss. ok_then (below d m) (λ ts. Ok (ss ++ ts)))) (manifest_stable may_nest dir) (λ d. then_stable (own (in_order (stacks_of d))) (λ ss m. ok_then (below d m) (λ ts. Ok (ss ++ ts))) (collected_stable (λ s. stack_at dir (file_of s)) (λ s. stack_stable dir (file_of s)) (in_order (stacks_of d))) (λ ss. then_stable (below d) (λ ts m. Ok (ss ++ ts)) (collected_stable (λ n. nested (path_in dir n)) (λ n. h (path_in dir n)) (nested_directories (artifacts d))) (λ ts. known_stable (Ok (ss ++ ts)))))

pub assembly_stable : (levels : ℕ) (dir : List ℕ) → IsStable (assembly_in levels dir)
assembly_stable zero dir = with_stable (λ d m. Ok []) (λ d. known_stable (Ok [])) false dir
assembly_stable (suc levels) dir = with_stable (assembly_in levels) (assembly_stable levels) true dir
